-- What a read gives. Assumes nothing.
use Rattle.std.specs.Prelude.{◌≡◌, ℕ, ◌/◌, ◌%◌, cond, List, [], ◌∷◌, ◌++◌, length, take, drop, Some, None, Option, ◌==◌}
use Rattle.front_end.specs.declared.parts.Capabilities.{Capabilities}
use Rattle.receiver.specs.Waiting.{padded, shown_bytes}
use Rattle.registers.specs.Reads.{◌reads◌, contents, content_at}
use Rattle.transfer.specs.Decode.{read_rows}
use Rattle.transfer.specs.Refusals.{first_holding}
use Rattle.transfer.specs.declared.refusal.Refusal.{Refusal}
use Rattle.port.specs.Outcomes.{Outcome, outcome}
use Rattle.port.specs.Writes.{front_of}
use Rattle.port.specs.View.{View}

-- the value of a register of a byte or a word
abbrev pub value_of : Capabilities → View → ℕ → ℕ
value_of has v a =
    content_at a ((0x2E reads v.receiving.info) ∷ (0x2F reads v.receiving.detect) ∷ contents (front_of has v) v.registers)

-- low byte first
abbrev pub low_first : ℕ → List ℕ
low_first n = (n % 256) ∷ (n / 256 % 256) ∷ []

-- the bytes that a read shows: of the oldest waiting frame at 30h, of the value elsewhere
abbrev pub shown : Capabilities → View → ℕ → ℕ → List ℕ
shown has v a wanted = cond (a == 0x30) (padded wanted (shown_bytes v.receiving.frames)) (take wanted (low_first (value_of has v a)))

-- the reader's buffer: those bytes at its front and the rest kept, or all of it kept where the read is refused
abbrev pub filled : Option Refusal → List ℕ → ℕ → List ℕ → List ℕ
filled (Some r) bytes wanted buffer = buffer
filled None bytes wanted buffer = bytes ++ drop wanted buffer

abbrev pub read_refusal : ℕ → ℕ → List ℕ → Option Refusal
read_refusal a wanted buffer = first_holding (read_rows a wanted (length buffer))

-- a read alters the port by its refusal alone, and answers how many bytes it wrote
unfoldable pub read_outcome : View → ℕ → ℕ → List ℕ → Outcome ℕ
read_outcome v a wanted buffer = outcome (read_refusal a wanted buffer) v wanted v

unfoldable pub buffer_after : Capabilities → View → ℕ → ℕ → List ℕ → List ℕ
buffer_after has v a wanted buffer = filled (read_refusal a wanted buffer) (shown has v a wanted) wanted buffer

-- a taken read: the port as it was, the bytes wanted at the front of the buffer, the rest kept
pub record Shown (has : Capabilities) (a wanted : ℕ) (before after : View) (buffer buffer_now : List ℕ) : Type 0 where
  pub port : after ≡ before
  pub bytes : buffer_now ≡ shown has before a wanted ++ drop wanted buffer
