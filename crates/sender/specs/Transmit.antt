-- A write to TRANSMIT: when it is refused, and what it does when it is taken. Assumes nothing.
use Rattle.std.specs.Prelude.{ℕ, ◌/◌, ◌%◌, ◌≡◌, Bool, cond, not, ◌&&◌, ◌||◌, List, [], ◌∷◌, length, Some, None, Option, Ok, Err, Result, nat_eq, nat_lt}
use Rattle.pd.specs.declared.kind.Kind.{Kind}
use Rattle.pd.specs.Kinds.{number_of, kind_at, is_message, is_hard_reset}
use Rattle.pd.specs.Lengths.{shortest}
use Rattle.pd.specs.Messages.{Content}
use Rattle.transfer.specs.declared.refusal.Refusal.{Refusal}
use Rattle.transfer.specs.declared.refusal.Refusal.TheVariants.{UnknownType, NothingToSend, SendingUnderWay}
use Rattle.transfer.specs.Refusals.{Row, ◌when◌}
use Rattle.sender.specs.Sendings.{Sending, Under, none, starting, signalling, is_under_way, hard_reset_under_way}
use Rattle.sender.specs.Spans.{start_span, signalling_span}
use Rattle.sender.specs.declared.sender.End.{End}
use Rattle.sender.specs.declared.sender.End.TheVariants.{Discarded}
use Rattle.sender.specs.declared.transmit.Transmit.{Transmit}

-- bits 2..0
abbrev pub type_of : ℕ → ℕ
type_of value = value % 8

-- bits 5..4
abbrev pub retries_of : ℕ → ℕ
retries_of value = value / 16 % 4

-- a kind with its retries, or the refusal of a type that there is not
abbrev pub or_unknown_type : Option Kind → ℕ → Result Transmit Refusal
or_unknown_type None retries = Err UnknownType
or_unknown_type (Some k) retries = Ok (record { kind = k; retries = retries })

-- what a value is taken apart into
abbrev pub TakenApart : ℕ → Result Transmit Refusal → Type 0
TakenApart value r = r ≡ or_unknown_type (kind_at (type_of value)) (retries_of value)

-- a Hard Reset waits for another only, the other types for any sending
abbrev pub waits_for : ℕ → Under → Bool
waits_for type under = cond (is_hard_reset type) (hard_reset_under_way under) (is_under_way under)

-- type, then bytes to send, then what is under way
abbrev pub transmit_rows : Sending → ℕ → List Row
transmit_rows s value =
    (UnknownType when nat_eq (type_of value) 7) ∷
    (NothingToSend when is_message (type_of value) && nat_lt (length s.buffer) shortest) ∷
    (SendingUnderWay when waits_for (type_of value) s.under) ∷ []

-- what is accepted: a message has the buffered bytes, a reset has none
abbrev pub accepted : Kind → List ℕ → Content
accepted k buffer = record { kind = k; bytes = cond (is_message (number_of k)) buffer [] }

-- a sending with its first span before it
abbrev pub begun : Content → ℕ → Under
begun c retries = cond (is_message (number_of c.kind)) (starting c retries start_span) (signalling c signalling_span)

-- whether what is accepted is discarded at once; a Hard Reset never is
abbrev pub is_discarded : Kind → Bool → Bool
is_discarded k held = held && not (is_hard_reset (number_of k))

-- the transmit buffer: empty after a message, else as before
abbrev pub buffer_after : Kind → List ℕ → List ℕ
buffer_after k buffer = cond (is_message (number_of k)) [] buffer

-- the sending under way: what was accepted, unless it was discarded
abbrev pub under_after : Kind → ℕ → Bool → List ℕ → Under
under_after k retries held buffer = cond (is_discarded k held) none (begun (accepted k buffer) retries)

-- what is put on the line: what was accepted, unless it was discarded
abbrev pub started_by : Kind → Bool → List ℕ → Option Content
started_by k held buffer = cond (is_discarded k held) None (Some (accepted k buffer))

-- an end: of the sending that was under way, else of the accepted one
abbrev pub ended_by : Kind → Bool → Under → Option End
ended_by k held under = cond (is_under_way under || is_discarded k held) (Some Discarded) None

-- what a sender holds after a taken write, what is put on the line, and how a sending ended
pub record Transmitting : Type 0 where
  pub after : Sending
  pub started : Option Content
  pub ended : Option End

-- a type that there is not alters nothing
abbrev pub accepting : Option Kind → ℕ → Bool → Sending → Transmitting
accepting None retries held s = record { after = s; started = None; ended = None }
accepting (Some k) retries held s = record {
  after = record { buffer = buffer_after k s.buffer; under = under_after k retries held s.buffer };
  started = started_by k held s.buffer;
  ended = ended_by k held s.under;
}

-- what a taken write of a value leads to, held back or not
abbrev pub transmitting : ℕ → Bool → Sending → Transmitting
transmitting value held s = accepting (kind_at (type_of value)) (retries_of value) held s
