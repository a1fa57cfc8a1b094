-- Bits of a value. Assumes nothing.
use Rattle.std.specs.Prelude.{ℕ, ◌-◌, Bool, true, false, cond, not, ◌==◌, bit_and, bit_or}

-- 1 where it holds
abbrev pub bit : Bool → ℕ
bit true = 1
bit false = 0

-- whether a value has a one among these bits
abbrev pub any_of : ℕ → ℕ → Bool
any_of bits v = not (bit_and v bits == 0)

-- these bits set where it holds
abbrev pub set_if : Bool → ℕ → ℕ → ℕ
set_if b bits v = cond b (bit_or v bits) v

-- less the ones written, for a byte and for a word
abbrev pub byte_without : ℕ → ℕ → ℕ
byte_without ones v = bit_and v (255 - ones)

abbrev pub word_without : ℕ → ℕ → ℕ
word_without ones v = bit_and v (65535 - ones)
