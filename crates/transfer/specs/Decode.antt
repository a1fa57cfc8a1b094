-- What a transfer asks for, and when it is refused whatever the registers hold. Assumes nothing.
use Rattle.std.specs.Prelude.{ℕ, ◌+◌, ◌-◌, ◌*◌, Bool, cond, not, ◌&&◌, List, [], ◌∷◌, ◌++◌, length, drop, Ok, Err, Result, ◌==◌, bit_and, nat_lt, slice_index}
use Rattle.transfer.specs.Refusals.{Row, ◌when◌}
use Rattle.transfer.specs.Registers.{width_at, defined_bits, list_rows, is_counted}
use Rattle.transfer.specs.declared.decode.WriteRequest.{WriteRequest}
use Rattle.transfer.specs.declared.decode.WriteRequest.TheVariants as request
use Rattle.transfer.specs.declared.list.Direction.TheVariants.{Read, Write}
use Rattle.transfer.specs.declared.refusal.Refusal.{Refusal}
use Rattle.transfer.specs.declared.refusal.Refusal.TheVariants.{NoRegister, WrongCount, ReaderTooShort}

-- a write request, its borrowed bytes as a list
pub data Asked : Type 0 where
  byte : ℕ → ℕ → Bool → Asked
  word : ℕ → ℕ → Asked
  append : List ℕ → Asked

abbrev pub asked : WriteRequest → Asked
asked (request.Byte register value stray) = byte register value stray
asked (request.Word register value) = word register value
asked (request.Append bytes) = append bytes.now

abbrev pub all_asked : Result WriteRequest Refusal → Result Asked Refusal
all_asked (Ok w) = Ok (asked w)
all_asked (Err e) = Err e

-- the register that a write names
abbrev pub named : List ℕ → ℕ
named t = slice_index t 0

-- the count byte against the bytes behind it
abbrev pub count_rows : List ℕ → List Row
count_rows t = (WrongCount when is_counted (width_at (named t)) && not (slice_index t 1 == length t - 2)) ∷ []

-- a register byte; the register list on the bytes behind it; the count
abbrev pub write_rows : List ℕ → List Row
write_rows t = (NoRegister when length t == 0) ∷ (list_rows (named t) Write (length t - 1) ++ count_rows t)

-- the bits of a byte that its register has
abbrev pub defined_part : ℕ → ℕ → ℕ
defined_part a v = bit_and v (defined_bits (width_at a))

-- whether a one stands in a bit that the register has not
abbrev pub has_stray : ℕ → ℕ → Bool
has_stray a v = not (bit_and v (255 - defined_bits (width_at a)) == 0)

-- what a write asks for, by how long it is: bytes for the transmit buffer, a byte, or a word with its low byte first
abbrev pub written : List ℕ → Asked
written t =
    cond (is_counted (width_at (named t))) (append (drop 2 t))
    (cond (length t == 2)
    (byte (named t) (defined_part (named t) (slice_index t 1)) (has_stray (named t) (slice_index t 1)))
    (word (named t) (slice_index t 1 + 256 * slice_index t 2)))

-- the reader's buffer first, then the register list
abbrev pub read_rows : ℕ → ℕ → ℕ → List Row
read_rows a wanted room = (ReaderTooShort when nat_lt room wanted) ∷ list_rows a Read wanted
