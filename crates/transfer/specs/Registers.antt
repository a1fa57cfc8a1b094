-- The register list, and what it says of a transfer. Assumes nothing.
use Rattle.std.specs.Prelude.{◌≡◌, ℕ, Bool, true, false, not, ◌&&◌, List, [], ◌∷◌, length, Option, is_none, ◌==◌, nat_le, find}
use Rattle.std.specs.List.{list_all}
use Rattle.std.specs.Option.{option_map_or}
use Rattle.transfer.specs.Refusals.{Row, ◌when◌}
use Rattle.transfer.specs.declared.list.Access.{Access}
use Rattle.transfer.specs.declared.list.Access.TheVariants.{ReadOnly, WriteOnly, ReadWrite}
use Rattle.transfer.specs.declared.list.Direction.{Direction}
use Rattle.transfer.specs.declared.list.Direction.TheVariants.{Read, Write}
use Rattle.transfer.specs.declared.list.Register.{Register}
use Rattle.transfer.specs.declared.list.Width.{Width}
use Rattle.transfer.specs.declared.list.Width.TheVariants.{Byte, Word, UpTo32, Counted}
use Rattle.transfer.specs.declared.refusal.Refusal.TheVariants.{NotListed, WrongDirection, WrongLength}

-- address, width and access; the width of a byte has its defined bits
abbrev register : ℕ → Width → Access → Register
register a w access = record { address = a; width = w; access = access }

abbrev pub registers : List Register
registers =
    register 0x00 Word ReadOnly ∷
    register 0x02 Word ReadOnly ∷
    register 0x04 Word ReadOnly ∷
    register 0x0A Word ReadOnly ∷
    register 0x10 Word ReadWrite ∷
    register 0x12 Word ReadWrite ∷
    register 0x14 (Byte 0xFF) ReadWrite ∷
    register 0x15 (Byte 0xFF) ReadWrite ∷
    register 0x19 (Byte 0x01) ReadWrite ∷
    register 0x1A (Byte 0x3F) ReadWrite ∷
    register 0x1C (Byte 0x61) ReadWrite ∷
    register 0x1D (Byte 0xFF) ReadOnly ∷
    register 0x1E (Byte 0xFF) ReadOnly ∷
    register 0x1F (Byte 0xFF) ReadWrite ∷
    register 0x23 (Byte 0xFF) WriteOnly ∷
    register 0x24 Word ReadOnly ∷
    register 0x2E (Byte 0x1F) ReadWrite ∷
    register 0x2F (Byte 0x3F) ReadWrite ∷
    register 0x30 UpTo32 ReadOnly ∷
    register 0x50 (Byte 0x37) WriteOnly ∷
    register 0x51 Counted WriteOnly ∷ []

-- the first at an address
unfoldable pub listed : ℕ → Option Register
listed a = find (λ r. r.address == a) registers

-- how many bytes of a register may be read or written
abbrev pub takes : Width → ℕ → Bool
takes (Byte defined) n = n == 1
takes Word n = n == 2
takes UpTo32 n = nat_le 1 n && nat_le n 32
takes Counted n = nat_le 1 n

abbrev pub is_counted : Width → Bool
is_counted (Byte defined) = false
is_counted Word = false
is_counted UpTo32 = false
is_counted Counted = true

abbrev pub allows : Access → Direction → Bool
allows ReadOnly Read = true
allows ReadOnly Write = false
allows WriteOnly Read = false
allows WriteOnly Write = true
allows ReadWrite direction = true

-- what may be done at an address: where no register is listed, nothing
abbrev pub allowed_at : ℕ → Direction → Bool
allowed_at a direction = option_map_or (λ r. allows r.access direction) (listed a) false

-- how wide its register is: where no register is listed, a byte without bits
abbrev pub width_at : ℕ → Width
width_at a = option_map_or (λ r. r.width) (listed a) (Byte 0)

-- the bits that a byte has; wider registers have all of theirs
abbrev pub defined_bits : Width → ℕ
defined_bits (Byte defined) = defined
defined_bits Word = 0xFF
defined_bits UpTo32 = 0xFF
defined_bits Counted = 0xFF

-- address, then direction, then number of bytes
abbrev pub list_rows : ℕ → Direction → ℕ → List Row
list_rows a direction n =
    (NotListed when is_none (listed a)) ∷
    (WrongDirection when not (allowed_at a direction)) ∷
    (WrongLength when not (takes (width_at a) n)) ∷ []

-- what the address alone tells of the width: a count and bytes are written at 51h, up to 32 bytes are read at 30h,
-- and a byte or a word elsewhere
abbrev pub told_by_address : ℕ → Direction → Width → Bool
told_by_address a Read (Byte defined) = not (a == 0x30)
told_by_address a Read Word = not (a == 0x30)
told_by_address a Read UpTo32 = a == 0x30
told_by_address a Read Counted = false
told_by_address a Write (Byte defined) = not (a == 0x51)
told_by_address a Write Word = not (a == 0x51)
told_by_address a Write UpTo32 = false
told_by_address a Write Counted = a == 0x51

-- no address stands twice
abbrev pub distinct : List Register → Bool
distinct [] = true
distinct (r ∷ rs) = list_all (λ x. not (x.address == r.address)) rs && distinct rs

-- the list is as long as it is said to be, and no address stands twice
abbrev pub Sound : Type 0
Sound = (length registers ≡ 21) × (distinct registers ≡ true)
