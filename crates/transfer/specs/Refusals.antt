-- Refusals, their numbers, and the order in which they are judged. Assumes nothing.
use Rattle.std.specs.Prelude.{ℕ, Bool, cond, List, [], ◌∷◌, Some, None, Ok, Err, Option, Result, nat_le}
use Rattle.transfer.specs.declared.refusal.Refusal.{Refusal}
use Rattle.transfer.specs.declared.refusal.Refusal.TheVariants.{NoRegister, NotListed, WrongDirection, WrongLength, WrongCount, BufferOverrun, UnknownCommand, UnknownType, LacksCapability, NeedNotMet, NothingToSend, SendingUnderWay, ReaderTooShort, OutOfRange, NotOnTheLine}

abbrev pub refusal_number : Refusal → ℕ
refusal_number NoRegister = 1
refusal_number NotListed = 2
refusal_number WrongDirection = 3
refusal_number WrongLength = 4
refusal_number WrongCount = 5
refusal_number BufferOverrun = 6
refusal_number UnknownCommand = 7
refusal_number UnknownType = 8
refusal_number LacksCapability = 9
refusal_number NeedNotMet = 10
refusal_number NothingToSend = 11
refusal_number SendingUnderWay = 12
refusal_number ReaderTooShort = 13
refusal_number OutOfRange = 14
refusal_number NotOnTheLine = 15

-- numbers 1 to 12
abbrev pub is_interface_error : Refusal → Bool
is_interface_error r = nat_le (refusal_number r) 12

-- a row of a table of refusals: which, and when
pub record Row : Type 0 where
  pub refusal : Refusal
  pub holds : Bool

infixl 20 ◌when◌
abbrev pub ◌when◌ : Refusal → Bool → Row
r when b = record { refusal = r; holds = b }

-- the first row that holds
abbrev pub first_holding : List Row → Option Refusal
first_holding [] = None
first_holding (r ∷ rs) = cond r.holds (Some r.refusal) (first_holding rs)

-- refused with that, or else this
abbrev pub refused_or : {A : Type 0} → Option Refusal → A → Result A Refusal
refused_or (Some r) a = Err r
refused_or None a = Ok a
