-- The kinds of what is sent and received, and their numbers. Assumes nothing.
use Rattle.std.specs.Prelude.{◌≡◌, ℕ, Bool, cond, Some, None, Ok, Err, Option, Result, ◌==◌, nat_le}
use Rattle.pd.specs.declared.kind.Kind.{Kind}
use Rattle.pd.specs.declared.kind.Kind.TheVariants.{Sop, SopPrime, SopDoublePrime, SopDebugPrime, SopDebugDoublePrime, HardReset, CableReset}
use Rattle.pd.specs.declared.kind.UnknownKind.{UnknownKind}

abbrev pub number_of : Kind → ℕ
number_of Sop = 0
number_of SopPrime = 1
number_of SopDoublePrime = 2
number_of SopDebugPrime = 3
number_of SopDebugDoublePrime = 4
number_of HardReset = 5
number_of CableReset = 6

-- the kind of a number, if there is one
abbrev pub kind_at : ℕ → Option Kind
kind_at n =
    cond (n == 0) (Some Sop)
    (cond (n == 1) (Some SopPrime)
    (cond (n == 2) (Some SopDoublePrime)
    (cond (n == 3) (Some SopDebugPrime)
    (cond (n == 4) (Some SopDebugDoublePrime)
    (cond (n == 5) (Some HardReset)
    (cond (n == 6) (Some CableReset) None))))))

abbrev pub or_unknown : Option Kind → Result Kind UnknownKind
or_unknown (Some k) = Ok k
or_unknown None = Err (record {})

-- what a number is converted to: its kind, or the error that there is none
abbrev pub Numbered : ℕ → Result Kind UnknownKind → Type 0
Numbered n r = r ≡ or_unknown (kind_at n)

-- a message has bytes; the others are resets, without bytes
abbrev pub is_message : ℕ → Bool
is_message number = nat_le number 4

abbrev pub is_hard_reset : ℕ → Bool
is_hard_reset number = number == 5
