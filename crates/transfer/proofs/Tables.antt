-- A table of refusals in two parts, and where no row holds. Assumes nothing.
use Rattle.std.proofs.Common.{◌≡◌, false, List, [], ◌∷◌, ◌++◌, Some, None, refl, arith}
use Rattle.transfer.specs.declared.refusal.Refusal.{Refusal}
use Rattle.transfer.specs.Refusals.{Row, first_holding}

-- the first row that holds of a table in two parts
pub first_left : (xs ys : List Row) (e : Refusal) → first_holding xs ≡ Some e → first_holding (xs ++ ys) ≡ Some e
first_left [] ys e h = cc
first_left (r ∷ xs) ys e h = grind (arith, first_left xs ys e)

pub first_right : (xs ys : List Row) → first_holding xs ≡ None → first_holding (xs ++ ys) ≡ first_holding ys
first_right [] ys h = refl
first_right (r ∷ xs) ys h = grind (arith, first_right xs ys)

-- where no row holds
pub none_here : (r : Row) (xs : List Row) → first_holding (r ∷ xs) ≡ None → r.holds ≡ false
none_here r xs h = grind arith

pub none_after : (r : Row) (xs : List Row) → first_holding (r ∷ xs) ≡ None → first_holding xs ≡ None
none_after r xs h = grind arith
