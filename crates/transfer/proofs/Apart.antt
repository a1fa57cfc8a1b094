-- What holds of every register of the list holds of the one that is found at an address. Assumes nothing.
use Rattle.std.specs.Prelude.{find}
use Rattle.std.specs.List.{list_all}
use Rattle.std.proofs.Common.{◌≡◌, ℕ, Bool, true, not, ◌||◌, ◌==◌, List, [], ◌∷◌, Some, refl, arith}
use Rattle.std.proofs.lemmas.Bool.Decides.{nat_tests}
use Rattle.transfer.specs.declared.list.Direction.{Direction}
use Rattle.transfer.specs.declared.list.Direction.TheVariants.{Read, Write}
use Rattle.transfer.specs.declared.list.Register.{Register}
use Rattle.transfer.specs.Registers.{registers, listed, allows, told_by_address}

found_holds : (holds : ℕ → Register → Bool) (rs : List Register) (a : ℕ) (r : Register) → list_all (λ x. holds x.address x) rs ≡ true → find (λ x. x.address == a) rs ≡ Some r → holds a r ≡ true
found_holds holds [] a r h f = cc
found_holds holds (x ∷ rs) a r h f = grind (arith, nat_tests, found_holds holds rs a r)

-- whether a register is as its address tells, if it may be accessed in this direction
abbrev apart : Direction → ℕ → Register → Bool
apart d a r = not (allows r.access d) || told_by_address a d r.width

pub listed_told : (a : ℕ) (d : Direction) (r : Register) → listed a ≡ Some r → allows r.access d ≡ true → told_by_address a d r.width ≡ true
unfolding listed
listed_told a Read r f w = rw w at (found_holds (apart Read) registers a r refl f)
listed_told a Write r f w = rw w at (found_holds (apart Write) registers a r refl f)
