-- The codes of terminations and Rp values, and how registers lay them out. Assumes nothing.
use Rattle.std.specs.Prelude.{cond, ℕ, ◌+◌, ◌*◌, ◌%◌, ◌/◌, eqb}
use Rattle.front_end.specs.declared.parts.RpValue.{RpValue}
use Rattle.front_end.specs.declared.parts.RpValue.TheVariants.{Default, Medium, High, Reserved}
use Rattle.front_end.specs.declared.parts.Termination.{Termination}
use Rattle.front_end.specs.declared.parts.Termination.TheVariants.{Ra, Rp, Rd, Open}
use Rattle.front_end.specs.declared.parts.Terminations.{Terminations}

abbrev pub termination_code : Termination → ℕ
termination_code Ra = 0
termination_code Rp = 1
termination_code Rd = 2
termination_code Open = 3

-- by the low two bits
abbrev pub termination_at : ℕ → Termination
termination_at n = cond (eqb (n % 4) 0) Ra (cond (eqb (n % 4) 1) Rp (cond (eqb (n % 4) 2) Rd Open))

abbrev pub rp_code : RpValue → ℕ
rp_code Default = 0
rp_code Medium = 1
rp_code High = 2
rp_code Reserved = 3

-- by the low two bits
abbrev pub rp_at : ℕ → RpValue
rp_at n = cond (eqb (n % 4) 0) Default (cond (eqb (n % 4) 1) Medium (cond (eqb (n % 4) 2) High Reserved))

-- CC1 in bits 1..0, CC2 in bits 3..2, the Rp value in bits 5..4
abbrev pub terminations_of : ℕ → Terminations
terminations_of n = record { cc1 = termination_at n; cc2 = termination_at (n / 4); rp = rp_at (n / 16) }

-- and back
abbrev pub role_bits : Terminations → ℕ
role_bits t = termination_code t.cc1 + 4 * termination_code t.cc2 + 16 * rp_code t.rp
