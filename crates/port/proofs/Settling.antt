-- What does not rise at the end of a call that altered nothing. Assumes nothing.
use Rattle.std.proofs.Common.{◌≡◌, ℕ, ◌-◌, ◌*◌, Bool, true, false, cond, Ok, Err, Result, ◌∙◌, arith}
use Rattle.std.proofs.lemmas.Grind.{common_steps}
use Rattle.std.proofs.lemmas.Nat.{and-not}
use lib.Bits.{bit_and, bit_or, or_zero_r, and_zero_r, and_comm, and_self}
use Rattle.front_end.specs.declared.parts.Path.{Path}
use Rattle.registers.specs.Alerts.{faulted, risen}
use Rattle.registers.specs.Bits.{bit, any_of}
use Rattle.registers.specs.Status.{cc_status, power_status}
use Rattle.registers.specs.declared.file.Registers.{Registers}
use Rattle.transfer.specs.Refusals.{is_interface_error}
use Rattle.transfer.specs.declared.refusal.Refusal.{Refusal}
use Rattle.port.specs.Outcomes.{settled_since, interface_fault, OnlyFaulted}
use Rattle.port.specs.Steps.{concluded}
use Rattle.port.specs.View.{View, with_registers}

-- a byte has no bit of what it lacks
lacking : (f : ℕ) → bit_and f (255 - f) ≡ 0
lacking f = grind (arith, and_comm f (255 - f), and-not 8 f f, and_self, and_zero_r)

-- where FAULT_STATUS alone is altered, bit 9 alone can rise
only_nine : (bits : ℕ) (s : Registers) (p : Path) →
    risen s p (faulted bits s) p ≡ 512 * bit (any_of s.fault_status_mask (bit_and (bit_or s.fault_status bits) (255 - s.fault_status)))
unfolding risen cc_status power_status
only_nine bits s p = grind (arith, common_steps)

-- where nothing is altered, nothing rises
none_rise : (s : Registers) (p : Path) → risen s p s p ≡ 0
unfolding risen
none_rise s p = grind (arith, common_steps, lacking)

pub quiet : (v : View) → settled_since v v ≡ v
quiet v = grind (arith, none_rise, or_zero_r)

faulted_alone : (v : View) (b : Bool) → settled_since v (cond b (with_registers (faulted 1 v.registers) v) v) ≡ cond b (interface_fault v) v
unfolding interface_fault
faulted_alone v true = grind (arith, only_nine)
faulted_alone v false = quiet v

-- the port after a call that altered nothing
abbrev left_by : {A : Type 0} → Result A Refusal → View → View
left_by (Ok a) v = v
left_by (Err e) v = cond (is_interface_error e) (interface_fault v) v

pub left : {A : Type 0} (r : Result A Refusal) (v : View) → concluded (record { registers = v.registers; path = v.meaning.path }) r v ≡ left_by r v
left (Ok a) v = quiet v
left (Err e) v = faulted_alone v (is_interface_error e)

pub only_faulted : {A : Type 0} (r : Result A Refusal) (v x : View) → x ≡ concluded (record { registers = v.registers; path = v.meaning.path }) r v → OnlyFaulted r v x
only_faulted (Ok a) v x h = tt
only_faulted (Err e) v x h = h ∙ faulted_alone v (is_interface_error e)
