-- A call is refused or taken, and which refusals there are. Assumes nothing.
use Rattle.std.proofs.Common.{◌≡◌, ◌⊎◌, inl, inr, Bool, true, false, Some, None, Ok, Err, Option, refl}
use Rattle.registers.specs.Reports.{out_of_range_if}
use Rattle.transfer.specs.Refusals.{refused_or}
use Rattle.transfer.specs.declared.refusal.Refusal.{Refusal}
use Rattle.transfer.specs.declared.refusal.Refusal.TheVariants.{OutOfRange}
use Rattle.port.specs.Reports.{report_refusal}
use Rattle.port.specs.Steps.{unsettled}
use Rattle.port.specs.View.{View}
use Rattle.port.specs.declared.answer.Report.{Report}
use Rattle.port.specs.declared.answer.Report.TheVariants.{CcLevels, Vbus, Fault}

pub refused_or_cases : {A : Type 0} (o : Option Refusal) (a : A) → ((o ≡ None) × (refused_or o a ≡ Ok a)) ⊎ ((e : Refusal) × (o ≡ Some e) × (refused_or o a ≡ Err e))
refused_or_cases (Some e) a = inr (e, refl, refl)
refused_or_cases None a = inl (refl, refl)

pub unsettled_cases : {A : Type 0} (o : Option Refusal) (after : View) (a : A) (v : View) →
    ((o ≡ None) × (unsettled o after a v ≡ record { view = after; answer = Ok a })) ⊎ ((e : Refusal) × (o ≡ Some e) × (unsettled o after a v ≡ record { view = v; answer = Err e }))
unsettled_cases (Some e) after a v = inr (e, refl, refl)
unsettled_cases None after a v = inl (refl, refl)

out_of_range_if_cases : (b : Bool) → (out_of_range_if b ≡ None) ⊎ (out_of_range_if b ≡ Some OutOfRange)
out_of_range_if_cases true = inr refl
out_of_range_if_cases false = inl refl

-- every refusal of a report is of its range
pub report_refusal_cases : (v : View) (p : Report) → (report_refusal v p ≡ None) ⊎ (report_refusal v p ≡ Some OutOfRange)
report_refusal_cases v (CcLevels a b) = out_of_range_if_cases _
report_refusal_cases v (Vbus n) = out_of_range_if_cases _
report_refusal_cases v (Fault n) = out_of_range_if_cases _
