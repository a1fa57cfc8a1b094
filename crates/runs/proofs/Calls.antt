-- What holds after a call, refused or taken, and so after every run. Assumes nothing.
use Rattle.std.proofs.Common.{◌≡◌, ℕ, Bool, true, false, List, [], ◌∷◌, Some, None, Option, is_none, refl}
use Rattle.std.proofs.lemmas.Bool.{cond_both}
use Rattle.front_end.specs.declared.parts.Capabilities.{Capabilities}
use Rattle.port.specs.Outcomes.{outcome}
use Rattle.port.specs.Reads.{read_outcome}
use Rattle.port.specs.Reports.{report_outcome, after_report}
use Rattle.port.specs.View.{View, with_registers, powered_on}
use Rattle.port.specs.Writes.{write_outcome, after_write}
use Rattle.registers.specs.Alerts.{faulted, marked}
use Rattle.registers.specs.declared.file.Identifiers.{Identifiers}
use Rattle.transfer.specs.Decode.{written}
use Rattle.transfer.specs.Refusals.{is_interface_error}
use Rattle.transfer.specs.declared.refusal.Refusal.{Refusal}
use Rattle.runs.specs.Runs.{Call, wrote, read, reported, refusal_of, taken, next, after}

-- what a taken call makes of a port, before ALERT bits rise by it
abbrev pub made : Capabilities → View → Call → View
made has v (wrote t) = after_write has v (written t)
made has v (read a wanted buffer) = v
made has v (reported r) = after_report v r

-- of a refused call (false) and of a taken one (true), where neither ALERT bits that rise nor the fault of a refusal undo it
module _ (Holds : Bool → View → Type 0)
    (alerts : (b : Bool) (bits : ℕ) (v : View) → Holds b v → Holds b (with_registers (marked bits v.registers) v))
    (faults : (v : View) → Holds false v → Holds false (with_registers (faulted 1 v.registers) v)) where
  through : {A : Type 0} (o : Option Refusal) (a v : View) (n : A) → Holds false v → (o ≡ None → Holds true a) → Holds (is_none o) (outcome o a n v).view
  through (Some r) a v n h f = alerts false _ _ (cond_both (is_interface_error r) _ v (Holds false) (λ e. faults v h) (λ e. h))
  through None a v n h f = alerts true _ a (f refl)

  pub then : (has : Capabilities) (v : View) (c : Call) → Holds false v → (refusal_of has v c ≡ None → Holds true (made has v c)) → Holds (taken has v c) (next has v c)
  unfolding write_outcome read_outcome report_outcome
  then has v (wrote t) h f = through _ _ v _ h f
  then has v (read a wanted buffer) h f = through _ _ v _ h f
  then has v (reported r) h f = through _ _ v _ h f

-- after every run, where power on gives it and taken calls keep it
module _ (has : Capabilities) (Holds : View → Type 0)
    (alerts : (bits : ℕ) (v : View) → Holds v → Holds (with_registers (marked bits v.registers) v))
    (faults : (v : View) → Holds v → Holds (with_registers (faulted 1 v.registers) v))
    (calls : (v : View) (c : Call) → refusal_of has v c ≡ None → Holds v → Holds (made has v c))
    (start : (ids : Identifiers) → Holds (powered_on ids)) where
  pub always : (ids : Identifiers) (past : List Call) → Holds (after has ids past)
  always ids [] = start ids
  always ids (c ∷ past) =
      let v = after has ids past in
      let h = always ids past in
      then (λ b. Holds) (λ b. alerts) faults has v c h (λ e. calls v c e h)
