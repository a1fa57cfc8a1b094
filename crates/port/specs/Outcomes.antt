-- What every call comes to: a view of the port and an answer. Assumes nothing.
use Rattle.std.specs.Prelude.{◌≡◌, ◌-◌, ◌*◌, cond, Some, None, Ok, Err, Option, Result, bit_and, bit_or}
use Rattle.registers.specs.Alerts.{faulted, settled}
use Rattle.registers.specs.Bits.{bit, any_of}
use Rattle.registers.specs.File.{with_alert}
use Rattle.sender.specs.declared.sender.End.{End}
use Rattle.transfer.specs.Refusals.{is_interface_error}
use Rattle.transfer.specs.declared.refusal.Refusal.{Refusal}
use Rattle.port.specs.View.{View, with_registers}
use Rattle.port.specs.declared.answer.Answer.{Answer}
use Rattle.port.specs.declared.answer.Disposition.TheVariants.{Taken}

-- a port after a call, and what it answers
pub record Outcome (A : Type 0) : Type 0 where
  pub view : View
  pub answer : Result A Refusal

-- taken, with the end of a sending if there is one
abbrev pub taken_with : Option End → Answer
taken_with ended = record { disposition = Taken; ended = ended; good_crc = None }

-- a refusal by the interface sets FAULT_STATUS bit 0
abbrev pub faulted_by : Refusal → View → View
faulted_by r v = cond (is_interface_error r) (with_registers (faulted 1 v.registers) v) v

-- ALERT bits 0, 1 and 9 by what changed in the call
abbrev pub settled_since : View → View → View
settled_since before after = with_registers (settled before.registers before.meaning.path after.registers after.meaning.path) after

-- refused, with the fault alone; or taken, with this view and answer
abbrev pub outcome : {A : Type 0} → Option Refusal → View → A → View → Outcome A
outcome (Some r) after answer before = record { view = settled_since before (faulted_by r before); answer = Err r }
outcome None after answer before = record { view = settled_since before after; answer = Ok answer }

-- FAULT_STATUS bit 0 set, and ALERT bit 9 where an unmasked bit rose by that; all else as before
unfoldable pub interface_fault : View → View
interface_fault v =
    with_registers
    (with_alert
    (bit_or v.registers.alert (512 * bit (any_of v.registers.fault_status_mask (bit_and (bit_or v.registers.fault_status 1) (255 - v.registers.fault_status)))))
    (faulted 1 v.registers))
    v

-- a refusal alters that alone, if it is one by the interface, and else nothing
abbrev pub OnlyFaulted : {A : Type 0} → Result A Refusal → View → View → Type 0
OnlyFaulted (Ok a) before after = Unit {0}
OnlyFaulted (Err r) before after = after ≡ cond (is_interface_error r) (interface_fault before) before

-- a refused report alters nothing
abbrev pub UnalteredIfRefused : {A : Type 0} → Result A Refusal → View → View → Type 0
UnalteredIfRefused (Ok a) before after = Unit {0}
UnalteredIfRefused (Err r) before after = after ≡ before
