-- The stations inside a call; no public contract cites them. Assumes nothing.
use Rattle.std.specs.Prelude.{ℕ, false, cond, ◌||◌, List, Some, None, Ok, Err, Option, Result}
use Rattle.front_end.specs.Codes.{terminations_of}
use Rattle.front_end.specs.Meaning.{with_line}
use Rattle.front_end.specs.declared.parts.Capabilities.{Capabilities}
use Rattle.front_end.specs.declared.parts.Path.TheVariants as path
use Rattle.front_end.specs.declared.parts.Vconn.TheVariants as vconn
use Rattle.pd.specs.Kinds.{is_hard_reset}
use Rattle.pd.specs.Messages.{Content}
use Rattle.receiver.specs.Receiving.{with_armed, after_hard_reset}
use Rattle.registers.specs.Alerts.{unmarked, settled, holds_back}
use Rattle.registers.specs.File.{with_alert}
use Rattle.registers.specs.Commands.{switches}
use Rattle.registers.specs.Status.{vconn_of}
use Rattle.registers.specs.Writes.{detecting, stored, byte_at, value}
use Rattle.registers.specs.declared.alerts.Before.{Before}
use Rattle.registers.specs.declared.command.Effect.{Effect}
use Rattle.registers.specs.declared.reports.Trip.{Trip}
use Rattle.registers.specs.declared.reports.Trip.TheVariants.{Vconn, Vbus}
use Rattle.sender.specs.Sendings.{with_buffer}
use Rattle.sender.specs.Transmit.{type_of}
use Rattle.sender.specs.declared.sender.End.{End}
use Rattle.transfer.specs.Decode.{Asked, written}
use Rattle.transfer.specs.Refusals.{first_holding}
use Rattle.transfer.specs.declared.refusal.Refusal.{Refusal}
use Rattle.port.specs.View.{View, with_registers, with_receiving, with_meaning}
use Rattle.port.specs.Outcomes.{Outcome, faulted_by, taken_with}
use Rattle.port.specs.Writes.{arms, empties, told_path, told_vconn, hard_resets, transmission, frames_after, alert_after, with_discard, line_after, write_table, after_write, sent}
use Rattle.port.specs.declared.answer.Answer.{Answer}

-- the fault and the alerts, at the end of every call, from the registers and the path before it
abbrev pub settled_from : Before → View → View
settled_from before v = with_registers (settled before.registers before.path v.registers v.meaning.path) v

abbrev pub concluded : {A : Type 0} → Before → Result A Refusal → View → View
concluded before (Ok a) v = settled_from before v
concluded before (Err r) v = settled_from before (faulted_by r v)

-- a call before the fault and the alerts
abbrev pub unsettled : {A : Type 0} → Option Refusal → View → A → View → Outcome A
unsettled (Some r) after answer before = record { view = before; answer = Err r }
unsettled None after answer before = record { view = after; answer = Ok answer }

-- an effect obeyed
abbrev pub obeyed : Capabilities → Option Effect → View → View
obeyed has e v = record {
  registers = detecting e v.registers;
  receiving = with_armed (arms e v.receiving.armed) v.receiving;
  sending = with_buffer (empties e v.sending.buffer) v.sending;
  meaning = record v.meaning { path = told_path has (switches e) v.meaning.path };
}

-- a view, and how a sending ended
pub record Ended : Type 0 where
  pub view : View
  pub ended : Option End

abbrev pub without_end : View → Ended
without_end v = record { view = v; ended = None }

-- a Hard Reset to be sent: reception is reset, ALERT bit 2 falls
abbrev pub reset_by : ℕ → View → View
reset_by value v =
    cond (is_hard_reset (type_of value)) (with_receiving (after_hard_reset v.receiving) (with_registers (unmarked 4 v.registers) v)) v

abbrev pub on_line_after : Option Content → View → View
on_line_after started v = with_meaning (with_line (line_after started v.meaning.line) v.meaning) v

-- an end that a write tells is a discard
abbrev pub discard_noted : Option End → View → View
discard_noted ended v = with_registers (with_alert (with_discard ended v.registers.alert) v.registers) v

-- what a taken request does beside the registers that it stores
abbrev pub reacted : Capabilities → Asked → View → Ended
reacted has w v =
    let t = transmission w (holds_back v.registers) v.sending in
    record {
      view = record {
        registers = with_alert (alert_after w t.ended v.receiving.frames v.registers.alert) v.registers;
        receiving = record {
          detect = cond (byte_at 0x2F w) (value w) (cond (hard_resets w) 0 v.receiving.detect);
          info = cond (byte_at 0x2E w) (value w) v.receiving.info;
          armed = cond (hard_resets w) false v.receiving.armed;
          frames = frames_after w v.receiving.frames;
        };
        sending = t.after;
        meaning = record v.meaning {
          terminations = cond (byte_at 0x1A w) (terminations_of v.registers.role_control) v.meaning.terminations;
          vconn = cond (byte_at 0x19 w || byte_at 0x1C w) (told_vconn has (vconn_of v.registers) v.meaning.vconn) v.meaning.vconn;
          line = line_after t.started v.meaning.line;
        };
      };
      ended = t.ended;
    }

abbrev pub acted : Capabilities → Asked → Option Effect → View → Ended
acted has w e v = reacted has w (obeyed has e (with_registers (stored w v.registers) v))

-- a write before the fault and the alerts
unfoldable pub write_unsettled : Capabilities → View → List ℕ → Outcome Answer
write_unsettled has v t = unsettled (first_holding (write_table has v t)) (after_write has v (written t)) (taken_with (sent v (written t)).ended) v

-- what a fault turns off
abbrev pub tripped : Trip → View → View
tripped Vconn v = with_meaning (record v.meaning { vconn = vconn.Off }) v
tripped Vbus v = with_meaning (record v.meaning { path = path.Off }) v
