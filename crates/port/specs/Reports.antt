-- What a report does. Assumes nothing.
use Rattle.std.specs.Prelude.{ℕ, cond, None, Option, ◌==◌}
use Rattle.front_end.specs.declared.parts.Path.TheVariants as path
use Rattle.front_end.specs.declared.parts.Vconn.TheVariants as vconn
use Rattle.registers.specs.Reports.{level_of, levels_refusal, with_levels, vbus_refusal, with_vbus, fault_refusal, with_fault}
use Rattle.transfer.specs.declared.refusal.Refusal.{Refusal}
use Rattle.port.specs.Outcomes.{Outcome, outcome, taken_with}
use Rattle.port.specs.View.{View, with_registers}
use Rattle.port.specs.declared.answer.Answer.{Answer}
use Rattle.port.specs.declared.answer.Report.{Report}
use Rattle.port.specs.declared.answer.Report.TheVariants.{CcLevels, Vbus, Fault}

-- when a report is refused
abbrev pub report_refusal : View → Report → Option Refusal
report_refusal v (CcLevels cc1 cc2) = levels_refusal cc1 cc2 v.registers
report_refusal v (Vbus n) = vbus_refusal n
report_refusal v (Fault n) = fault_refusal n

-- all that a port holds after a fault: its FAULT_STATUS bit set; VCONN off by fault 1, the path off by the others
abbrev pub after_fault : ℕ → View → View
after_fault n v = record v {
  registers = with_fault n v.registers;
  meaning = record v.meaning { vconn = cond (n == 1) vconn.Off v.meaning.vconn; path = cond (n == 1) v.meaning.path path.Off };
}

-- all that a port holds after a taken report; ALERT bits 0, 1 and 9 rise after it
abbrev pub after_report : View → Report → View
after_report v (CcLevels cc1 cc2) = with_registers (with_levels (level_of cc1) (level_of cc2) v.registers) v
after_report v (Vbus n) = with_registers (with_vbus (n == 1) v.registers) v
after_report v (Fault n) = after_fault n v

unfoldable pub report_outcome : View → Report → Outcome Answer
report_outcome v r = outcome (report_refusal v r) (after_report v r) (taken_with None) v
