-- What is printed of a report. Assumes nothing.
use Rattle.std.specs.Prelude.{ℕ, List, ◌++◌, codes, decimal}
use Rattle.port.specs.declared.answer.Report.{Report}
use Rattle.port.specs.declared.answer.Report.TheVariants.{CcLevels, Vbus, Fault}

abbrev pub report_text : Report → List ℕ
report_text (CcLevels cc1 cc2) = codes "CC levels " ++ decimal cc1 ++ codes " and " ++ decimal cc2
report_text (Vbus n) = codes "VBUS " ++ decimal n
report_text (Fault n) = codes "fault " ++ decimal n
