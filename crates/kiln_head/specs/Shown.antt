-- What the printed outputs stand for. Assumes nothing.
use Rattle.front_end.specs.Meaning.{Meaning, on_line}
use Rattle.kiln_head.specs.declared.outputs.Outputs.{Outputs}

abbrev pub shown : Outputs → Meaning
shown o = record { terminations = o.terminations; vconn = o.vconn; path = o.path; line = on_line o.line }
