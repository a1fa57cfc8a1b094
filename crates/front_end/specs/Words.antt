-- The settings of a front end in words. Assumes nothing.
use Rattle.std.specs.Prelude.{ℕ, List, codes}
use Rattle.front_end.specs.declared.parts.Path.{Path}
use Rattle.front_end.specs.declared.parts.Path.TheVariants as path
use Rattle.front_end.specs.declared.parts.Termination.{Termination}
use Rattle.front_end.specs.declared.parts.Termination.TheVariants.{Ra, Rp, Rd, Open}
use Rattle.front_end.specs.declared.parts.Vconn.{Vconn}
use Rattle.front_end.specs.declared.parts.Vconn.TheVariants as vconn

abbrev pub termination_text : Termination → List ℕ
termination_text Ra = codes "Ra"
termination_text Rp = codes "Rp"
termination_text Rd = codes "Rd"
termination_text Open = codes "open"

abbrev pub vconn_text : Vconn → List ℕ
vconn_text vconn.Off = codes "off"
vconn_text vconn.Cc1 = codes "on CC1"
vconn_text vconn.Cc2 = codes "on CC2"

abbrev pub path_text : Path → List ℕ
path_text path.Off = codes "off"
path_text path.Sink = codes "sinking"
path_text path.DefaultSource = codes "sourcing at default"
path_text path.NondefaultSource = codes "sourcing above default"
