-- What a front end stands for, and how each order alters it. Assumes nothing.
use Rattle.std.specs.Prelude.{Bool, true, false, cond, ◌≡◌, ℕ, ◌+◌, min, Some, None, Option}
use Rattle.pd.specs.Messages.{Content, content}
use Rattle.front_end.specs.Starts.{most_starts}
use Rattle.front_end.specs.declared.line.OnLine.{OnLine}
use Rattle.front_end.specs.declared.line.OnLineRef.{OnLineRef}
use Rattle.front_end.specs.declared.parts.Capabilities.{Capabilities}
use Rattle.front_end.specs.declared.parts.Path.{Path}
use Rattle.front_end.specs.declared.parts.Path.TheVariants as path
use Rattle.front_end.specs.declared.parts.RpValue.TheVariants as rp
use Rattle.front_end.specs.declared.parts.Termination.TheVariants as termination
use Rattle.front_end.specs.declared.parts.Terminations.{Terminations}
use Rattle.front_end.specs.declared.parts.Vconn.{Vconn}
use Rattle.front_end.specs.declared.parts.Vconn.TheVariants as vconn

-- what is on the line: nothing, or a sending with its number of starts
pub data Carried : Type 0 where
  idle : Carried
  sending : Content → ℕ → Carried

pub record Meaning : Type 0 where
  pub terminations : Terminations
  pub vconn : Vconn
  pub path : Path
  pub line : Carried

-- nothing switched and nothing on the line, with these terminations
abbrev pub at_rest : Terminations → Meaning
at_rest t = record { terminations = t; vconn = vconn.Off; path = path.Off; line = idle }

-- at rest with both pins open and Rp value 0
abbrev pub safe : Meaning
safe = at_rest (record { cc1 = termination.Open; cc2 = termination.Open; rp = rp.Default })

-- nondefault source implies default source
abbrev pub Graded : Capabilities → Type 0
Graded has = has.nondefault_source ≡ true → has.default_source ≡ true

-- whether the front end has a path; none lacks off
abbrev pub has_path : Capabilities → Path → Bool
has_path has path.Off = true
has_path has path.Sink = has.sink
has_path has path.DefaultSource = has.default_source
has_path has path.NondefaultSource = has.nondefault_source

-- whether the front end can switch VCONN so; none lacks off
abbrev pub has_vconn : Capabilities → Vconn → Bool
has_vconn has vconn.Off = true
has_vconn has vconn.Cc1 = has.vconn
has_vconn has vconn.Cc2 = has.vconn

-- whether the path lets power in, and out
abbrev pub sinking : Path → Bool
sinking path.Off = false
sinking path.Sink = true
sinking path.DefaultSource = false
sinking path.NondefaultSource = false

abbrev pub sourcing : Path → Bool
sourcing path.Off = false
sourcing path.Sink = false
sourcing path.DefaultSource = true
sourcing path.NondefaultSource = true

-- a sending that was started once
abbrev pub started : Content → Carried
started c = sending c 1

-- one start more, up to the most; nothing on an idle line
abbrev pub again_line : Carried → Carried
again_line idle = idle
again_line (sending c starts) = sending c (min most_starts (starts + 1))

-- what an answer says of the line, its message owned
abbrev pub on_line : Option OnLine → Carried
on_line None = idle
on_line (Some l) = sending (content l.message) l.starts

-- the same, its message lent
abbrev pub on_line_ref : Option OnLineRef → Carried
on_line_ref None = idle
on_line_ref (Some l) = sending (content l.message.now) l.starts

-- each part anew, the others kept
abbrev pub with_terminations : Terminations → Meaning → Meaning
with_terminations t m = record m { terminations = t }

abbrev pub with_vconn : Capabilities → Vconn → Meaning → Meaning
with_vconn has v m = record m { vconn = cond (has_vconn has v) v m.vconn }

abbrev pub with_path : Capabilities → Path → Meaning → Meaning
with_path has p m = record m { path = cond (has_path has p) p m.path }

abbrev pub with_line : Carried → Meaning → Meaning
with_line l m = record m { line = l }
