-- What the sink board stands for. Assumes nothing.
use Rattle.std.specs.Prelude.{true, false, cond, ◌-◌}
use Rattle.front_end.specs.Codes.{terminations_of}
use Rattle.front_end.specs.Lines.{carried}
use Rattle.front_end.specs.Meaning.{Meaning}
use Rattle.front_end.specs.Starts.{most_starts}
use Rattle.front_end.specs.declared.parts.Capabilities.{Capabilities}
use Rattle.front_end.specs.declared.parts.Path.TheVariants as path
use Rattle.front_end.specs.declared.parts.Vconn.TheVariants as vconn
use Rattle.sink_board.specs.Codes.{code_sinks}
use Rattle.sink_board.specs.declared.board.SinkBoard.{SinkBoard}

abbrev pub sink_alone : Capabilities
sink_alone = record { default_source = false; nondefault_source = false; sink = true; vconn = false }

abbrev pub sink_meaning : SinkBoard → Meaning
sink_meaning b = record {
  terminations = terminations_of b.switches.code;
  vconn = vconn.Off;
  path = cond (code_sinks b.switches.code) path.Sink path.Off;
  line = carried (λ starts. most_starts - starts.count) b.line;
}
