-- What the relay board's switches stand for. Assumes nothing.
use Rattle.std.specs.Prelude.{Bool, true, cond}
use Rattle.front_end.specs.Lines.{carried}
use Rattle.front_end.specs.Meaning.{Meaning}
use Rattle.front_end.specs.declared.parts.Capabilities.{Capabilities}
use Rattle.front_end.specs.declared.parts.Path.{Path}
use Rattle.front_end.specs.declared.parts.Path.TheVariants as path
use Rattle.front_end.specs.declared.parts.RpValue.{RpValue}
use Rattle.front_end.specs.declared.parts.RpValue.TheVariants as rp
use Rattle.front_end.specs.declared.parts.Vconn.{Vconn}
use Rattle.front_end.specs.declared.parts.Vconn.TheVariants as vconn
use Rattle.relay_board.specs.Pins.{pin_of}
use Rattle.relay_board.specs.declared.board.RelayBoard.{RelayBoard}

abbrev pub everything : Capabilities
everything = record { default_source = true; nondefault_source = true; sink = true; vconn = true }

-- by the high bit and the low bit
abbrev pub rp_of : Bool → Bool → RpValue
rp_of high low = cond high (cond low rp.Reserved rp.High) (cond low rp.Medium rp.Default)

-- by the switch to each pin
abbrev pub vconn_of : Bool → Bool → Vconn
vconn_of cc1 cc2 = cond cc1 vconn.Cc1 (cond cc2 vconn.Cc2 vconn.Off)

-- by the sink switch, the source switch, and the one that raises the source above default
abbrev pub path_of : Bool → Bool → Bool → Path
path_of sink source raised = cond sink path.Sink (cond source (cond raised path.NondefaultSource path.DefaultSource) path.Off)

abbrev pub relay_meaning : RelayBoard → Meaning
relay_meaning b = record {
  terminations = record {
    cc1 = pin_of b.switches.cc1;
    cc2 = pin_of b.switches.cc2;
    rp = rp_of b.switches.rp_high b.switches.rp_low;
  };
  vconn = vconn_of b.switches.vconn_cc1 b.switches.vconn_cc2;
  path = path_of b.switches.sink b.switches.source b.switches.raised;
  line = carried (λ starts. starts.count) b.line;
}
