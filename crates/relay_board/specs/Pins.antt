-- What the switches of one pin stand for. Assumes nothing.
use Rattle.std.specs.Prelude.{cond}
use Rattle.front_end.specs.declared.parts.Termination.{Termination}
use Rattle.front_end.specs.declared.parts.Termination.TheVariants as termination
use Rattle.relay_board.specs.declared.pin.Pin.{Pin}

abbrev pub pin_of : Pin → Termination
pin_of p = cond p.ra termination.Ra (cond p.rp termination.Rp (cond p.rd termination.Rd termination.Open))
