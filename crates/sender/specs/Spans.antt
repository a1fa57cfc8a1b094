-- How many Ticks the spans of a sending have. Assumes nothing.
-- Numbers of its own, not the program's constants, so that a wrong constant is refused.
use Rattle.std.specs.Prelude.{ℕ}

-- from a start of a message to Line Finished
abbrev pub start_span : ℕ
start_span = 20

-- from a taken Line Finished to the end of the wait for a GoodCRC
abbrev pub wait_span : ℕ
wait_span = 10

-- from the acceptance of a reset to Line Finished
abbrev pub signalling_span : ℕ
signalling_span = 50
