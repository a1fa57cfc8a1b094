-- The calls that a port gets, as bytes and numbers. Assumes nothing.
use Rattle.std.specs.Prelude.{ℕ, ◌+◌, List, [], ◌∷◌}

-- a write; a read with its register, the bytes wanted and the length of the reader's buffer; CC Levels; VBUS; Fault;
-- Frame Arrived with its type and bytes; Hard Reset Heard; Line Finished; a Tick
pub data Call : Type 0 where
  wrote : List ℕ → Call
  read : ℕ → ℕ → ℕ → Call
  levels : ℕ → ℕ → Call
  vbus fault : ℕ → Call
  frame : ℕ → List ℕ → Call
  reset_heard line_finished tick : Call

abbrev pub tick_of : Call → ℕ
tick_of (wrote t) = 0
tick_of (read a wanted room) = 0
tick_of (levels cc1 cc2) = 0
tick_of (vbus n) = 0
tick_of (fault n) = 0
tick_of (frame n bytes) = 0
tick_of reset_heard = 0
tick_of line_finished = 0
tick_of tick = 1

-- the Ticks among calls
abbrev pub ticks : List Call → ℕ
ticks [] = 0
ticks (c ∷ calls) = ticks calls + tick_of c
