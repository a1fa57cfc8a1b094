-- How many frames wait: promised as a number, so that the code's constant cannot drift. Assumes nothing.
use Rattle.std.specs.Prelude.{ℕ}

-- the most frames that wait
abbrev pub capacity : ℕ
capacity = 2
