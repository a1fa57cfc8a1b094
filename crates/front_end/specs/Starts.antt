-- How often a sending may be started. Assumes nothing.
use Rattle.std.specs.Prelude.{ℕ}

-- the most starts of a sending: one and three retries
abbrev pub most_starts : ℕ
most_starts = 4
