-- How long a message is. Assumes nothing.
use Rattle.std.specs.Prelude.{ℕ}

-- the most bytes of a message
abbrev pub longest : ℕ
longest = 30

-- the fewest bytes of a message: its header
abbrev pub shortest : ℕ
shortest = 2
