-- What the sink board's code stands for beside the terminations, which lie in it as in ROLE_CONTROL. Assumes nothing.
use Rattle.std.specs.Prelude.{Bool, ℕ, nat_le}

-- how many codes there are: seven bits
abbrev pub codes : ℕ
codes = 128

-- bit 6, the highest
abbrev pub code_sinks : ℕ → Bool
code_sinks n = nat_le 64 n
