-- Switches that are not closed together. Assumes nothing.
use Rattle.std.specs.Prelude.{Bool, not, ◌&&◌}

abbrev pub not_both : Bool → Bool → Bool
not_both a b = not (a && b)

abbrev pub at_most_one : Bool → Bool → Bool → Bool
at_most_one a b c = not_both a b && not_both a c && not_both b c

-- the first is closed only with the second
abbrev pub only_with : Bool → Bool → Bool
only_with a b = not (a && not b)
