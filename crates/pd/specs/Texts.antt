-- What is printed of a refusal to make something. Assumes nothing.
use Rattle.std.specs.Prelude.{ℕ, List, codes}

abbrev pub too_long_text : List ℕ
too_long_text = codes "more than 30 bytes"

abbrev pub unknown_kind_text : List ℕ
unknown_kind_text = codes "no kind has this number"
