-- What is printed of a refusal to keep a frame. Assumes nothing.
use Rattle.std.specs.Prelude.{ℕ, List, codes}

abbrev pub queue_full_text : List ℕ
queue_full_text = codes "no frame more can wait"
