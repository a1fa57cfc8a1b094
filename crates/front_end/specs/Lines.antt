-- What the line of a board carries. Assumes nothing.
use Rattle.std.specs.Prelude.{ℕ, Some, None, Option}
use Rattle.pd.specs.Messages.{content}
use Rattle.pd.specs.declared.message.Message.{Message}
use Rattle.front_end.specs.Meaning.{Carried, idle, sending}
use Rattle.front_end.specs.declared.line.BoardLine.{BoardLine}

-- a sending, with the number of its starts by how the board counts them
abbrev pub kept_as : {S : Type 0} → (S → ℕ) → Option (Message × S) → Carried
kept_as made None = idle
kept_as made (Some (m, s)) = sending (content m) (made s)

abbrev pub carried : {S : Type 0} → (S → ℕ) → BoardLine S → Carried
carried made l = kept_as made l.sending
