-- What stands in a slot where no frame waits. Assumes nothing.
use Rattle.std.proofs.Common.{◌≡◌, refl}
use Rattle.pd.specs.Held.{no_bytes}
use Rattle.pd.specs.Messages.{content, empty}
use Rattle.pd.specs.declared.kind.Kind.TheVariants.{Sop}
use Rattle.pd.specs.declared.message.Message.{Message}

unfoldable pub blank : Message
blank = record { kind = Sop; bytes = no_bytes }

pub blank_is_empty : content blank ≡ empty Sop
unfolding blank
blank_is_empty = refl
