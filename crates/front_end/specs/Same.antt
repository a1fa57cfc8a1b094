-- Answers about a line that own their message are equal if they say the same. Assumes nothing.
use Rattle.std.specs.Prelude.{◌≡◌, Some, None, Option}
use Rattle.std.proofs.Common.{refl}
use Rattle.pd.specs.Messages.{content, same_message}
use Rattle.front_end.specs.Meaning.{on_line}
use Rattle.front_end.specs.declared.line.OnLine.{OnLine}

pub same_line : (a b : Option OnLine) → on_line a ≡ on_line b → a ≡ b
same_line None None h = refl
same_line (Some x) (Some y) h =
    let message : content x.message ≡ content y.message = cc in
    let starts : x.starts ≡ y.starts = cc in
    λ i. Some (record { message = same_message x.message y.message message i; starts = starts i })
same_line a b h = cc
