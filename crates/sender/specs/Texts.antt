-- What is printed of an end. Assumes nothing.
use Rattle.std.specs.Prelude.{ℕ, List, codes}
use Rattle.sender.specs.declared.sender.End.{End}
use Rattle.sender.specs.declared.sender.End.TheVariants.{Succeeded, Failed, Discarded, Signalled}

abbrev pub end_text : End → List ℕ
end_text Succeeded = codes "a sending succeeded"
end_text Failed = codes "a sending failed"
end_text Discarded = codes "a sending was discarded"
end_text Signalled = codes "a reset was signalled"
