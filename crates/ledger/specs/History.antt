-- What the ledger has kept and told over a run: the calls since power on, the newest first. Assumes nothing.
use Rattle.std.specs.Prelude.{◌≡◌, List, [], ◌∷◌, ◌++◌, Option}
use Rattle.front_end.specs.declared.parts.Capabilities.{Capabilities}
use Rattle.pd.specs.Messages.{Content}
use Rattle.ledger.specs.Calls.{Call}
use Rattle.ledger.specs.Kept.{Ledger, power_on}
use Rattle.ledger.specs.Ledger.{Verdict, Told, Gone, Ended, enter}

-- the ledger after a run
abbrev pub after : Capabilities → List Call → Ledger
after has [] = power_on
after has (c ∷ past) = (enter has (after has past) c).next

-- what it says of the call that comes then
abbrev pub verdict : Capabilities → List Call → Call → Option Verdict
verdict has past c = (enter has (after has past) c).verdict

abbrev pub told : Capabilities → List Call → Call → Told
told has past c = (enter has (after has past) c).told

-- all that it has told, oldest first: the frames acknowledged and gone, the sendings accepted and ended
abbrev pub acknowledged : Capabilities → List Call → List Content
acknowledged has [] = []
acknowledged has (c ∷ past) = acknowledged has past ++ (told has past c).acks

abbrev pub gone : Capabilities → List Call → List Gone
gone has [] = []
gone has (c ∷ past) = gone has past ++ (told has past c).goes

abbrev pub accepted : Capabilities → List Call → List Content
accepted has [] = []
accepted has (c ∷ past) = accepted has past ++ (told has past c).accepts

abbrev pub ended : Capabilities → List Call → List Ended
ended has [] = []
ended has (c ∷ past) = ended has past ++ (told has past c).ends

abbrev pub frame_of : Gone → Content
frame_of g = g.frame

abbrev pub sending_of : Ended → Content
sending_of e = e.sending

-- no call of `later`, made after `before`, ended a sending
abbrev pub NoEnd : Capabilities → List Call → List Call → Type 0
NoEnd has [] before = Unit {0}
NoEnd has (c ∷ later) before = ((told has (later ++ before) c).ends ≡ []) × NoEnd has later before
