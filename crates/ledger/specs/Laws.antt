-- What holds of the ledger after every run. Assumes nothing.
use Rattle.std.specs.Prelude.{◌≡◌, ℕ, zero, suc, ◌+◌, ◌/◌, ◌%◌, ◌<◌, ◌≤◌, Bool, true, false, cond, not, ◌||◌, ◌⊎◌, List, [], ◌∷◌, ◌++◌, map, length, Some, ◌==◌, ◌≢◌}
use Rattle.front_end.specs.declared.parts.Capabilities.{Capabilities}
use Rattle.pd.specs.Headers.{is_good_crc}
use Rattle.pd.specs.Messages.{Content, header, arrived, well_formed}
use Rattle.sender.specs.declared.sender.End.{End}
use Rattle.sender.specs.declared.sender.End.TheVariants.{Succeeded, Failed, Discarded, Signalled}
use Rattle.ledger.specs.Calls.{Call, wrote, read, levels, vbus, fault, frame, reset_heard, line_finished, tick, ticks}
use Rattle.ledger.specs.Kept.{Under, none, starting, waiting, signalling}
use Rattle.ledger.specs.Ledger.{Fate, released, dropped, Gone, Ended, taken, carried, busy, hard_resetting, is_message, is_hard_reset, matches, second, most_waiting}
use Rattle.ledger.specs.History.{after, verdict, told, acknowledged, gone, accepted, ended, frame_of, sending_of, NoEnd}

-- ---- frames

-- the frames acknowledged are, in their order, those gone, each with its one fate, and then those that wait
abbrev pub EachFrameOnce : Type 0
EachFrameOnce = (has : Capabilities) (past : List Call) → acknowledged has past ≡ map frame_of (gone has past) ++ (after has past).frames

abbrev pub FewFramesWait : Type 0
FewFramesWait = (has : Capabilities) (past : List Call) → length (after has past).frames ≤ most_waiting

abbrev pub one_if : Fate → Fate → ℕ
one_if released released = 1
one_if released dropped = 0
one_if dropped released = 0
one_if dropped dropped = 1

abbrev pub how_many : Fate → List Gone → ℕ
how_many f [] = 0
how_many f (g ∷ gs) = one_if f g.fate + how_many f gs

abbrev pub FramesAddUp : Type 0
FramesAddUp = (has : Capabilities) (past : List Call) →
    length (acknowledged has past) ≡ how_many released (gone has past) + how_many dropped (gone has past) + length (after has past).frames

-- ALERT bit 2 is 1 exactly while a frame waits
abbrev pub AlertWhileFramesWait : Type 0
AlertWhileFramesWait = (has : Capabilities) (past : List Call) → (after has past).frame_alert ≡ not (length (after has past).frames == 0)

-- a message is under way
abbrev pub message_under_way : Under → Bool
message_under_way none = false
message_under_way (starting s retries starts left) = true
message_under_way (waiting s retries starts left) = true
message_under_way (signalling s left) = false

abbrev pub NoFrameWaitsDuringAMessage : Type 0
NoFrameWaitsDuringAMessage = (has : Capabilities) (past : List Call) →
    message_under_way (after has past).under ≡ true → (after has past).frames ≡ []

-- ALERT bit 3 is 1 only while a Hard Reset or nothing is under way
abbrev pub ResetAlertLeavesNoOtherSending : Type 0
ResetAlertLeavesNoOtherSending = (has : Capabilities) (past : List Call) →
    (after has past).reset_alert ≡ true → busy (after has past).under ≡ hard_resetting (after has past).under

-- ---- sendings

-- the sendings accepted are, in their order, those ended, each with its one end, and then the one under way
abbrev pub EachSendingOnce : Type 0
EachSendingOnce = (has : Capabilities) (past : List Call) → accepted has past ≡ map sending_of (ended has past) ++ carried (after has past).under

abbrev pub end_number : End → ℕ
end_number Succeeded = 0
end_number Failed = 1
end_number Discarded = 2
end_number Signalled = 3

abbrev pub how_many_ended : End → List Ended → ℕ
how_many_ended e [] = 0
how_many_ended e (x ∷ xs) = cond (end_number e == end_number x.end) 1 0 + how_many_ended e xs

abbrev pub SendingsAddUp : Type 0
SendingsAddUp = (has : Capabilities) (past : List Call) →
    length (accepted has past) ≡
    how_many_ended Succeeded (ended has past) + how_many_ended Failed (ended has past) + how_many_ended Discarded (ended has past)
    + how_many_ended Signalled (ended has past) + length (carried (after has past).under)

-- a call that accepts a sending gives it the number of those accepted before it, from 0; once 116 Ticks came after that
-- call, more sendings have ended than that
abbrev pub EndsInTime : Type 0
EndsInTime = (has : Capabilities) (past later before : List Call) (c : Call) → past ≡ later ++ (c ∷ before) →
    1 ≤ length (told has before c).accepts → 116 ≤ ticks later → length (accepted has before) < length (ended has past)

-- one sending ended, so
abbrev pub ended_so : End → Content → List Ended
ended_so e s = record { end = e; sending = s } ∷ []

-- this sending is under way
abbrev pub UnderWay : Capabilities → List Call → Content → Type 0
UnderWay has past s = carried (after has past).under ≡ s ∷ []

-- ---- success

-- the run is in the ten Ticks of a message: a Line Finished was taken, no sending ended in or since it, fewer than ten Ticks came since
pub record InTen (has : Capabilities) (past : List Call) : Type 0 where
  pub later : List Call
  pub before : List Call
  pub splits : past ≡ later ++ (line_finished ∷ before)
  pub finished : verdict has before line_finished ≡ Some taken
  pub no_end : ((told has before line_finished).ends ≡ []) × NoEnd has later (line_finished ∷ before)
  pub soon : ticks later < 10

-- a well-formed GoodCRC of the sending's type and MessageID
pub record GoodCrcOf (number : ℕ) (bytes : List ℕ) (s : Content) : Type 0 where
  pub given : Content
  pub in_range : arrived number bytes ≡ Some given
  pub well : well_formed given ≡ true
  pub good : is_good_crc (header given.bytes) ≡ true
  pub same : matches given s ≡ true

abbrev pub Matches : Call → Content → Type 0
Matches (wrote t) s = ⊥
Matches (read a wanted room) s = ⊥
Matches (levels cc1 cc2) s = ⊥
Matches (vbus n) s = ⊥
Matches (fault n) s = ⊥
Matches (frame n bytes) s = GoodCrcOf n bytes s
Matches reset_heard s = ⊥
Matches line_finished s = ⊥
Matches tick s = ⊥

abbrev pub SucceedsExactlyWhen : Type 0
SucceedsExactlyWhen = (has : Capabilities) (past : List Call) (c : Call) (s : Content) →
    ((told has past c).ends ≡ ended_so Succeeded s → UnderWay has past s × Matches c s × InTen has past) ×
    (UnderWay has past s → Matches c s → InTen has past → (told has past c).ends ≡ ended_so Succeeded s)

-- ---- failure

-- no Line Finished of these calls was taken
abbrev pub Unfinished : Capabilities → List Call → List Call → Type 0
Unfinished has [] before = Unit {0}
Unfinished has (c ∷ calls) before = (c ≡ line_finished → verdict has (calls ++ before) c ≢ Some taken) × Unfinished has calls before

-- over these calls a start runs out: at the 20th Tick after it, no Line Finished being taken
pub record RunsOutInStart (has : Capabilities) (run before : List Call) : Type 0 where
  pub during : List Call
  pub is : run ≡ tick ∷ during
  pub unfinished : Unfinished has during before
  pub passed : ticks during ≡ 19

-- or at the tenth Tick after the Line Finished that was taken
pub record RunsOutInWait (has : Capabilities) (run before : List Call) : Type 0 where
  pub late : List Call
  pub early : List Call
  pub is : run ≡ tick ∷ (late ++ (line_finished ∷ early))
  pub unfinished : Unfinished has early before
  pub soon : ticks early < 20
  pub finished : verdict has (early ++ before) line_finished ≡ Some taken
  pub passed : ticks late ≡ 9

-- over these calls so many starts run out, one after the other, and nothing is left over
abbrev pub RunOut : Capabilities → ℕ → List Call → List Call → Type 0
RunOut has zero run before = run ≡ []
RunOut has (suc k) run before =
    (last : List Call) × (earlier : List Call) × (run ≡ last ++ earlier) ×
    (RunsOutInStart has last (earlier ++ before) ⊎ RunsOutInWait has last (earlier ++ before)) × RunOut has k earlier before

-- the call that accepted the sending under way, and no end since
pub record Accepted (has : Capabilities) (past : List Call) (s : Content) : Type 0 where
  pub later : List Call
  pub before : List Call
  pub by : Call
  pub splits : past ≡ later ++ (by ∷ before)
  pub accepts : (told has before by).accepts ≡ s ∷ []
  pub begins : UnderWay has (by ∷ before) s
  pub no_end : NoEnd has later (by ∷ before)

-- the retries that an accepting write allows: bits 5..4 of its value
abbrev pub retries_of : Call → ℕ
retries_of (wrote t) = second t / 16 % 4
retries_of (read a wanted room) = 0
retries_of (levels cc1 cc2) = 0
retries_of (vbus n) = 0
retries_of (fault n) = 0
retries_of (frame n bytes) = 0
retries_of reset_heard = 0
retries_of line_finished = 0
retries_of tick = 0

-- with this Tick each start that is allowed has run out
pub record Exhausted (has : Capabilities) (past : List Call) (s : Content) : Type 0 where
  pub since : Accepted has past s
  pub ran_out : RunOut has (1 + retries_of since.by) (tick ∷ since.later) (since.by ∷ since.before)

-- a message fails at the Tick with which its last allowed start runs out
abbrev pub MessageFailsExactlyWhen : Type 0
MessageFailsExactlyWhen = (has : Capabilities) (past : List Call) (c : Call) (s : Content) → is_message s.kind ≡ true →
    ((told has past c).ends ≡ ended_so Failed s → (c ≡ tick) × UnderWay has past s × Exhausted has past s) ×
    (c ≡ tick → UnderWay has past s → Exhausted has past s → (told has past c).ends ≡ ended_so Failed s)

-- 49 Ticks came since it was accepted, so that this is the 50th
pub record TimedOut (has : Capabilities) (past : List Call) (s : Content) : Type 0 where
  pub since : Accepted has past s
  pub passed : ticks since.later ≡ 49

-- a reset fails at the 50th Tick after its acceptance
abbrev pub ResetFailsExactlyWhen : Type 0
ResetFailsExactlyWhen = (has : Capabilities) (past : List Call) (c : Call) (s : Content) → is_message s.kind ≡ false →
    ((told has past c).ends ≡ ended_so Failed s → (c ≡ tick) × UnderWay has past s × TimedOut has past s) ×
    (c ≡ tick → UnderWay has past s → TimedOut has past s → (told has past c).ends ≡ ended_so Failed s)

-- ---- signalled and discarded

-- a reset is signalled by Line Finished
abbrev pub SignalledExactlyWhen : Type 0
SignalledExactlyWhen = (has : Capabilities) (past : List Call) (c : Call) (s : Content) →
    ((told has past c).ends ≡ ended_so Signalled s → (c ≡ line_finished) × UnderWay has past s × (is_message s.kind ≡ false)) ×
    (c ≡ line_finished → UnderWay has past s → is_message s.kind ≡ false → (told has past c).ends ≡ ended_so Signalled s)

-- a Hard Reset is accepted
abbrev pub HardResetAccepted : Capabilities → List Call → Call → Type 0
HardResetAccepted has past c = (x : Content) × ((told has past c).accepts ≡ x ∷ []) × (is_hard_reset x.kind ≡ true)

-- a Hard Reset is heard
abbrev pub HardResetHeard : Capabilities → List Call → Call → Type 0
HardResetHeard has past c = (c ≡ reset_heard) × (verdict has past c ≡ Some taken)

-- a frame is acknowledged
abbrev pub FrameAcknowledged : Capabilities → List Call → Call → Type 0
FrameAcknowledged has past c = (x : Content) × ((told has past c).acks ≡ x ∷ [])

-- accepted while ALERT bit 2 or 3 is 1, and no Hard Reset
pub record AcceptedWhileAlerted (has : Capabilities) (past : List Call) (c : Call) (s : Content) : Type 0 where
  pub accepts : (told has past c).accepts ≡ s ∷ []
  pub other : is_hard_reset s.kind ≡ false
  pub alerted : ((after has past).frame_alert || (after has past).reset_alert) ≡ true

-- a sending is discarded in the write that accepts it, or, under way, by a Hard Reset sent or heard or by a frame
abbrev pub Discards : Capabilities → List Call → Call → Content → Type 0
Discards has past c s =
    AcceptedWhileAlerted has past c s
    ⊎ (UnderWay has past s × (HardResetAccepted has past c ⊎ (HardResetHeard has past c ⊎ FrameAcknowledged has past c)))

abbrev pub DiscardedExactlyWhen : Type 0
DiscardedExactlyWhen = (has : Capabilities) (past : List Call) (c : Call) (s : Content) →
    ((told has past c).ends ≡ ended_so Discarded s → Discards has past c s) × (Discards has past c s → (told has past c).ends ≡ ended_so Discarded s)

-- ---- starts

-- the starts of the sending under way
abbrev pub starts_of : Under → ℕ
starts_of none = 0
starts_of (starting s retries starts left) = starts
starts_of (waiting s retries starts left) = starts
starts_of (signalling s left) = 1

-- a start that has not run out over these calls: no Line Finished taken and fewer than 20 Ticks
pub record RunningStart (has : Capabilities) (run before : List Call) : Type 0 where
  pub unfinished : Unfinished has run before
  pub soon : ticks run < 20

-- or fewer than ten since the Line Finished that was taken
pub record RunningWait (has : Capabilities) (run before : List Call) : Type 0 where
  pub late : List Call
  pub early : List Call
  pub is : run ≡ late ++ (line_finished ∷ early)
  pub unfinished : Unfinished has early before
  pub soon_finished : ticks early < 20
  pub finished : verdict has (early ++ before) line_finished ≡ Some taken
  pub soon : ticks late < 10

-- since the acceptance so many starts have run out, and the present one has not
pub record Restarted (has : Capabilities) (past : List Call) (s : Content) (k : ℕ) : Type 0 where
  pub since : Accepted has past s
  pub run : List Call
  pub earlier : List Call
  pub splits : since.later ≡ run ++ earlier
  pub ran_out : RunOut has k earlier (since.by ∷ since.before)
  pub running : RunningStart has run (earlier ++ (since.by ∷ since.before)) ⊎ RunningWait has run (earlier ++ (since.by ∷ since.before))

-- a message under way has one start and one more for each that ran out; a reset has one
abbrev pub StartsAreCounted : Type 0
StartsAreCounted = (has : Capabilities) (past : List Call) (s : Content) → UnderWay has past s → is_message s.kind ≡ true →
    (k : ℕ) × (starts_of (after has past).under ≡ 1 + k) × Restarted has past s k
