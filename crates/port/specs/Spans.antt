-- What Line Finished and a Tick do. Assumes nothing.
use Rattle.std.specs.Prelude.{ℕ, Some, None, Option, bit_or}
use Rattle.front_end.specs.Meaning.{Carried, idle, again_line, with_line}
use Rattle.registers.specs.File.{with_alert}
use Rattle.sender.specs.Life.{course, under_after}
use Rattle.sender.specs.Sendings.{with_under}
use Rattle.sender.specs.declared.sender.life.Course.{Course}
use Rattle.sender.specs.declared.sender.life.Course.TheVariants.{GoesOn, StartsAgain, Ended}
use Rattle.sender.specs.declared.sender.life.Event.{Event}
use Rattle.sender.specs.declared.sender.life.Event.TheVariants.{Tick, LineFinished}
use Rattle.sender.specs.declared.sender.End.{End}
use Rattle.sender.specs.declared.sender.End.TheVariants.{Succeeded, Failed, Discarded, Signalled}
use Rattle.transfer.specs.declared.refusal.Refusal.{Refusal}
use Rattle.transfer.specs.declared.refusal.Refusal.TheVariants.{NotOnTheLine}
use Rattle.port.specs.Outcomes.{Outcome, outcome, taken_with}
use Rattle.port.specs.View.{View}
use Rattle.port.specs.declared.answer.Answer.{Answer}

-- the ALERT bits of an end: 4 failed, 5 discarded, 6 succeeded, 6 and 4 signalled
abbrev pub end_bits : End → ℕ
end_bits Succeeded = 0x0040
end_bits Failed = 0x0010
end_bits Discarded = 0x0020
end_bits Signalled = 0x0050

-- how a course ends, if it does
abbrev pub end_of : Option Course → Option End
end_of None = None
end_of (Some GoesOn) = None
end_of (Some StartsAgain) = None
end_of (Some (Ended e)) = Some e

abbrev pub alert_with : Option End → ℕ → ℕ
alert_with None alert = alert
alert_with (Some e) alert = bit_or alert (end_bits e)

-- the line: one start more, or idle after an end
abbrev pub line_by : Option Course → Carried → Carried
line_by None line = line
line_by (Some GoesOn) line = line
line_by (Some StartsAgain) line = again_line line
line_by (Some (Ended e)) line = idle

-- all that a port holds after an event of its sending
abbrev pub after_event : Event → Option Course → View → View
after_event e k v = record v {
  registers = with_alert (alert_with (end_of k) v.registers.alert) v.registers;
  sending = with_under (under_after k e v.sending.under) v.sending;
  meaning = with_line (line_by k v.meaning.line) v.meaning;
}

-- Line Finished is refused where it concerns nothing
abbrev pub finish_refusal : Option Course → Option Refusal
finish_refusal None = Some NotOnTheLine
finish_refusal (Some k) = None

unfoldable pub finish_outcome : View → Outcome Answer
finish_outcome v =
    let k = course v.sending.under LineFinished in
    outcome (finish_refusal k) (after_event LineFinished k v) (taken_with (end_of k)) v

-- a Tick is always taken
unfoldable pub tick_outcome : View → Outcome Answer
tick_outcome v =
    let k = course v.sending.under Tick in
    outcome None (after_event Tick k v) (taken_with (end_of k)) v
