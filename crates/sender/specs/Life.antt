-- The life of a sending: what becomes of it by a Tick, by Line Finished and by a GoodCRC. Assumes nothing.
use Rattle.std.specs.Prelude.{ℕ, ◌-◌, Bool, false, cond, ◌&&◌, Some, None, Option, ◌==◌, nat_lt}
use Rattle.pd.specs.Headers.{message_id}
use Rattle.pd.specs.Kinds.{number_of}
use Rattle.pd.specs.Messages.{Content, header}
use Rattle.pd.specs.declared.kind.Kind.{Kind}
use Rattle.sender.specs.Sendings.{Sending, Under, none, starting, waiting, signalling, with_under}
use Rattle.sender.specs.Spans.{start_span, wait_span}
use Rattle.sender.specs.declared.sender.End.TheVariants.{Succeeded, Failed, Signalled}
use Rattle.sender.specs.declared.sender.life.Course.{Course}
use Rattle.sender.specs.declared.sender.life.Course.TheVariants.{GoesOn, StartsAgain, Ended}
use Rattle.sender.specs.declared.sender.life.Event.{Event}
use Rattle.sender.specs.declared.sender.life.Event.TheVariants.{Tick, LineFinished, GoodCrc}

-- a GoodCRC of this kind and MessageID is that of a message
abbrev pub acknowledges : Kind → ℕ → Content → Bool
acknowledges k id c = number_of k == number_of c.kind && id == message_id (header c.bytes)

-- a message in its wait waits for this GoodCRC
abbrev pub awaits : Under → Kind → ℕ → Bool
awaits none k id = false
awaits (starting c retries left) k id = false
awaits (waiting c retries left) k id = acknowledges k id c
awaits (signalling c left) k id = false

-- a Tick of a message's span: of its last, the message is started again while retries are left
abbrev pub tick_of_message : ℕ → ℕ → Course
tick_of_message retries left = cond (nat_lt 1 left) GoesOn (cond (retries == 0) (Ended Failed) StartsAgain)

-- what becomes of a sending by a Tick
abbrev pub by_tick : Under → Option Course
by_tick none = None
by_tick (starting c retries left) = Some (tick_of_message retries left)
by_tick (waiting c retries left) = Some (tick_of_message retries left)
by_tick (signalling c left) = Some (cond (nat_lt 1 left) GoesOn (Ended Failed))

-- by Line Finished: a start goes over into the wait, a reset is signalled
abbrev pub by_line_finished : Under → Option Course
by_line_finished none = None
by_line_finished (starting c retries left) = Some GoesOn
by_line_finished (waiting c retries left) = None
by_line_finished (signalling c left) = Some (Ended Signalled)

-- by any event; nothing where it concerns none
abbrev pub course : Under → Event → Option Course
course under Tick = by_tick under
course under LineFinished = by_line_finished under
course under (GoodCrc k id) = cond (awaits under k id) (Some (Ended Succeeded)) None

-- one Tick less of the span
abbrev pub a_tick_later : Under → Under
a_tick_later none = none
a_tick_later (starting c retries left) = starting c retries (left - 1)
a_tick_later (waiting c retries left) = waiting c retries (left - 1)
a_tick_later (signalling c left) = signalling c (left - 1)

-- a new start, with a retry less
abbrev pub started_again : Under → Under
started_again none = none
started_again (starting c retries left) = starting c (retries - 1) start_span
started_again (waiting c retries left) = starting c (retries - 1) start_span
started_again (signalling c left) = signalling c left

-- the wait for a GoodCRC
abbrev pub waiting_now : Under → Under
waiting_now none = none
waiting_now (starting c retries left) = waiting c retries wait_span
waiting_now (waiting c retries left) = waiting c retries left
waiting_now (signalling c left) = signalling c left

-- a sending that goes on is a Tick further, or in its wait
abbrev pub gone_on : Event → Under → Under
gone_on Tick under = a_tick_later under
gone_on LineFinished under = waiting_now under
gone_on (GoodCrc k id) under = under

-- what is under way after that
abbrev pub under_after : Option Course → Event → Under → Under
under_after None e under = under
under_after (Some GoesOn) e under = gone_on e under
under_after (Some StartsAgain) e under = started_again under
under_after (Some (Ended end)) e under = none

-- what a sender holds after an event, and what became of the sending
pub record Happening : Type 0 where
  pub after : Sending
  pub course : Option Course

-- this is under way now, by that course; the buffer is kept
abbrev pub moved : Under → Option Course → Sending → Happening
moved under k s = record { after = with_under under s; course = k }

abbrev pub happening : Event → Sending → Happening
happening e s = moved (under_after (course s.under e) e s.under) (course s.under e) s
