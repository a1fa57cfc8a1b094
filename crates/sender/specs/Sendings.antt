-- What a sender holds, and how each call alters it. Assumes nothing.
use Rattle.std.specs.Prelude.{ℕ, Bool, true, false, cond, List, [], Some, None, Option}
use Rattle.pd.specs.Held.{held}
use Rattle.pd.specs.Kinds.{number_of, is_hard_reset}
use Rattle.pd.specs.Messages.{Content, content}
use Rattle.sender.specs.declared.sender.End.{End}
use Rattle.sender.specs.declared.sender.End.TheVariants.{Discarded}
use Rattle.sender.specs.declared.sender.Sender.{Sender}
use Rattle.sender.specs.declared.sender.State.{State}
use Rattle.sender.specs.declared.sender.State.TheVariants.{Idle, Starting, Waiting, Signalling}

-- what is under way: nothing; a message in a start or in its wait, with its retries and Ticks left; a reset with its Ticks left
pub data Under : Type 0 where
  none : Under
  starting waiting : Content → ℕ → ℕ → Under
  signalling : Content → ℕ → Under

abbrev pub under_of : State → Under
under_of Idle = none
under_of (Starting m retries left) = starting (content m) retries left
under_of (Waiting m retries left) = waiting (content m) retries left
under_of (Signalling m left) = signalling (content m) left

-- the transmit buffer, and what is under way
pub record Sending : Type 0 where
  pub buffer : List ℕ
  pub under : Under

abbrev pub sending_of : Sender → Sending
sending_of s = record { buffer = held s.buffer; under = under_of s.under }

-- an empty buffer, and nothing under way
abbrev pub at_power_on : Sending
at_power_on = record { buffer = []; under = none }

-- each part anew, the other kept
abbrev pub with_buffer : List ℕ → Sending → Sending
with_buffer bytes s = record s { buffer = bytes }

abbrev pub with_under : Under → Sending → Sending
with_under under s = record s { under = under }

abbrev pub is_under_way : Under → Bool
is_under_way none = false
is_under_way (starting c retries left) = true
is_under_way (waiting c retries left) = true
is_under_way (signalling c left) = true

-- a Hard Reset or a Cable Reset is being signalled
abbrev pub reset_under_way : Under → Bool
reset_under_way none = false
reset_under_way (starting c retries left) = false
reset_under_way (waiting c retries left) = false
reset_under_way (signalling c left) = true

-- a Hard Reset is being signalled
abbrev pub hard_reset_under_way : Under → Bool
hard_reset_under_way none = false
hard_reset_under_way (starting c retries left) = false
hard_reset_under_way (waiting c retries left) = false
hard_reset_under_way (signalling c left) = is_hard_reset (number_of c.kind)

-- what a sender holds after a sending was ended from outside, and how it ended
pub record Discarding : Type 0 where
  pub after : Sending
  pub ended : Option End

abbrev pub discarding : Sending → Discarding
discarding s = record { after = with_under none s; ended = cond (is_under_way s.under) (Some Discarded) None }
