-- What a receiver holds, and how each call alters it. Assumes nothing.
use Rattle.std.specs.Prelude.{ℕ, Bool, false, not, List, [], length, drop, ◌==◌}
use Rattle.pd.specs.Messages.{Content}
use Rattle.receiver.specs.Waiting.{queued, has_room, with_last}
use Rattle.receiver.specs.declared.receiver.Receiver.{Receiver}

-- RECEIVE_DETECT, MESSAGE_HEADER_INFO, whether RxOneMore is armed, and the frames that wait, oldest first
pub record Receiving : Type 0 where
  pub detect : ℕ
  pub info : ℕ
  pub armed : Bool
  pub frames : List Content

abbrev pub receiving : Receiver → Receiving
receiving r = record { detect = r.detect; info = r.info; armed = r.armed; frames = queued r.frames }

-- nothing is detected, disarmed, and no frame waits
abbrev pub at_power_on : Receiving
at_power_on = record { detect = 0x00; info = 0x02; armed = false; frames = [] }

-- each part anew, the others kept
abbrev pub with_detect : ℕ → Receiving → Receiving
with_detect value r = record r { detect = value }

abbrev pub with_info : ℕ → Receiving → Receiving
with_info value r = record r { info = value }

abbrev pub with_armed : Bool → Receiving → Receiving
with_armed armed r = record r { armed = armed }

abbrev pub with_frames : List Content → Receiving → Receiving
with_frames frames r = record r { frames = frames }

-- whether a frame waits
abbrev pub is_waiting : Receiving → Bool
is_waiting r = not (length r.frames == 0)

-- the oldest frame goes, if any
abbrev pub released : Receiving → Receiving
released r = with_frames (drop 1 r.frames) r

-- a Hard Reset: no frame is kept or detected, and RxOneMore is disarmed
abbrev pub after_hard_reset : Receiving → Receiving
after_hard_reset r = record r { detect = 0x00; armed = false; frames = [] }

-- what a receiver holds after it was given a frame, and whether the frame waits
pub record Keeping : Type 0 where
  pub after : Receiving
  pub waits : Bool

-- the frame waits last, if there is room for it
abbrev pub keeping : Content → Receiving → Keeping
keeping frame r = record { after = with_frames (with_last frame r.frames) r; waits = has_room r.frames }
