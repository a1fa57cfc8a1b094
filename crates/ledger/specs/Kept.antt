-- What the ledger keeps. Assumes nothing.
use Rattle.std.specs.Prelude.{ℕ, Bool, false, List, []}
use Rattle.front_end.specs.declared.parts.Path.{Path}
use Rattle.front_end.specs.declared.parts.Path.TheVariants as path
use Rattle.pd.specs.Messages.{Content}

-- the sending under way: a message in a start or in its ten Ticks, with its retries left, its starts and the Ticks left of
-- its span; or a reset being signalled, with the Ticks left
pub data Under : Type 0 where
  none : Under
  starting waiting : Content → ℕ → ℕ → ℕ → Under
  signalling : Content → ℕ → Under

-- RECEIVE_DETECT, MESSAGE_HEADER_INFO, RxOneMore, ALERT bits 2 and 3, transmit buffer, path, the waiting frames, oldest
-- first, and the sending under way
pub record Ledger : Type 0 where
  pub detect : ℕ
  pub info : ℕ
  pub armed : Bool
  pub frame_alert : Bool
  pub reset_alert : Bool
  pub buffer : List ℕ
  pub path : Path
  pub frames : List Content
  pub under : Under

abbrev pub power_on : Ledger
power_on = record {
  detect = 0x00;
  info = 0x02;
  armed = false;
  frame_alert = false;
  reset_alert = false;
  buffer = [];
  path = path.Off;
  frames = [];
  under = none;
}

-- one thing anew, the others kept
abbrev pub with_detect : ℕ → Ledger → Ledger
with_detect x l = record l { detect = x }

abbrev pub with_info : ℕ → Ledger → Ledger
with_info x l = record l { info = x }

abbrev pub with_armed : Bool → Ledger → Ledger
with_armed x l = record l { armed = x }

abbrev pub with_frame_alert : Bool → Ledger → Ledger
with_frame_alert x l = record l { frame_alert = x }

abbrev pub with_reset_alert : Bool → Ledger → Ledger
with_reset_alert x l = record l { reset_alert = x }

abbrev pub with_buffer : List ℕ → Ledger → Ledger
with_buffer x l = record l { buffer = x }

abbrev pub with_path : Path → Ledger → Ledger
with_path x l = record l { path = x }

abbrev pub with_frames : List Content → Ledger → Ledger
with_frames x l = record l { frames = x }

abbrev pub with_under : Under → Ledger → Ledger
with_under x l = record l { under = x }
