-- The ledger of one port: what it says of each call, and how the call alters it. Fed the calls alone; knows the capabilities. Assumes nothing.
use Rattle.std.specs.Prelude.{ℕ, ◌+◌, ◌-◌, ◌/◌, ◌%◌, ◌^◌, Bool, true, false, cond, not, ◌&&◌, ◌||◌, List, [], ◌∷◌, ◌++◌, length, take, drop, Some, None, Option, ◌==◌, nat_eq, nat_le, nat_lt, slice_index}
use Rattle.front_end.specs.declared.parts.Capabilities.{Capabilities}
use Rattle.front_end.specs.declared.parts.Path.{Path}
use Rattle.front_end.specs.declared.parts.Path.TheVariants as path
use Rattle.pd.specs.Headers.{message_id, is_good_crc, good_crc}
use Rattle.pd.specs.Kinds.{number_of, kind_at}
use Rattle.pd.specs.Messages.{Content, header, arrived}
use Rattle.pd.specs.declared.header.Header.{Header}
use Rattle.pd.specs.declared.kind.Kind.{Kind}
use Rattle.sender.specs.declared.sender.End.{End}
use Rattle.sender.specs.declared.sender.End.TheVariants.{Succeeded, Failed, Discarded, Signalled}
use Rattle.ledger.specs.Calls.{Call, wrote, read, levels, vbus, fault, frame, reset_heard, line_finished, tick}
use Rattle.ledger.specs.Kept.{Ledger, Under, none, starting, waiting, signalling, with_detect, with_info, with_armed, with_frame_alert, with_reset_alert, with_buffer, with_path, with_frames, with_under}

-- ---- what it says of a call

pub data Verdict : Type 0 where
  taken ignored : Verdict
  refused : ℕ → Verdict

-- what becomes of an acknowledged frame
pub data Fate : Type 0 where
  released dropped : Fate

-- a frame that is gone, with its fate
pub record Gone : Type 0 where
  pub fate : Fate
  pub frame : Content

-- a sending that ended, with its end
pub record Ended : Type 0 where
  pub end : End
  pub sending : Content

-- the sendings accepted and ended in a call, the frames acknowledged and gone in it, and the GoodCRC given
pub record Told : Type 0 where
  pub accepts : List Content
  pub ends : List Ended
  pub acks : List Content
  pub gives : Option Header
  pub goes : List Gone

-- a verdict where it gives one, what it tells, and the ledger after the call
pub record Entry : Type 0 where
  pub verdict : Option Verdict
  pub told : Told
  pub next : Ledger

abbrev pub nothing : Told
nothing = record { accepts = []; ends = []; acks = []; gives = None; goes = [] }

-- ---- forms of entries

-- no verdict, and nothing altered
abbrev pub silent : Ledger → Entry
silent l = record { verdict = None; told = nothing; next = l }

-- a verdict, and nothing altered
abbrev pub stays : Verdict → Ledger → Entry
stays v l = record { verdict = Some v; told = nothing; next = l }

-- taken, and nothing told
abbrev pub becomes : Ledger → Entry
becomes l = record { verdict = Some taken; told = nothing; next = l }

-- a refusal's number, and when it is given
pub record Row : Type 0 where
  pub number : ℕ
  pub holds : Bool

infixl 20 ◌when◌
abbrev pub ◌when◌ : ℕ → Bool → Row
n when b = record { number = n; holds = b }

-- refused by the first row that holds, and else this
abbrev pub judged : List Row → Entry → Ledger → Entry
judged [] e l = e
judged (r ∷ rs) e l = cond r.holds (stays (refused r.number) l) (judged rs e l)

-- the sending under way, if any
abbrev pub carried : Under → List Content
carried none = []
carried (starting s retries starts left) = s ∷ []
carried (waiting s retries starts left) = s ∷ []
carried (signalling s left) = s ∷ []

abbrev pub ended_as : End → List Content → List Ended
ended_as e [] = []
ended_as e (s ∷ ss) = record { end = e; sending = s } ∷ ended_as e ss

abbrev pub gone_as : Fate → List Content → List Gone
gone_as f [] = []
gone_as f (x ∷ xs) = record { fate = f; frame = x } ∷ gone_as f xs

-- the sending under way ends so
abbrev pub ends_as : End → Ledger → Entry
ends_as e l = record {
  verdict = Some taken;
  told = record nothing { ends = ended_as e (carried l.under) };
  next = with_under none l;
}

-- ---- what is asked of a ledger

abbrev pub has_bit : ℕ → ℕ → Bool
has_bit n v = v / 2 ^ n % 2 == 1

abbrev pub sinking : Path → Bool
sinking path.Off = false
sinking path.Sink = true
sinking path.DefaultSource = false
sinking path.NondefaultSource = false

abbrev pub sourcing : Path → Bool
sourcing path.Off = false
sourcing path.Sink = false
sourcing path.DefaultSource = true
sourcing path.NondefaultSource = true

-- types 0 to 4 are messages, type 5 is the Hard Reset
abbrev pub is_message : Kind → Bool
is_message k = nat_le (number_of k) 4

abbrev pub is_hard_reset : Kind → Bool
is_hard_reset k = number_of k == 5

abbrev pub busy : Under → Bool
busy none = false
busy (starting s retries starts left) = true
busy (waiting s retries starts left) = true
busy (signalling s left) = true

-- a reset is being signalled
abbrev pub resetting : Under → Bool
resetting none = false
resetting (starting s retries starts left) = false
resetting (waiting s retries starts left) = false
resetting (signalling s left) = true

abbrev pub hard_resetting : Under → Bool
hard_resetting none = false
hard_resetting (starting s retries starts left) = false
hard_resetting (waiting s retries starts left) = false
hard_resetting (signalling s left) = is_hard_reset s.kind

-- ---- the rules of sendings

-- the most frames that wait
abbrev pub most_waiting : ℕ
most_waiting = 2

-- a Hard Reset, sent or heard: no frame waits, ALERT bit 2 is 0, nothing is detected, RxOneMore is disarmed
abbrev pub reset : Ledger → Ledger
reset l = with_frames [] (with_frame_alert false (with_detect 0x00 (with_armed false l)))

-- what is accepted: a message has the buffered bytes, a reset none
abbrev pub sent : Kind → Ledger → Content
sent k l = record { kind = k; bytes = cond (is_message k) l.buffer [] }

-- a message empties the transmit buffer
abbrev pub after_sent : Kind → Ledger → Ledger
after_sent k l = with_buffer (cond (is_message k) [] l.buffer) l

-- a message has 20 Ticks in its first start, a reset 50 to be signalled
abbrev pub begun : Content → ℕ → Under
begun s retries = cond (is_message s.kind) (starting s retries 1 20) (signalling s 50)

-- a Hard Reset discards what is under way and drops the waiting frames
abbrev pub accepts_hard_reset : Kind → Ledger → Entry
accepts_hard_reset k l = record {
  verdict = Some taken;
  told = record nothing { accepts = sent k l ∷ []; ends = ended_as Discarded (carried l.under); goes = gone_as dropped l.frames };
  next = with_under (signalling (sent k l) 50) (reset l);
}

-- another sending is discarded at once
abbrev pub accepts_and_discards : Kind → Ledger → Entry
accepts_and_discards k l = record {
  verdict = Some taken;
  told = record nothing { accepts = sent k l ∷ []; ends = ended_as Discarded (sent k l ∷ []) };
  next = after_sent k l;
}

-- or it is under way
abbrev pub accepts_and_begins : Kind → ℕ → Ledger → Entry
accepts_and_begins k retries l = record {
  verdict = Some taken;
  told = record nothing { accepts = sent k l ∷ [] };
  next = with_under (begun (sent k l) retries) (after_sent k l);
}

-- a sending is accepted; other than a Hard Reset it is discarded while ALERT bit 2 or 3 is 1
abbrev pub accepts : Kind → ℕ → Ledger → Entry
accepts k retries l =
    cond (is_hard_reset k) (accepts_hard_reset k l)
    (cond (l.frame_alert || l.reset_alert) (accepts_and_discards k l) (accepts_and_begins k retries l))

-- a Hard Reset waits for another, the other types for any sending
abbrev pub waits_for : Kind → Under → Bool
waits_for k u = cond (is_hard_reset k) (hard_resetting u) (busy u)

abbrev pub transmits : Option Kind → ℕ → Ledger → Entry
transmits None retries l = stays (refused 8) l
transmits (Some k) retries l =
    judged ((11 when is_message k && nat_lt (length l.buffer) 2) ∷ (12 when waits_for k l.under) ∷ []) (accepts k retries l) l

-- ---- the rules of writes

abbrev pub first : List ℕ → ℕ
first t = slice_index t 0

abbrev pub second : List ℕ → ℕ
second t = slice_index t 1 % 256

-- ones written to ALERT: bit 3 falls by its one; a one in bit 2 releases the oldest frame, and bit 2 stands while another waits
abbrev pub cleared : ℕ → Ledger → Entry
cleared ones l = record {
  verdict = Some taken;
  told = record nothing { goes = cond (has_bit 2 ones) (gone_as released (take 1 l.frames)) [] };
  next = with_reset_alert (l.reset_alert && not (has_bit 3 ones))
      (cond (has_bit 2 ones) (with_frame_alert (nat_lt 1 (length l.frames)) (with_frames (drop 1 l.frames) l)) l);
}

abbrev pub write_alert : List ℕ → Ledger → Entry
write_alert t l = judged ((4 when not (length t == 3)) ∷ []) (cleared (second t) l) l

abbrev pub write_info : List ℕ → Ledger → Entry
write_info t l = judged ((4 when not (length t == 2)) ∷ []) (becomes (with_info (second t % 32) l)) l

abbrev pub write_detect : List ℕ → Ledger → Entry
write_detect t l = judged ((4 when not (length t == 2)) ∷ []) (becomes (with_detect (second t % 64) l)) l

abbrev pub write_transmit : List ℕ → Ledger → Entry
write_transmit t l = judged ((4 when not (length t == 2)) ∷ []) (transmits (kind_at (second t % 8)) (second t / 16 % 4) l) l

abbrev pub write_buffer : List ℕ → Ledger → Entry
write_buffer t l =
    judged
    ((4 when nat_eq (length t) 1) ∷
    (5 when not (slice_index t 1 == length t - 2)) ∷
    (6 when nat_lt 30 (length l.buffer + (length t - 2))) ∷ [])
    (becomes (with_buffer (l.buffer ++ drop 2 t) l)) l

abbrev pub command : Capabilities → ℕ → Ledger → Entry
command has v l =
    cond (v == 0x44) (becomes (with_path (cond (sinking l.path) path.Off l.path) l))
    (cond (v == 0x55) (judged ((9 when not has.sink) ∷ (10 when sourcing l.path) ∷ []) (becomes (with_path path.Sink l)) l)
    (cond (v == 0x66) (becomes (with_path (cond (sourcing l.path) path.Off l.path) l))
    (cond (v == 0x77) (judged ((9 when not has.default_source) ∷ (10 when sinking l.path) ∷ []) (becomes (with_path path.DefaultSource l)) l)
    (cond (v == 0x88) (judged ((9 when not has.nondefault_source) ∷ (10 when not (sourcing l.path)) ∷ []) (becomes (with_path path.NondefaultSource l)) l)
    (cond (v == 0xAA) (becomes (with_armed true l))
    (cond (v == 0xDD) (becomes (with_buffer [] l)) (silent l)))))))

-- a write, by its first byte; COMMAND only where the transfer has two bytes
abbrev pub writes : Capabilities → List ℕ → Ledger → Entry
writes has t l =
    cond (first t == 0x10) (write_alert t l)
    (cond (first t == 0x23) (cond (length t == 2) (command has (second t) l) (silent l))
    (cond (first t == 0x2E) (write_info t l)
    (cond (first t == 0x2F) (write_detect t l)
    (cond (first t == 0x50) (write_transmit t l)
    (cond (first t == 0x51) (write_buffer t l) (silent l))))))

-- ---- the rules of frames

-- a GoodCRC of a message's type and MessageID
abbrev pub matches : Content → Content → Bool
matches c s = number_of c.kind == number_of s.kind && message_id (header c.bytes) == message_id (header s.bytes)

abbrev pub good_crc_heard : Content → Under → Ledger → Entry
good_crc_heard c none l = stays ignored l
good_crc_heard c (starting s retries starts left) l = stays ignored l
good_crc_heard c (waiting s retries starts left) l = cond (matches c s) (ends_as Succeeded l) (stays ignored l)
good_crc_heard c (signalling s left) l = stays ignored l

-- an acknowledged frame waits, newest last, and discards a message under way; RxOneMore, if armed, is spent
abbrev pub acknowledges : Content → Ledger → Entry
acknowledges c l = record {
  verdict = Some taken;
  told = record nothing { ends = ended_as Discarded (carried l.under); acks = c ∷ []; gives = Some (good_crc l.info c.kind (header c.bytes)) };
  next = with_under none (with_frame_alert true (with_frames (l.frames ++ (c ∷ [])) (with_armed false (with_detect (cond l.armed 0x00 l.detect) l))));
}

-- a frame is enabled if the RECEIVE_DETECT bit with the number of its type is 1
abbrev pub enabled : Content → Ledger → Bool
enabled c l = has_bit (number_of c.kind) l.detect

abbrev pub message_heard : Content → Ledger → Entry
message_heard c l =
    cond (not (enabled c l) || resetting l.under || not (nat_lt (length l.frames) most_waiting)) (stays ignored l) (acknowledges c l)

abbrev pub frame_heard : Option Content → Ledger → Entry
frame_heard None l = stays (refused 14) l
frame_heard (Some c) l = cond (is_good_crc (header c.bytes)) (good_crc_heard c l.under l) (message_heard c l)

-- ---- the rules of the other reports and of the Tick

abbrev pub reset_is_heard : Ledger → Entry
reset_is_heard l =
    cond (not (has_bit 5 l.detect) || hard_resetting l.under) (stays ignored l)
    (record {
      verdict = Some taken;
      told = record nothing { ends = ended_as Discarded (carried l.under); goes = gone_as dropped l.frames };
      next = with_under none (with_reset_alert true (reset l));
    })

-- a start goes over into the ten Ticks; a reset is signalled
abbrev pub line_finishes : Under → Ledger → Entry
line_finishes none l = stays (refused 15) l
line_finishes (starting s retries starts left) l = becomes (with_under (waiting s retries starts 10) l)
line_finishes (waiting s retries starts left) l = stays (refused 15) l
line_finishes (signalling s left) l = ends_as Signalled l

abbrev pub faults : ℕ → Ledger → Entry
faults n l =
    judged ((14 when not (n == 1 || n == 2 || n == 3 || n == 6)) ∷ []) (becomes (with_path (cond (n == 1) l.path path.Off) l)) l

-- a span's last Tick: again while retries are left, else failed
abbrev pub runs_out : Content → ℕ → ℕ → Ledger → Entry
runs_out s retries starts l = cond (retries == 0) (ends_as Failed l) (becomes (with_under (starting s (retries - 1) (starts + 1) 20) l))

abbrev pub ticks_on : Under → Ledger → Entry
ticks_on none l = stays taken l
ticks_on (starting s retries starts left) l = cond (nat_lt 1 left) (becomes (with_under (starting s retries starts (left - 1)) l)) (runs_out s retries starts l)
ticks_on (waiting s retries starts left) l = cond (nat_lt 1 left) (becomes (with_under (waiting s retries starts (left - 1)) l)) (runs_out s retries starts l)
ticks_on (signalling s left) l = cond (nat_lt 1 left) (becomes (with_under (signalling s (left - 1)) l)) (ends_as Failed l)

-- ---- any call
abbrev pub enter : Capabilities → Ledger → Call → Entry
enter has l (wrote t) = writes has t l
enter has l (read a wanted room) = silent l
enter has l (levels cc1 cc2) = silent l
enter has l (vbus n) = silent l
enter has l (fault n) = faults n l
enter has l (frame n bytes) = frame_heard (arrived n bytes) l
enter has l reset_heard = reset_is_heard l
enter has l line_finished = line_finishes l.under l
enter has l tick = ticks_on l.under l
