-- What a frame that arrives, and a Hard Reset that is heard, do. Assumes nothing.
use Rattle.std.specs.Prelude.{ℕ, ◌/◌, ◌%◌, ◌^◌, Bool, true, false, cond, not, ◌&&◌, List, [], ◌∷◌, ◌++◌, Some, None, Option, ◌==◌, bit_or}
use Rattle.front_end.specs.Meaning.{Carried, idle, with_line}
use Rattle.pd.specs.Headers.{message_id, is_good_crc, good_crc}
use Rattle.pd.specs.Kinds.{number_of}
use Rattle.pd.specs.Messages.{Content, header, arrived}
use Rattle.pd.specs.declared.header.Header.{Header}
use Rattle.receiver.specs.Receiving.{Receiving, after_hard_reset}
use Rattle.receiver.specs.Waiting.{has_room}
use Rattle.registers.specs.Bits.{set_if, word_without}
use Rattle.registers.specs.File.{with_alert}
use Rattle.sender.specs.Life.{awaits}
use Rattle.sender.specs.Sendings.{Under, none, is_under_way, reset_under_way, hard_reset_under_way, discarding, with_under}
use Rattle.sender.specs.declared.sender.End.TheVariants.{Succeeded}
use Rattle.transfer.specs.declared.refusal.Refusal.TheVariants.{OutOfRange}
use Rattle.port.specs.Outcomes.{Outcome, outcome, taken_with}
use Rattle.port.specs.View.{View}
use Rattle.port.specs.declared.answer.Answer.{Answer}
use Rattle.port.specs.declared.answer.Disposition.TheVariants.{Taken, Ignored}

-- a bit of RECEIVE_DETECT
abbrev pub detects_bit : ℕ → ℕ → Bool
detects_bit n detect = detect / 2 ^ n % 2 == 1

-- a frame is enabled if the RECEIVE_DETECT bit with the number of its type is 1
abbrev pub enabled : ℕ → Content → Bool
enabled detect c = detects_bit (number_of c.kind) detect

-- how a frame in range is judged: it is the GoodCRC that a message waits for; it is Ignored; it is Ignored for want of room; it waits
pub data Judged : Type 0 where
  wins passes overflows waits : Judged

-- the first test that applies decides: GoodCRC, enabled, no reset being signalled, room
abbrev pub judged : View → Content → Judged
judged v c =
    cond (is_good_crc (header c.bytes))
    (cond (awaits v.sending.under c.kind (message_id (header c.bytes))) wins passes)
    (cond (not (enabled v.receiving.detect c)) passes
    (cond (reset_under_way v.sending.under) passes
    (cond (has_room v.receiving.frames) waits overflows)))

-- the sending under way is over: it succeeded by its GoodCRC, or is discarded by a frame that waits
abbrev pub ends_sending : Judged → Under → Bool
ends_sending wins under = true
ends_sending passes under = false
ends_sending overflows under = false
ends_sending waits under = is_under_way under

-- ALERT: bit 6 by success, bit 10 for want of room, bit 2 for a frame that waits, bit 5 for the message that it discards
abbrev pub alert_by : Judged → Under → ℕ → ℕ
alert_by wins under alert = bit_or alert 0x0040
alert_by passes under alert = alert
alert_by overflows under alert = bit_or alert 0x0400
alert_by waits under alert = set_if (is_under_way under) 0x0020 (bit_or alert 0x0004)

-- reception: a frame that waits is the newest; RxOneMore, if armed, clears RECEIVE_DETECT and is disarmed
abbrev pub receiving_by : Judged → Content → Receiving → Receiving
receiving_by wins c r = r
receiving_by passes c r = r
receiving_by overflows c r = r
receiving_by waits c r = record r { detect = cond r.armed 0x00 r.detect; armed = false; frames = r.frames ++ (c ∷ []) }

-- a sending that is over, and an idle line after it
abbrev pub under_if : Bool → Under → Under
under_if over under = cond over none under

abbrev pub line_if : Bool → Carried → Carried
line_if over line = cond over idle line

-- all that a port holds after a frame so judged
abbrev pub after_frame : Judged → Content → View → View
after_frame j c v = record {
  registers = with_alert (alert_by j v.sending.under v.registers.alert) v.registers;
  receiving = receiving_by j c v.receiving;
  sending = with_under (under_if (ends_sending j v.sending.under) v.sending.under) v.sending;
  meaning = with_line (line_if (ends_sending j v.sending.under) v.meaning.line) v.meaning;
}

-- nothing told, and nothing altered but where a rule says so
abbrev pub ignored : Answer
ignored = record { disposition = Ignored; ended = None; good_crc = None }

-- the two bytes of a GoodCRC
abbrev pub bytes_of : Header → Option (ℕ × ℕ)
bytes_of h = Some (h.low, h.high)

-- what is answered to a frame so judged; a frame that waits is acknowledged by MESSAGE_HEADER_INFO as it is
abbrev pub frame_answer : Judged → Content → View → Answer
frame_answer wins c v = taken_with (Some Succeeded)
frame_answer passes c v = ignored
frame_answer overflows c v = ignored
frame_answer waits c v = record {
  disposition = Taken;
  ended = (discarding v.sending).ended;
  good_crc = bytes_of (good_crc v.receiving.info c.kind (header c.bytes));
}

-- a frame, refused if it is not in range
abbrev pub heard_frame : Option Content → View → Outcome Answer
heard_frame None v = outcome (Some OutOfRange) v ignored v
heard_frame (Some c) v = outcome None (after_frame (judged v c) c v) (frame_answer (judged v c) c v) v

unfoldable pub frame_outcome : View → ℕ → List ℕ → Outcome Answer
frame_outcome v number bytes = heard_frame (arrived number bytes) v

-- a Hard Reset is heard if RECEIVE_DETECT bit 5 is 1 and none is being signalled
abbrev pub hears_reset : View → Bool
hears_reset v = detects_bit 5 v.receiving.detect && not (hard_reset_under_way v.sending.under)

-- what is under way is discarded, reception is reset, ALERT bit 2 falls and bit 3 rises
abbrev pub after_reset_heard : View → View
after_reset_heard v = record {
  registers = with_alert (set_if (is_under_way v.sending.under) 0x0020 (bit_or (word_without 0x0004 v.registers.alert) 0x0008)) v.registers;
  receiving = after_hard_reset v.receiving;
  sending = (discarding v.sending).after;
  meaning = with_line (line_if (is_under_way v.sending.under) v.meaning.line) v.meaning;
}

unfoldable pub reset_outcome : View → Outcome Answer
reset_outcome v =
    cond (hears_reset v) (outcome None (after_reset_heard v) (taken_with (discarding v.sending).ended) v) (outcome None v ignored v)
