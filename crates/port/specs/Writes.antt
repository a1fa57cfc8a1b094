-- What a write does. Assumes nothing.
use Rattle.std.specs.Prelude.{ℕ, ◌+◌, Bool, true, false, cond, not, ◌&&◌, ◌||◌, List, [], ◌∷◌, ◌++◌, length, drop, Some, None, Option, ◌==◌, bit_or, nat_lt}
use Rattle.front_end.specs.Codes.{terminations_of}
use Rattle.front_end.specs.Meaning.{Carried, started, has_path, has_vconn}
use Rattle.front_end.specs.declared.parts.Capabilities.{Capabilities}
use Rattle.front_end.specs.declared.parts.Path.{Path}
use Rattle.front_end.specs.declared.parts.Vconn.{Vconn}
use Rattle.pd.specs.Lengths.{shortest, longest}
use Rattle.pd.specs.Kinds.{is_message, is_hard_reset}
use Rattle.pd.specs.Messages.{Content}
use Rattle.registers.specs.Alerts.{holds_back}
use Rattle.registers.specs.Bits.{any_of, word_without}
use Rattle.registers.specs.Commands.{commands, among, unmet, switches}
use Rattle.registers.specs.File.{with_alert}
use Rattle.registers.specs.Status.{vconn_of}
use Rattle.registers.specs.Writes.{byte_at, word_at, value, lacking, stored, detecting, effect_of}
use Rattle.registers.specs.declared.command.Effect.{Effect}
use Rattle.registers.specs.declared.command.Effect.TheVariants.{Detect, Switch, Arm, Empty}
use Rattle.registers.specs.declared.file.Registers.{Registers}
use Rattle.registers.specs.declared.front.Front.{Front}
use Rattle.sender.specs.Append.{appending}
use Rattle.sender.specs.Sendings.{Sending, with_buffer}
use Rattle.sender.specs.Transmit.{Transmitting, transmitting, type_of, waits_for}
use Rattle.sender.specs.declared.sender.End.{End}
use Rattle.transfer.specs.Decode.{Asked, byte, word, append, write_rows, written}
use Rattle.transfer.specs.Refusals.{Row, ◌when◌, first_holding}
use Rattle.transfer.specs.declared.refusal.Refusal.TheVariants.{BufferOverrun, UnknownCommand, UnknownType, LacksCapability, NeedNotMet, NothingToSend, SendingUnderWay}
use Rattle.port.specs.Outcomes.{Outcome, outcome, taken_with}
use Rattle.port.specs.View.{View}
use Rattle.port.specs.declared.answer.Answer.{Answer}

-- the front end as the register file is told of it
abbrev pub front_of : Capabilities → View → Front
front_of has v = record { has = has; path = v.meaning.path }

-- bytes for the transmit buffer that it cannot hold
abbrev pub overruns : List ℕ → Asked → Bool
overruns buffer (byte register v stray) = false
overruns buffer (word register v) = false
overruns buffer (append bytes) = nat_lt longest (length buffer + length bytes)

-- when a request is refused that is well transferred
abbrev pub taking_rows : Capabilities → View → Asked → List Row
taking_rows has v w =
    (BufferOverrun when overruns v.sending.buffer w) ∷
    (UnknownCommand when byte_at 0x23 w && not (among (value w) commands)) ∷
    (UnknownType when byte_at 0x50 w && type_of (value w) == 7) ∷
    (LacksCapability when lacking has w) ∷
    (NeedNotMet when byte_at 0x23 w && unmet (value w) v.meaning.path) ∷
    (NothingToSend when byte_at 0x50 w && is_message (type_of (value w)) && nat_lt (length v.sending.buffer) shortest) ∷
    (SendingUnderWay when byte_at 0x50 w && waits_for (type_of (value w)) v.sending.under) ∷ []

-- a Hard Reset is accepted
abbrev pub hard_resets : Asked → Bool
hard_resets w = byte_at 0x50 w && is_hard_reset (type_of (value w))

-- a one is written to ALERT bit 2
abbrev pub releases : Asked → Bool
releases w = word_at 0x10 w && any_of 4 (value w)

-- the bytes appended to the transmit buffer
abbrev pub appended : Asked → Sending → Sending
appended (byte register v stray) s = s
appended (word register v) s = s
appended (append bytes) s = (appending bytes s).after

-- what becomes of buffer and sending under way, what is put on the line, what ended; held back while ALERT bit 2 or 3 is 1
abbrev pub transmission : Asked → Bool → Sending → Transmitting
transmission w held s = cond (byte_at 0x50 w) (transmitting (value w) held s) (record { after = appended w s; started = None; ended = None })

-- the waiting frames: less the oldest if released, none after a Hard Reset
abbrev pub frames_after : Asked → List Content → List Content
frames_after w frames = cond (releases w) (drop 1 frames) (cond (hard_resets w) [] frames)

-- ALERT bit 5 where a sending was discarded
abbrev pub with_discard : Option End → ℕ → ℕ
with_discard None alert = alert
with_discard (Some e) alert = bit_or alert 0x20

-- ALERT, of what stands when its ones written are cleared: bit 2 stands again if a frame still waits, and falls by a Hard Reset
abbrev pub alert_after : Asked → Option End → List Content → ℕ → ℕ
alert_after w ended frames alert =
    with_discard ended (cond (hard_resets w) (word_without 4 alert) (cond (releases w && not (length (drop 1 frames) == 0)) (bit_or alert 4) alert))

-- what is on the line
abbrev pub line_after : Option Content → Carried → Carried
line_after None line = line
line_after (Some c) line = started c

-- RxOneMore: armed by AAh, disarmed by a Hard Reset
abbrev pub arms : Option Effect → Bool → Bool
arms None armed = armed
arms (Some (Detect on)) armed = armed
arms (Some (Switch p)) armed = armed
arms (Some Arm) armed = true
arms (Some Empty) armed = armed

-- the transmit buffer: emptied by DDh
abbrev pub empties : Option Effect → List ℕ → List ℕ
empties None buffer = buffer
empties (Some (Detect on)) buffer = buffer
empties (Some (Switch p)) buffer = buffer
empties (Some Arm) buffer = buffer
empties (Some Empty) buffer = []

-- the path told to the front end; one that it lacks leaves it as it was
abbrev pub told_path : Capabilities → Option Path → Path → Path
told_path has None p = p
told_path has (Some q) p = cond (has_path has q) q p

-- VCONN told to the front end; one that it lacks leaves it as it was
abbrev pub told_vconn : Capabilities → Vconn → Vconn → Vconn
told_vconn has x vconn = cond (has_vconn has x) x vconn

-- the register file after a taken write, but for ALERT bits of frames and sendings
abbrev pub registers_after : View → Asked → Registers
registers_after v w = detecting (effect_of w v.meaning.path) (stored w v.registers)

-- the transmission of a taken write
abbrev pub sent : View → Asked → Transmitting
sent v w =
    transmission w (holds_back v.registers) (with_buffer (empties (effect_of w v.meaning.path) v.sending.buffer) v.sending)

-- all that a port holds after a taken write, each thing by its own rule; ALERT bits 0, 1 and 9 rise after it
abbrev pub after_write : Capabilities → View → Asked → View
after_write has v w = record {
  registers = with_alert (alert_after w (sent v w).ended v.receiving.frames (registers_after v w).alert) (registers_after v w);
  receiving = record {
    detect = cond (byte_at 0x2F w) (value w) (cond (hard_resets w) 0 v.receiving.detect);
    info = cond (byte_at 0x2E w) (value w) v.receiving.info;
    armed = cond (hard_resets w) false (arms (effect_of w v.meaning.path) v.receiving.armed);
    frames = frames_after w v.receiving.frames;
  };
  sending = (sent v w).after;
  meaning = record {
    terminations = cond (byte_at 0x1A w) (terminations_of (registers_after v w).role_control) v.meaning.terminations;
    vconn = cond (byte_at 0x19 w || byte_at 0x1C w) (told_vconn has (vconn_of (registers_after v w)) v.meaning.vconn) v.meaning.vconn;
    path = told_path has (switches (effect_of w v.meaning.path)) v.meaning.path;
    line = line_after (sent v w).started v.meaning.line;
  };
}

-- the whole table of a write's refusals: its form, then its request
abbrev pub write_table : Capabilities → View → List ℕ → List Row
write_table has v t = write_rows t ++ taking_rows has v (written t)

unfoldable pub write_outcome : Capabilities → View → List ℕ → Outcome Answer
write_outcome has v t = outcome (first_holding (write_table has v t)) (after_write has v (written t)) (taken_with (sent v (written t)).ended) v
