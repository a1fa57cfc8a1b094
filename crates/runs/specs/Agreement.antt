-- How a port's answer and what it holds agree with the ledger of the same calls. Assumes nothing.
use Rattle.std.specs.Prelude.{◌≡◌, ℕ, List, [], ◌∷◌, Some, None, Ok, Err, Option, Result}
use Rattle.front_end.specs.Meaning.{Carried, idle, sending}
use Rattle.ledger.specs.Kept.{Ledger, Under, none, starting, waiting, signalling}
use Rattle.ledger.specs.Ledger.{Verdict, taken, ignored, refused, Ended, Entry, has_bit}
use Rattle.pd.specs.declared.header.Header.{Header}
use Rattle.port.specs.Frames.{bytes_of}
use Rattle.port.specs.View.{View}
use Rattle.port.specs.declared.answer.Answer.{Answer}
use Rattle.port.specs.declared.answer.Disposition.{Disposition}
use Rattle.port.specs.declared.answer.Disposition.TheVariants.{Taken, Ignored}
use Rattle.sender.specs.Sendings as sender
use Rattle.sender.specs.declared.sender.End.{End}
use Rattle.transfer.specs.Refusals.{refusal_number}
use Rattle.transfer.specs.declared.refusal.Refusal.{Refusal}

-- ---- answers

abbrev pub disposed : Disposition → Verdict
disposed Taken = taken
disposed Ignored = ignored

-- the verdict of an answer, a refusal by its number
abbrev pub verdict_of : Result Answer Refusal → Verdict
verdict_of (Ok a) = disposed a.disposition
verdict_of (Err r) = refused (refusal_number r)

-- the end that an answer names
abbrev pub end_in : Result Answer Refusal → Option End
end_in (Ok a) = a.ended
end_in (Err r) = None

-- the GoodCRC bytes that an answer carries
abbrev pub good_crc_in : Result Answer Refusal → Option (ℕ × ℕ)
good_crc_in (Ok a) = a.good_crc
good_crc_in (Err r) = None

-- this verdict, where the ledger gives one
abbrev pub AsJudged : Option Verdict → Verdict → Type 0
AsJudged None v = Unit {0}
AsJudged (Some w) v = v ≡ w

abbrev pub end_told : List Ended → Option End
end_told [] = None
end_told (x ∷ xs) = Some x.end

abbrev pub good_crc_told : Option Header → Option (ℕ × ℕ)
good_crc_told None = None
good_crc_told (Some h) = bytes_of h

-- the ledger's verdict where it gives one, and exactly the end and the GoodCRC bytes that it tells
pub record Agrees (e : Entry) (a : Result Answer Refusal) : Type 0 where
  pub verdict : AsJudged e.verdict (verdict_of a)
  pub end : end_in a ≡ end_told e.told.ends
  pub good_crc : good_crc_in a ≡ good_crc_told e.told.gives

-- ---- what is held

-- what the sender holds of the sending under way: the starts are the line's
abbrev pub held : Under → sender.Under
held none = sender.none
held (starting s retries starts left) = sender.starting s retries left
held (waiting s retries starts left) = sender.waiting s retries left
held (signalling s left) = sender.signalling s left

-- what the line shows of it: type, bytes and starts
abbrev pub on_the_line : Under → Carried
on_the_line none = idle
on_the_line (starting s retries starts left) = sending s starts
on_the_line (waiting s retries starts left) = sending s starts
on_the_line (signalling s left) = sending s 1

-- what a port holds of frames, sendings and path is what its ledger keeps
pub record Same (v : View) (l : Ledger) : Type 0 where
  pub detect : v.receiving.detect ≡ l.detect
  pub info : v.receiving.info ≡ l.info
  pub armed : v.receiving.armed ≡ l.armed
  pub frames : v.receiving.frames ≡ l.frames
  pub frame_alert : has_bit 2 v.registers.alert ≡ l.frame_alert
  pub reset_alert : has_bit 3 v.registers.alert ≡ l.reset_alert
  pub buffer : v.sending.buffer ≡ l.buffer
  pub under : v.sending.under ≡ held l.under
  pub path : v.meaning.path ≡ l.path
  pub line : v.meaning.line ≡ on_the_line l.under
