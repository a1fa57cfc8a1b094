-- ALERT bits stand through every call, but for those that it clears. Assumes nothing.
use Rattle.std.proofs.Common.{◌≡◌, ℕ, cond, List, Some, None, Option, arith}
use lib.Bits.{bit_or, or_self}
use Rattle.front_end.specs.declared.parts.Capabilities.{Capabilities}
use Rattle.pd.specs.Messages.{Content}
use Rattle.port.specs.View.{View}
use Rattle.port.specs.Writes.{sent, alert_after}
use Rattle.port.specs.declared.answer.Report.TheVariants.{CcLevels, Vbus, Fault}
use Rattle.registers.specs.Bits.{word_without}
use Rattle.registers.specs.Writes.{word_at, value}
use Rattle.sender.specs.declared.sender.End.{End}
use Rattle.transfer.specs.Decode.{Asked, byte, word, append, written}
use Rattle.runs.proofs.Bits.{own_bits, with_more}
use Rattle.runs.proofs.Calls.{made, then}
use Rattle.runs.specs.Laws.{AlertsStand}
use Rattle.runs.specs.Runs.{Call, wrote, read, reported, after}
use Rattle.runs.specs.Told.{clears, clears_when_taken}

-- what is after has every bit of what is before but these
abbrev Stands : ℕ → ℕ → ℕ → Type 0
Stands bits before after = bit_or after (word_without bits before) ≡ after

-- ALERT when its ones written are cleared
abbrev left : Asked → ℕ → ℕ
left w a = cond (word_at 0x10 w) (word_without (value w) a) a

undiscarded : (w : Asked) (frames : List Content) (a : ℕ) → Stands (clears w) a (alert_after w None frames (left w a))
undiscarded (byte register v stray) frames a = grind (arith, or_self, own_bits)
undiscarded (word register v) frames a = grind (arith, or_self, own_bits, with_more)
undiscarded (append bytes) frames a = own_bits a 65535

written_stands : (w : Asked) (e : Option End) (frames : List Content) (a : ℕ) → Stands (clears w) a (alert_after w e frames (left w a))
written_stands w None frames a = undiscarded w frames a
written_stands w (Some e) frames a = with_more (alert_after w None frames (left w a)) (word_without (clears w) a) 0x20 (undiscarded w frames a)

stands : (has : Capabilities) (v : View) (c : Call) → Stands (clears_when_taken c) v.registers.alert (made has v c).registers.alert
stands has v (wrote t) = written_stands (written t) (sent v (written t)).ended v.receiving.frames v.registers.alert
stands has v (read a wanted buffer) = own_bits v.registers.alert 65535
stands has v (reported (CcLevels cc1 cc2)) = own_bits v.registers.alert 65535
stands has v (reported (Vbus n)) = own_bits v.registers.alert 65535
stands has v (reported (Fault n)) = own_bits v.registers.alert 65535

pub alerts_stand : AlertsStand
alerts_stand has ids past c =
    let v = after has ids past in
    then (λ b w. Stands (cond b (clears_when_taken c) 0) v.registers.alert w.registers.alert)
    (λ b bits w h. with_more w.registers.alert _ bits h) (λ w h. h) has v c (own_bits v.registers.alert 65535) (λ e. stands has v c)
