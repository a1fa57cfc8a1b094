-- CC_STATUS and POWER_STATUS are their formulas of what was reported and commanded. Assumes nothing.
use Rattle.std.proofs.Common.{◌≡◌, Bool, cond, List, [], ◌∷◌, refl, ap, ◌∙◌, arith}
use Rattle.front_end.specs.Codes.{terminations_of}
use Rattle.front_end.specs.declared.parts.Capabilities.{Capabilities}
use Rattle.front_end.specs.declared.parts.Path.{Path}
use Rattle.port.specs.View.{View}
use Rattle.port.specs.declared.answer.Report.TheVariants.{CcLevels, Vbus, Fault}
use Rattle.registers.specs.Commands.{detects}
use Rattle.registers.specs.Status.{vconn_of, cc_status, power_status}
use Rattle.registers.specs.Writes.{effect_of}
use Rattle.registers.specs.declared.file.Identifiers.{Identifiers}
use Rattle.transfer.specs.Decode.{Asked, written}
use Rattle.runs.proofs.Calls.{made, then}
use Rattle.runs.proofs.Outputs.{terminations_follow, vconn_follows}
use Rattle.runs.specs.Laws.{power_formula, cc_formula, PowerStatusShown, CcStatusShown}
use Rattle.runs.specs.Runs.{Call, wrote, read, reported, taken, after}
use Rattle.runs.specs.Told.{Connector, commands_detection, tells, as_told}

-- ---- what the register file holds of the connector is as told

abbrev held : View → Connector
held v = record { cc1 = v.registers.cc1_level; cc2 = v.registers.cc2_level; vbus = v.registers.vbus; detection = v.registers.detection }

commanded : (w : Asked) (p : Path) (on : Bool) → detects (effect_of w p) on ≡ commands_detection w on
commanded w p on = grind arith

made_told : (has : Capabilities) (v : View) (c : Call) → held (made has v c) ≡ tells c (held v)
made_told has v (wrote t) =
    ap (λ x. record (tells (wrote t) (held v)) { detection = x }) (commanded (written t) v.meaning.path v.registers.detection)
made_told has v (read a wanted buffer) = refl
made_told has v (reported (CcLevels cc1 cc2)) = refl
made_told has v (reported (Vbus n)) = refl
made_told has v (reported (Fault n)) = refl

held_as_told : (has : Capabilities) (ids : Identifiers) (past : List Call) → held (after has ids past) ≡ as_told has ids past
held_as_told has ids [] = refl
held_as_told has ids (c ∷ past) =
    let v = after has ids past in
    then (λ b w. held w ≡ cond b (tells c (held v)) (held v)) (λ b bits w h. h) (λ w h. h) has v c refl (λ e. made_told has v c)
    ∙ ap (λ x. cond (taken has v c) (tells c x) x) (held_as_told has ids past)

-- ---- the formulas

power_is : (v : View) → v.meaning.vconn ≡ vconn_of v.registers → power_status v.registers v.meaning.path ≡ power_formula v.meaning (held v)
unfolding power_status
power_is v x = grind arith

pub power_status_shown : PowerStatusShown
power_status_shown has ids past =
    power_is (after has ids past) (vconn_follows has ids past) ∙ ap (power_formula (after has ids past).meaning) (held_as_told has ids past)

cc_is : (v : View) → v.meaning.terminations ≡ terminations_of v.registers.role_control → v.meaning.vconn ≡ vconn_of v.registers →
    cc_status v.registers ≡ cc_formula v.meaning (held v)
unfolding cc_status
cc_is v t x = rw (t, x)

pub cc_status_shown : CcStatusShown
cc_status_shown has ids past =
    cc_is (after has ids past) (terminations_follow has ids past) (vconn_follows has ids past) ∙ ap (cc_formula (after has ids past).meaning) (held_as_told has ids past)
