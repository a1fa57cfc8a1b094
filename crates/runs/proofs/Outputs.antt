-- The front end's terminations and VCONN follow the registers, through every call. Assumes nothing.
use Rattle.std.proofs.Common.{◌≡◌, ℕ, Bool, true, false, cond, not, ◌&&◌, ◌||◌, eqb, List, [], ◌∷◌, ◌++◌, None, refl, arith}
use Rattle.std.proofs.lemmas.Nat.{and_assoc}
use Rattle.std.specs.List.{AllByRecursion}
use lib.Bits.{and_zero_r}
use Rattle.front_end.specs.Codes.{terminations_of}
use Rattle.front_end.specs.declared.parts.Capabilities.{Capabilities}
use Rattle.front_end.specs.declared.parts.Terminations.{Terminations}
use Rattle.front_end.specs.declared.parts.Vconn.{Vconn}
use Rattle.front_end.specs.declared.parts.Vconn.TheVariants.{Off, Cc1, Cc2}
use Rattle.port.specs.View.{View}
use Rattle.port.specs.Writes.{taking_rows, told_vconn}
use Rattle.port.specs.declared.answer.Report.TheVariants.{CcLevels, Vbus, Fault}
use Rattle.registers.specs.Bits.{any_of, byte_without}
use Rattle.registers.specs.Commands.{sets, lacks_path}
use Rattle.registers.specs.Status.{enable_vconn, vconn_of}
use Rattle.registers.specs.Writes.{byte_at, value, bad_role}
use Rattle.transfer.proofs.Tables.{none_here, none_after}
use Rattle.transfer.specs.Decode.{write_rows, written}
use Rattle.transfer.specs.Refusals.{Row, first_holding}
use Rattle.runs.proofs.Calls.{made, always}
use Rattle.runs.specs.Laws.{TerminationsFollow, VconnFollows}
use Rattle.runs.specs.Runs.{Call, wrote, read, reported, refusal_of}

abbrev Placed : View → Type 0
Placed v = v.meaning.terminations ≡ terminations_of v.registers.role_control

placed_anew : (b : Bool) (new old : ℕ) (t : Terminations) → t ≡ terminations_of old → cond b (terminations_of (cond b new old)) t ≡ terminations_of (cond b new old)
placed_anew b new old t h = grind arith

placed : (has : Capabilities) (v : View) (c : Call) → Placed v → Placed (made has v c)
placed has v (wrote t) h = placed_anew (byte_at 0x1A (written t)) (value (written t)) v.registers.role_control v.meaning.terminations h
placed has v (read a wanted buffer) h = h
placed has v (reported (CcLevels cc1 cc2)) h = h
placed has v (reported (Vbus n)) h = h
placed has v (reported (Fault n)) h = h

pub terminations_follow : TerminationsFollow
terminations_follow has = always has Placed (λ bits v h. h) (λ v h. h) (λ v c e h. placed has v c h) (λ ids. refl)

-- VCONN is what the registers say, and EnableVconn is 1 only on a front end with VCONN
abbrev Powered : Capabilities → View → Type 0
Powered has v = (v.meaning.vconn ≡ vconn_of v.registers) × (enable_vconn v.registers ≡ true → has.vconn ≡ true)

-- where no row of a table holds, none of its second part does
none_right : (xs ys : List Row) → first_holding (xs ++ ys) ≡ None → AllByRecursion (λ r. r.holds ≡ false) ys
none_right [] [] h = tt
none_right [] (y ∷ ys) h = (none_here y ys h, none_right [] ys (none_after y ys h))
none_right (x ∷ xs) ys h = none_right xs ys (none_after x (xs ++ ys) h)

-- so it is after a write that nothing lacks
enabled : (c d b f : Bool) (new old : ℕ) → ((d || b && any_of 1 new && not c) || f) ≡ false → (any_of 1 old ≡ true → c ≡ true) →
    any_of 1 (cond b new old) ≡ true → c ≡ true
enabled c d b f new old h k on = grind arith

abbrev vconn_by : ℕ → ℕ → Vconn
vconn_by power control = cond (any_of 1 power) (cond (any_of 1 control) Cc1 Cc2) Off

switched : (has : Capabilities) (a b : Bool) (new control power : ℕ) (x : Vconn) → x ≡ vconn_by power control → (any_of 1 (cond b new power) ≡ true → has.vconn ≡ true) →
    cond (a || b) (told_vconn has (vconn_by (cond b new power) (cond a new control)) x) x ≡ vconn_by (cond b new power) (cond a new control)
switched has a b new control power x h f = grind arith

-- fault 1 clears EnableVconn
cleared : (p : ℕ) → any_of 1 (byte_without 1 p) ≡ false
cleared p = rw (and_assoc 1 p 254, and_zero_r p)

tripped : (has : Capabilities) (b : Bool) (power control : ℕ) (x : Vconn) → x ≡ vconn_by power control → (any_of 1 power ≡ true → has.vconn ≡ true) →
    (cond b Off x ≡ vconn_by (cond b (byte_without 1 power) power) control) × (any_of 1 (cond b (byte_without 1 power) power) ≡ true → has.vconn ≡ true)
tripped has b power control x h f = grind (arith, cleared)

-- the fourth row of a write's request is that the front end lacks something
powered : (has : Capabilities) (v : View) (c : Call) → refusal_of has v c ≡ None → Powered has v → Powered has (made has v c)
powered has v (wrote t) e f =
    let w = written t in
    let lacks = (none_right (write_rows t) (taking_rows has v w) e).1.1.1.0 in
    let can = enabled has.vconn (byte_at 0x1A w && bad_role has (value w)) (byte_at 0x1C w) (byte_at 0x23 w && lacks_path has (sets (value w)))
    (value w) v.registers.power_control lacks f.1 in
    (switched has (byte_at 0x19 w) (byte_at 0x1C w) (value w) v.registers.tcpc_control v.registers.power_control v.meaning.vconn f.0 can, can)
powered has v (read a wanted buffer) e f = f
powered has v (reported (CcLevels cc1 cc2)) e f = f
powered has v (reported (Vbus n)) e f = f
powered has v (reported (Fault n)) e f = tripped has (eqb n 1) v.registers.power_control v.registers.tcpc_control v.meaning.vconn f.0 f.1

pub vconn_follows : VconnFollows
vconn_follows has ids past = (always has (Powered has) (λ bits v f. f) (λ v f. f) (powered has) (λ i. (refl, λ k. cc)) ids past).0
