-- Forms of outcomes and of the ledger's entries that meet. Assumes nothing.
use Rattle.std.proofs.Common.{◌≡◌, ℕ, ◌+◌, ◌*◌, Bool, true, false, ◌&&◌, ◌||◌, Some, None, Ok, sym, refl, ◌∙◌, arith}
use Rattle.std.proofs.lemmas.Bool.{cond_both}
use Rattle.std.proofs.lemmas.Bool.Decides.{nat_tests}
use Rattle.std.proofs.lemmas.Nat.Bits.{bit_at_and, bit_at_or, bit_at-lt}
use lib.Bits.{bit_and, bit_or}
use Rattle.front_end.specs.declared.parts.Terminations.{Terminations}
use Rattle.front_end.specs.declared.parts.Vconn.{Vconn}
use Rattle.ledger.specs.Kept.{Ledger, Under, with_frame_alert, with_reset_alert, with_under}
use Rattle.ledger.specs.Ledger.{Entry, refused, stays, has_bit}
use Rattle.ledger.specs.Ledger as ledger
use Rattle.port.specs.Frames.{ignored}
use Rattle.port.specs.Outcomes.{Outcome, outcome, faulted_by, settled_since}
use Rattle.port.specs.View.{View, with_registers}
use Rattle.port.specs.declared.answer.Answer.{Answer}
use Rattle.registers.specs.Alerts.{risen, faulted}
use Rattle.registers.specs.Bits.{bit}
use Rattle.registers.specs.declared.file.Registers.{Registers}
use Rattle.transfer.specs.Refusals.{refusal_number, is_interface_error}
use Rattle.transfer.specs.declared.refusal.Refusal.{Refusal}
use Rattle.runs.specs.Agreement.{Agrees, held, on_the_line, Same}

-- ---- bits

pub or_bit : (k a b : ℕ) → has_bit k (bit_or a b) ≡ (has_bit k a || has_bit k b)
or_bit k a b = grind (arith, nat_tests, bit_at_or, bit_at-lt)

pub and_bit : (k a b : ℕ) → has_bit k (bit_and a b) ≡ (has_bit k a && has_bit k b)
and_bit k a b = grind (arith, nat_tests, bit_at_and, bit_at-lt)

-- a bit that is not among those set, one that is, one that is kept, one that is not
pub bit_stays : (k a b : ℕ) → has_bit k b ≡ false → has_bit k (bit_or a b) ≡ has_bit k a
bit_stays k a b h = grind (arith, or_bit)

pub bit_rises : (k a b : ℕ) → has_bit k b ≡ true → has_bit k (bit_or a b) ≡ true
bit_rises k a b h = grind (arith, or_bit)

pub bit_kept : (k a b : ℕ) → has_bit k b ≡ true → has_bit k (bit_and a b) ≡ has_bit k a
bit_kept k a b h = grind (arith, and_bit)

pub bit_falls : (k a b : ℕ) → has_bit k b ≡ false → has_bit k (bit_and a b) ≡ false
bit_falls k a b h = grind (arith, and_bit)

-- bits 2 and 3 are none of those that rise by a change
none_of_them : (x y z : Bool) → (has_bit 2 (bit x + 2 * bit y + 512 * bit z) ≡ false) × (has_bit 3 (bit x + 2 * bit y + 512 * bit z) ≡ false)
none_of_them x y z = grind arith

-- ---- outcomes

-- an outcome of a port and the ledger's entry
pub record Meet (o : Outcome Answer) (e : Entry) : Type 0 where
  pub same : Same o.view e.next
  pub agrees : Agrees e o.answer

-- registers with those two ALERT bits leave what is the ledger's
same_with : (s : Registers) (v : View) (l : Ledger) → has_bit 2 s.alert ≡ has_bit 2 v.registers.alert → has_bit 3 s.alert ≡ has_bit 3 v.registers.alert →
    Same v l → Same (with_registers s v) l
same_with s v l x y h = record {
  detect = h.detect;
  info = h.info;
  armed = h.armed;
  frames = h.frames;
  frame_alert = x ∙ h.frame_alert;
  reset_alert = y ∙ h.reset_alert;
  buffer = h.buffer;
  under = h.under;
  path = h.path;
  line = h.line;
}

-- so do the alerts at the end of a call
settled_same : (b a : View) (l : Ledger) → Same a l → Same (settled_since b a) l
unfolding risen
settled_same b a l = same_with _ a l (bit_stays 2 a.registers.alert _ (none_of_them _ _ _).0) (bit_stays 3 a.registers.alert _ (none_of_them _ _ _).1)

-- and the fault of a refusal
refused_same : (r : Refusal) (v : View) (l : Ledger) → Same v l → Same (settled_since v (faulted_by r v)) l
refused_same r v l h =
    settled_same v (faulted_by r v) l
    (cond_both (is_interface_error r) _ v (λ w. Same w l) (λ e. same_with (faulted 1 v.registers) v l refl refl h) (λ e. h))

-- a call that is not refused
pub met : (a v : View) (n : Answer) (e : Entry) → Same a e.next → Agrees e (Ok n) → Meet (outcome None a n v) e
met a v n e s g = record { same = settled_same v a e.next s; agrees = g }

-- a refusal, judged alike
pub refused_alike : (r : Refusal) (a v : View) (n : Answer) (l : Ledger) → Same v l → Meet (outcome (Some r) a n v) (stays (refused (refusal_number r)) l)
refused_alike r a v n l s = record { same = refused_same r v l s; agrees = record { verdict = refl; end = refl; good_crc = refl } }

-- a refusal of which the ledger says nothing
pub refused_unseen : (r : Refusal) (a v : View) (n : Answer) (l : Ledger) → Same v l → Meet (outcome (Some r) a n v) (ledger.silent l)
refused_unseen r a v n l s = record { same = refused_same r v l s; agrees = record { verdict = tt; end = refl; good_crc = refl } }

pub ignored_alike : (v : View) (l : Ledger) → Same v l → Meet (outcome None v ignored v) (stays ledger.ignored l)
ignored_alike v l s = met v v ignored (stays ledger.ignored l) s record { verdict = refl; end = refl; good_crc = refl }

-- ---- a port and a ledger of one state

-- what a port holds beside what its ledger keeps
pub record Rest : Type 0 where
  pub registers : Registers
  pub terminations : Terminations
  pub vconn : Vconn

abbrev pub port_at : Rest → Ledger → Under → View
port_at s l u = record {
  registers = s.registers;
  receiving = record { detect = l.detect; info = l.info; armed = l.armed; frames = l.frames };
  sending = record { buffer = l.buffer; under = held u };
  meaning = record { terminations = s.terminations; vconn = s.vconn; path = l.path; line = on_the_line u };
}

abbrev pub ledger_at : Rest → Ledger → Under → Ledger
ledger_at s l u = with_frame_alert (has_bit 2 s.registers.alert) (with_reset_alert (has_bit 3 s.registers.alert) (with_under u l))

pub same_at : (s : Rest) (l : Ledger) (u : Under) → Same (port_at s l u) (ledger_at s l u)
same_at s l u = record { detect = refl; info = refl; armed = refl; frames = refl; frame_alert = refl; reset_alert = refl; buffer = refl; under = refl; path = refl; line = refl }

abbrev pub rest_of : View → Rest
rest_of v = record { registers = v.registers; terminations = v.meaning.terminations; vconn = v.meaning.vconn }

-- every port that is the ledger's is of this form
pub port_is : (v : View) (l : Ledger) → Same v l → port_at (rest_of v) l l.under ≡ v
port_is v l h = λ i. record {
  registers = v.registers;
  receiving = record { detect = sym h.detect i; info = sym h.info i; armed = sym h.armed i; frames = sym h.frames i };
  sending = record { buffer = sym h.buffer i; under = sym h.under i };
  meaning = record v.meaning { path = sym h.path i; line = sym h.line i };
}

pub ledger_is : (v : View) (l : Ledger) → Same v l → ledger_at (rest_of v) l l.under ≡ l
ledger_is v l h = λ i. with_frame_alert (h.frame_alert i) (with_reset_alert (h.reset_alert i) l)
