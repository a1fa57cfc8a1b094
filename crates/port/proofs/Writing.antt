-- A write judged by its form, then by its request, and then acted on, is what its table and its rules say. Assumes nothing.
use Rattle.std.proofs.Common.{◌≡◌, ℕ, List, Some, None, Ok, Err, Option, Result, refl, ap, ◌∙◌}
use Rattle.front_end.specs.declared.parts.Capabilities.{Capabilities}
use Rattle.registers.specs.Writes.{effect_of}
use Rattle.registers.specs.declared.command.Effect.{Effect}
use Rattle.transfer.proofs.Tables.{first_left, first_right}
use Rattle.transfer.specs.Decode.{Asked, byte, word, append, write_rows, written}
use Rattle.transfer.specs.Refusals.{first_holding, refused_or}
use Rattle.transfer.specs.declared.refusal.Refusal.{Refusal}
use Rattle.port.specs.Outcomes.{Outcome, taken_with}
use Rattle.port.specs.Steps.{acted, unsettled, write_unsettled}
use Rattle.port.specs.View.{View}
use Rattle.port.specs.Writes.{taking_rows, after_write, sent}
use Rattle.port.specs.declared.answer.Answer.{Answer}

module _ (has : Capabilities) (v : View) where
  -- after the request is judged
  abbrev acted_if : Asked → Result (Option Effect) Refusal → Outcome Answer
  acted_if w (Err e) = record { view = v; answer = Err e }
  acted_if w (Ok effect) = let x = acted has w effect v in record { view = x.view; answer = Ok (taken_with x.ended) }

  -- after the form is judged
  abbrev judged_if : Result Asked Refusal → Outcome Answer
  judged_if (Err e) = record { view = v; answer = Err e }
  judged_if (Ok w) = acted_if w (refused_or (first_holding (taking_rows has v w)) (effect_of w v.meaning.path))

  -- a write that stores ALERT sends nothing, so what holds a sending back is as it was
  taken : (w : Asked) → record { view = after_write has v w; answer = Ok (taken_with (sent v w).ended) } ≡ acted_if w (Ok (effect_of w v.meaning.path))
  taken (byte a x stray) = refl
  taken (word a x) = refl
  taken (append bytes) = refl

  module _ (t : List ℕ) where
    at : Option Refusal → Outcome Answer
    at o = unsettled o (after_write has v (written t)) (taken_with (sent v (written t)).ended) v

    by_request : (o : Option Refusal) → at o ≡ acted_if (written t) (refused_or o (effect_of (written t) v.meaning.path))
    unfolding at
    by_request (Some e) = refl
    by_request None = taken (written t)

    by_form : (o : Option Refusal) → first_holding (write_rows t) ≡ o → write_unsettled has v t ≡ judged_if (refused_or o (written t))
    unfolding at write_unsettled
    by_form (Some e) h = ap at (first_left (write_rows t) (taking_rows has v (written t)) e h)
    by_form None h = ap at (first_right (write_rows t) (taking_rows has v (written t)) h) ∙ by_request (first_holding (taking_rows has v (written t)))

    pub stations : write_unsettled has v t ≡ judged_if (refused_or (first_holding (write_rows t)) (written t))
    stations = by_form (first_holding (write_rows t)) refl
