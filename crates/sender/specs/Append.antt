-- Bytes given to the transmit buffer: when they are refused, and what it holds then. Assumes nothing.
use Rattle.std.specs.Prelude.{ℕ, ◌+◌, List, [], ◌∷◌, ◌++◌, length, Some, None, Option, Result, nat_lt}
use Rattle.pd.specs.Lengths.{longest}
use Rattle.transfer.specs.declared.refusal.Refusal.{Refusal}
use Rattle.transfer.specs.declared.refusal.Refusal.TheVariants.{BufferOverrun}
use Rattle.transfer.specs.Refusals.{Row, ◌when◌, first_holding, refused_or}
use Rattle.sender.specs.Sendings.{Sending, with_buffer}

-- so many bytes more, to those that a buffer holds
abbrev pub append_rows : ℕ → ℕ → List Row
append_rows held more = (BufferOverrun when nat_lt longest (held + more)) ∷ []

-- as before where a call is refused
abbrev pub unless_refused : {A : Type 0} → Option Refusal → A → A → A
unless_refused (Some r) before after = before
unless_refused None before after = after

-- what a sender holds after it was given bytes, and whether they are refused
pub record Appending : Type 0 where
  pub after : Sending
  pub answer : Result Unit Refusal

abbrev pub appending : List ℕ → Sending → Appending
appending more s =
    let refused = first_holding (append_rows (length s.buffer) (length more)) in
    record { after = unless_refused refused s (with_buffer (s.buffer ++ more) s); answer = refused_or refused tt }
