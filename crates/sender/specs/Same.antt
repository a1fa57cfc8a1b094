-- Senders that hold the same are equal, and what they answer: nothing of it lies outside of what is read. Assumes nothing.
use Rattle.std.specs.Prelude.{◌≡◌}
use Rattle.std.proofs.Common.{refl, ap}
use Rattle.pd.specs.Held.{same_bytes}
use Rattle.pd.specs.Messages.{content, contents, same_message, same_option}
use Rattle.sender.specs.Sendings.{sending_of, under_of}
use Rattle.sender.specs.declared.sender.Accepted.{Accepted}
use Rattle.sender.specs.declared.sender.Sender.{Sender}
use Rattle.sender.specs.declared.sender.State.{State}
use Rattle.sender.specs.declared.sender.State.TheVariants.{Idle, Starting, Waiting, Signalling}

same_state : (a b : State) → under_of a ≡ under_of b → a ≡ b
same_state Idle Idle h = refl
same_state (Starting m r l) (Starting n s k) h =
    let c : content m ≡ content n = cc in
    let e : r ≡ s = cc in
    let f : l ≡ k = cc in
    λ i. Starting (same_message m n c i) (e i) (f i)
same_state (Waiting m r l) (Waiting n s k) h =
    let c : content m ≡ content n = cc in
    let e : r ≡ s = cc in
    let f : l ≡ k = cc in
    λ i. Waiting (same_message m n c i) (e i) (f i)
same_state (Signalling m l) (Signalling n k) h =
    let c : content m ≡ content n = cc in
    let f : l ≡ k = cc in
    λ i. Signalling (same_message m n c i) (f i)
same_state a b h = cc

pub same_sender : (a b : Sender) → sending_of a ≡ sending_of b → a ≡ b
same_sender a b h = λ i. record {
  buffer = same_bytes a.buffer b.buffer (ap (λ s. s.buffer) h) i;
  under = same_state a.under b.under (ap (λ s. s.under) h) i;
}

pub same_accepted : (a b : Accepted) → contents a.started ≡ contents b.started → a.ended ≡ b.ended → a ≡ b
same_accepted a b h k = λ i. record { started = same_option a.started b.started h i; ended = k i }
