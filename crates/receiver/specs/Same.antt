-- Receivers that hold the same are equal: nothing of one lies outside of what is read of it. Assumes nothing.
use Rattle.std.specs.Prelude.{◌≡◌}
use Rattle.std.proofs.Common.{ap}
use Rattle.std.proofs.Props.{props}
use mathlib.Core.HLevel.{is_prop→PathP}
use Rattle.pd.specs.Messages.{same_messages}
use Rattle.pd.specs.Room.{HasRoom, same_laid}
use Rattle.receiver.specs.Capacity.{capacity}
use Rattle.receiver.specs.Receiving.{receiving}
use Rattle.receiver.specs.Slots.{blank}
use Rattle.receiver.specs.Waiting.{queued}
use Rattle.receiver.specs.declared.queue.Queue.{Queue}
use Rattle.receiver.specs.declared.receiver.Receiver.{Receiver}

pub same_queue : (a b : Queue) → queued a ≡ queued b → a ≡ b
same_queue a b h =
    let p = same_laid capacity blank a.count b.count a.slots b.slots a.laid_out b.laid_out (same_messages _ _ h) in
    λ i. record {
      count = p.0 i;
      slots = p.1 i;
      laid_out = is_prop→PathP (λ j. HasRoom capacity blank (p.0 j) (p.1 j)) (λ j. hlevel props) a.laid_out b.laid_out i;
    }

pub same_receiver : (a b : Receiver) → receiving a ≡ receiving b → a ≡ b
same_receiver a b h = λ i. record {
  detect = (h i).detect;
  info = (h i).info;
  armed = (h i).armed;
  frames = same_queue a.frames b.frames (ap (λ r. r.frames) h) i;
}
