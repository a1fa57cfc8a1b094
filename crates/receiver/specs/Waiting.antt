-- The frames that wait, and what the receive buffer shows of them. Assumes nothing.
use Rattle.std.specs.Prelude.{ℕ, ◌+◌, ◌-◌, Bool, if◌then◌else◌, List, [], ◌∷◌, ◌++◌, map, length, take, replicate, nat_lt}
use Rattle.pd.specs.Kinds.{number_of}
use Rattle.pd.specs.Messages.{Content, content}
use Rattle.receiver.specs.Capacity.{capacity}
use Rattle.receiver.specs.declared.queue.Queue.{Queue}

-- the frames of a queue, oldest first
abbrev pub queued : Queue → List Content
queued q = map content (take q.count q.slots)

-- whether one frame more can wait
abbrev pub has_room : List Content → Bool
has_room waiting = nat_lt (length waiting) capacity

-- the frame waits last, if it can wait
abbrev pub with_last : Content → List Content → List Content
with_last frame waiting = if has_room waiting then waiting ++ frame ∷ [] else waiting

-- count, type and bytes of a frame; the count is of the type and the bytes
abbrev pub shown_frame : Content → List ℕ
shown_frame frame = (length frame.bytes + 1) ∷ number_of frame.kind ∷ frame.bytes

-- what is shown of the oldest frame, before the zeros
abbrev pub shown_bytes : List Content → List ℕ
shown_bytes [] = []
shown_bytes (oldest ∷ later) = shown_frame oldest

-- so many bytes: those of the list, then zeros
abbrev pub padded : ℕ → List ℕ → List ℕ
padded n bytes = take n bytes ++ replicate (n - length bytes) 0
