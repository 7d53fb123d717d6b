-- `message::unread::Unread::seek` meets its contract. The invariant: what remains to be sought is what is sought in all.
use Rattle.std.proofs.Common.{◌≡◌, ◌-◌, ◌≤◌, length, drop}
use Rattle.stream.specs.Seek.{beyond, seek}
use Rattle.stream.specs.Silence.{end_of, up_to}
use Rattle.message.specs.Front.{front}
use Rattle.message.specs.Unread.{bytes_of}
use Rattle.message.proofs.unread.Unread.seek.Given as goal

abbrev pub invariant-loop-at : goal.invariant-loop-at
invariant-loop-at l = (l.at ≤ length l.held) × (seek (up_to (end_of l.ended) front) (bytes_of l.self) ≡ beyond l.at (seek (up_to (end_of l.ended) front) (drop l.at (bytes_of l.self))))

abbrev pub decreases-loop-at : goal.decreases-loop-at
decreases-loop-at l = length l.held - l.at
