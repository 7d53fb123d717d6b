-- `message::bytes::copy_front` meets its contract. Invariant: the first i bytes are copied, the others are as they came.
use Rattle.std.proofs.Common.{◌≡◌, ◌++◌, length, take, drop}
use Rattle.message.proofs.bytes.copy_front.Given as goal

abbrev pub invariant-loop-i : goal.invariant-loop-i
invariant-loop-i l = (length l.room ≡ length l.initial.room) × (l.room ≡ take l.i l.bytes ++ drop l.i l.initial.room)
