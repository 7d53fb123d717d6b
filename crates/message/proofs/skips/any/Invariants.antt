-- `message::skips::any` meets its contract. The invariant: what it says, of the bytes so far.
use Rattle.std.proofs.Common.{◌≡◌, ◌<◌, ℕ, true, false, length, slice_index_or}
use Rattle.message.proofs.skips.any.Given as goal

abbrev pub invariant-loop-b : goal.invariant-loop-b
invariant-loop-b g l =
    (l.found ≡ true → (k : ℕ) × (k < length l.block) × goal.F-post g l.test (slice_index_or l.block k 0) true)
    × (l.found ≡ false → (k : ℕ) → k < l.b-index → goal.F-post g l.test (slice_index_or l.block k 0) false)
