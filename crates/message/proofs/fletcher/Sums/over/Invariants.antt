-- `message::fletcher::Sums::over` meets its contract. Invariant: the sums so far, grown by what is left, are the sums of all.
use Rattle.std.proofs.Common.{◌≡◌, ◌-◌, ◌≤◌, length, drop}
use Rattle.message.specs.Fletcher.{sums_from}
use Rattle.message.proofs.fletcher.Sums.over.Given as goal

abbrev pub invariant-loop-b : goal.invariant-loop-b
invariant-loop-b l = (l.b-index ≤ length l.s) × (sums_from l.acc (drop l.b-index l.s) ≡ sums_from l.initial.acc l.s)

abbrev pub decreases-loop-b : goal.decreases-loop-b
decreases-loop-b l = length l.s - l.b-index
