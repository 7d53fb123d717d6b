-- `message::fletcher::Sums::over_blocks` meets its contract. Invariant: the sums so far, grown by what is left, are the sums of all.
use Rattle.std.proofs.Common.{◌≡◌, length}
use Rattle.message.specs.Fletcher.{sums_from}
use Rattle.message.proofs.fletcher.Sums.over_blocks.Given as goal

abbrev pub invariant-loop-block : goal.invariant-loop-block
invariant-loop-block l = sums_from l.acc l.rest ≡ sums_from l.initial.acc l.s

abbrev pub decreases-loop-block : goal.decreases-loop-block
decreases-loop-block l = length l.rest
