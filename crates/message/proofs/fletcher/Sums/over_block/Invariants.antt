-- `message::fletcher::Sums::over_block` meets its contract. Invariant: what is gathered and what is left are the block's totals.
use Rattle.std.proofs.Common.{◌≡◌, ◌+◌, ◌-◌, ◌%◌, ◌≤◌, length, drop}
use Rattle.message.proofs.Blocks as blocks
use Rattle.message.proofs.fletcher.Sums.over_block.Given as goal

abbrev pub invariant-loop-b : goal.invariant-loop-b
invariant-loop-b l = (l.b-index ≤ length l.s) × (l.weight ≡ length l.s - l.b-index) × ((l.total + blocks.total (drop l.b-index l.s)) % 65536 ≡ blocks.total l.s % 65536) × ((l.weighted + blocks.weighted (drop l.b-index l.s)) % 65536 ≡ blocks.weighted l.s % 65536)

abbrev pub decreases-loop-b : goal.decreases-loop-b
decreases-loop-b l = length l.s - l.b-index
