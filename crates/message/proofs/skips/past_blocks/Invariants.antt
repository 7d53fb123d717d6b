-- `message::skips::past_blocks` meets its contract. The invariant: what is before `i` is skipped, and the blocks that are left begin there.
use Rattle.std.proofs.Common.{◌≡◌, drop}
use Rattle.message.specs.Skips.{SkippedPart}
use Rattle.message.proofs.skips.past_blocks.Given as goal

abbrev pub invariant-loop-block : goal.invariant-loop-block
invariant-loop-block l = record {
  sixteen : l.block-iterator.size ≡ 16;
  left : drop l.i l.s ≡ l.block-iterator.rest.now;
  skipped : SkippedPart l.s l.from l.i;
}
