-- `message::skips::past_run_blocks` meets its contract. The invariant: two A5 stand at `i`, what is before it is skipped, and the blocks that
-- are left begin behind them.
use Rattle.std.proofs.Common.{◌≡◌, ◌+◌, drop}
use Rattle.message.specs.Skips.{RunAt}
use Rattle.message.proofs.skips.past_run_blocks.Given as goal

abbrev pub invariant-loop-block : goal.invariant-loop-block
invariant-loop-block l = record {
  sixteen : l.block-iterator.size ≡ 16;
  left : drop (l.i + 2) l.s ≡ l.block-iterator.rest.now;
  skipped : RunAt l.s l.from l.i;
}
