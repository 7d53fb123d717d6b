-- `message::fletcher::Sums::over_blocks` meets its contract. Invariant: the sums so far, grown by what is left, are the sums of all.
use Rattle.std.proofs.Common.{◌∙◌, rules}
use Rattle.message.proofs.Blocks.{block_step}
use Rattle.message.proofs.fletcher.Sums.over_blocks.Goals as goal

pub loop-block-preserved : goal.loop-block-preserved
loop-block-preserved c = rw c.over_block-acc.ensures (block_step c.loop-block.acc c.loop-block.rest.now c.in-Some.block.now c.in-Some.tail.now (search rules) (search rules)) ∙ c.loop-block.invariant
