-- `message::fletcher::Sums::over_block` meets its contract. Invariant: what is gathered and what is left are the block's totals.
use Rattle.std.proofs.Common.{rules}
use Rattle.message.proofs.Blocks.{folded}
use Rattle.message.proofs.fletcher.Sums.over_block.Goals as goal

pub returns : goal.returns
returns c = search (folded, rules)
