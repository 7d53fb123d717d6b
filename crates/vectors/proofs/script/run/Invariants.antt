-- What is kept is within the block.
use Rattle.std.proofs.Common.{◌≤◌, length}
use Rattle.vectors.proofs.script.run.Given as goal

abbrev pub invariant-loop : goal.invariant-loop
invariant-loop l = l.kept ≤ length l.block
