-- `lister::output::Lines::message` ends: every row has at least 4 bytes.
use Rattle.std.proofs.Common.{length}
use Rattle.lister.proofs.output.Lines.message.Given as goal

abbrev pub decreases-loop-rows : goal.decreases-loop-rows
decreases-loop-rows l = length l.rows
