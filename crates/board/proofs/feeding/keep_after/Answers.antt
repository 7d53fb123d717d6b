-- `board::feeding::keep_after` meets its contract.
use Rattle.std.proofs.Common.{rules}
use Rattle.board.proofs.Places.{left_kept}
use Rattle.board.proofs.feeding.keep_after.Goals as goal

pub returns-clause-bytes_after : goal.returns-clause-bytes_after
returns-clause-bytes_after c = search (left_kept, rules)
