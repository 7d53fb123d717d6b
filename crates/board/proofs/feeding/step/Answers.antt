-- `board::feeding::step` meets its contract.
use Rattle.std.proofs.Common.{rules}
use Rattle.board.proofs.Places.{starved_in, starved_few, found_some, found_most, found_in}
use Rattle.board.proofs.feeding.step.Goals as goal

pub step_starved-requires-clause-k_bound : goal.step_starved-requires-clause-k_bound
step_starved-requires-clause-k_bound c = (search (starved_in, rules), search (starved_few, rules))

pub step_found-requires-clause-le_n : goal.step_found-requires-clause-le_n
step_found-requires-clause-le_n c = (search (found_some, rules), search (found_most, rules), search (found_in, rules))
