-- `board::starting::start` meets its contract.
use Rattle.board.proofs.Starts.{start_fresh}
use borrow.Author.Rules.{rules}
use Rattle.board.proofs.starting.start.Goals as goal

pub returns : goal.returns
returns c = search (start_fresh, rules)
