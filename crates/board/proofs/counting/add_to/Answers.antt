-- `board::counting::add_to` meets its contract.
use Rattle.totals.proofs.Sums.{added}
use borrow.Author.Rules.{rules}
use Rattle.board.proofs.counting.add_to.Goals as goal

pub returns : goal.returns
returns c = search (added, rules)
