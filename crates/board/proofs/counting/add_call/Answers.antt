-- `board::counting::add_call` meets its contract.
use Rattle.totals.proofs.Sums.{row_error, row_above, row_other}
use borrow.Author.Rules.{rules}
use Rattle.board.proofs.counting.add_call.Goals as goal

pub returns-then-s-lt8 : goal.returns-then-s-lt8
returns-then-s-lt8 c = search (row_error, rules)

pub returns-else-s-lt8 : goal.returns-else-s-lt8
returns-else-s-lt8 c = search (row_above, rules)

pub returns-else-s-eq0 : goal.returns-else-s-eq0
returns-else-s-eq0 c = search (row_other, rules)
