-- `totals::plus_good` meets its contract.
use Rattle.totals.proofs.Sums.{good_parts}
use borrow.Author.Rules.{rules}
use Rattle.totals.proofs.plus_good.Goals as goal

pub returns : goal.returns
returns c = search (good_parts, rules)
