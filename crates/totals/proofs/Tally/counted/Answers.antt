-- `totals::Tally::counted` meets its contract.
use Rattle.totals.proofs.Sums.{counted_none, counted_error, counted_no_error}
use borrow.Author.Rules.{rules}
use Rattle.totals.proofs.Tally.counted.Goals as goal

pub returns-then-number-gt1 : goal.returns-then-number-gt1
returns-then-number-gt1 c = search (counted_none, rules)

pub returns-then-error-lt8 : goal.returns-then-error-lt8
returns-then-error-lt8 c = search (counted_error, rules)

pub returns-else-number-eq0 : goal.returns-else-number-eq0
returns-else-number-eq0 c = search (counted_no_error, c.else-number-eq0.either, rules)
