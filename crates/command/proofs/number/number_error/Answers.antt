-- `command::number::number_error` meets its contract: each `return` is a test.
use Rattle.command.proofs.Spends.{number_not_allowed, number_short, number-fresh, number_stale}
use borrow.Author.Rules.{rules}
use Rattle.command.proofs.number.number_error.Goals as goal

pub returns-then-rights : goal.returns-then-rights
returns-then-rights c = search (number_not_allowed, rules)

pub returns-then-len-lt5 : goal.returns-then-len-lt5
returns-then-len-lt5 c = search (number_short, rules)

pub returns-then-is_fresh : goal.returns-then-is_fresh
returns-then-is_fresh c = search (number-fresh, rules)

pub returns-else-is_fresh : goal.returns-else-is_fresh
returns-else-is_fresh c = search (number_stale, rules)
