-- `command::errors::value_error` meets its contract: each `return` is a test.
use Rattle.command.proofs.Tests.{value_usable}
use borrow.Author.Rules.{rules}
use Rattle.command.proofs.errors.value_error.Goals as goal

pub returns-then-usable : goal.returns-then-usable
returns-then-usable c = search (value_usable, rules)
