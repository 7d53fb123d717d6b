-- `command::errors::field_error` meets its contract: each `return` is a test.
use Rattle.command.proofs.Tests.{error_denied, error_own}
use borrow.Author.Rules.{rules}
use Rattle.command.proofs.errors.field_error.Goals as goal

pub returns-then-is_denied : goal.returns-then-is_denied
returns-then-is_denied c = search (error_denied, rules)

pub returns : goal.returns
returns c = search (error_own, rules)
