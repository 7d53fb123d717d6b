-- `command::errors::load_error` meets its contract: a value that is usable is loaded.
use Rattle.command.proofs.Loads.{load_accepted, load_refused}
use borrow.Author.Rules.{rules}
use Rattle.command.proofs.errors.load_error.Goals as goal

pub returns-then-usable : goal.returns-then-usable
returns-then-usable c = search (load_accepted, rules)

pub returns-else-usable : goal.returns-else-usable
returns-else-usable c = search (load_refused, rules)
