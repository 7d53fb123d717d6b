-- `command::settings::start_value` meets its contract: a value that is usable is loaded.
use Rattle.command.proofs.Answers.{factory_fits}
use Rattle.command.proofs.Loads.{start_loaded, start_factory}
use borrow.Author.Rules.{rules}
use Rattle.command.proofs.settings.start_value.Goals as goal

pub returns-then-usable : goal.returns-then-usable
returns-then-usable c = (search (start_loaded, rules), search rules)

pub returns-else-usable : goal.returns-else-usable
returns-else-usable c = (search (start_factory, rules), search (factory_fits, rules))
