-- `command::settings::settings_from` meets its contract.
use Rattle.command.proofs.Loads.{settings_loaded}
use borrow.Author.Rules.{rules}
use Rattle.command.proofs.settings.settings_from.Goals as goal

pub returns : goal.returns
returns c = search (settings_loaded, rules)
