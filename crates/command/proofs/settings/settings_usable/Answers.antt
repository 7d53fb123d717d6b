-- `command::settings::settings_usable` meets its contract.
use Rattle.command.proofs.Tests.{baud_not, accelerometer_not, all_tested}
use borrow.Author.Rules.{rules}
use Rattle.command.proofs.settings.settings_usable.Goals as goal

pub returns-then-not-usable : goal.returns-then-not-usable
returns-then-not-usable c = search (baud_not, rules)

pub returns-then-not-usable-2 : goal.returns-then-not-usable-2
returns-then-not-usable-2 c = search (accelerometer_not, rules)

pub returns : goal.returns
returns c = search (all_tested, rules)
