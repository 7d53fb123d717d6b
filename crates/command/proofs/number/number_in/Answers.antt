-- `command::number::number_in` meets its contract.
use Rattle.command.proofs.Spends.{number_read}
use borrow.Author.Rules.{rules}
use Rattle.command.proofs.number.number_in.Goals as goal

pub returns : goal.returns
returns c = search (number_read, rules)
