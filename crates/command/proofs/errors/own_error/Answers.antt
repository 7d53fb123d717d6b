-- `command::errors::own_error` meets its contract, by what the field is about.
use Rattle.command.proofs.Tests.{own_ping, own_unknown}
use borrow.Author.Rules.{rules}
use Rattle.command.proofs.errors.own_error.Goals as goal

pub returns-in-Ping : goal.returns-in-Ping
returns-in-Ping c = search (own_ping, rules)

pub returns-in-Unknown : goal.returns-in-Unknown
returns-in-Unknown c = search (own_unknown, rules)
