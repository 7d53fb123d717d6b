-- `command::refused::opening_error` meets its contract: each `return` is a test.
use Rattle.command.proofs.Refusals.{opening_damaged, opening_numbered, opening_command, opening_other}
use borrow.Author.Rules.{rules}
use Rattle.command.proofs.refused.opening_error.Goals as goal

pub returns-then-not-good : goal.returns-then-not-good
returns-then-not-good c = search (opening_damaged, rules)

pub returns-then-kind-eq124 : goal.returns-then-kind-eq124
returns-then-kind-eq124 c = search (opening_numbered, rules)

pub returns-then-is_kind : goal.returns-then-is_kind
returns-then-is_kind c = search (opening_command, rules)

pub returns-else-is_kind : goal.returns-else-is_kind
returns-else-is_kind c = search (opening_other, rules)
