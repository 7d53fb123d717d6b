-- `command::fields::command_error` meets its contract: each `return` is a test.
use Rattle.command.proofs.Payloads.{whole_other, whole_empty, whole_fit, whole_unfit}
use borrow.Author.Rules.{rules}
use Rattle.command.proofs.fields.command_error.Goals as goal

pub returns-then-not-is_kind : goal.returns-then-not-is_kind
returns-then-not-is_kind c = search (whole_other, rules)

pub returns-then-payload : goal.returns-then-payload
returns-then-payload c = search (whole_empty, rules)

pub returns-then-fields_fit : goal.returns-then-fields_fit
returns-then-fields_fit c = search (whole_fit, rules)

pub returns-else-fields_fit : goal.returns-else-fields_fit
returns-else-fields_fit c = search (whole_unfit, rules)
