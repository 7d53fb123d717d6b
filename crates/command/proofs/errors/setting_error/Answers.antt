-- `command::errors::setting_error` meets its contract: each `return` is a test of a setting's field.
use Rattle.command.proofs.Tests.{own_malformed, own_value, own_load, own_other}
use borrow.Author.Rules.{rules}
use Rattle.command.proofs.errors.setting_error.Goals as goal

pub returns-then-is_malformed : goal.returns-then-is_malformed
returns-then-is_malformed c = search (own_malformed, rules)

pub returns-then-c-eq1 : goal.returns-then-c-eq1
returns-then-c-eq1 c = search (own_value, rules)

pub returns-then-c-eq4 : goal.returns-then-c-eq4
returns-then-c-eq4 c = search (own_load, rules)

pub returns : goal.returns
returns c = search (own_other, rules)
