-- `command::command::subject_of` meets its contract, by type and code.
use Rattle.command.proofs.Subjects.{subject_ping, subject_not_ping, subject_no_kind, subject_setting, subject_nothing}
use borrow.Author.Rules.{rules}
use Rattle.command.proofs.command.subject_of.Goals as goal

pub returns-then-code-eq2 : goal.returns-then-code-eq2
returns-then-code-eq2 c = search (subject_ping, rules)

pub returns-then-kind-eq1 : goal.returns-then-kind-eq1
returns-then-kind-eq1 c = search (subject_not_ping, rules)

pub returns-then-kind-ne2 : goal.returns-then-kind-ne2
returns-then-kind-ne2 c = search (subject_no_kind, rules)

pub returns-in-Some : goal.returns-in-Some
returns-in-Some c = search (subject_setting, rules)

pub returns-in-None : goal.returns-in-None
returns-in-None c = search (subject_nothing, rules)
