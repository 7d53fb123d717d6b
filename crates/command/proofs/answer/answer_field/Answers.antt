-- `command::answer::answer_field` meets its contract, by the error and by what the field is about.
use Rattle.command.proofs.Answers.{field_ready, field_loads, field_setting}
use borrow.Author.Rules.{rules}
use Rattle.command.proofs.answer.answer_field.Goals as goal

pub obey-requires : goal.obey-requires
obey-requires c = (search (field_ready, rules), λ f. search (field_loads, f, rules))

pub returns-in-Setting : goal.returns-in-Setting
returns-in-Setting c = search (field_setting, rules)
