-- `command::answer::settings_after` meets its contract, by the function.
use Rattle.command.proofs.Answers.{after_load}
use Rattle.command.proofs.Loads.{loaded_there}
use borrow.Author.Rules.{rules}
use Rattle.command.proofs.answer.settings_after.Goals as goal

pub returns-then-function-eq4 : goal.returns-then-function-eq4
returns-then-function-eq4 c = let there = c.requires.1 c.if-function-eq4.true in
    search (after_load, loaded_there, there, rules)
