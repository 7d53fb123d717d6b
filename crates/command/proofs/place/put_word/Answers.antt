-- `command::place::put_word` meets its contract.
use Rattle.command.proofs.Places.{word_put}
use borrow.Author.Rules.{rules}
use Rattle.command.proofs.place.put_word.Goals as goal

pub returns : goal.returns
returns c = search (word_put, rules)
