-- `command::refused::answer_refused` meets its contract: a room that is too small, or any other.
use Rattle.command.proofs.Refusals.{refused_small, refused_large}
use borrow.Author.Rules.{rules}
use Rattle.command.proofs.refused.answer_refused.Goals as goal

pub returns-then-room-lt166 : goal.returns-then-room-lt166
returns-then-room-lt166 c = search (refused_small, rules)

pub returns : goal.returns
returns c = search (refused_large, rules)
