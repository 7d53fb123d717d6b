-- `page::sound::is_blank_page` meets its contract: one byte more, and the end.
use borrow.Author.Rules.{rules}
use Rattle.page.proofs.Walks.{compared_more, compared_all}
use Rattle.page.proofs.sound.is_blank_page.Goals as goal

pub loop-i-preserved : goal.loop-i-preserved
loop-i-preserved c = search (compared_more, rules)

pub returns : goal.returns
returns c = search (compared_all, rules)
