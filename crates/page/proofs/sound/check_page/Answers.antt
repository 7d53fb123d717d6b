-- `page::sound::check_page` meets its contract: a sound page, another size, and an unsound page.
use borrow.Author.Rules.{rules}
use Rattle.page.proofs.Sounds.{page_done, page_other_size, page_unsound}
use Rattle.page.proofs.sound.check_page.Goals as goal

pub returns-then-is_sound : goal.returns-then-is_sound
returns-then-is_sound c = search (page_done, rules)

pub returns-then-page-ne64 : goal.returns-then-page-ne64
returns-then-page-ne64 c = search (page_other_size, rules)

pub returns : goal.returns
returns c = search (page_unsound, rules)
