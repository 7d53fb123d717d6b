-- `page::put::write_page` meets its contract: two refusals, and the page filled.
use Rattle.page.proofs.Stores.{refused_19, refused_20, page_written}
use borrow.Author.Rules.{rules}
use Rattle.page.proofs.put.write_page.Goals as goal

pub returns-in_default : goal.returns-in_default
returns-in_default c = search (refused_19, rules)

pub returns-then-not-all_storable : goal.returns-then-not-all_storable
returns-then-not-all_storable c = search (refused_20, rules)

pub returns : goal.returns
returns c = search (page_written, rules)
