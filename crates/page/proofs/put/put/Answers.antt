-- `page::put::put` meets its contract: a page of another size, the page filled anew, and values that are not storable.
use Rattle.page.proofs.Puts.{put_19, put_20, put_done}
use borrow.Author.Rules.{rules}
use Rattle.page.proofs.put.put.Goals as goal

pub returns-in_default : goal.returns-in_default
returns-in_default c = search (put_19, rules)

pub returns-then-all_storable : goal.returns-then-all_storable
returns-then-all_storable c = search (put_done, rules)

pub returns-else-all_storable : goal.returns-else-all_storable
returns-else-all_storable c = search (put_20, rules)
