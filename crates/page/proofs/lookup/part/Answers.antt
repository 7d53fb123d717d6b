-- `page::lookup::part` meets its contract: the test says which case of `part_of` holds.
use borrow.Author.Rules.{rules}
use Rattle.page.proofs.Lookups.{part_there, part_missing}
use Rattle.page.proofs.lookup.part.Goals as goal

pub returns-then-end-page : goal.returns-then-end-page
returns-then-end-page c = search (part_there, rules)

pub returns-else-end-page : goal.returns-else-end-page
returns-else-end-page c = search (part_missing, rules)
