-- `page::store::last_number` meets its contract: the value under code 70.
use borrow.Author.Rules.{rules}
use Rattle.page.specs.Lookup.{values_in}
use Rattle.page.proofs.store.last_number.Goals as goal

pub returns : goal.returns
unfolding values_in
returns c = search rules
