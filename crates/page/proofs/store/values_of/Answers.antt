-- `page::store::values_of` meets its contract: one value of each setting, and the number.
use Rattle.page.specs.Lookup.{values_in}
use Rattle.page.proofs.store.values_of.Goals as goal

pub returns : goal.returns
unfolding values_in
returns c = cc
