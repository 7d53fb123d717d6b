-- `page::store::factory_page` meets its contract: both sides are computed.
use mathlib.Core.Path.{refl}
use Rattle.page.specs.Page.{factory_page, writing}
use Rattle.page.proofs.store.factory_page.Goals as goal

pub returns : goal.returns
unfolding factory_page writing
returns c = refl
