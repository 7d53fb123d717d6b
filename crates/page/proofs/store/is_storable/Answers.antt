-- `page::store::is_storable` meets its contract. With an answer of its own a wrong test (older_range_not_written) is refused with every way
-- tried, and not by a limit of the search.
use borrow.Author.Rules.{rules}
use Rattle.page.proofs.store.is_storable.Goals as goal

pub returns : goal.returns
returns c = search rules
