-- `page::store::stored_value` meets its contract, by the setting.
use Rattle.page.proofs.Stores.{value_held}
use borrow.Author.Rules.{rules}
use Rattle.page.proofs.store.stored_value.Goals as goal

pub returns : goal.returns
returns c = search (value_held, rules)
