-- `page::store::held_value` meets its contract: no entry, a body of another size, and the value.
use borrow.Author.Rules.{rules}
use Rattle.page.proofs.Lookups.{held_no_entry, held_other_size, held_there}
use Rattle.page.proofs.store.held_value.Goals as goal

pub returns-in_err-entry : goal.returns-in_err-entry
returns-in_err-entry c = search (held_no_entry, rules)

pub returns-then-bytes-size : goal.returns-then-bytes-size
returns-then-bytes-size c = search (held_other_size, c.in_ok-entry.was, rules)

pub returns : goal.returns
returns c = search (held_there, c.in_ok-entry.was, rules)
