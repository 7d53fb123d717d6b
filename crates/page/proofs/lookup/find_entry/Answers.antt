-- `page::lookup::find_entry` meets its contract. The invariant: what the rest of the entries gives is what all of them give.
use borrow.Author.Rules.{rules}
use Rattle.page.proofs.Lookups.{entry_other_size, entry_many, entries_first, entry_here, entry_later, entry_none}
use Rattle.page.proofs.lookup.find_entry.Goals as goal

pub returns-then-page-ne64 : goal.returns-then-page-ne64
returns-then-page-ne64 c = search (entry_other_size, rules)

pub returns-then-n-gt4 : goal.returns-then-n-gt4
returns-then-n-gt4 c = search (entry_many, rules)

pub loop-left-init : goal.loop-left-init
loop-left-init c = search (entries_first, rules)

pub returns-then-page-i : goal.returns-then-page-i
returns-then-page-i c = search (entry_here, rules)

pub loop-left-preserved : goal.loop-left-preserved
loop-left-preserved c = search (entry_later, rules)

pub returns : goal.returns
returns c = search (entry_none, rules)
