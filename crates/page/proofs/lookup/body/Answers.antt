-- `page::lookup::body` meets its contract: by which page has the entry.
use borrow.Author.Rules.{rules}
use Rattle.page.proofs.Lookups.{body_saved, body_factory, body_nowhere}
use Rattle.page.proofs.lookup.body.Goals as goal

pub returns-in-Some : goal.returns-in-Some
returns-in-Some c = search (body_saved, rules)

pub returns-in-Some-find_entry : goal.returns-in-Some-find_entry
returns-in-Some-find_entry c = search (body_factory, rules)

pub returns : goal.returns
returns c = search (body_nowhere, rules)
