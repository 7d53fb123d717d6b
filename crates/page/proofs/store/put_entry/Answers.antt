-- `page::store::put_entry` meets its contract: the body is copied in behind those before it.
use Rattle.std.proofs.Common.{rules}
use Rattle.page.proofs.Drafts.{entry_put}
use Rattle.page.proofs.store.put_entry.Goals as goal

pub returns-clause-draft : goal.returns-clause-draft
returns-clause-draft g c = search (entry_put, rules)
