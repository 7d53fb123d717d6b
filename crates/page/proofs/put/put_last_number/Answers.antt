-- `page::put::put_last_number` meets its contract.
use Rattle.page.proofs.Puts.{put_numbered}
use borrow.Author.Rules.{rules}
use Rattle.page.proofs.put.put_last_number.Goals as goal

pub returns : goal.returns
returns c = search (put_numbered, rules)
