-- `page::put::put_setting` meets its contract: a setting's code stands for it.
use Rattle.page.proofs.Puts.{put_coded}
use borrow.Author.Rules.{rules}
use Rattle.page.proofs.put.put_setting.Goals as goal

pub returns : goal.returns
returns c = search (put_coded, rules)
