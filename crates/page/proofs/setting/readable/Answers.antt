-- `page::setting::readable` meets its contract: a reply's values are those of a page.
use borrow.Author.Rules.{rules}
use Rattle.page.proofs.Settings.{reply_reports}
use Rattle.page.proofs.setting.readable.Goals as goal

pub returns : goal.returns
returns c = search (reply_reports, rules)
