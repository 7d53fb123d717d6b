-- `message::unread::Unread::sums` meets its contract.
use Rattle.message.proofs.Windows.{sums_straddling}
use Rattle.std.proofs.Common.{rules}
use Rattle.message.proofs.unread.Unread.sums.Goals as goal

pub returns : goal.returns
returns c = search (sums_straddling, rules)
