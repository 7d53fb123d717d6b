-- `message::unread::Unread::sums_right` meets its contract.
use Rattle.std.proofs.Common.{length-append, rules}
use Rattle.message.proofs.SumLaws.{right_second, right_first}
use Rattle.message.proofs.unread.Unread.sums_right.Goals as goal

pub returns-then-byte-t : goal.returns-then-byte-t
returns-then-byte-t c = search (right_second, length-append, rules)

pub returns-else-byte-t : goal.returns-else-byte-t
returns-else-byte-t c = search (right_first, length-append, rules)
