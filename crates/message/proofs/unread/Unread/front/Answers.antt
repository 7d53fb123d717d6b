-- `message::unread::Unread::front` meets its contract: each verdict is that of what the first bytes tell.
use Rattle.message.proofs.Openings.{front_no_message, front_incomplete, front_complete}
use Rattle.message.proofs.Windows.{opening_after, complete_over}
use Rattle.std.proofs.Common.{rules}
use Rattle.message.proofs.unread.Unread.front.Goals as goal

pub sums_right-requires : goal.sums_right-requires
sums_right-requires c = let held = c.args.self.held.now in
    let chunk = c.args.self.chunk.now in
    let at = c.args.at in
    let h = c.if-h-at.false in
    complete_over held chunk at _ h (opening_after held chunk at _ _ c.after.ensures c.opening.ensures) _ c.in-Complete.is

pub returns-in-NoMessage : goal.returns-in-NoMessage
returns-in-NoMessage c = search (front_no_message, opening_after, rules)

pub returns-in-Incomplete : goal.returns-in-Incomplete
returns-in-Incomplete c = search (front_incomplete, opening_after, rules)

pub returns-in-Complete : goal.returns-in-Complete
returns-in-Complete c = search (front_complete, opening_after, rules)
