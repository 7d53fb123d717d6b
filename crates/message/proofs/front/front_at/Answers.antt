-- `message::front::front_at` meets its contract: each verdict is that of what the first bytes tell.
use Rattle.message.proofs.Openings.{front_no_message, front_incomplete, front_complete}
use Rattle.message.proofs.Fronts.{front-none, opening_here, complete_within}
use Rattle.std.proofs.Common.{rules}
use Rattle.message.proofs.front.front_at.Goals as goal

pub returns-then-s-at : goal.returns-then-s-at
returns-then-s-at c = search (front-none, rules)

pub sums_right-requires : goal.sums_right-requires
sums_right-requires c = let s = c.args.s.now in
    let at = c.args.at in
    complete_within s at _ (opening_here s at _ _ c.from.ensures c.opening.ensures) _ c.in-Complete.is c.if-s-at.false

pub returns-in-NoMessage : goal.returns-in-NoMessage
returns-in-NoMessage c = search (front_no_message, opening_here, rules)

pub returns-in-Incomplete : goal.returns-in-Incomplete
returns-in-Incomplete c = search (front_incomplete, opening_here, rules)

pub returns-in-Complete : goal.returns-in-Complete
returns-in-Complete c = search (front_complete, opening_here, rules)
