-- `message::front::seek` meets its contract. The invariant: what remains to be sought is what is sought in all.
use Rattle.std.proofs.Common.{◌<◌, length, arith, rules}
use Rattle.stream.proofs.Ends.{nothing_left, skip_passed, message_found, undecided_passed, undecided_stops}
use Rattle.message.proofs.Fronts.{skip_there, whole_there}
use Rattle.message.proofs.Skipped.{seek_passes_here}
use Rattle.message.proofs.front.seek.Goals as goal

there : (c : goal.In-Skip) → c.loop-at.at < length c.args.s.now
there c = search (skip_there, rules)

pub past_skips-at-requires : goal.past_skips-at-requires
past_skips-at-requires c = let h = there c in omega arith

pub loop-at-preserved-in-Skip : goal.loop-at-preserved-in-Skip
loop-at-preserved-in-Skip c = (search rules, search (seek_passes_here, skip_passed, skip_there, rules))

pub returns-in-Undecided-2 : goal.returns-in-Undecided-2
returns-in-Undecided-2 c = search (nothing_left, rules)

pub loop-at-preserved : goal.loop-at-preserved
loop-at-preserved c = (search rules, search (undecided_passed, rules))

pub returns-in-Undecided-2-2 : goal.returns-in-Undecided-2-2
returns-in-Undecided-2-2 c = search (undecided_stops, rules)

pub returns-in-Whole : goal.returns-in-Whole
returns-in-Whole c = search (message_found, whole_there, rules)
