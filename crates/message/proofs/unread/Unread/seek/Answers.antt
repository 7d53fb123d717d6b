-- `message::unread::Unread::seek` meets its contract. The invariant: what remains to be sought is what is sought in all.
use Rattle.std.proofs.Common.{rules}
use Rattle.stream.proofs.Ends.{skip_passed, message_found, undecided_passed, undecided_stops}
use Rattle.message.proofs.Fronts.{skip_there, whole_there}
use Rattle.message.proofs.Windows.{held_within}
use Rattle.message.proofs.Skipped.{seek_passes}
use Rattle.message.proofs.unread.Unread.seek.Goals as goal

pub loop-at-preserved-in-Skip : goal.loop-at-preserved-in-Skip
loop-at-preserved-in-Skip c = (search rules, search (seek_passes, skip_passed, skip_there, rules))

pub loop-at-preserved : goal.loop-at-preserved
loop-at-preserved c = (search rules, search (undecided_passed, held_within, rules))

pub returns-else-ended : goal.returns-else-ended
returns-else-ended c = search (undecided_stops, rules)

pub returns-in-Whole : goal.returns-in-Whole
returns-in-Whole c = search (message_found, whole_there, rules)
