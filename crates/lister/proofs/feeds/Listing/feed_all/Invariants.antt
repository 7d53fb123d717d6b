-- `lister::feeds::Listing::feed_all` ends: each feed that finds a message leaves fewer bytes held or in the piece.
use Rattle.std.proofs.Common.{◌+◌, length}
use Rattle.lister.proofs.feeds.Listing.feed_all.Given as goal

abbrev pub decreases-loop-rest : goal.decreases-loop-rest
decreases-loop-rest l = l.self.held + length l.rest
