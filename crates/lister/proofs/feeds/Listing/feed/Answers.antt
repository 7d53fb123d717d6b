-- `lister::feeds::Listing::feed` meets its contract.
use Rattle.std.proofs.Common.{false}
use Rattle.lister.proofs.Moved.{fed_moves}
use Rattle.lister.proofs.feeds.Listing.feed.Goals as goal

pub returns : goal.returns
returns c =
    let a = c.args in
    let s = a.self.now in
    let f = c.feed_in_place-fed in
    fed_moves s.bytes s.held s.settings false s.totals a.chunk.now a.reply.now s.page f.new.bytes f.new.totals f.new.room f.new.page f.result f.ensures
