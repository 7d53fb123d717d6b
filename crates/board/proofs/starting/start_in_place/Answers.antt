-- `board::starting::start_in_place` meets its contract: two arrays of another length, and the start.
use Rattle.board.proofs.Starts.{place_first, place_second, place_made}
use borrow.Author.Rules.{rules}
use Rattle.board.proofs.starting.start_in_place.Goals as goal

pub returns-then-first-ne-ROOM : goal.returns-then-first-ne-ROOM
returns-then-first-ne-ROOM c = search (place_first, rules)

pub returns-then-second-ne-ROOM : goal.returns-then-second-ne-ROOM
returns-then-second-ne-ROOM c = search (place_second, rules)

pub returns : goal.returns
returns c = search (place_made, rules)
