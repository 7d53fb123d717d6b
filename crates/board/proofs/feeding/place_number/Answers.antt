-- `board::feeding::place_number` meets its contract.
use Rattle.board.proofs.InPlace.{place_16, place_17, place_row, place_rest}
use borrow.Author.Rules.{rules}
use Rattle.board.proofs.feeding.place_number.Goals as goal

pub returns-then-port-gt1 : goal.returns-then-port-gt1
returns-then-port-gt1 c = search (place_16, rules)

pub returns-then-bytes-ne-ROOM : goal.returns-then-bytes-ne-ROOM
returns-then-bytes-ne-ROOM c = search (place_17, rules)

pub returns-then-totals-ne-ROW : goal.returns-then-totals-ne-ROW
returns-then-totals-ne-ROW c = search (place_row, rules)

pub returns : goal.returns
returns c = search (place_rest, rules)
