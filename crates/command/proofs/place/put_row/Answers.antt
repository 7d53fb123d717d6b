-- `command::place::put_row` meets its contract.
use Rattle.std.proofs.Common.{rules}
use Rattle.command.proofs.Places.{row_put}
use Rattle.command.proofs.place.put_row.Goals as goal

pub returns-clause-room_after : goal.returns-clause-room_after
returns-clause-room_after c = search (row_put, rules)
