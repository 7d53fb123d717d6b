-- `message::window::seek_after` meets its contract.
use Rattle.std.proofs.Common.{◌+◌, ◌≤◌, length, arith, rules}
use Rattle.message.proofs.Framed.{starved_within, found_within}
use Rattle.message.proofs.window.seek_after.Goals as goal

pub overflow_add-result : goal.overflow_add-result
overflow_add-result c = let h : c.in-Starved.k ≤ length c.args.chunk.now = search (starved_within, rules) in
    omega arith

pub overflow_add-result-in-Found : goal.overflow_add-result-in-Found
overflow_add-result-in-Found c = let h : c.in-Found.k + c.in-Found.n ≤ length c.args.chunk.now = search (found_within, rules) in
    omega arith
