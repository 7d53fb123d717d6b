-- `command::answer::answer_command` meets its contract: a command refused as a whole, or its fields.
use native.Mathlib.Omega.{arith}
use Rattle.command.proofs.Answers.{placed_row, command_refused, command_reached}
use Rattle.command.proofs.Payloads.{fields_there}
use borrow.Author.Rules.{rules}
use Rattle.command.proofs.answer.answer_command.Goals as goal

pub returns-then-whole_error-ne0 : goal.returns-then-whole_error-ne0
returns-then-whole_error-ne0 c = search (placed_row, command_refused, rules)

pub answer_fields-requires : goal.answer_fields-requires
answer_fields-requires c = let a = c.args in
    let pre = c.requires in
    let t = fields_there a.payload.unread.held.now a.payload.unread.chunk.now a.payload.from a.payload.to a.kind pre.0.0 pre.0.1 _ c.command_error-whole_error.ensures c.if-whole_error-ne0.false in
    (pre.0, pre.1, t.0, t.1, omega arith)

pub returns : goal.returns
returns c = search (command_reached, rules)
