-- `client::writer::write_command` meets its contract: the field is refused, or a message is made of it.
use native.Mathlib.Omega.{arith}
use mathlib.Core.Path.{sym}
use lib.Seq.{length-take-le}
use borrow.Author.Rules.{rules}
use Rattle.std.proofs.lemmas.Result.{err_from_is_err_and}
use Rattle.client.proofs.Writings.{field_fits, command_done, command_refused}
use Rattle.client.proofs.writer.write_command.Goals as goal

pub returns-in_err-n : goal.returns-in_err-n
returns-in_err-n c =
    let p = err_from_is_err_and c.from_residual.result c.from_residual.ensures.1 in
    rw (p.1, p.2) (command_refused _ _ _ _ c.kind_of-kind.ensures _ _ (omega arith) _ _ c.in_err-n.ensures _)

pub slice_bounds-field-end : goal.slice_bounds-field-end
slice_bounds-field-end c = field_fits _ _ _ _ c.kind_of-kind.ensures _ _ (omega arith) _ _ c.in_ok-n.ensures

pub slice_bounds-write_message-end : goal.slice_bounds-write_message-end
slice_bounds-write_message-end c = sym (length-take-le _ _ (field_fits _ _ _ _ c.kind_of-kind.ensures _ _ (omega arith) _ _ c.in_ok-n.ensures))

pub returns : goal.returns
returns c = command_done _ _ _ _ c.kind_of-kind.ensures _ _ (omega arith) _ c.in_ok-n.ensures _ (search rules) _ _ c.write_message.ensures
