-- `client::writer::write_numbered` meets its contract: the field is refused, or a message is made of the number, the type and it.
use native.Mathlib.Omega.{arith}
use mathlib.Core.List.{[], ◌∷◌}
use mathlib.Core.Path.{sym}
use lib.Seq.{length-take-le}
use borrow.Author.Rules.{rules}
use Rattle.std.proofs.lemmas.Result.{err_from_is_err_and}
use Rattle.client.proofs.Writings.{field_fits, numbered_done, numbered_refused}
use Rattle.client.proofs.writer.write_numbered.Goals as goal

pub returns-in_err-n : goal.returns-in_err-n
returns-in_err-n c =
    let p = err_from_is_err_and c.from_residual.result c.from_residual.ensures.1 in
    rw (p.1, p.2) (numbered_refused _ _ _ _ c.kind_of-kind.ensures _ _ (omega arith) _ _ c.in_err-n.ensures _ _)

pub slice_bounds-payload-end : goal.slice_bounds-payload-end
slice_bounds-payload-end c = field_fits _ _ _ _ c.kind_of-kind.ensures _ _ (omega arith) _ _ c.in_ok-n.ensures

pub slice_bounds-write_message-end : goal.slice_bounds-write_message-end
slice_bounds-write_message-end c = sym (length-take-le _ _ (field_fits _ _ _ _ c.kind_of-kind.ensures _ _ (omega arith) _ _ c.in_ok-n.ensures))

pub returns : goal.returns
returns c = numbered_done _ _ _ _ _ c.kind_of-kind.ensures _ c.to_be_bytes.ensures (0 ∷ 0 ∷ 0 ∷ 0 ∷ 0 ∷ 0 ∷ 0 ∷ []) _ (omega arith) _ c.in_ok-n.ensures _ (search rules) _ _ c.write_message.ensures
