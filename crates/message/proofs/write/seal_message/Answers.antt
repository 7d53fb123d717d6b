-- `message::write::seal_message` meets its contract: a refusal of the size, and the message.
use Rattle.std.proofs.Common.{rules}
use Rattle.std.proofs.lemmas.Result.{err_from_is_err_and}
use Rattle.message.proofs.Writes.{seal_refused, sealed}
use Rattle.message.proofs.write.seal_message.Goals as goal

pub returns-in_err-size : goal.returns-in_err-size
returns-in_err-size c = let p = err_from_is_err_and c.from_residual.result c.from_residual.ensures.1 in rw (p.1, p.2) (search (seal_refused, rules))

pub returns : goal.returns
returns c = search (sealed, rules)
