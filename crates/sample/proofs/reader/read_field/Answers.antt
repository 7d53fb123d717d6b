-- `sample::reader::read_field` meets its contract: the field found, or a refusal.
use Rattle.std.proofs.lemmas.Result.{err_from_is_err_and}
use Rattle.sample.proofs.Places.{read_at, read_refused}
use Rattle.sample.proofs.reader.read_field.Goals as goal

pub returns-in_err-at : goal.returns-in_err-at
returns-in_err-at c =
    let p = err_from_is_err_and c.from_residual.result c.from_residual.ensures.1 in
    rw (p.1, p.2) (read_refused c.args.message.now c.args.k c.find.result c.find.ensures c.in_err-at.field-0.0 c.in_err-at.was)

pub returns : goal.returns
returns c =
    let p = c.payload_of in
    read_at c.args.message.now c.args.k c.find.result c.find.ensures c.in_ok-at.at c.in_ok-at.was p.result.now p.ensures c.read_at.result c.read_at.ensures
