-- `sample::reader::find` meets its contract: each way out is one of the reader's answers.
use Rattle.std.proofs.Common.{rules}
use Rattle.std.proofs.lemmas.Result.{err_from_is_err_and}
use Rattle.sample.proofs.Places.{long, placed_whole, placed_type, placed_tested, placed_start}
use Rattle.sample.proofs.reader.find.Goals as goal

pub returns-in_err-check_message : goal.returns-in_err-check_message
returns-in_err-check_message c = let p = err_from_is_err_and c.from_residual.result c.from_residual.ensures.1 in rw (p.1, p.2) (search (placed_whole, rules))

pub bounds-message-2 : goal.bounds-message-2
bounds-message-2 c = search (long, rules)

pub returns-then-message : goal.returns-then-message
returns-then-message c = search (placed_type, rules)

pub returns-in_err-test_fields : goal.returns-in_err-test_fields
returns-in_err-test_fields c =
    let f = c.from_residual-in_err-test_fields in
    let p = err_from_is_err_and f.result f.ensures.1 in
    rw (p.1, p.2) (search (placed_tested, rules))

pub returns : goal.returns
returns c =
    let p = c.payload_of-payload in
    placed_start c.args.message.now c.args.k c.in_ok-check_message.ensures c.if-message.false p.result.now p.ensures c.in_ok-test_fields.ensures c.field_start.result c.field_start.ensures c.ok_or.result c.ok_or.ensures.value
