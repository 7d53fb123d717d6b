-- `client::reader::read_reply` meets its contract: a refusal by its number, or what the rows of the payload give.
use Rattle.std.proofs.lemmas.Result.{err_from_is_err_and}
use Rattle.client.proofs.Readings.{read_refused, read_type, read_sums, read_header, read_most, read_passed}
use Rattle.client.proofs.reader.read_reply.Goals as goal

pub returns-in_err-check_message : goal.returns-in_err-check_message
returns-in_err-check_message c =
    let p = err_from_is_err_and c.from_residual.result c.from_residual.ensures.1 in
    rw (p.1, p.2) (read_refused _ _ c.in_err-check_message.ensures _)

pub bounds-message-2 : goal.bounds-message-2
bounds-message-2 c = read_type _ c.in_ok-check_message.ensures

pub overflow_sub-n : goal.overflow_sub-n
overflow_sub-n c = read_sums _ c.in_ok-check_message.ensures

pub slice_bounds-read_rows-count : goal.slice_bounds-read_rows-count
slice_bounds-read_rows-count c = read_header _ c.in_ok-check_message.ensures

pub slice_bounds-read_rows-start : goal.slice_bounds-read_rows-start
slice_bounds-read_rows-start c = read_header _ c.in_ok-check_message.ensures

pub read_rows-requires : goal.read_rows-requires
read_rows-requires c = read_most _ c.in_ok-check_message.ensures

pub returns : goal.returns
returns c = read_passed _ c.in_ok-check_message.ensures _ _ c.read_rows.ensures
