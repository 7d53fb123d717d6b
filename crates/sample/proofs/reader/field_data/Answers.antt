-- `sample::reader::field_data` meets its contract: the part of the field found, or an empty one.
use Rattle.std.proofs.Common.{rules}
use Rattle.sample.proofs.Places.{data_at, data_refused}
use Rattle.sample.proofs.reader.field_data.Goals as goal

pub returns-in-Ok : goal.returns-in-Ok
returns-in-Ok c = search (data_at, rules)

pub returns-in-Err : goal.returns-in-Err
returns-in-Err c = search (data_refused, rules)
