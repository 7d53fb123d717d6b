-- `sample::reader::sample_at` meets its contract, by the field's code.
use Rattle.std.proofs.Common.{rules}
use Rattle.sample.proofs.Walks.{sample_81, sample_82, sample_other}
use Rattle.sample.proofs.reader.sample_at.Goals as goal

pub returns-in-129 : goal.returns-in-129
returns-in-129 c = search (sample_81, rules)

pub returns-in-130 : goal.returns-in-130
returns-in-130 c = search (sample_82, rules)

pub returns-in_default : goal.returns-in_default
returns-in_default c = search (sample_other, rules)
