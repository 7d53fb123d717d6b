-- `sample::reader::test_fields` meets its contract. Invariant: what remains, with the sizes passed, gives the number of the whole.
use borrow.Author.Rules.{rules}
use native.Mathlib.Omega.{arith}
use mathlib.Core.Path.{refl}
use Rattle.message.specs.Fields.{fields_of}
use Rattle.sample.proofs.Walks.{tested_over, tested_passes}
use Rattle.sample.proofs.reader.test_fields.Goals as goal

pub loop-at-init : goal.loop-at-init
unfolding fields_of
loop-at-init c = (omega arith, refl)

pub returns-then-payload-end : goal.returns-then-payload-end
returns-then-payload-end c = search (tested_over, rules)

pub loop-at-preserved : goal.loop-at-preserved
loop-at-preserved c = (omega arith, search (tested_passes, rules))
