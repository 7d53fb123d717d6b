-- `sample::reader::field_start` meets its contract. Invariant: of the fields that remain, the one to find is number k - counter.
use Rattle.std.proofs.Common.{◌-◌}
use Rattle.sample.specs.Walk.{Walked}
use Rattle.sample.proofs.reader.field_start.Given as goal

abbrev pub invariant-loop : goal.invariant-loop
invariant-loop l = Walked l.payload l.k l.at (l.k - l.counter)
