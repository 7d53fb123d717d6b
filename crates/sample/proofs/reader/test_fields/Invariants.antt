-- `sample::reader::test_fields` meets its contract. Invariant: what remains, with the sizes passed, gives the number of the whole.
use Prim.Native.Nat.{◌-◌, ◌≤◌}
use mathlib.Core.Path.{◌≡◌}
use mathlib.Core.Bool.{false}
use lib.ListN.{length, drop}
use Rattle.message.specs.Fields.{fields_past, fields_of}
use Rattle.sample.specs.Walk.{tested_from}
use Rattle.sample.proofs.reader.test_fields.Given as goal

abbrev pub invariant-loop-at : goal.invariant-loop-at
invariant-loop-at l = (l.at ≤ length l.payload) × (tested_from l.wrong (fields_past 0 (drop l.at l.payload)) ≡ tested_from false (fields_of l.payload))

abbrev pub decreases-loop-at : goal.decreases-loop-at
decreases-loop-at l = length l.payload - l.at
