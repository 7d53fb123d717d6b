-- `page::store::all_storable` meets its contract: one test after the other.
use borrow.Author.Rules.{rules}
use Rattle.std.specs.Prelude.{IfSome, ◌<◌}
use Rattle.page.proofs.Stores.{baud_not, accelerometer_not, gyroscope_decides}
use Rattle.page.proofs.store.all_storable.Goals as goal
use Rattle.page.proofs.store.all_storable.Goals.{then-is_storable, else-is_storable}

pub returns-then-is_storable-2 : goal.returns-then-is_storable-2
returns-then-is_storable-2 c =
    let fits : IfSome c.args.values.number (λ x. x < 4294967296) = search rules in
    elim c.if-is_storable.branch [
      | then-is_storable w ↦ search (gyroscope_decides, rules)
      | else-is_storable w ↦ search rules
    ]

pub returns-else-is_storable-2 : goal.returns-else-is_storable-2
returns-else-is_storable-2 c =
    elim c.if-is_storable.branch [
      | then-is_storable w ↦ search (accelerometer_not, rules)
      | else-is_storable w ↦ search (baud_not, rules)
    ]
