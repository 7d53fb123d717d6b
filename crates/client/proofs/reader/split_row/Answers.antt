-- `client::reader::split_row` meets its contract: a row with a value, or without.
use Rattle.client.proofs.Readings.{row_with, row_without}
use borrow.Author.Rules.{rules}
use Rattle.client.proofs.reader.split_row.Goals as goal
use Rattle.client.proofs.reader.split_row.Goals.{in-Some, in-None}

pub returns-after-split_value : goal.returns-after-split_value
returns-after-split_value c =
    elim c.match-split_value.branch [
      | in-Some w ↦ rw w.value-is (row_with _ _ (search rules) (search rules) (search rules) (search rules) _ _ w.in-Some.ensures)
      | in-None w ↦ rw w.value-is (row_without _ _ (search rules) (search rules) (search rules) (search rules) w.in-None.ensures)
    ]
