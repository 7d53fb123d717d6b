-- `client::reader::read_rows` meets its contract. Invariant: the rows read, with those that remain, are all.
use Rattle.client.proofs.RowTurns.{turn_refused, turn_asked, turn_passed, end_refused, end_kept}
use Rattle.client.proofs.reader.read_rows.Goals as goal
use Rattle.client.proofs.reader.read_rows.Goals.{then-n-row, else-n-row}

pub returns-in_default : goal.returns-in_default
returns-in_default c = turn_refused _ _ _ _ _ _ c.loop-rest.invariant c.loop-rest-test.ensures c.in_default.ensures

pub loop-rest-preserved : goal.loop-rest-preserved
loop-rest-preserved c =
    elim c.if-n-row.branch [
      | then-n-row w ↦ rw w.kept-is (turn_asked _ _ _ _ _ _ c.loop-rest.invariant _ _ c.in-Some.ensures w.if-n-row.true)
      | else-n-row w ↦ rw w.kept-is (turn_passed _ _ _ _ _ _ c.loop-rest.invariant _ _ c.in-Some.ensures w.if-n-row.false)
    ]

pub returns-then-rows_wrong : goal.returns-then-rows_wrong
returns-then-rows_wrong c = end_refused _ _ _ _ _ _ c.loop-rest.invariant c.loop-rest-test.ensures c.if-rows_wrong.ensures

pub returns : goal.returns
returns c = end_kept _ _ _ _ _ _ c.loop-rest.invariant c.loop-rest-test.ensures c.if-rows_wrong.ensures
