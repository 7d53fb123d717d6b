-- `client::reader::read_rows` meets its contract. Invariant: the rows read, with those that remain, are all.
use lib.ListN.{length}
use Rattle.client.specs.Reader.{reply_of}
use Rattle.client.proofs.RowTurns.{Reading}
use Rattle.client.proofs.reader.read_rows.Given as goal

abbrev pub invariant-loop-rest : goal.invariant-loop-rest
invariant-loop-rest l = Reading l.kind l.payload l.row (reply_of l.kept) l.n l.rest

abbrev pub decreases-loop-rest : goal.decreases-loop-rest
decreases-loop-rest l = length l.rest
