-- `listing::writers::write_line` meets its contract: the parts have room in the line, and are the line of the row.
use Rattle.std.proofs.Common.{◌∙◌, ◌≤◌, true, false, length, arith}
use Rattle.listing.specs.Text.{decimal_of, line_of}
use Rattle.listing.proofs.Decimals.{byte_digits}
use Rattle.listing.proofs.Lines.{with_error, codes_length, written_as, line_made}
use Rattle.listing.proofs.writers.write_line.Goals as goal
use Rattle.listing.proofs.writers.write_line.Goals.{then-saved, else-saved}

pub decimal-requires : goal.decimal-requires
decimal-requires c =
    let l = codes_length c.args.kind c.args.echo c.new-line.result c.code.new.self c.code-2.new.self c.new-line.ensures c.code.ensures c.code-2.ensures in
    let d : length (decimal_of c.from.result) ≤ 3 = rw c.from.ensures (byte_digits c.args.error c.ranges.error.fits) in
    omega (arith, l, d)

pub text-requires : goal.text-requires
text-requires c =
    let l = codes_length c.args.kind c.args.echo c.new-line.result c.code.new.self c.code-2.new.self c.new-line.ensures c.code.ensures c.code-2.ensures in
    omega (arith, with_error c.args.error c.from.result c.code-2.new.self c.decimal.new.self l c.from.ensures c.decimal.ensures c.ranges.error.fits)

pub text-requires-else-saved : goal.text-requires-else-saved
text-requires-else-saved c =
    let l = codes_length c.args.kind c.args.echo c.new-line.result c.code.new.self c.code-2.new.self c.new-line.ensures c.code.ensures c.code-2.ensures in
    omega (arith, with_error c.args.error c.from.result c.code-2.new.self c.decimal.new.self l c.from.ensures c.decimal.ensures c.ranges.error.fits)

pub returns : goal.returns
returns c =
    let a = c.args in
    elim c.if-saved.branch [
      | then-saved w ↦
          written_as _ _ _ (line_of a.kind a.echo a.error a.saved) a.room.now (c.bytes.ensures ∙ w.line-is)
          (rw w.if-saved.true (line_made a.kind a.echo a.error c.from.result true _ _ _ _ _ c.new-line.ensures c.code.ensures c.code-2.ensures c.from.ensures c.decimal.ensures w.text.ensures))
          c.write_bytes.ensures
      | else-saved w ↦
          written_as _ _ _ (line_of a.kind a.echo a.error a.saved) a.room.now (c.bytes.ensures ∙ w.line-is)
          (rw w.if-saved.false (line_made a.kind a.echo a.error c.from.result false _ _ _ _ _ c.new-line.ensures c.code.ensures c.code-2.ensures c.from.ensures c.decimal.ensures w.text-else-saved.ensures))
          c.write_bytes.ensures
    ]
