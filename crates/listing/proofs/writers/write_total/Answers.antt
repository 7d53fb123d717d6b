-- `listing::writers::write_total` meets its contract: the parts have room in the line, and are the total.
use Rattle.std.proofs.Common.{length, ap, arith}
use Rattle.listing.specs.Text.{total_of}
use Rattle.listing.proofs.Decimals.{word-digits}
use Rattle.listing.proofs.Lines.{with_number, written_as, total_made}
use Rattle.listing.proofs.writers.write_total.Goals as goal

pub decimal-requires : goal.decimal-requires
decimal-requires c = omega (arith, ap length c.new-line.ensures, word-digits c.args.n c.ranges.n.fits)

pub text-requires : goal.text-requires
text-requires c =
    let l = with_number 0 c.args.n c.new-line.result c.decimal.new.self (omega (arith, ap length c.new-line.ensures)) c.decimal.ensures c.ranges.n.fits in
    omega (arith, l)

pub returns : goal.returns
returns c = written_as _ _ _ (total_of c.args.n) c.args.room.now c.bytes.ensures (total_made c.args.n _ _ _ c.new-line.ensures c.decimal.ensures c.text.ensures) c.write_bytes.ensures
