-- `listing::writers::write_counts` meets its contract: the parts have room in the line, and are the counts.
use Rattle.std.proofs.Common.{length, ap, arith}
use Rattle.listing.specs.Text.{taken_word, skipped_word, held_word, counts_of}
use Rattle.listing.proofs.Decimals.{word-digits}
use Rattle.listing.proofs.Lines.{with_text, with_number, written_as, counts_made}
use Rattle.listing.proofs.writers.write_counts.Goals as goal

pub decimal-requires : goal.decimal-requires
decimal-requires c =
    let l = with_text 0 taken_word c.new-line.result c.text.new.self (omega (arith, ap length c.new-line.ensures)) c.text.ensures in
    omega (arith, l, word-digits c.args.taken c.ranges.taken.fits)

pub text-requires-2 : goal.text-requires-2
text-requires-2 c =
    let l = with_text 0 taken_word c.new-line.result c.text.new.self (omega (arith, ap length c.new-line.ensures)) c.text.ensures in
    let m = with_number 6 c.args.taken c.text.new.self c.decimal.new.self l c.decimal.ensures c.ranges.taken.fits in
    omega (arith, m)

pub decimal-requires-2 : goal.decimal-requires-2
decimal-requires-2 c =
    let l = with_text 0 taken_word c.new-line.result c.text.new.self (omega (arith, ap length c.new-line.ensures)) c.text.ensures in
    let m = with_number 6 c.args.taken c.text.new.self c.decimal.new.self l c.decimal.ensures c.ranges.taken.fits in
    let n = with_text 26 skipped_word c.decimal.new.self c.text-2.new.self m c.text-2.ensures in
    omega (arith, n, word-digits c.args.skipped c.ranges.skipped.fits)

pub text-requires-3 : goal.text-requires-3
text-requires-3 c =
    let l = with_text 0 taken_word c.new-line.result c.text.new.self (omega (arith, ap length c.new-line.ensures)) c.text.ensures in
    let m = with_number 6 c.args.taken c.text.new.self c.decimal.new.self l c.decimal.ensures c.ranges.taken.fits in
    let n = with_text 26 skipped_word c.decimal.new.self c.text-2.new.self m c.text-2.ensures in
    let o = with_number 35 c.args.skipped c.text-2.new.self c.decimal-2.new.self n c.decimal-2.ensures c.ranges.skipped.fits in
    omega (arith, o)

pub decimal-requires-3 : goal.decimal-requires-3
decimal-requires-3 c =
    let l = with_text 0 taken_word c.new-line.result c.text.new.self (omega (arith, ap length c.new-line.ensures)) c.text.ensures in
    let m = with_number 6 c.args.taken c.text.new.self c.decimal.new.self l c.decimal.ensures c.ranges.taken.fits in
    let n = with_text 26 skipped_word c.decimal.new.self c.text-2.new.self m c.text-2.ensures in
    let o = with_number 35 c.args.skipped c.text-2.new.self c.decimal-2.new.self n c.decimal-2.ensures c.ranges.skipped.fits in
    let p = with_text 55 held_word c.decimal-2.new.self c.text-3.new.self o c.text-3.ensures in
    omega (arith, p, word-digits c.args.held c.ranges.held.fits)

pub text-requires-4 : goal.text-requires-4
text-requires-4 c =
    let l = with_text 0 taken_word c.new-line.result c.text.new.self (omega (arith, ap length c.new-line.ensures)) c.text.ensures in
    let m = with_number 6 c.args.taken c.text.new.self c.decimal.new.self l c.decimal.ensures c.ranges.taken.fits in
    let n = with_text 26 skipped_word c.decimal.new.self c.text-2.new.self m c.text-2.ensures in
    let o = with_number 35 c.args.skipped c.text-2.new.self c.decimal-2.new.self n c.decimal-2.ensures c.ranges.skipped.fits in
    let p = with_text 55 held_word c.decimal-2.new.self c.text-3.new.self o c.text-3.ensures in
    let q = with_number 61 c.args.held c.text-3.new.self c.decimal-3.new.self p c.decimal-3.ensures c.ranges.held.fits in
    omega (arith, q)

pub returns : goal.returns
returns c =
    let a = c.args in
    let e =
    counts_made a.taken a.skipped a.held _ _ _ _ _ _ _ _ c.new-line.ensures c.text.ensures c.decimal.ensures c.text-2.ensures c.decimal-2.ensures
    c.text-3.ensures c.decimal-3.ensures c.text-4.ensures
    in
    written_as _ _ _ (counts_of a.taken a.skipped a.held) a.room.now c.bytes.ensures e c.write_bytes.ensures
