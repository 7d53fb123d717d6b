-- `listing::line::spell` meets its contract. Invariant: the digits behind those of the part that is left stand in the row.
use Rattle.std.proofs.Common.{rules}
use Rattle.listing.proofs.Decimals.{spelling_starts, one_goes_on, spelling_goes_on}
use Rattle.listing.proofs.line.spell.Goals as goal

pub loop-rest-init : goal.loop-rest-init
loop-rest-init c = rw c.last_digit.ensures (spelling_starts c.args.n c.args.digits.now c.ranges.n.fits c.told-digits)

pub overflow_sub-start : goal.overflow_sub-start
overflow_sub-start c = search (one_goes_on, rules)

pub loop-rest-preserved : goal.loop-rest-preserved
loop-rest-preserved c =
    let l = c.loop-rest in
    rw c.last_digit-in-loop-rest.ensures (spelling_goes_on c.args.n l.rest l.start l.digits c.ranges.n.fits c.loop-rest-test.true l.invariant)
