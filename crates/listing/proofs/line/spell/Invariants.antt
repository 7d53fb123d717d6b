-- `listing::line::spell` meets its contract. Invariant: the digits behind those of the part that is left stand in the row.
use Rattle.listing.proofs.Decimals.{Spelled}
use Rattle.listing.proofs.line.spell.Given as goal

abbrev pub invariant-loop-rest : goal.invariant-loop-rest
invariant-loop-rest l = Spelled l.n l.rest l.start l.digits

abbrev pub decreases-loop-rest : goal.decreases-loop-rest
decreases-loop-rest l = l.rest
