-- `message::front::sums_right` meets its contract.
use Rattle.message.proofs.SumLaws.{right_second, right_first_here}
use Rattle.std.proofs.Common.{◌∙◌, ne_eqb, rules}
use Rattle.message.proofs.front.sums_right.Goals as goal

pub returns-then-s-e : goal.returns-then-s-e
returns-then-s-e c = search (right_second, rules)

pub returns-else-s-e : goal.returns-else-s-e
returns-else-s-e c = ne_eqb _ _ c.if-s-e.false ∙ search (right_first_here, rules)
