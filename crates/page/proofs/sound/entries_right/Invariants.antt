-- `page::sound::entries_right` meets its contract. The invariant: what the walk over the rest of the entries tells is what the whole walk
-- tells. The bodies end by byte 23, since codes ascend.
use Rattle.std.proofs.Common.{◌+◌, ◌-◌, ◌*◌, ◌≤◌, ◌≡◌}
use Rattle.page.specs.Walk.{entries_from, entries_right}
use Rattle.page.proofs.Walks.{left_above}
use Rattle.page.proofs.sound.entries_right.Given as goal

abbrev pub invariant-loop-k : goal.invariant-loop-k
invariant-loop-k l = (l.start + left_above l.last ≤ 23) × (entries_from l.page (l.n - l.k) (1 + 3 * l.k) l.start l.last ≡ entries_right l.page)
