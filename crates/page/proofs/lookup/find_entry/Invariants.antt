-- `page::lookup::find_entry` meets its contract. The invariant: what the rest of the entries gives is what all of them give.
use Prim.Native.Nat.{◌≤◌, ◌+◌, ◌*◌}
use mathlib.Core.Path.{◌≡◌}
use Rattle.page.specs.Lookup.{entry_of, entry_from}
use Rattle.page.proofs.lookup.find_entry.Given as goal

abbrev pub invariant-loop-left : goal.invariant-loop-left
invariant-loop-left l = (l.left ≤ 4) × (l.i + l.left * 3 ≤ 13) × (entry_from l.page l.code l.left l.i ≡ entry_of l.page l.code)

abbrev pub decreases-loop-left : goal.decreases-loop-left
decreases-loop-left l = l.left
