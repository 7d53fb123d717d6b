-- `page::sound::entries_right` meets its contract: too few or too many entries, one that is not right, and FF behind the last body.
use Rattle.std.proofs.Common.{rules, arith, ◌∙◌, refl}
use Rattle.page.proofs.Walks.{none_counted, many_counted, walk_first, entry_wrong, entry_passed, far_not, far_decides, left_after}
use Rattle.page.proofs.sound.entries_right.Goals as goal
use Rattle.page.proofs.sound.entries_right.Goals.{then-n-eq0-via-then-n-eq0, then-n-eq0-via-else-n-eq0+then-n-gt4}

pub returns-then-n-eq0 : goal.returns-then-n-eq0
returns-then-n-eq0 c =
    elim c.then-n-eq0.branch [
      | then-n-eq0-via-then-n-eq0 w ↦ search (none_counted, rules)
      | then-n-eq0-via-else-n-eq0+then-n-gt4 w ↦ search (many_counted, rules)
    ]

pub loop-k-init : goal.loop-k-init
loop-k-init c = (omega arith, search (walk_first, rules))

pub returns-in_default : goal.returns-in_default
returns-in_default c = search (entry_wrong, rules)

pub overflow_add-start-in-loop-k : goal.overflow_add-start-in-loop-k
overflow_add-start-in-loop-k c =
    let i = c.loop-k.invariant.0 in
    let h = left_after _ _ _ _ c.in-Some.ensures refl in
    omega arith

pub loop-k-preserved : goal.loop-k-preserved
loop-k-preserved c =
    let i = c.loop-k.invariant.0 in
    let h = left_after _ _ _ _ c.in-Some.ensures refl in
    (omega arith, search (entry_passed, rules))

pub returns-then-is_blank : goal.returns-then-is_blank
returns-then-is_blank c =
    far_decides c.args.page.now _ c.loop-k.k c.loop-k.start c.loop-k.last c.loop-k.invariant.1 (omega arith) (search rules) 16 (omega arith) (omega arith)
    c.is_blank.ensures c.if-is_blank.true c.is_blank-then-is_blank.ensures

pub returns-else-is_blank : goal.returns-else-is_blank
returns-else-is_blank c =
    c.if-is_blank.false ∙ far_not c.args.page.now _ c.loop-k.k c.loop-k.start c.loop-k.last c.loop-k.invariant.1 (omega arith) (search rules) 16 (omega arith) (omega arith)
    c.is_blank.ensures c.if-is_blank.false

pub returns-then-is_blank-2 : goal.returns-then-is_blank-2
returns-then-is_blank-2 c =
    let i = c.loop-k.invariant.0 in
    far_decides c.args.page.now _ c.loop-k.k c.loop-k.start c.loop-k.last c.loop-k.invariant.1 (omega arith) (search rules) 24 (omega arith) (omega arith)
    c.is_blank-else-start-le16.ensures c.if-is_blank-2.true c.is_blank-then-is_blank-2.ensures

pub returns-else-is_blank-2 : goal.returns-else-is_blank-2
returns-else-is_blank-2 c =
    let i = c.loop-k.invariant.0 in
    c.if-is_blank-2.false ∙ far_not c.args.page.now _ c.loop-k.k c.loop-k.start c.loop-k.last c.loop-k.invariant.1 (omega arith) (search rules) 24 (omega arith) (omega arith)
    c.is_blank-else-start-le16.ensures c.if-is_blank-2.false
