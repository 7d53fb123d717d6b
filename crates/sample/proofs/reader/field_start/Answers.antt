-- `sample::reader::field_start` meets its contract. Invariant: of the fields that remain, the one to find is number k - counter.
use Rattle.std.proofs.Common.{◌≡◌, ◌+◌, ◌-◌, ◌<◌, suc, length, arith, rules}
use Rattle.sample.proofs.Walks.{walk_starts, walk_steps, walk_ends}
use Rattle.sample.proofs.reader.field_start.Goals as goal

pub loop-init : goal.loop-init
loop-init c = let z : c.args.k - 0 ≡ c.args.k = omega arith in rw z (walk_starts c.args.payload.now c.args.k c.requires)

pub returns-then-at-payload : goal.returns-then-at-payload
returns-then-at-payload c = search (walk_ends, rules)

pub loop-preserved : goal.loop-preserved
loop-preserved c =
    let p = c.args.payload.now in
    let l = c.loop in
    let left : c.args.k - l.counter ≡ suc (c.args.k - (l.counter + 1)) = omega arith in
    let inside : l.at < length p = omega (arith, l.invariant.inside) in
    walk_steps p c.args.k l.at (c.args.k - l.counter) l.invariant inside c.field_end-at.result c.field_end-at.ensures (c.args.k - (l.counter + 1)) left
