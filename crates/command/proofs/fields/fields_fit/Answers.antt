-- `command::fields::fields_fit` meets its contract. Invariant: with n fields passed, what remains is refused where the whole is.
use Prim.Native.Nat.{◌≤◌}
use native.Mathlib.Omega.{arith}
use mathlib.Core.Path.{sym, ◌∙◌}
use mathlib.Core.List.{◌++◌}
use lib.ListN.{length, length-append}
use Rattle.command.proofs.Rests.{fit_start, fit_more, fit_many}
use Rattle.command.proofs.fields.fields_fit.Goals as goal

pub loop-at-init : goal.loop-at-init
loop-at-init c = let a = c.args in
    let row = a.payload.unread.held.now ++ a.payload.unread.chunk.now in
    let fits : a.payload.to ≤ length row = omega (arith, length-append a.payload.unread.held.now a.payload.unread.chunk.now) in
    (omega arith, omega arith, fit_start row a.payload.to fits a.payload.from (omega arith))

pub returns-then-n-eq16 : goal.returns-then-n-eq16
returns-then-n-eq16 c = let a = c.args in
    let row = a.payload.unread.held.now ++ a.payload.unread.chunk.now in
    let fits : a.payload.to ≤ length row = omega (arith, length-append a.payload.unread.held.now a.payload.unread.chunk.now) in
    let l = c.loop-at in
    fit_many row a.payload.to fits l.n l.at _ c.loop-at-test.true c.if-n-eq16.true l.invariant.2

pub loop-at-preserved : goal.loop-at-preserved
loop-at-preserved c = let a = c.args in
    let row = a.payload.unread.held.now ++ a.payload.unread.chunk.now in
    let fits : a.payload.to ≤ length row = omega (arith, length-append a.payload.unread.held.now a.payload.unread.chunk.now) in
    let l = c.loop-at in
    let e = c.count_of.ensures.0 ∙ c.byte.ensures in
    (omega arith, omega arith, sym (fit_more row a.payload.to fits l.n l.at c.count_of.result c.loop-at-test.true e) ∙ l.invariant.2)
