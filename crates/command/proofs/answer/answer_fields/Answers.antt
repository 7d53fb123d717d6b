-- `command::answer::answer_fields` meets its contract. Invariant: what is placed, with the fields that remain, is the whole.
use Prim.Native.Nat.{◌+◌, ◌≤◌}
use native.Mathlib.Omega.{arith}
use mathlib.Core.Path.{◌≡◌, refl, ap, ◌∙◌}
use mathlib.Core.List.{◌++◌}
use lib.ListN.{length, get_or, length-append}
use Rattle.command.specs.declared.command.Command.{Command}
use Rattle.command.specs.Command.{command_of}
use Rattle.command.specs.Place.{Placed}
use Rattle.command.proofs.Turns.{turn_start, turn_space, turn_next, turn_end}
use Rattle.command.proofs.answer.answer_fields.Goals as goal

pub loop-at-init : goal.loop-at-init
loop-at-init c = let a = c.args in
    let row = a.payload.unread.held.now ++ a.payload.unread.chunk.now in
    let fits : a.payload.to ≤ length row = omega (arith, length-append a.payload.unread.held.now a.payload.unread.chunk.now) in
    let q : Placed = record { done = a.start; room = a.room.now; page = a.page.now } in
    let pre = c.requires in
    (refl, refl, turn_start row a.denial a.kind a.payload.to a.payload.from q pre.0.0 fits pre.4 pre.3)

pub answer_field-p-requires : goal.answer_field-p-requires
answer_field-p-requires c = let a = c.args in
    let row = a.payload.unread.held.now ++ a.payload.unread.chunk.now in
    let fits : a.payload.to ≤ length row = omega (arith, length-append a.payload.unread.held.now a.payload.unread.chunk.now) in
    let l = c.loop-at in
    turn_space row a.denial a.kind a.payload.to fits l.at c.loop-at-test.true _ _ l.invariant.2

pub loop-at-preserved : goal.loop-at-preserved
unfolding command_of
loop-at-preserved c = let a = c.args in
    let row = a.payload.unread.held.now ++ a.payload.unread.chunk.now in
    let fits : a.payload.to ≤ length row = omega (arith, length-append a.payload.unread.held.now a.payload.unread.chunk.now) in
    let l = c.loop-at in
    let r = c.command_at-c.ensures in
    let x : c.count_of.result ≡ get_or row (l.at + 1) 0 = c.count_of.ensures.0 ∙ ap (λ (k : Command). k.size) r in
    (omega arith, omega arith, rw x (turn_next row a.denial a.kind a.payload.to fits l.at c.loop-at-test.true _ _ l.invariant.2 _ r _ c.answer_field-p.ensures))

pub returns : goal.returns
returns c = let a = c.args in
    let row = a.payload.unread.held.now ++ a.payload.unread.chunk.now in
    let fits : a.payload.to ≤ length row = omega (arith, length-append a.payload.unread.held.now a.payload.unread.chunk.now) in
    let l = c.loop-at in
    turn_end row a.denial a.kind a.payload.to fits l.at _ _ c.loop-at-test.false l.invariant.2
