-- `board::calls::call` meets its contract.
use Prim.Native.Nat.{suc, ◌-◌}
use native.Mathlib.Omega.{arith}
use mathlib.Core.Path.{◌≡◌}
use Rattle.board.proofs.Places.{feed_refused, first_sound, second_sound, call_done}
use borrow.Author.Rules.{rules}
use Rattle.board.proofs.calls.call.Goals as goal
use Rattle.board.proofs.calls.call.Goals.{then-port-eq0, else-port-eq0}

pub returns-then-number-ne0 : goal.returns-then-number-ne0
returns-then-number-ne0 c = search (feed_refused, rules)

pub call_port-s-requires : goal.call_port-s-requires
call_port-s-requires c = search (first_sound, rules)

pub call_port-s-requires-else-port-eq0 : goal.call_port-s-requires-else-port-eq0
call_port-s-requires-else-port-eq0 c = search (second_sound, rules)

pub returns : goal.returns
returns c = let a = c.args in
    let f = c.feed_number-number in
    let br = c.brought-n in
    let ri = c.rights_of-rights in
    let z : f.result ≡ 0 = search (c.if-number-ne0, rules) in
    elim c.if-port-eq0.branch [
      | then-port-eq0 w ↦
          let s = w.call_port-s in
          rw (w.s-is, w.board-is, w.room-is, w.page-is)
          (call_done a.port a.board a.room.now a.page.now f.result f.ensures a.quiet a.chunk.now br.result br.ensures.value s.result _ _ z ri.result ri.ensures
          0 w.if-port-eq0.true s.new.p s.new.tally s.ensures.value s.ensures.held s.ensures.totals)
      | else-port-eq0 w ↦
          let s = w.call_port-s-else-port-eq0 in
          rw (w.s-is, w.board-is, w.room-is, w.page-is)
          (call_done a.port a.board a.room.now a.page.now f.result f.ensures a.quiet a.chunk.now br.result br.ensures.value s.result _ _ z ri.result ri.ensures
          (suc (a.port - 1)) (omega (arith, w.if-port-eq0.false)) s.new.p s.new.tally s.ensures.value s.ensures.held s.ensures.totals)
    ]
