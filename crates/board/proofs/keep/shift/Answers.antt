-- `board::keep::shift` meets its contract.
use Rattle.std.proofs.Common.{rules, arith, ℕ, ◌≡◌, ◌+◌, ◌-◌, take, drop, ap, ◌∙◌}
use Rattle.message.proofs.Writes.{copied_whole}
use Rattle.board.proofs.Kept.{shift_chunk, shift_held, shift_both}
use Rattle.board.proofs.keep.shift.Goals as goal

pub returns-then-held-from : goal.returns-then-held-from
returns-then-held-from c =
    let a = c.args in
    let past : ℕ = a.from - a.held in
    let many : past + a.n - past ≡ a.n = omega arith in
    let copied : c.copy_front.new.room ≡ take (past + a.n - past) (drop past a.chunk.now) = copied_whole _ _ _ (search rules) c.copy_front.ensures in
    let part : c.copy_front.new.room ≡ take a.n (drop past a.chunk.now) = copied ∙ ap (λ k. take k (drop past a.chunk.now)) many in
    search (shift_chunk, rules)

pub returns-then-n-kept : goal.returns-then-n-kept
returns-then-n-kept c = search (shift_held, rules)

pub returns : goal.returns
returns c =
    let a = c.args in
    let copied : c.copy_front-2.new.room ≡ take (a.n - (a.held - a.from)) a.chunk.now = copied_whole _ _ _ (search rules) c.copy_front-2.ensures in
    search (shift_both, rules)
