-- `message::skips::past_run_blocks` meets its contract.
use Rattle.std.proofs.Common.{◌≡◌, ◌+◌, ◌<◌, ℕ, true, eqb, length, get_or, ◌∙◌, rules}
use Rattle.message.proofs.Skipped.{Chunk, chunk_here, run_block, run_behind}
use Rattle.message.proofs.skips.past_run_blocks.Goals as goal

same : (c : goal.Else-any) (k : ℕ) → k < length c.in-Some.block.now → eqb (get_or c.in-Some.block.now k 0) 0xA5 ≡ true
same c k h = let p = c.any.ensures.none c.if-any.false k h in search rules

chunk : (c : goal.Else-any) → Chunk c.args.s.now (c.loop-block.i + 2) c.in-Some.block.now c.next.new.self.rest.now
chunk c =
    let h = c.in-Some.ensures.steps in
    let i = c.loop-block.invariant in
    chunk_here _ _ _ _ (i.left ∙ h.1.0) (h.1.1 ∙ i.sixteen)

pub overflow_add-i : goal.overflow_add-i
overflow_add-i c = let room = (chunk c).room in search rules

pub loop-block-preserved : goal.loop-block-preserved
loop-block-preserved c =
    record { sixteen = c.in-Some.ensures.steps.0 ∙ c.loop-block.invariant.sixteen; left = run_behind _ _ _ c.loop-block.i (chunk c); skipped = run_block (chunk c) (same c) c.loop-block.invariant.skipped }
