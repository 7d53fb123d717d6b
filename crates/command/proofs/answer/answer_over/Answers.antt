-- `command::answer::answer_over` meets its contract: a room that is too small, or any other.
use native.Mathlib.Omega.{arith}
use mathlib.Core.Path.{◌∙◌}
use mathlib.Core.List.{◌++◌}
use Rattle.command.proofs.Answers.{answer_small, opening-answered, answer_ready, answer_done}
use Rattle.command.proofs.Spends.{open_fits}
use borrow.Author.Rules.{rules}
use Rattle.command.proofs.answer.answer_over.Goals as goal

pub returns-then-room-lt166 : goal.returns-then-room-lt166
returns-then-room-lt166 c = search (answer_small, rules)

pub answer_opened-p-requires : goal.answer_opened-p-requires
answer_opened-p-requires c = let a = c.args in
    let e = c.payload_end-to.ensures.lower_bound in
    (λ z. open_fits a.unread.held.now a.unread.chunk.now _ a.rights a.good _ a.page.now e.0 e.2 _ c.open_message-o.ensures z, omega arith, omega arith)

pub sealed-requires : goal.sealed-requires
sealed-requires c = let a = c.args in
    let kind = c.byte-kind.ensures in
    let o = opening-answered a.unread.held.now a.unread.chunk.now c.payload_end-to.result a.rights a.good c.byte-kind.result kind c.payload_end-to.ensures.chunk_value a.w a.room.now a.page.now c.open_message-o.result _ c.open_message-o.ensures in
    answer_ready a.rights (a.unread.held.now ++ a.unread.chunk.now) a.good a.w a.room.now a.page.now c.if-room-lt166.false _ kind _ _ _ (c.answer_opened-p.ensures ∙ o)

pub returns : goal.returns
returns c = let a = c.args in
    let kind = c.byte-kind.ensures in
    let o = opening-answered a.unread.held.now a.unread.chunk.now c.payload_end-to.result a.rights a.good c.byte-kind.result kind c.payload_end-to.ensures.chunk_value a.w a.room.now a.page.now c.open_message-o.result _ c.open_message-o.ensures in
    let s = c.sealed.ensures in
    answer_done a.rights (a.unread.held.now ++ a.unread.chunk.now) a.good a.w a.room.now a.page.now c.if-room-lt166.false _ kind _ _ _ (c.answer_opened-p.ensures ∙ o) _ _ s.value s.room_after
