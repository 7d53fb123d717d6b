-- `message::unread::Unread::opening` meets its contract: each `return` is a case of what the bytes tell.
use Rattle.message.proofs.Openings.{SizeTold, told_none, told_first, told_one, told_second, told_third, told_size, told_incomplete, told_complete}
use Rattle.std.proofs.Common.{rules}
use Rattle.message.proofs.unread.Unread.opening.Goals as goal

pub returns-then-left-eq0 : goal.returns-then-left-eq0
returns-then-left-eq0 c = search (told_none, rules)

pub returns-then-byte-ne165 : goal.returns-then-byte-ne165
returns-then-byte-ne165 c = search (told_first, rules)

pub returns-then-left-lt2 : goal.returns-then-left-lt2
returns-then-left-lt2 c = search (told_one, rules)

pub returns-then-byte-ne165-2 : goal.returns-then-byte-ne165-2
returns-then-byte-ne165-2 c = search (told_second, rules)

pub returns-then-byte-eq165 : goal.returns-then-byte-eq165
returns-then-byte-eq165 c =
    told_third c.args.self.held.now c.args.self.chunk.now (search rules) _ c.byte.ensures (search rules) (search rules) _ c.byte-2.ensures
    (search rules) _ c.byte-3.ensures (search rules)

pub returns-then-left-n : goal.returns-then-left-n
returns-then-left-n c =
    let told : SizeTold c.args.self.held.now c.args.self.chunk.now c.size_from-n.result =
    told_size c.args.self.held.now c.args.self.chunk.now (search rules) _ c.byte.ensures (search rules) (search rules) _ c.byte-2.ensures
    (search rules) _ c.byte-3.ensures (search rules) _ c.byte-4.ensures _ c.size_from-n.ensures in
    told_incomplete c.args.self.held.now c.args.self.chunk.now _ told (search rules)

pub returns-else-left-n : goal.returns-else-left-n
returns-else-left-n c =
    let told : SizeTold c.args.self.held.now c.args.self.chunk.now c.size_from-n.result =
    told_size c.args.self.held.now c.args.self.chunk.now (search rules) _ c.byte.ensures (search rules) (search rules) _ c.byte-2.ensures
    (search rules) _ c.byte-3.ensures (search rules) _ c.byte-4.ensures _ c.size_from-n.ensures in
    told_complete c.args.self.held.now c.args.self.chunk.now _ told (search rules)
