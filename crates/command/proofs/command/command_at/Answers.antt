-- `command::command::command_at` meets its contract: each part is a byte of the field.
use mathlib.Core.List.{◌++◌}
use Rattle.command.proofs.Subjects.{command_read}
use Rattle.command.proofs.command.command_at.Goals as goal

pub returns : goal.returns
returns c = let a = c.args in
    command_read (a.unread.held.now ++ a.unread.chunk.now) a.kind a.at _ _ _ _ _ _ _ _ _
    c.byte-code.ensures
    c.byte-size.ensures
    c.count_of-n.ensures.0
    c.data_byte-function.ensures
    c.data_byte-first.ensures
    c.data_byte.ensures
    c.data_byte-2.ensures
    c.data_byte-3.ensures
    c.word_of.ensures
