-- The bytes that are unread: those held and then a chunk.
use Rattle.std.specs.Prelude.{ℕ, List, ◌++◌}
use Rattle.message.specs.declared.unread.Unread.{Unread}

abbrev pub bytes_of : Unread → List ℕ
bytes_of u = u.held.now ++ u.chunk.now
