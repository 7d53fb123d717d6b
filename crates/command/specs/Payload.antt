-- Internal: a payload where it stands in the unread bytes.
use Rattle.std.specs.Prelude.{ℕ, ◌+◌, ◌-◌, ◌≤◌, List, length, take, drop}
use Rattle.message.specs.Unread.{bytes_of}
use Rattle.command.specs.declared.payload.Payload.{Payload}

abbrev pub bytes_in : Payload → List ℕ
bytes_in p = drop p.from (take p.to (bytes_of p.unread))

-- It ends within what is unread; where it starts behind that, it is empty.
abbrev pub Stands : Payload → Type 0
Stands p = (p.from ≤ p.to) × (p.to ≤ p.from + (length p.unread.held.now + length p.unread.chunk.now - p.from))
