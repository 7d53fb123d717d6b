-- Document 01, "The scan", and request 13: a port holds at most 260 bytes of an undecided message or of bytes not yet looked at.
use Rattle.std.specs.Prelude.{ℕ, zero, suc, ◌-◌, List, ◌++◌, length, take, replicate}
use Rattle.message.specs.Front.{most_undecided}
use Rattle.totals.specs.declared.Tally.{Tally}
use Rattle.command.specs.declared.settings.Settings.{Settings}
use Rattle.board.specs.declared.port.Port.{Port}
use Rattle.board.specs.declared.board.Board.{Board}

abbrev pub port_room : ℕ
port_room = most_undecided

-- The bytes that a port holds.
abbrev pub held_bytes : Port → List ℕ
held_bytes p = take p.held p.bytes

-- Bytes, and zeros past them.
abbrev pub padded : List ℕ → List ℕ
padded bs = bs ++ replicate (port_room - length bs) 0

-- The port that holds these bytes: its room past them is zero.
unfoldable pub port_holding : List ℕ → Port
port_holding bs = record { bytes = padded bs; held = length bs }

-- A fresh port holds nothing.
abbrev pub fresh_port : Port
fresh_port = record { bytes = replicate port_room 0; held = 0 }

-- ---- the two ports of a board, 0 and 1

abbrev pub port_of : ℕ → Board → Port
port_of zero b = b.first
port_of (suc p) b = b.second

-- The totals of a port.
abbrev pub tally_at : ℕ → Board → Tally
tally_at zero b = b.tally0
tally_at (suc p) b = b.tally1

-- The board with one port, its totals and the settings anew; the other port's record, its totals and the profile are as they came.
abbrev pub with_port : ℕ → Board → Port → Settings → Tally → Board
with_port zero b port w t = record { first = port; second = b.second; settings = w; readonly = b.readonly; tally0 = t; tally1 = b.tally1 }
with_port (suc p) b port w t = record { first = b.first; second = port; settings = w; readonly = b.readonly; tally0 = b.tally0; tally1 = t }
