-- Why the feeds of a piece come to an end.
use Rattle.std.specs.Prelude.{ℕ, ◌+◌, ◌-◌, ◌≤◌, ◌<◌, ◌≡◌, List, length}

-- A feed takes no more than the chunk. One that answers 0 leaves fewer bytes to be looked at: those held afterwards, and those
-- of the chunk that it did not take.
pub record Moves (held : ℕ) (chunk : List ℕ) (number taken after : ℕ) : Type 0 where
  pub inside : taken ≤ length chunk
  pub fewer : number ≡ 0 → after + (length chunk - taken) < held + length chunk
