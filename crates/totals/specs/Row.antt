-- Internal: a row of totals, for the contracts of private functions.
use Rattle.std.specs.Prelude.{List, ℕ, get_or, set}
use Rattle.totals.specs.Tally.{plus_up_to}

-- A row with n more at one place.
unfoldable pub plus_at : ℕ → ℕ → List ℕ → List ℕ
plus_at at n row = set row at (plus_up_to (get_or row at 0) n)
