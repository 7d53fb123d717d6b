-- Lists of numbers that grow.
use Rattle.std.specs.Prelude.{List, [], ◌∷◌, ◌≡◌, ℕ, ◌<◌, length, get_or}

-- Each number is smaller than the next.
abbrev pub Growing : List ℕ → Type 0
Growing [] = Unit {0}
Growing (n ∷ []) = Unit {0}
Growing (n ∷ m ∷ ns) = (n < m) × Growing (m ∷ ns)

-- No two places have the same number.
abbrev pub NoneTwice : List ℕ → Type 0
NoneTwice ns = (i j : ℕ) → i < j → j < length ns → get_or ns i 0 ≡ get_or ns j 0 → ⊥

-- Proof: Numbers `growing_none_twice`.
abbrev pub GrowingNoneTwice : Type 0
GrowingNoneTwice = (ns : List ℕ) → Growing ns → NoneTwice ns
