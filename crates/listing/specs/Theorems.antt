-- What is proved of the text of a listing, beyond the contracts of the code. The proofs stand in proofs/.
use Rattle.std.specs.Prelude.{ℕ, ◌+◌, ◌-◌, ◌*◌, ◌/◌, ◌%◌, ◌≤◌, ◌<◌, ◌≡◌, Bool, cond, List, [], ◌∷◌, ltb, length, get_or}
use Rattle.listing.specs.Text.{hex_digit, decimal_of, line_of, counts_of, total_of}

-- What decimal digits stand for, read from the first: each makes ten of what came before it.
unfoldable pub value_from : ℕ → List ℕ → ℕ
value_from v [] = v
value_from v (d ∷ ds) = value_from (10 * v + (d - 48)) ds

abbrev pub value_of : List ℕ → ℕ
value_of ds = value_from 0 ds

-- The digits of a number stand for it, and those of none but 0 begin with a 0.
pub record DecimalOf (n : ℕ) : Type 0 where
  pub back : value_of (decimal_of n) ≡ n
  pub no_zero_first : 0 < n → get_or (decimal_of n) 0 48 ≡ 48 → ⊥

abbrev pub DecimalBack : Type 0
DecimalBack = (n : ℕ) → n < 18446744073709551616 → DecimalOf n

-- The two digits of a byte stand for it.
abbrev pub hex_value : ℕ → ℕ
hex_value d = cond (ltb d 65) (d - 48) (d - 55)

abbrev pub HexBack : Type 0
HexBack = (b : ℕ) → b < 256 → 16 * hex_value (hex_digit (b / 16)) + hex_value (hex_digit (b % 16)) ≡ b

-- A line is at most 16 bytes long, the counts are at most 82, and a total at most 21.
abbrev pub LineLongest : Type 0
LineLongest = (kind echo error : ℕ) (saved : Bool) → error < 256 → length (line_of kind echo error saved) ≤ 16

abbrev pub CountsLongest : Type 0
CountsLongest =
    (taken skipped held : ℕ) → taken < 18446744073709551616 → skipped < 18446744073709551616 → held < 18446744073709551616
    → length (counts_of taken skipped held) ≤ 82

abbrev pub TotalLongest : Type 0
TotalLongest = (n : ℕ) → n < 18446744073709551616 → length (total_of n) ≤ 21
