-- Document 01, "A message": the two Fletcher sums F1 and F2.
use Rattle.std.specs.Prelude.{ℕ, ◌+◌, ◌%◌, List, [], ◌∷◌}
use Rattle.message.specs.declared.fletcher.Sums.{Sums}

-- F1 and F2 start at zero.
abbrev pub no_sums : Sums
no_sums = record { f1 = 0; f2 = 0 }

-- F1 grows by the byte, then F2 by F1. Each sum wraps at 256.
abbrev pub plus_byte : Sums → ℕ → Sums
plus_byte s b = record { f1 = (s.f1 + b) % 256; f2 = (s.f2 + (s.f1 + b) % 256) % 256 }

-- The sums s grown by each byte of a list in order.
abbrev pub sums_from : Sums → List ℕ → Sums
sums_from s [] = s
sums_from s (b ∷ bs) = sums_from (plus_byte s b) bs

abbrev pub sums : List ℕ → Sums
sums = sums_from no_sums

-- The same two sums with no wrapping: the columns of 003's Ping table.
pub record Totals : Type 0 where
  pub t1 : ℕ
  pub t2 : ℕ

abbrev pub totals_from : Totals → List ℕ → Totals
totals_from t [] = t
totals_from t (b ∷ bs) = totals_from (record { t1 = t.t1 + b; t2 = t.t2 + (t.t1 + b) }) bs

abbrev pub totals : List ℕ → Totals
totals = totals_from (record { t1 = 0; t2 = 0 })

-- The totals modulo 256.
abbrev pub reduced : Totals → Sums
reduced t = record { f1 = t.t1 % 256; f2 = t.t2 % 256 }
