-- Request 13: the totals of a port, in the board and in a driver's tally record, and how a call adds to them.
use Rattle.std.specs.Prelude.{List, ◌∷◌, ℕ, zero, suc, ◌+◌, ◌-◌, min, get_or, set, drop, replicate}
use Rattle.totals.specs.declared.Tally.{Tally}

-- The largest figure of a total of 64 bits.
abbrev pub largest : ℕ
largest = 18446744073709551615

-- A count as a total has it: it stops at the largest figure.
abbrev pub stopped : ℕ → ℕ
stopped n = min n largest

-- A total with n more.
unfoldable pub plus_up_to : ℕ → ℕ → ℕ
plus_up_to total n = stopped (total + n)

-- "Only number 0 counts an error, none above 7": there are eight places, and `set` does nothing past the last.
abbrev pub errors_after : ℕ → ℕ → List ℕ → List ℕ
errors_after zero error errors = set errors error (plus_up_to (get_or errors error 0) 1)
errors_after (suc n) error errors = errors

-- "Zero at the start."
abbrev pub zero_tally : Tally
zero_tally = record { taken = 0; skipped = 0; good = 0; errors = replicate 8 0 }

-- "Numbers above 1 change nothing."
abbrev pub unless_refused : ℕ → Tally → Tally → Tally
unless_refused zero t next = next
unless_refused (suc zero) t next = next
unless_refused (suc (suc n)) t next = t

-- The totals after a call that reported a good message of so many bytes, or none.
unfoldable pub counted_with : Tally → ℕ → ℕ → ℕ → ℕ → ℕ → Tally
counted_with t number taken skipped good error =
    unless_refused number t
    (record {
      taken = plus_up_to t.taken taken;
      skipped = plus_up_to t.skipped skipped;
      good = plus_up_to t.good good;
      errors = errors_after number error t.errors;
    })

-- "Good bytes are taken plus before, less skipped, less after, at least 0": of whole numbers, where `-` gives 0 for less.
abbrev pub good_bytes : ℕ → ℕ → ℕ → ℕ → ℕ
good_bytes taken skipped before after = taken + before - skipped - after

-- "Updated there from each call's number, taken, skipped, first error and that port's held counts before and after." Any arguments are
-- taken.
abbrev pub counted_of : Tally → ℕ → ℕ → ℕ → ℕ → ℕ → ℕ → Tally
counted_of t number taken skipped error before after = counted_with t number taken skipped (good_bytes taken skipped before after) error

-- ---- the totals as a row of numbers, as a call in place is lent them

abbrev pub row_size : ℕ
row_size = 11

abbrev pub row_of : Tally → List ℕ
row_of t = t.taken ∷ t.skipped ∷ t.good ∷ t.errors

abbrev pub tally_in : List ℕ → Tally
tally_in row = record { taken = get_or row 0 0; skipped = get_or row 1 0; good = get_or row 2 0; errors = drop 3 row }
