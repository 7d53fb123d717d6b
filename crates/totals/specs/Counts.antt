-- Request 13: what is counted of a port since the start, and the totals that stand for the counts.
use Rattle.std.specs.Prelude.{Bool, true, false, List, [], ◌∷◌, ◌++◌, ◌≡◌, ℕ, zero, suc, ◌+◌, ◌≤◌, eqb, length}
use Rattle.stream.specs.Scan.{skipped_in, good_in}
use Rattle.stream.specs.Silence.{bytes_in}
use Rattle.history.specs.Reckoning.{Ledger}
use Rattle.totals.specs.declared.Tally.{Tally}
use Rattle.totals.specs.Tally.{stopped, counted_of}

-- Bytes taken, bytes skipped, bytes of good messages, and the first error of each reply, in order. These do not stop.
pub record Counts : Type 0 where
  pub taken : ℕ
  pub skipped : ℕ
  pub good : ℕ
  pub errors : List ℕ

-- At the start.
abbrev pub no_counts : Counts
no_counts = record { taken = 0; skipped = 0; good = 0; errors = [] }

abbrev pub one_if : Bool → ℕ
one_if true = 1
one_if false = 0

-- How often a number stands in a list.
abbrev pub times : ℕ → List ℕ → ℕ
times e [] = 0
times e (x ∷ xs) = one_if (eqb x e) + times e xs

-- "Messages by the first error number in the reply": the totals of the error e and the n - 1 after it.
abbrev pub by_error_from : ℕ → ℕ → List ℕ → List ℕ
by_error_from e zero es = []
by_error_from e (suc n) es = stopped (times e es) ∷ by_error_from (suc e) n es

-- ".. 0 to 7."
abbrev pub by_error : List ℕ → List ℕ
by_error es = by_error_from 0 8 es

-- "Until a total reaches its largest figure, where it stops, each equals the count."
unfoldable pub totals_of : Counts → Tally
totals_of n = record { taken = stopped n.taken; skipped = stopped n.skipped; good = stopped n.good; errors = by_error n.errors }

-- The counts with one call more, which took and skipped so many bytes and reported a good message of so many, or none, and whose reply
-- has this first error. A refused call changes none.
abbrev pub counts_after : ℕ → ℕ → ℕ → ℕ → ℕ → Counts → Counts
counts_after zero taken skipped good error n =
    record { taken = n.taken + taken; skipped = n.skipped + skipped; good = n.good + good; errors = n.errors ++ (error ∷ []) }
counts_after (suc zero) taken skipped good error n =
    record { taken = n.taken + taken; skipped = n.skipped + skipped; good = n.good + good; errors = n.errors }
counts_after (suc (suc k)) taken skipped good error n = n

-- Updated from a call whose bytes add up, the totals of some counts are those of the counts with the call. Proof: Counted `counted_is`.
abbrev pub CountedIs : Type 0
CountedIs =
    (n : Counts) (number taken skipped good error before after : ℕ) → (number ≤ 1 → taken + before ≡ good + skipped + after)
    → counted_of (totals_of n) number taken skipped error before after ≡ totals_of (counts_after number taken skipped good error n)

-- ---- the counts in what the plain reckoning keeps of a port

module _ (error_in : List ℕ → ℕ) where
  -- The first error of each reply.
  abbrev pub errors_in : List (List ℕ) → List ℕ
  errors_in [] = []
  errors_in (r ∷ rs) = error_in r ∷ errors_in rs

  abbrev pub counts_in : Ledger → Counts
  counts_in l = record { taken = length (bytes_in l.stream); skipped = skipped_in l.read; good = good_in l.read; errors = errors_in l.replies }
