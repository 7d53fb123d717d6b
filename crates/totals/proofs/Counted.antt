-- Totals updated from a call stand for the counts with the call: the proof of `CountedIs`, and what it says of the plain reckoning.
use mathlib.Core.Path.{◌≡◌, refl, ap, ◌∙◌}
use mathlib.Core.List.{List, [], ◌∷◌, ◌++◌}
use Prim.Native.Nat.{ℕ, zero, suc, ◌+◌, ◌≤◌, ◌<◌}
use native.Mathlib.Omega.{arith}
use borrow.Author.Tests.{eq-eqb, ne_eqb}
use lib.Dec.{eqb}
use lib.ListN.{get_or, set}
use Rattle.totals.specs.Tally.{stopped, plus_up_to, counted_with, good_bytes, counted_of}
use Rattle.totals.specs.Counts.{one_if, times, by_error_from, by_error, totals_of, counts_after, CountedIs}

-- A total with n more stands for the count with n more.
more : (count n : ℕ) → plus_up_to (stopped count) n ≡ stopped (count + n)
unfolding plus_up_to
more count n = omega arith

-- ---- messages by error

times_more : (e x : ℕ) (es : List ℕ) → times e (es ++ (x ∷ [])) ≡ times e es + one_if (eqb x e)
times_more e x [] = omega arith
times_more e x (y ∷ es) = omega (arith, times_more e x es)

times-same : (e : ℕ) (es : List ℕ) → times e (es ++ (e ∷ [])) ≡ times e es + 1
times-same e es = rw (times_more e e es, eq-eqb e e refl)

pub times_other : (e x : ℕ) (es : List ℕ) → (x ≡ e → ⊥) → times e (es ++ (x ∷ [])) ≡ times e es
times_other e x es h = rw (times_more e x es, ne_eqb x e h) (omega arith)

-- An error below those that are counted changes none of them.
below_others : (n e x : ℕ) (es : List ℕ) → x < e → by_error_from e n (es ++ (x ∷ [])) ≡ by_error_from e n es
below_others zero e x es h = refl
below_others (suc n) e x es h = rw (times_other e x es (λ z. absurd (omega (arith, z))), below_others n (suc e) x es (omega arith))

-- One message more with the error e + i.
one_more : (i n e : ℕ) (es : List ℕ) → set (by_error_from e n es) i (plus_up_to (get_or (by_error_from e n es) i 0) 1) ≡ by_error_from e n (es ++ ((e + i) ∷ []))
one_more i zero e es = refl
one_more zero (suc n) e es =
    let z : e + 0 ≡ e = omega arith in
    rw (z, times-same e es, more (times e es) 1, below_others n (suc e) e es (omega arith))
one_more (suc i) (suc n) e es =
    let z : e + suc i ≡ suc e + i = omega arith in
    rw (z, times_other e (suc e + i) es (λ q. absurd (omega (arith, q))), one_more i n (suc e) es)

counted_error : (error : ℕ) (es : List ℕ) → set (by_error es) error (plus_up_to (get_or (by_error es) error 0) 1) ≡ by_error (es ++ (error ∷ []))
counted_error error es =
    let z : 0 + error ≡ error = omega arith in
    one_more error 8 0 es ∙ ap (λ (x : ℕ). by_error (es ++ (x ∷ []))) z

-- ---- one call

pub counted_is : CountedIs
unfolding counted_with totals_of
counted_is n number taken skipped good error before after sum = go number sum
  where
    goods : taken + before ≡ good + skipped + after → good_bytes taken skipped before after ≡ good
    goods h = omega arith

    go : (k : ℕ) → (k ≤ 1 → taken + before ≡ good + skipped + after)
        → counted_of (totals_of n) k taken skipped error before after ≡ totals_of (counts_after k taken skipped good error n)
    go zero h =
        rw (goods (h (omega arith)), more n.taken taken, more n.skipped skipped, more n.good good, counted_error error n.errors)
    go (suc zero) h = rw (goods (h (omega arith)), more n.taken taken, more n.skipped skipped, more n.good good)
    go (suc (suc k)) h = refl
