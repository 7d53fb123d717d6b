-- Sums that stop at the largest figure.
use Prim.Native.Nat.{ℕ, zero, suc, ◌+◌, ◌-◌, ◌≤◌, ◌<◌}
use native.Mathlib.Omega.{arith}
use native.Mathlib.Decide.{dec_lt}
use mathlib.Core.Path.{◌≡◌, refl, ◌∙◌, ap}
use mathlib.Core.List.{List, [], ◌∷◌}
use mathlib.Core.Logic.{◌⊎◌, inl, inr}
use lib.ListN.{length, get_or, set, drop, length-set, length-drop}
use lib.Seq.{set_out}
use Rattle.totals.specs.declared.Tally.{Tally}
use Rattle.totals.specs.Tally.{plus_up_to, good_bytes, errors_after, unless_refused, counted_with, row_of, tally_in}
use Rattle.totals.specs.Row.{plus_at}

pub sum_twice : (total m n : ℕ) → plus_up_to (plus_up_to total m) n ≡ plus_up_to total (m + n)
unfolding plus_up_to
sum_twice total m n = omega arith

-- The good bytes of a call, in two parts that are made without a sum.
module _ (taken skipped before after a b c d : ℕ) (x : taken + d ≡ skipped + a) (y : after + c ≡ before + b) where
  parts_none : a ≡ 0 → b ≡ 0 → a - b + (c - d) ≡ good_bytes taken skipped before after
  parts_none p q = omega arith

  parts_first : d ≡ 0 → b ≡ 0 → a - b + (c - d) ≡ good_bytes taken skipped before after
  parts_first p q = omega arith

  parts_second : a ≡ 0 → c ≡ 0 → a - b + (c - d) ≡ good_bytes taken skipped before after
  parts_second p q = omega arith

  parts_both : d ≡ 0 → c ≡ 0 → a - b + (c - d) ≡ good_bytes taken skipped before after
  parts_both p q = omega arith

parts_are : (taken skipped before after : ℕ) → taken - skipped - (after - before) + (before - after - (skipped - taken)) ≡ good_bytes taken skipped before after
parts_are taken skipped before after = go (dec_lt taken skipped) (dec_lt before after)
  where
    x : taken + (skipped - taken) ≡ skipped + (taken - skipped)
    x = omega arith

    y : after + (before - after) ≡ before + (after - before)
    y = omega arith

    go : Dec (taken < skipped) → Dec (before < after)
        → taken - skipped - (after - before) + (before - after - (skipped - taken)) ≡ good_bytes taken skipped before after
    go (yes p) (yes q) = parts_second taken skipped before after (taken - skipped) (after - before) (before - after) (skipped - taken) x y (omega arith) (omega arith)
    go (yes p) (no q) = parts_none taken skipped before after (taken - skipped) (after - before) (before - after) (skipped - taken) x y (omega arith) (omega arith)
    go (no p) (yes q) = parts_both taken skipped before after (taken - skipped) (after - before) (before - after) (skipped - taken) x y (omega arith) (omega arith)
    go (no p) (no q) = parts_first taken skipped before after (taken - skipped) (after - before) (before - after) (skipped - taken) x y (omega arith) (omega arith)

pub good_parts : (total taken skipped before after a b more c d rest x y : ℕ) → a ≡ taken - skipped → b ≡ after - before → more ≡ a - b
    → c ≡ before - after → d ≡ skipped - taken → rest ≡ c - d → x ≡ plus_up_to total more → y ≡ plus_up_to x rest
    → y ≡ plus_up_to total (good_bytes taken skipped before after)
good_parts total taken skipped before after a b more c d rest x y ea eb em ec ed er ex ey =
    ey ∙ rw (ex, em, er, ea, eb, ec, ed) (sum_twice total (taken - skipped - (after - before)) (before - after - (skipped - taken)))
    ∙ ap (plus_up_to total) (parts_are taken skipped before after)

-- ---- a call

module _ (t : Tally) (number taken skipped good error : ℕ) where
  abbrev after : ℕ → Tally
  after n = record { taken = plus_up_to t.taken taken; skipped = plus_up_to t.skipped skipped; good = plus_up_to t.good good; errors = errors_after n error t.errors }

  pub counted_none : 1 < number → t ≡ counted_with t number taken skipped good error
  unfolding counted_with
  counted_none h = go number h
    where
      go : (n : ℕ) → 1 < n → t ≡ unless_refused n t (after n)
      go zero h = absurd (omega arith)
      go (suc zero) h = absurd (omega arith)
      go (suc (suc n)) h = refl

  module _ (few : number ≤ 1) (x : ℕ) (xs : x ≡ plus_up_to t.taken taken) (y : ℕ) (ys : y ≡ plus_up_to t.skipped skipped) (g : ℕ) (gs : g ≡ plus_up_to t.good good) where
    pub counted_error : number ≡ 0 → error < 8 → (n : ℕ) → n ≡ plus_up_to (get_or t.errors error 0) 1
        → record { taken = x; skipped = y; good = g; errors = set t.errors error n } ≡ counted_with t number taken skipped good error
    unfolding counted_with
    counted_error z l n ns = rw (z, gs, xs, ys, ns)

    pub counted_above : length t.errors ≡ 8 → number ≡ 0 → 8 ≤ error
        → record { taken = x; skipped = y; good = g; errors = t.errors } ≡ counted_with t number taken skipped good error
    unfolding counted_with
    counted_above eight z l = rw (z, gs, xs, ys, set_out t.errors error (plus_up_to (get_or t.errors error 0) 1) (omega arith))

    pub counted_other : (number ≡ 0 → ⊥) → record { taken = x; skipped = y; good = g; errors = t.errors } ≡ counted_with t number taken skipped good error
    unfolding counted_with
    counted_other n = rw (gs, xs, ys) (go number few n)
      where
        go : (k : ℕ) → k ≤ 1 → (k ≡ 0 → ⊥)
            → record { taken = plus_up_to t.taken taken; skipped = plus_up_to t.skipped skipped; good = plus_up_to t.good good; errors = t.errors } ≡ unless_refused k t (after k)
        go zero l n = absurd (n refl)
        go (suc zero) l n = refl
        go (suc (suc k)) l n = absurd (omega arith)

    pub counted_no_error : length t.errors ≡ 8 → (number ≡ 0 × (8 ≤ error)) ⊎ (number ≡ 0 → ⊥)
        → record { taken = x; skipped = y; good = g; errors = t.errors } ≡ counted_with t number taken skipped good error
    counted_no_error eight (inl (z, l)) = counted_above eight z l
    counted_no_error eight (inr n) = counted_other n

-- ---- totals in a row

pub added : (at n : ℕ) (row : List ℕ) (x : ℕ) → x ≡ plus_up_to (get_or row at 0) n → set row at x ≡ plus_at at n row
unfolding plus_at
added at n row x e = ap (set row at) e

pub plus_length : (at n : ℕ) (row : List ℕ) → length (plus_at at n row) ≡ length row
unfolding plus_at
plus_length at n row = length-set row at (plus_up_to (get_or row at 0) n)

module _ (row : List ℕ) (eleven : length row ≡ 11) (number taken skipped good error : ℕ) (few : number ≤ 1)
    (a : List ℕ) (as' : a ≡ plus_at 0 taken row) (b : List ℕ) (bs : b ≡ plus_at 1 skipped a) (c : List ℕ) (cs : c ≡ plus_at 2 good b) where
  row-length : length c ≡ 11
  row-length = rw (cs, bs, as') (plus_length 2 good _ ∙ plus_length 1 skipped _ ∙ plus_length 0 taken row ∙ eleven)

  pub row_place : error < 8 → (at : ℕ) → at ≡ 3 + error → at < length c
  row_place l at e = omega (arith, row-length)

  bytes_added : (row : List ℕ) → length row ≡ 11
      → plus_at 2 good (plus_at 1 skipped (plus_at 0 taken row))
      ≡ plus_up_to (get_or row 0 0) taken ∷ plus_up_to (get_or row 1 0) skipped ∷ plus_up_to (get_or row 2 0) good ∷ drop 3 row
  unfolding plus_at
  bytes_added [] e = absurd (omega arith)
  bytes_added (x ∷ []) e = absurd (omega arith)
  bytes_added (x ∷ y ∷ []) e = absurd (omega arith)
  bytes_added (x ∷ y ∷ z ∷ rest) e = refl

  pub row_error : number ≡ 0 → error < 8 → (at : ℕ) → at ≡ 3 + error → (d : List ℕ) → d ≡ plus_at at 1 c → d ≡ row_of (counted_with (tally_in row) number taken skipped good error)
  unfolding plus_at
  row_error z l at e d ds =
      let three : at ≡ suc (suc (suc error)) = omega arith in
      ds ∙ rw (three, cs, bs, as', bytes_added row eleven)
      (ap row_of (counted_error (tally_in row) number taken skipped good error few _ refl _ refl _ refl z l _ refl))

  pub row_above : number ≡ 0 → 8 ≤ error → c ≡ row_of (counted_with (tally_in row) number taken skipped good error)
  row_above z l =
      cs ∙ rw (bs, as', bytes_added row eleven)
      (ap row_of (counted_above (tally_in row) number taken skipped good error few _ refl _ refl _ refl (rw length-drop (omega arith)) z l))

  pub row_other : (number ≡ 0 → ⊥) → c ≡ row_of (counted_with (tally_in row) number taken skipped good error)
  row_other n =
      cs ∙ rw (bs, as', bytes_added row eleven)
      (ap row_of (counted_other (tally_in row) number taken skipped good error few _ refl _ refl _ refl n))
