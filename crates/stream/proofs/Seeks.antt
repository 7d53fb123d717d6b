-- The laws of the seek, over any framing.
use mathlib.Core.Path.{◌≡◌, refl, sym, ap, ◌∙◌, subst}
use mathlib.Core.Bool.{Bool}
use mathlib.Core.List.{List, [], ◌∷◌, ◌++◌}
use Prim.Native.Nat.{ℕ, zero, suc, ◌+◌, ◌≤◌, ◌<◌}
use native.Mathlib.Omega.{arith}
use native.Mathlib.Nat.{suc-add, zero-add, add-suc, add-zero}
use native.Mathlib.Numerals.{add-one}
use lib.ListN.{length, drop}
use Rattle.stream.specs.declared.Verdict.{Verdict}
use Rattle.stream.specs.declared.Verdict.TheVariants.{Skip, Undecided, Whole}
use Rattle.stream.specs.declared.Sought.{Sought}
use Rattle.stream.specs.declared.Sought.TheVariants.{Starved, Found}
use Rattle.stream.specs.Framing.{Framing}
use Rattle.stream.specs.Seek.{beyond, after_skip, seek_on, seek}
use Rattle.stream.specs.Cutting.{Sized}

pub beyond_zero : (r : Sought) → beyond 0 r ≡ r
beyond_zero (Starved j) = rw zero-add
beyond_zero (Found j n good) = rw zero-add

pub beyond-beyond : (a b : ℕ) (r : Sought) → beyond a (beyond b r) ≡ beyond (a + b) r
beyond-beyond a b (Starved k) = let e : a + (b + k) ≡ a + b + k = omega arith in ap Starved e
beyond-beyond a b (Found k n good) = let e : a + (b + k) ≡ a + b + k = omega arith in ap (λ (i : ℕ). Found i n good) e

beyond_skip : (k : ℕ) (r : Sought) → beyond k (after_skip r) ≡ beyond (suc k) r
beyond_skip k (Starved j) = rw (add-suc, suc-add)
beyond_skip k (Found j n good) = rw (add-suc, suc-add)

skip_beyond : (k : ℕ) (r : Sought) → after_skip (beyond k r) ≡ beyond (suc k) r
skip_beyond k (Starved j) = rw suc-add
skip_beyond k (Found j n good) = rw suc-add

-- ---- For a loop that looks at one place after the other. The invariant, `seek front u ≡ beyond at (seek front (drop at u))`,
-- says that what remains to be sought is what is sought in all.
pub seek_starts : (front : List ℕ → Verdict) (w : List ℕ) → seek front w ≡ beyond 0 (seek front (drop 0 w))
seek_starts front w = sym (beyond_zero (seek front w))

-- At a place whose verdict is d.
module _ (front : List ℕ → Verdict) (w : List ℕ) (at : ℕ) (d : Verdict) (is : d ≡ front (drop at w)) where
  -- At a skip the loop goes on.
  pub seek-skips : at < length w → d ≡ Skip → seek front w ≡ beyond at (seek front (drop at w)) → seek front w ≡ beyond (at + 1) (seek front (drop (at + 1) w))
  unfolding seek
  seek-skips l e inv = rw add-one (inv ∙ ap (beyond at) (one w at l (sym is ∙ e)) ∙ beyond_skip at (seek front (drop (suc at) w)))
    where
      one : (w : List ℕ) (at : ℕ) → at < length w → front (drop at w) ≡ Skip → seek front (drop at w) ≡ after_skip (seek front (drop (suc at) w))
      one [] at l e = absurd (omega arith)
      one (x ∷ xs) zero l e = rw e
      one (x ∷ xs) (suc at) l e = one xs at (omega arith) e

  -- At a message, or where it is undecided, the loop ends.
  pub seek_starves : d ≡ Undecided → seek front w ≡ beyond at (seek front (drop at w)) → Starved at ≡ seek front w
  unfolding seek
  seek_starves e inv = ap Starved (sym (add-zero at)) ∙ ap (beyond at) (stop (drop at w) (sym is ∙ e)) ∙ sym inv
    where
      stop : (l : List ℕ) → front l ≡ Undecided → Starved 0 ≡ seek front l
      stop [] j = refl
      stop (x ∷ l) j = rw j

  pub seek_finds : {n : ℕ} {good : Bool} → at < length w → d ≡ Whole n good → seek front w ≡ beyond at (seek front (drop at w)) → Found at n good ≡ seek front w
  unfolding seek
  seek_finds {n} {good} l e inv = ap (λ (k : ℕ). Found k n good) (sym (add-zero at)) ∙ ap (beyond at) (stop w at l (sym is ∙ e)) ∙ sym inv
    where
      stop : (w : List ℕ) (at : ℕ) → at < length w → front (drop at w) ≡ Whole n good → Found 0 n good ≡ seek front (drop at w)
      stop [] at l j = absurd (omega arith)
      stop (x ∷ w) zero l j = rw j
      stop (x ∷ w) (suc at) l j = stop w at (omega arith) j

-- What was found stands at its place.
pub found_front : (front : List ℕ → Verdict) (u : List ℕ) (k n : ℕ) (good : Bool) → seek front u ≡ Found k n good → front (drop k u) ≡ Whole n good
unfolding seek
found_front front [] k n good h = let z : ◌≡◌ {A = ℕ} 0 1 = cc in absurd (omega arith)
found_front front (x ∷ xs) k n good h = go (front (x ∷ xs)) refl (seek front xs) refl (found_front front xs)
  where
    go : (d : Verdict) → front (x ∷ xs) ≡ d → (r : Sought) → seek front xs ≡ r
        → ((k n : ℕ) (good : Bool) → seek front xs ≡ Found k n good → front (drop k xs) ≡ Whole n good) → front (drop k (x ∷ xs)) ≡ Whole n good
    go Skip e (Starved k') er ih = let z : ◌≡◌ {A = ℕ} 0 1 = cc in absurd (omega arith)
    go Skip e (Found k' n' good') er ih =
        let p : k ≡ suc k' = cc in
        let q : Whole n' good' ≡ Whole n good = cc in
        rw p (ih k' n' good' er ∙ q)
    go Undecided e r er ih = let z : ◌≡◌ {A = ℕ} 0 1 = cc in absurd (omega arith)
    go (Whole n' good') e r er ih =
        let p : k ≡ 0 = cc in
        let q : Whole n' good' ≡ Whole n good = cc in
        rw p (e ∙ q)

-- ---- For bytes that come in.
module _ {front : List ℕ → Verdict} {most_held peek : ℕ} (F : Framing front most_held peek) where
  pub found_stays : (u v : List ℕ) (k n : ℕ) (good : Bool) → seek front u ≡ Found k n good → seek front (u ++ v) ≡ Found k n good
  unfolding seek
  found_stays [] v k n good h = cc
  found_stays (x ∷ xs) v k n good h = go (front (x ∷ xs)) refl (seek front xs) refl (found_stays xs v)
    where
      go : (d : Verdict) → front (x ∷ xs) ≡ d → (r : Sought) → seek front xs ≡ r
          → ((k n : ℕ) (good : Bool) → seek front xs ≡ Found k n good → seek front (xs ++ v) ≡ Found k n good) → seek front (x ∷ xs ++ v) ≡ Found k n good
      go Skip e (Starved k') er ih = cc
      go Skip e (Found k' n' good') er ih = cc (F.skip_stays (x ∷ xs) v e, ih k' n' good' er)
      go Undecided e r er ih = cc
      go (Whole n' good') e r er ih = cc (F.whole_stays (x ∷ xs) v n' good' e)

  -- The sizes of a found message, and that it is longer than what tells a skip.
  pub record Seen (u : List ℕ) (k n : ℕ) : Type 0 where
    pub sized : Sized most_held u k n
    pub enough : peek ≤ n

  pub found_seen : (u : List ℕ) (k n : ℕ) (good : Bool) → seek front u ≡ Found k n good → Seen u k n
  unfolding seek
  found_seen [] k n good h = let z : ◌≡◌ {A = ℕ} 0 1 = cc in absurd (omega arith)
  found_seen (x ∷ xs) k n good h = go (front (x ∷ xs)) refl (seek front xs) refl (found_seen xs)
    where
      go : (d : Verdict) → front (x ∷ xs) ≡ d → (r : Sought) → seek front xs ≡ r
          → ((k n : ℕ) (good : Bool) → seek front xs ≡ Found k n good → Seen xs k n) → Seen (x ∷ xs) k n
      go Skip e (Starved k') er ih = let z : ◌≡◌ {A = ℕ} 0 1 = cc in absurd (omega arith)
      go Skip e (Found k' n' good') er ih =
          let s : Seen xs k' n' = ih k' n' good' er in
          let p : k ≡ suc k' = cc in
          let q : n ≡ n' = cc in
          omega arith
      go Undecided e r er ih = let z : ◌≡◌ {A = ℕ} 0 1 = cc in absurd (omega arith)
      go (Whole n' good') e r er ih =
          let p : k ≡ 0 = cc in
          let q : n ≡ n' = cc in
          omega (arith, F.size (x ∷ xs) n' good' e)

  pub found_alone : (u v : List ℕ) (k n : ℕ) (good : Bool) → seek front (u ++ v) ≡ Found k n good → k + n ≤ length u → seek front u ≡ Found k n good
  unfolding seek
  found_alone [] v k n good h l = let s : Seen v k n = found_seen v k n good h in absurd (omega arith)
  found_alone (x ∷ xs) v k n good h l = go (front (x ∷ xs ++ v)) refl (seek front (xs ++ v)) refl (found_alone xs v)
    where
      go : (d : Verdict) → front (x ∷ xs ++ v) ≡ d → (r : Sought) → seek front (xs ++ v) ≡ r
          → ((k n : ℕ) (good : Bool) → seek front (xs ++ v) ≡ Found k n good → k + n ≤ length xs → seek front xs ≡ Found k n good) → seek front (x ∷ xs) ≡ Found k n good
      go Skip e (Starved k') er ih = cc
      go Skip e (Found k' n' good') er ih =
          let p : k ≡ suc k' = cc in
          let q : n ≡ n' = cc in
          let s : Seen (xs ++ v) k' n' = found_seen (xs ++ v) k' n' good' er in
          cc (F.skip_alone (x ∷ xs) v e (omega arith), ih k' n' good' er (omega arith))
      go Undecided e r er ih = cc
      go (Whole n' good') e r er ih =
          let p : k ≡ 0 = cc in
          let q : n ≡ n' = cc in
          cc (F.whole_alone (x ∷ xs) v n' good' e (omega arith))

  Resumes : List ℕ → List ℕ → Sought → Type 0
  Resumes u v (Starved k) = seek front (u ++ v) ≡ beyond k (seek front (drop k u ++ v))
  Resumes u v (Found k n good) = Unit {0}

  resumes : (u v : List ℕ) → Resumes u v (seek front u)
  unfolding Resumes seek
  resumes [] v = sym (beyond_zero (seek front v))
  resumes (x ∷ xs) v = go (front (x ∷ xs)) refl (seek front xs) (resumes xs v)
    where
      go : (d : Verdict) → front (x ∷ xs) ≡ d → (r : Sought) → Resumes xs v r → Resumes (x ∷ xs) v (seek_on d r)
      go Skip e (Starved k) ih = rw (F.skip_stays (x ∷ xs) v e, ih) (skip_beyond k (seek front (drop k xs ++ v)))
      go Skip e (Found k n good) ih = tt
      go Undecided e r ih = sym (beyond_zero (seek front (x ∷ xs ++ v)))
      go (Whole n good) e r ih = tt

  pub starved_resumes : (u v : List ℕ) (k : ℕ) → seek front u ≡ Starved k → seek front (u ++ v) ≡ beyond k (seek front (drop k u ++ v))
  unfolding Resumes
  starved_resumes u v k e = subst (λ (r : Sought). Resumes u v r) e (resumes u v)
