-- How many digits a number has, and the digits, one by one from the last.
use Prim.Native.Nat.{ℕ, zero, suc, ◌+◌, ◌-◌, ◌*◌, ◌/◌, ◌%◌, ◌≤◌, ◌<◌}
use native.Mathlib.Omega.{arith}
use mathlib.Core.Path.{◌≡◌, refl, ap, ◌∙◌, sym}
use mathlib.Core.Bool.{Bool, true, false}
use mathlib.Core.List.{List, [], ◌∷◌, ◌++◌}
use lib.Dec.{ltb}
use lib.ListN.{length, drop, set, length-append, length-set, drop_of_length-le}
use lib.Seq.{drop-cons, get_or-set_same, drop-set-lt, append_snoc}
use borrow.Author.Tests.{lt-ltb, le-ltb, ltb-true, ltb-false}
use Rattle.listing.specs.Text.{digits, places, decimal_of}

unfoldable pub tens : ℕ → ℕ
tens zero = 1
tens (suc k) = 10 * tens k

pub tenth_under : (n t : ℕ) → n < 10 * t → n / 10 < t
tenth_under n t h = omega arith

pub places_one : (most n : ℕ) → n < 10 → places (suc most) n ≡ 1
unfolding places
places_one most n h = rw (lt-ltb n 10 h)

pub places_more : (most n : ℕ) → 10 ≤ n → places (suc most) n ≡ suc (places most (n / 10))
unfolding places
places_more most n h = rw (le-ltb n 10 h)

-- ---- the digits

pub digits-length : (k n : ℕ) → length (digits k n) ≡ k
unfolding digits
digits-length zero n = refl
digits-length (suc k) n = length-append (digits k (n / 10)) ((48 + n % 10) ∷ []) ∙ rw (digits-length k (n / 10)) (omega arith)

pub decimal_length : (n : ℕ) → length (decimal_of n) ≡ places 20 n
unfolding decimal_of
decimal_length n = digits-length (places 20 n) n

-- ---- the digits of a number, the last behind those of its tenth

-- More places than a number has tell as many.
places_enough : (most n : ℕ) → n < tens (suc most) → places (suc (suc most)) n ≡ places (suc most) n
unfolding tens
places_enough zero n h = rw (places_one 1 n (omega arith), places_one 0 n (omega arith))
places_enough (suc q) n h = go (ltb n 10) refl (places_enough q (n / 10) (tenth_under n (tens (suc q)) h))
  where
    go : (t : Bool) → ltb n 10 ≡ t → places (suc (suc q)) (n / 10) ≡ places (suc q) (n / 10) → places (suc (suc (suc q))) n ≡ places (suc (suc q)) n
    go true e r = rw (places_one (suc (suc q)) n (ltb-true n 10 e), places_one (suc q) n (ltb-true n 10 e))
    go false e r = rw (places_more (suc (suc q)) n (ltb-false n 10 e), places_more (suc q) n (ltb-false n 10 e), r)

pub decimal_one : (n : ℕ) → n < 10 → decimal_of n ≡ (48 + n % 10) ∷ []
unfolding digits decimal_of
decimal_one n h = rw (places_one 19 n h)

pub decimal_more : (n : ℕ) → n < 18446744073709551616 → 10 ≤ n → decimal_of n ≡ decimal_of (n / 10) ++ ((48 + n % 10) ∷ [])
unfolding digits decimal_of tens
decimal_more n h l = rw (places_more 19 n l, places_enough 18 (n / 10) (omega arith))

-- Those of n behind those of its part `left` stand in the row from `start` on.
pub record Spelled (n left start : ℕ) (row : List ℕ) : Type 0 where
  pub size : length row ≡ 20
  pub before : start ≤ 19
  pub fits : left < tens (suc start)
  pub within : left ≤ n
  pub more : 10 ≤ left → decimal_of (left / 10) ++ drop start row ≡ decimal_of n
  pub done : left < 10 → drop start row ≡ decimal_of n

-- A digit stored at a place stands before what is behind it.
stored : (row : List ℕ) (i d : ℕ) → i < length row → drop i (set row i d) ≡ d ∷ drop (suc i) row
stored row i d h =
    let l : i < length (set row i d) = rw length-set h in
    drop-cons (set row i d) i 0 l ∙ rw (get_or-set_same row i d 0 h, drop-set-lt (suc i) row i d (omega arith))

pub spelling_starts : (n : ℕ) (row : List ℕ) → n < 18446744073709551616 → length row ≡ 20 → Spelled n n 19 (set row 19 (48 + n % 10))
unfolding tens
spelling_starts n row h l =
    let k : length row ≤ 20 = omega arith in
    let e : drop 19 (set row 19 (48 + n % 10)) ≡ (48 + n % 10) ∷ [] =
    stored row 19 (48 + n % 10) (omega arith) ∙ ap (λ (t : List ℕ). (48 + n % 10) ∷ t) (drop_of_length-le row k) in
    record {
      size = rw length-set l;
      before = omega arith;
      fits = omega arith;
      within = omega arith;
      more = λ m. rw e (sym (decimal_more n h m));
      done = λ m. e ∙ sym (decimal_one n m);
    }

one_left : (left start : ℕ) → 10 ≤ left → left < tens (suc start) → 0 < start
unfolding tens
one_left left zero m h = omega arith
one_left left (suc i) m h = omega arith

tenth_fits : (left start : ℕ) → 0 < start → left < tens (suc start) → left / 10 < tens (suc (start - 1))
unfolding tens
tenth_fits left zero p h = absurd (omega arith)
tenth_fits left (suc i) p h = let e : suc i - 1 ≡ i = omega arith in rw e (tenth_under left (10 * tens i) h)

pub one_goes_on : (n left start : ℕ) (row : List ℕ) → 10 ≤ left → Spelled n left start row → 1 ≤ start
one_goes_on n left start row m s = one_left left start m s.fits

pub spelling_goes_on : (n left start : ℕ) (row : List ℕ) → n < 18446744073709551616 → 10 ≤ left → Spelled n left start row
    → Spelled n (left / 10) (start - 1) (set row (start - 1) (48 + left / 10 % 10))
spelling_goes_on n left start row h m s =
    let some : 0 < start = one_left left start m s.fits in
    let f : suc (start - 1) ≡ start = omega arith in
    let q : ℕ = left / 10 in
    let e : drop (start - 1) (set row (start - 1) (48 + q % 10)) ≡ (48 + q % 10) ∷ drop start row =
    stored row (start - 1) (48 + q % 10) (omega (arith, s.size, s.before)) ∙ ap (λ (i : ℕ). (48 + q % 10) ∷ drop i row) f in
    record {
      size = rw length-set s.size;
      before = omega (arith, s.before);
      fits = tenth_fits left start some s.fits;
      within = omega (arith, s.within);
      more =
          λ k. rw e
          (sym (append_snoc (decimal_of (q / 10)) (48 + q % 10) (drop start row))
          ∙ ap (λ (l : List ℕ). l ++ drop start row) (sym (decimal_more q (omega (arith, s.within)) k)) ∙ s.more m);
      done = λ k. e ∙ ap (λ (l : List ℕ). l ++ drop start row) (sym (decimal_one q k)) ∙ s.more m;
    }

-- ---- how long

places-none : (n : ℕ) → places 0 n ≡ 0
unfolding places
places-none n = refl

-- A number under ten to the k has at most k digits.
places_under : (k most n : ℕ) → n < tens (suc k) → places most n ≤ suc k
unfolding tens
places_under k zero n h = rw (places-none n) (omega arith)
places_under zero (suc most) n h = rw (places_one most n (omega arith)) (omega arith)
places_under (suc k) (suc most) n h = go (ltb n 10) refl (places_under k most (n / 10) (tenth_under n (tens (suc k)) h))
  where
    go : (t : Bool) → ltb n 10 ≡ t → places most (n / 10) ≤ suc k → places (suc most) n ≤ suc (suc k)
    go true e r = rw (places_one most n (ltb-true n 10 e)) (omega arith)
    go false e r = rw (places_more most n (ltb-false n 10 e)) (omega arith)

pub byte_digits : (n : ℕ) → n < 256 → length (decimal_of n) ≤ 3
unfolding tens
byte_digits n h = rw decimal_length (places_under 2 20 n (omega arith))

pub word-digits : (n : ℕ) → n < 18446744073709551616 → length (decimal_of n) ≤ 20
unfolding tens
word-digits n h = rw decimal_length (places_under 19 20 n (omega arith))
