-- Digits stand for the number that they were made of.
use Prim.Native.Nat.{ℕ, zero, suc, ◌+◌, ◌-◌, ◌*◌, ◌/◌, ◌%◌, ◌≤◌, ◌<◌}
use native.Mathlib.Omega.{arith}
use mathlib.Core.Path.{◌≡◌, refl, ◌∙◌, sym}
use mathlib.Core.Bool.{Bool, true, false}
use mathlib.Core.List.{List, [], ◌∷◌, ◌++◌}
use lib.Dec.{ltb}
use lib.ListN.{get_or, get_or-append}
use borrow.Author.Tests.{lt-ltb, le-ltb, ltb-true, ltb-false}
use Rattle.listing.specs.Text.{hex_digit, digits, places, decimal_of}
use Rattle.listing.specs.Theorems.{value_from, value_of, DecimalBack, hex_value, HexBack}
use Rattle.listing.proofs.Decimals.{tens, tenth_under, places_one, places_more, digits-length}

value_last : (v : ℕ) (ds : List ℕ) (d : ℕ) → value_from v (ds ++ (d ∷ [])) ≡ 10 * value_from v ds + (d - 48)
unfolding value_from
value_last v [] d = refl
value_last v (x ∷ ds) d = value_last (10 * v + (x - 48)) ds d

digits_one : (n : ℕ) → n < 10 → digits 1 n ≡ (48 + n) ∷ []
unfolding digits
digits_one n h = let e : n % 10 ≡ n = omega arith in rw e

digits_more : (k n : ℕ) → digits (suc k) n ≡ digits k (n / 10) ++ ((48 + n % 10) ∷ [])
unfolding digits
digits_more k n = refl

digits_back : (most n : ℕ) → n < tens most → 0 < most → value_of (digits (places most n) n) ≡ n
unfolding tens value_from
digits_back zero n h p = let e : ⊥ = omega arith in absurd e
digits_back (suc zero) n h p = rw (places_one 0 n (omega arith), digits_one n (omega arith)) (omega arith)
digits_back (suc (suc q)) n h p = go (ltb n 10) refl (digits_back (suc q) (n / 10) (tenth_under n (tens (suc q)) h) (omega arith))
  where
    go : (t : Bool) → ltb n 10 ≡ t → value_of (digits (places (suc q) (n / 10)) (n / 10)) ≡ n / 10 → value_of (digits (places (suc (suc q)) n) n) ≡ n
    go true e r = rw (places_one (suc q) n (ltb-true n 10 e), digits_one n (ltb-true n 10 e)) (omega arith)
    go false e r =
        rw (places_more (suc q) n (ltb-false n 10 e), digits_more (places (suc q) (n / 10)) n, value_last 0 (digits (places (suc q) (n / 10)) (n / 10)) (48 + n % 10), r)
        (omega arith)

places_some : (most n : ℕ) → 0 < places (suc most) n
places_some most n = go (ltb n 10) refl
  where
    go : (t : Bool) → ltb n 10 ≡ t → 0 < places (suc most) n
    go true e = rw (places_one most n (ltb-true n 10 e)) (omega arith)
    go false e = rw (places_more most n (ltb-false n 10 e)) (omega arith)

-- The first digit of more than one is the first digit of the tenth.
first_of_more : (k n : ℕ) → 0 < k → get_or (digits (suc k) n) 0 48 ≡ get_or (digits k (n / 10)) 0 48
first_of_more k n h = rw (digits_more k n) (get_or-append (digits k (n / 10)) ((48 + n % 10) ∷ []) 48 0 (rw digits-length h))

first_digit : (most n : ℕ) → n < tens most → 0 < most → 0 < n → get_or (digits (places most n) n) 0 48 ≡ 48 → ⊥
unfolding tens
first_digit zero n h p l z = omega arith
first_digit (suc zero) n h p l z =
    let e : get_or (digits (places 1 n) n) 0 48 ≡ 48 + n = rw (places_one 0 n (omega arith), digits_one n (omega arith)) in
    omega arith
first_digit (suc (suc q)) n h p l z = go (ltb n 10) refl (first_digit (suc q) (n / 10) (tenth_under n (tens (suc q)) h) (omega arith))
  where
    go : (t : Bool) → ltb n 10 ≡ t → (0 < n / 10 → get_or (digits (places (suc q) (n / 10)) (n / 10)) 0 48 ≡ 48 → ⊥) → ⊥
    go true e r =
        let f : get_or (digits (places (suc (suc q)) n) n) 0 48 ≡ 48 + n = rw (places_one (suc q) n (ltb-true n 10 e), digits_one n (ltb-true n 10 e)) in
        omega arith
    go false e r =
        let t : 10 ≤ n = ltb-false n 10 e in
        let f : get_or (digits (places (suc (suc q)) n) n) 0 48 ≡ get_or (digits (places (suc q) (n / 10)) (n / 10)) 0 48 =
        rw (places_more (suc q) n t) (first_of_more (places (suc q) (n / 10)) n (places_some q (n / 10))) in
        r (omega arith) (sym f ∙ z)

pub decimal_back : DecimalBack
unfolding decimal_of tens
decimal_back n h =
    record { back = digits_back 20 n (omega arith) (omega arith); no_zero_first = first_digit 20 n (omega arith) (omega arith) }

-- A digit under 16 is read back.
digit_back : (d : ℕ) → d < 16 → hex_value (hex_digit d) ≡ d
digit_back d h = go (ltb d 10) refl
  where
    go : (t : Bool) → ltb d 10 ≡ t → hex_value (hex_digit d) ≡ d
    go true e = rw (e, lt-ltb (48 + d) 65 (omega (arith, ltb-true))) (omega arith)
    go false e = rw (e, le-ltb (55 + d) 65 (omega (arith, ltb-false))) (omega arith)

pub hex_back : HexBack
hex_back b h = rw (digit_back (b / 16) (omega arith), digit_back (b % 16) (omega arith)) (omega arith)
