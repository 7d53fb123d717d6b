-- Codes, and the values of each role, case by case.
use Prim.Native.Nat.{ℕ, zero, suc, ◌+◌, ◌≤◌, ◌<◌}
use native.Mathlib.Omega.{arith}
use mathlib.Core.Path.{◌≡◌, refl, ◌∙◌}
use mathlib.Core.Bool.{Bool, true, false, ◌&&◌, ◌||◌, not}
use mathlib.Core.List.{List, [], ◌∷◌}
use mathlib.Core.Logic.{inl, inr}
use Rattle.std.specs.Prelude.{Some, None}
use types.Run.{OneOf}
use lib.Dec.{eqb, leb}
use borrow.Author.Tests.{eq-eqb, ne_eqb, eqb-true, eqb-false, le-leb, lt-leb, leb-true, leb-false}
use Rattle.page.specs.declared.setting.Setting.{Setting}
use Rattle.page.specs.declared.setting.Setting.TheVariants.{Baud, Accelerometer, Gyroscope}
use Rattle.page.specs.Settings.{setting_of, some_of, baud_rates, accelerometer_ranges, gyroscope_ranges, older_gyroscope_ranges, usable_values, usable, storable_values, storable, readable, value_of, last_number, key_of}
use Rattle.page.specs.Theorems.{NotOnThisBoard}

-- ---- one of some numbers

none_of : (b : Bool) → b && not b ≡ false
none_of true = refl
none_of false = refl

pub or-true : (b : Bool) → b || true ≡ true
or-true true = refl
or-true false = refl

key_there : (ks : List ℕ) (x : ℕ) → OneOf ks x → true ≡ some_of (eqb x) ks
key_there [] x h = absurd h
key_there (k ∷ []) x h = rw (eq-eqb x k h)
key_there (k ∷ l ∷ ks) x (inl h) = rw (eq-eqb x k h)
key_there (k ∷ l ∷ ks) x (inr h) = let e = key_there (l ∷ ks) x h in rw (← e, or-true (eqb x k))

key_missing : (ks : List ℕ) (x : ℕ) → (OneOf ks x → ⊥) → false ≡ some_of (eqb x) ks
key_missing [] x n = refl
key_missing (k ∷ []) x n = rw (ne_eqb x k n)
key_missing (k ∷ l ∷ ks) x n =
    let e = key_missing (l ∷ ks) x (λ h. n (inr h)) in
    rw (ne_eqb x k (λ h. n (inl h)), ← e)

module _ (x : ℕ) where
  pub baud_listed : OneOf baud_rates x → true ≡ some_of (eqb x) baud_rates
  baud_listed h = key_there baud_rates x h

  pub baud_unlisted : (OneOf baud_rates x → ⊥) → false ≡ some_of (eqb x) baud_rates
  baud_unlisted n = key_missing baud_rates x n

-- ---- ranges

above : (k n : ℕ) → k < n → eqb n k ≡ false
above k n h = ne_eqb n k (λ e. omega arith)

-- The n numbers behind k.
abbrev behind : ℕ → ℕ → List ℕ
behind k zero = []
behind k (suc n) = suc k ∷ behind (suc k) n

-- A number is one of them where it is above k and at most n + k.
range : (k n x : ℕ) → leb (suc k) x && leb x (n + k) ≡ some_of (eqb x) (behind k n)
range k zero x = go (leb (suc k) x) refl
  where
    go : (b : Bool) → leb (suc k) x ≡ b → leb (suc k) x && leb x (0 + k) ≡ false
    go true e = rw (e, lt-leb x (0 + k) (omega (arith, leb-true (suc k) x e)))
    go false e = rw e
range k (suc n) x = rw (← range (suc k) n x) (go (eqb x (suc k)) refl (leb (suc k) x) refl)
  where
    sum : suc n + k ≡ n + suc k
    sum = omega arith

    go : (t : Bool) → eqb x (suc k) ≡ t → (b : Bool) → leb (suc k) x ≡ b
        → leb (suc k) x && leb x (suc n + k) ≡ eqb x (suc k) || (leb (suc (suc k)) x && leb x (n + suc k))
    go true e b l =
        let q : x ≡ suc k = eqb-true x (suc k) e in
        rw (e, le-leb (suc k) x (omega arith), le-leb x (suc n + k) (omega arith))
    go false e true l =
        let m : suc (suc k) ≤ x = omega (arith, eqb-false x (suc k) e, leb-true (suc k) x l) in
        rw (e, l, le-leb (suc (suc k)) x m, sum)
    go false e false l = rw (e, l, lt-leb (suc (suc k)) x (omega (arith, leb-false (suc k) x l)))

-- ---- a setting's values

module _ (s t : Setting) (x : ℕ) (r : Bool) (e : s ≡ t) where
  pub usable_listed : r ≡ some_of (eqb x) (usable_values t) → r ≡ usable s x
  unfolding usable
  usable_listed h = rw e h

  pub storable_listed : r ≡ some_of (eqb x) (storable_values t) → r ≡ storable s x
  unfolding storable
  storable_listed h = rw e h

module _ (x : ℕ) (r : Bool) where
  pub four_ranges : r ≡ leb 1 x && leb x 4 → r ≡ some_of (eqb x) accelerometer_ranges
  four_ranges h = h ∙ range 0 4 x

  pub five_ranges : r ≡ leb 1 x && leb x 5 → r ≡ some_of (eqb x) gyroscope_ranges
  five_ranges h = h ∙ range 0 5 x

  pub seven_ranges : r ≡ leb 1 x && leb x 7 → r ≡ some_of (eqb x) older_gyroscope_ranges
  seven_ranges h = h ∙ range 0 7 x

pub reply_reports : (s : Setting) (x : ℕ) (r : Bool) → r ≡ storable s x → r ≡ readable s x
unfolding storable readable
reply_reports Baud x r h = h
reply_reports Accelerometer x r h = h
reply_reports Gyroscope x r h = h

-- ---- what is not on this board

either : (a b : Bool) → (a || (b || false)) && true ≡ a || b
either true b = refl
either false true = refl
either false false = refl

two_more : (x : ℕ) → some_of (eqb x) older_gyroscope_ranges && not (some_of (eqb x) gyroscope_ranges) ≡ eqb x 0x06 || eqb x 0x07
two_more zero = refl
two_more (suc zero) = refl
two_more (suc (suc zero)) = refl
two_more (suc (suc (suc zero))) = refl
two_more (suc (suc (suc (suc zero)))) = refl
two_more (suc (suc (suc (suc (suc zero))))) = refl
two_more (suc (suc (suc (suc (suc (suc n)))))) =
    let x = suc (suc (suc (suc (suc (suc n))))) in
    rw (above 1 x (omega arith), above 2 x (omega arith), above 3 x (omega arith), above 4 x (omega arith), above 5 x (omega arith)) (either (eqb x 0x06) (eqb x 0x07))

pub not_on_this_board_lem : (s : Setting) (x : ℕ) → NotOnThisBoard s x
unfolding usable storable readable
not_on_this_board_lem Baud x = record { stored = none_of (some_of (eqb x) baud_rates); reported = refl }
not_on_this_board_lem Accelerometer x = record { stored = none_of (some_of (eqb x) accelerometer_ranges); reported = refl }
not_on_this_board_lem Gyroscope x = record { stored = two_more x; reported = refl }

-- ---- codes

module _ (code : ℕ) where
  pub code_baud : code ≡ 0x01 → Some Baud ≡ setting_of code
  unfolding setting_of
  code_baud e = rw e

  pub code_accelerometer : code ≡ 0x07 → Some Accelerometer ≡ setting_of code
  unfolding setting_of
  code_accelerometer e = rw e

  pub code_gyroscope : code ≡ 0x08 → Some Gyroscope ≡ setting_of code
  unfolding setting_of
  code_gyroscope e = rw e

  pub code_unknown : (code ≡ 0x01 → ⊥) → (code ≡ 0x07 → ⊥) → (code ≡ 0x08 → ⊥) → None ≡ setting_of code
  unfolding setting_of
  code_unknown n m k = rw (ne_eqb code 0x01 n, ne_eqb code 0x07 m, ne_eqb code 0x08 k)

  pub key_setting : (s : Setting) → Some s ≡ setting_of code → Some (value_of s) ≡ key_of code
  unfolding key_of
  key_setting s e = rw (← e)

  pub key_number : code ≡ 0x70 → Some last_number ≡ key_of code
  unfolding key_of setting_of
  key_number e = rw e

  pub key_unknown : (code ≡ 0x01 → ⊥) → (code ≡ 0x07 → ⊥) → (code ≡ 0x08 → ⊥) → (code ≡ 0x70 → ⊥) → None ≡ key_of code
  unfolding key_of
  key_unknown n m k l = rw (← (code_unknown n m k), ne_eqb code 0x70 l)
