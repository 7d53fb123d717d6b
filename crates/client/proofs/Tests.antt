-- What the tests of the definitions tell: both of two, rows that are the same, and the bounds of values.
use Prim.Native.Nat.{ℕ, ◌≤◌, ◌<◌}
use native.Mathlib.Omega.{arith}
use mathlib.Core.Path.{◌≡◌, refl, sym}
use mathlib.Core.Bool.{Bool, true, false, ◌&&◌}
use mathlib.Core.List.{List, [], ◌∷◌}
use lib.Dec.{eqb, ltb}
use lib.ListN.{length}
use borrow.Author.Tests.{eqb-true, ltb-true}
use Rattle.page.specs.declared.setting.Setting.{Setting}
use Rattle.page.specs.declared.setting.Setting.TheVariants.{Baud, Accelerometer, Gyroscope}
use Rattle.page.specs.Settings.{some_of, usable_values, usable, value_bytes, value_size}
use Rattle.stream.proofs.Bools.{differ, and_both}

-- ---- values

abbrev all_below : ℕ → List ℕ → Bool
all_below n [] = true
all_below n (k ∷ ks) = ltb k n && all_below n ks

found_below : (n x : ℕ) (ks : List ℕ) → all_below n ks ≡ true → some_of (eqb x) ks ≡ true → x < n
found_below n x [] a e = differ (sym e)
found_below n x (k ∷ ks) a e =
    let b = and_both (ltb k n) (all_below n ks) a in
    go (eqb x k) refl (ltb-true k n b.0) (λ f. found_below n x ks b.1 f)
  where
    go : (t : Bool) → eqb x k ≡ t → k < n → (some_of (eqb x) ks ≡ true → x < n) → x < n
    go true p l rest = omega (arith, eqb-true x k p)
    go false p l rest = rest (rw p at e)

-- A setting's values are below this number.
abbrev pub roof : Setting → ℕ
roof Baud = 4294967296
roof Accelerometer = 256
roof Gyroscope = 256

pub usable_below : (s : Setting) (x : ℕ) → usable s x ≡ true → x < roof s
unfolding usable
usable_below Baud x e = found_below 4294967296 x (usable_values Baud) refl e
usable_below Accelerometer x e = found_below 256 x (usable_values Accelerometer) refl e
usable_below Gyroscope x e = found_below 256 x (usable_values Gyroscope) refl e

pub value_length : (s : Setting) (v : ℕ) → length (value_bytes s v) ≡ value_size s
value_length Baud v = refl
value_length Accelerometer v = refl
value_length Gyroscope v = refl

pub size_small : (s : Setting) → value_size s ≤ 4
size_small Baud = omega arith
size_small Accelerometer = omega arith
size_small Gyroscope = omega arith

pub size_some : (s : Setting) → 1 ≤ value_size s
size_some Baud = omega arith
size_some Accelerometer = omega arith
size_some Gyroscope = omega arith
