-- Floats by their bit patterns: the code's tests, case by case, and both round trips of an axis.
use Prim.Native.Nat.{ℕ, ◌%◌, ◌<◌}
use native.Mathlib.Omega.{arith}
use mathlib.Core.Path.{◌≡◌, refl, sym, ap, ◌∙◌, subst}
use mathlib.Core.Bool.{Bool, true, false, not}
use lib.Dec.{T, ltb}
use lib.Ieee.{Float, nan, inf, fin, binary32, of_bits, to_bits, nan_bits, is_nan, fits}
use lib.Ieee.Bits.{nan_bits_above, nan_bits_is, to_bits-of_bits, of_bits-to_bits, to_bits-lt}
use Rattle.sample.specs.Axes.{float_of, kept_of, bits_of}
use Rattle.sample.specs.Theorems.{BitsBack, AxisBack, AxesBack}

-- ---- the code's test of a pattern

pub nan_test : (bits : ℕ) → ltb 2139095040 (bits % 2147483648) ≡ nan_bits binary32 bits
nan_test bits = sym (nan_bits_above binary32 bits)

-- ---- what the code makes

only_nan : (x : Float) → is_nan x ≡ true → x ≡ nan
unfolding is_nan
only_nan nan h = refl
only_nan (inf s) h = absurd (subst T (sym h) tt)
only_nan (fin s m e) h = absurd (subst T (sym h) tt)

holds_not : {b : Bool} → b ≡ false → T (not b)
holds_not h = subst (λ (b : Bool). T (not b)) (sym h) tt

made : of_bits binary32 0x7FC00000 ≡ nan
unfolding of_bits
made = refl

-- t is what the test of the pattern gave.
pub float_nan : (bits : ℕ) (t : Bool) → t ≡ nan_bits binary32 bits → t ≡ true → of_bits binary32 0x7FC00000 ≡ float_of bits
float_nan bits t told e = made ∙ sym (only_nan (of_bits binary32 bits) (sym (nan_bits_is binary32 bits) ∙ sym told ∙ e))

-- ---- round trips

pub bits_back : BitsBack
unfolding kept_of bits_of
bits_back bits h = go (nan_bits binary32 bits) refl
  where
    go : (t : Bool) → nan_bits binary32 bits ≡ t → bits_of (float_of bits) (kept_of bits) ≡ bits
    go true e = rw (← nan_bits_is binary32 bits, e, e)
    go false e = rw (← nan_bits_is binary32 bits, e) (to_bits-of_bits binary32 bits h (holds_not (sym (nan_bits_is binary32 bits) ∙ e)))

pub axes_back : AxesBack
unfolding kept_of bits_of
axes_back x kept p = go (is_nan x) refl
  where
    go : (t : Bool) → is_nan x ≡ t → AxisBack x kept
    go true e =
        let n : nan_bits binary32 kept ≡ true = p.pattern e in
        record { float_back = rw (e, n) (only_nan (of_bits binary32 kept) (sym (nan_bits_is binary32 kept) ∙ n) ∙ sym (only_nan x e)); kept_back = rw (e, n, n) }
    go false e =
        let b : of_bits binary32 (to_bits binary32 x) ≡ x = of_bits-to_bits binary32 x p.single in
        let n : nan_bits binary32 (to_bits binary32 x) ≡ false = nan_bits_is binary32 (to_bits binary32 x) ∙ ap is_nan b ∙ e in
        record { float_back = rw e b; kept_back = rw (e, n) (sym (p.nothing_kept e)) }

-- A pattern is 32 bits.
pub bits_below : (x : Float) (kept : ℕ) → T (fits binary32 x) → kept < 4294967296 → bits_of x kept < 4294967296
unfolding bits_of
bits_below x kept f h = go (is_nan x) refl (nan_bits binary32 kept) refl
  where
    go : (t : Bool) → is_nan x ≡ t → (u : Bool) → nan_bits binary32 kept ≡ u → bits_of x kept < 4294967296
    go true e true g = rw (e, g) h
    go true e false g = rw (e, g) (omega arith)
    go false e u g = rw e (to_bits-lt binary32 x f)
