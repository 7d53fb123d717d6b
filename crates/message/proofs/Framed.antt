-- MS CIP is a framing, so cutting its stream is harmless.
use Rattle.std.proofs.Common.{◌≡◌, ℕ, ◌+◌, ◌≤◌, Bool, true, false, not, ◌&&◌, eqb, List, [], ◌∷◌, ◌++◌, length, drop, sym, refl, ◌∙◌, arith}
use lib.ListN.{get_or-append}
use Rattle.stream.specs.declared.Sought.{Sought}
use Rattle.stream.specs.declared.Sought.TheVariants.{Starved, Found}
use Rattle.stream.specs.declared.Verdict.TheVariants.{Whole}
use Rattle.stream.specs.Framing.{Framing}
use Rattle.stream.specs.Seek.{seek}
use Rattle.stream.specs.Silence.{End, up_to}
use Rattle.stream.proofs.Framings.{Header, framing, IsWhole, is_whole}
use Rattle.stream.proofs.Cuts.{cutting}
use Rattle.stream.proofs.Scans.{found_is, starved_is}
use Rattle.message.specs.Message.{sums_right}
use Rattle.message.specs.Front.{a5_or_none, starts_with_a5, opens, size_of, front, most_undecided}
use Rattle.message.specs.Theorems.{CuttingHarmless}

-- Three bytes decide the opening,
opens-append : (u v : List ℕ) → 3 ≤ length u → opens (u ++ v) ≡ opens u
opens-append [] v h = absurd (omega arith)
opens-append (x ∷ []) v h = absurd (omega arith)
opens-append (x ∷ y ∷ []) v h = absurd (omega arith)
opens-append (x ∷ y ∷ z ∷ u) v h = refl

opens_false : (u v : List ℕ) → opens u ≡ false → opens (u ++ v) ≡ false
opens_false [] v e = cc
opens_false (x ∷ []) v e = go (eqb x 0xA5) e
  where
    go : (b : Bool) → b && true && true ≡ false → b && a5_or_none v && not (starts_with_a5 (drop 1 v)) ≡ false
    go true p = cc
    go false p = refl
opens_false (x ∷ y ∷ []) v e = go (eqb x 0xA5 && eqb y 0xA5) e
  where
    go : (b : Bool) → b && true ≡ false → b && not (starts_with_a5 v) ≡ false
    go true p = cc
    go false p = refl
opens_false (x ∷ y ∷ z ∷ u) v e = e

-- and four the size.
size_append : (u v : List ℕ) → 4 ≤ length u → size_of (u ++ v) ≡ size_of u
size_append u v h = rw (get_or-append u v 0 3 (omega arith))

pub header : Header opens size_of 260 3 4
header = record { opens-append = opens-append; opens_false = opens_false; size_append = size_append; bounds = λ u. omega arith }

pub ms_cip : Framing front most_undecided 3
unfolding front
ms_cip = framing header sums_right

-- What a verdict of a whole message tells of the bytes.
pub whole_told : (u : List ℕ) (n : ℕ) (good : Bool) → front u ≡ Whole n good → IsWhole header sums_right u n good
unfolding front
whole_told = is_whole header sums_right

pub cutting_harmless : CuttingHarmless
cutting_harmless = cutting front most_undecided 3 ms_cip

-- ---- where a seek ends is within the bytes

module _ (end : End) (u : List ℕ) (r : Sought) (is : r ≡ seek (up_to end front) u) where
  pub starved_within : (k : ℕ) → r ≡ Starved k → k ≤ length u
  starved_within k e = (starved_is (cutting_harmless.scanning end) u k (sym is ∙ e)).inside

  pub found_within : (k n : ℕ) (good : Bool) → r ≡ Found k n good → k + n ≤ length u
  found_within k n good e = (found_is (cutting_harmless.scanning end) u k n good (sym is ∙ e)).sized.inside
