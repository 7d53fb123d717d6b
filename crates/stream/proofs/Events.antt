-- The laws of lists of events: what is counted in `++`, in skips, and in skips then a message.
use mathlib.Core.Path.{◌≡◌, refl, ap}
use mathlib.Core.Bool.{Bool, true, false}
use mathlib.Core.List.{List, [], ◌∷◌, ◌++◌}
use Prim.Native.Nat.{ℕ, zero, suc, ◌+◌}
use native.Mathlib.Omega.{arith}
use lib.ListN.{length}
use Rattle.stream.specs.Scan.{Message, Event, skipped, reported, messages, through, skipped_at, good_at, skipped_in, good_in, standing}
use Rattle.stream.specs.Seek.{resume, skipped_by}
use Rattle.stream.specs.Cutting.{skips, skips_then}

pub messages-append : (r es : List Event) → messages (r ++ es) ≡ messages r ++ messages es
messages-append [] es = refl
messages-append (skipped ∷ r) es = messages-append r es
messages-append (reported m ∷ r) es = ap (λ (l : List Message). m ∷ l) (messages-append r es)

pub skipped_in-append : (r es : List Event) → skipped_in (r ++ es) ≡ skipped_in r + skipped_in es
skipped_in-append [] es = omega arith
skipped_in-append (skipped ∷ r) es = omega (arith, skipped_in-append r es)
skipped_in-append (reported m ∷ r) es = omega (arith, skipped_in-append r es)

pub good_in-append : (r es : List Event) → good_in (r ++ es) ≡ good_in r + good_in es
good_in-append [] es = omega arith
good_in-append (skipped ∷ r) es = good_in-append r es
good_in-append (reported m ∷ r) es = omega (arith, good_in-append r es)

through_zero : (es : List Event) → through 0 es ≡ []
through_zero [] = refl
through_zero (skipped ∷ es) = refl
through_zero (reported m ∷ es) = refl

-- The events up to one message more than r has.
pub through_past : (r es : List Event) → through (suc (length (messages r))) (r ++ es) ≡ r ++ through 1 es
through_past [] es = refl
through_past (skipped ∷ r) es = ap (λ (l : List Event). skipped ∷ l) (through_past r es)
through_past (reported m ∷ r) es = ap (λ (l : List Event). reported m ∷ l) (through_past r es)

-- ---- k bytes skipped, then a message

pub through-skips_then : (k : ℕ) (m : Message) (es : List Event) → through 1 (skips_then k m ++ es) ≡ skips_then k m
through-skips_then zero m es = ap (λ (l : List Event). reported m ∷ l) (through_zero es)
through-skips_then (suc k) m es = ap (λ (l : List Event). skipped ∷ l) (through-skips_then k m es)

pub messages-skips_then : (k : ℕ) (m : Message) → messages (skips_then k m) ≡ m ∷ []
messages-skips_then zero m = refl
messages-skips_then (suc k) m = messages-skips_then k m

skipped_at_is : (good : Bool) → skipped_at good + 0 ≡ skipped_by 0 good
skipped_at_is true = refl
skipped_at_is false = refl

skipped_by_suc : (k : ℕ) (good : Bool) → skipped_by (suc k) good ≡ suc (skipped_by k good)
skipped_by_suc k true = refl
skipped_by_suc k false = refl

pub skipped_in-skips_then : (k : ℕ) (m : Message) → skipped_in (skips_then k m) ≡ skipped_by k m.good
skipped_in-skips_then zero m = skipped_at_is m.good
skipped_in-skips_then (suc k) m = omega (arith, skipped_in-skips_then k m, skipped_by_suc k m.good)

pub good_in-skips_then : (k : ℕ) (m : Message) → good_in (skips_then k m) ≡ good_at m.good (length m.bytes)
good_in-skips_then zero m = omega arith
good_in-skips_then (suc k) m = good_in-skips_then k m

-- After a message the scan stands where reading goes on.
pub standing-skips_then : (k n : ℕ) (m : Message) → length m.bytes ≡ n → standing (skips_then k m) ≡ resume k n m.good
standing-skips_then k n m e = by_kind m.good (good_in-skips_then k m) (skipped_in-skips_then k m)
  where
    by_kind : (good : Bool) → good_in (skips_then k m) ≡ good_at good (length m.bytes) → skipped_in (skips_then k m) ≡ skipped_by k good
        → standing (skips_then k m) ≡ resume k n good
    by_kind true p q = omega arith
    by_kind false p q = omega arith

-- ---- k bytes skipped

pub messages-skips : (k : ℕ) → messages (skips k) ≡ []
messages-skips zero = refl
messages-skips (suc k) = messages-skips k

pub skipped_in-skips : (k : ℕ) → skipped_in (skips k) ≡ k
skipped_in-skips zero = refl
skipped_in-skips (suc k) = ap suc (skipped_in-skips k)

pub good_in-skips : (k : ℕ) → good_in (skips k) ≡ 0
good_in-skips zero = refl
good_in-skips (suc k) = good_in-skips k
