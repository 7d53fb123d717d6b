-- What is told by where the scan of a call ends, of a feed and of a silence alike.
use mathlib.Core.Path.{◌≡◌, ap}
use mathlib.Core.Bool.{Bool}
use mathlib.Core.List.{List, [], ◌++◌, append-nil}
use Prim.Native.Nat.{ℕ, ◌≤◌}
use native.Mathlib.Omega.{arith}
use lib.ListN.{length, drop, length-drop}
use Rattle.stream.specs.declared.Verdict.{Verdict}
use Rattle.stream.specs.declared.Verdict.TheVariants.{Whole}
use Rattle.stream.specs.declared.Sought.TheVariants.{Starved, Found}
use Rattle.stream.specs.Cutting.{Sized, Cutting}
use Rattle.stream.proofs.Cuts.{starved_goes}
use Rattle.stream.proofs.Drains.{drain, drain_all}
use Rattle.stream.proofs.Ends.{found_stands}
use Rattle.stream.proofs.Scans.{found_is, starved_is}
use Rattle.history.specs.Calls.{Input, fed, silent, end_by, chunk_of}
use Rattle.history.specs.Program.{sought_by}

-- A message stands behind k bytes of what is held and the chunk.
pub call_front : (front : List ℕ → Verdict) (h : List ℕ) (i : Input) (k n : ℕ) (good : Bool) → sought_by front i h ≡ Found k n good
    → front (drop k (h ++ chunk_of i)) ≡ Whole n good
call_front front h i k n good e = found_stands front (end_by i) (h ++ chunk_of i) k n good e

-- A silence goes on over the held bytes alone.
pub drained-held : (front : List ℕ → Verdict) (h : List ℕ) → sought_by front silent h ≡ drain front h
drained-held front h = ap (drain front) (append-nil h)

module _ {front : List ℕ → Verdict} {most_held : ℕ} (C : Cutting front most_held) where
  -- Its sizes.
  pub call_sized : (h : List ℕ) (i : Input) (k n : ℕ) (good : Bool) → sought_by front i h ≡ Found k n good → Sized most_held (h ++ chunk_of i) k n
  call_sized h i k n good e = (found_is (C.scanning (end_by i)) (h ++ chunk_of i) k n good e).sized

  -- Nothing is found: the bytes skipped are among them, and the others fit a port.
  pub record Starving (h : List ℕ) (i : Input) (k : ℕ) : Type 0 where
    pub inside : k ≤ length (h ++ chunk_of i)
    pub few : length (drop k (h ++ chunk_of i)) ≤ most_held

  pub call_starved : (h : List ℕ) (i : Input) (k : ℕ) → length h ≤ most_held → sought_by front i h ≡ Starved k → Starving h i k
  call_starved h i k few e = record { inside = (starved_is (C.scanning (end_by i)) (h ++ chunk_of i) k e).inside; few = few_left i e }
    where
      few_left : (i : Input) → sought_by front i h ≡ Starved k → length (drop k (h ++ chunk_of i)) ≤ most_held
      few_left (fed chunk) e = (starved_goes C (h ++ chunk) k e).few
      few_left silent e = omega (arith, drain_all C (h ++ []) k e, length-drop k (h ++ []))
