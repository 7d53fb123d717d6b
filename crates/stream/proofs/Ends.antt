-- The laws of the verdict before a silence mark, and of a loop that seeks up to one or without one. Over any framing.
use mathlib.Core.Path.{◌≡◌, refl, sym, ap, ◌∙◌}
use mathlib.Core.Bool.{Bool, true, false}
use mathlib.Core.List.{List}
use Prim.Native.Nat.{ℕ, ◌+◌, ◌≤◌, ◌<◌}
use native.Mathlib.Omega.{arith}
use native.Mathlib.Nat.{add-zero}
use lib.ListN.{length, drop, drop_of_length-le}
use Rattle.stream.specs.declared.Verdict.{Verdict}
use Rattle.stream.specs.declared.Verdict.TheVariants.{Skip, Undecided, Whole}
use Rattle.stream.specs.declared.Sought.TheVariants.{Starved, Found}
use Rattle.stream.specs.Seek.{beyond, seek}
use Rattle.stream.specs.Silence.{End, running, ended, end_of, ended_on, up_to}
use Rattle.stream.specs.Marks.{MarkMakesNone}
use Rattle.stream.proofs.Seeks.{seek-skips, seek_starves, seek_finds, found_front}

-- ---- A skip and a message are the same verdict before a mark as without one.

module _ (front : List ℕ → Verdict) where
  pub skip_up_to : (e : End) (u : List ℕ) → front u ≡ Skip → up_to e front u ≡ Skip
  skip_up_to running u h = h
  skip_up_to ended u h = ap ended_on h

  pub whole_up_to : (e : End) (u : List ℕ) (n : ℕ) (good : Bool) → front u ≡ Whole n good → up_to e front u ≡ Whole n good
  whole_up_to running u n good h = h
  whole_up_to ended u n good h = ap ended_on h

told_whole : (d : Verdict) (n : ℕ) (good : Bool) → ended_on d ≡ Whole n good → d ≡ Whole n good
told_whole Skip n good h = let z : ◌≡◌ {A = ℕ} 0 1 = cc in absurd (omega arith)
told_whole Undecided n good h = let z : ◌≡◌ {A = ℕ} 0 1 = cc in absurd (omega arith)
told_whole (Whole m ok) n good h = h

pub whole_unmarked : MarkMakesNone
whole_unmarked front running u n good h = h
whole_unmarked front ended u n good h = told_whole (front u) n good h

-- What a seek found stands at its place.
pub found_stands : (front : List ℕ → Verdict) (e : End) (u : List ℕ) (k n : ℕ) (good : Bool) → seek (up_to e front) u ≡ Found k n good → front (drop k u) ≡ Whole n good
found_stands front e u k n good h = whole_unmarked front e (drop k u) n good (found_front (up_to e front) u k n good h)

-- ---- For a loop that looks at one place after the other; `done` is its invariant: what remains to be sought is what is sought in all.

module _ (front : List ℕ → Verdict) (b : Bool) (w : List ℕ) (at : ℕ) (done : seek (up_to (end_of b) front) w ≡ beyond at (seek (up_to (end_of b) front) (drop at w))) where
  -- Nothing is left.
  pub nothing_left : length w ≤ at → Starved at ≡ seek (up_to (end_of b) front) w
  unfolding seek
  nothing_left l = sym (rw (drop_of_length-le w l, add-zero at) at done)

  -- At a place whose verdict is d.
  module _ (d : Verdict) (is : d ≡ front (drop at w)) where
    pub skip_passed : at < length w → d ≡ Skip → seek (up_to (end_of b) front) w ≡ beyond (at + 1) (seek (up_to (end_of b) front) (drop (at + 1) w))
    skip_passed l e = seek-skips (up_to (end_of b) front) w at Skip (sym (skip_up_to front (end_of b) (drop at w) (sym is ∙ e))) l refl done

    pub message_found : {n : ℕ} {good : Bool} → at < length w → d ≡ Whole n good → Found at n good ≡ seek (up_to (end_of b) front) w
    message_found {n} {good} l e =
        seek_finds (up_to (end_of b) front) w at (Whole n good) (sym (whole_up_to front (end_of b) (drop at w) n good (sym is ∙ e))) l refl done

    -- Where it is undecided, a mark makes it a skip.
    pub undecided_passed : at < length w → b ≡ true → d ≡ Undecided → seek (up_to (end_of b) front) w ≡ beyond (at + 1) (seek (up_to (end_of b) front) (drop (at + 1) w))
    undecided_passed l t e = seek-skips (up_to (end_of b) front) w at Skip (sym (rw t (ap ended_on (sym is ∙ e)))) l refl done

    pub undecided_stops : b ≡ false → d ≡ Undecided → Starved at ≡ seek (up_to (end_of b) front) w
    undecided_stops t e = seek_starves (up_to (end_of b) front) w at Undecided (sym (rw t (sym is ∙ e))) refl done
