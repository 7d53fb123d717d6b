-- Bytes that end at a silence mark are all read, over any framing; so a drain that finds nothing has skipped all of them.
use mathlib.Core.Path.{◌≡◌, refl, sym, ap, ◌∙◌}
use mathlib.Core.Bool.{true, false}
use mathlib.Core.List.{List, [], ◌∷◌}
use Prim.Native.Nat.{ℕ, zero, suc, ◌+◌, ◌≤◌}
use native.Mathlib.Omega.{arith}
use lib.ListN.{length}
use lib.Seq.{length-take-le}
use Rattle.stream.specs.declared.Verdict.{Verdict}
use Rattle.stream.specs.declared.Verdict.TheVariants.{Skip, Undecided, Whole}
use Rattle.stream.specs.declared.Sought.{Sought}
use Rattle.stream.specs.declared.Sought.TheVariants.{Starved}
use Rattle.stream.specs.Framing.{Framing}
use Rattle.stream.specs.Scan.{events_on, events_past, standing}
use Rattle.stream.specs.Seek.{seek}
use Rattle.stream.specs.Silence.{ended, ended_on, up_to}
use Rattle.stream.specs.Cutting.{skips, Cutting}
use Rattle.stream.proofs.Events.{skipped_in-skips, good_in-skips}
use Rattle.stream.proofs.Scans.{starved_is}

-- The seek of such bytes: a silence's.
abbrev pub drain : (List ℕ → Verdict) → List ℕ → Sought
drain front = seek (up_to ended front)

module _ {front : List ℕ → Verdict} {most_held peek : ℕ} (F : Framing front most_held peek) where
  -- The scan that first passes p bytes reads all the others.
  all_past : (p : ℕ) (u : List ℕ) → p ≤ length u → standing (events_past (up_to ended front) p u) + p ≡ length u
  unfolding events_past
  all_past zero [] l = refl
  all_past (suc p) [] l = absurd (omega arith)
  all_past (suc p) (x ∷ xs) l = omega (arith, all_past p xs (omega arith))
  all_past zero (x ∷ xs) l = go (front (x ∷ xs)) refl (λ p h. all_past p xs h)
    where
      go : (d : Verdict) → front (x ∷ xs) ≡ d → ((p : ℕ) → p ≤ length xs → standing (events_past (up_to ended front) p xs) + p ≡ length xs)
          → standing (events_on (ended_on d) (x ∷ xs) (λ p. events_past (up_to ended front) p xs)) + 0 ≡ suc (length xs)
      go Skip h ih = omega (arith, ih 0 (omega arith))
      go Undecided h ih = omega (arith, ih 0 (omega arith))
      go (Whole zero true) h ih = let s = F.size (x ∷ xs) zero true h in absurd (omega arith)
      go (Whole (suc n) true) h ih =
          let s = F.size (x ∷ xs) (suc n) true h in
          let l : n ≤ length xs = omega arith in
          omega (arith, ih n l, length-take-le n xs l)
      go (Whole n false) h ih = omega (arith, ih 0 (omega arith))

  pub all_read : (u : List ℕ) → standing (events_past (up_to ended front) 0 u) ≡ length u
  all_read u = omega (arith, all_past 0 u (omega arith))

-- A drain that finds nothing has skipped all bytes.
pub drain_all : {front : List ℕ → Verdict} {most_held : ℕ} (C : Cutting front most_held) (u : List ℕ) (k : ℕ) → drain front u ≡ Starved k → k ≡ length u
drain_all C u k e =
    let all : standing (skips k) ≡ length u = ap standing (sym (starved_is (C.scanning ended) u k e).scans) ∙ C.all_read u in
    omega (arith, skipped_in-skips k, good_in-skips k)
