-- The laws of any scan, whatever its verdict: the proof of `Scanning`, and what follows from it by the seek's answer.
use mathlib.Core.Path.{◌≡◌, refl, ap, subst, ◌∙◌}
use mathlib.Core.Bool.{Bool, true, false}
use mathlib.Core.List.{List, [], ◌∷◌, ◌++◌, append-nil}
use Prim.Native.Nat.{ℕ, zero, suc, ◌≤◌}
use native.Mathlib.Omega.{arith}
use native.Mathlib.Nat.{suc-add, zero-add}
use lib.ListN.{length, drop}
use lib.Seq.{take-append-le, drop-append-le}
use Rattle.stream.specs.declared.Verdict.{Verdict}
use Rattle.stream.specs.declared.Verdict.TheVariants.{Skip, Undecided, Whole}
use Rattle.stream.specs.declared.Sought.{Sought}
use Rattle.stream.specs.declared.Sought.TheVariants.{Starved, Found}
use Rattle.stream.specs.Scan.{message_at, Event, skipped, reported, events_past, events}
use Rattle.stream.specs.Seek.{seek_on, seek, resume}
use Rattle.stream.specs.Cutting.{Sized, Starving, Finding, Seeks, Scanning}

pub resume_suc : (k n : ℕ) (good : Bool) → resume (suc k) n good ≡ suc (resume k n good)
resume_suc k n true = suc-add k n
resume_suc k n false = refl

-- A message that the verdict tells is some of the bytes.
abbrev pub Sizes : (List ℕ → Verdict) → ℕ → Type 0
Sizes front most_held = (u : List ℕ) (n : ℕ) (good : Bool) → front u ≡ Whole n good → Sized most_held u 0 n

module _ (front : List ℕ → Verdict) where
  pub events-drop : (p : ℕ) (u : List ℕ) → events_past front p u ≡ events front (drop p u)
  unfolding events_past
  events-drop zero [] = refl
  events-drop zero (x ∷ xs) = refl
  events-drop (suc p) [] = refl
  events-drop (suc p) (x ∷ xs) = events-drop p xs

  -- What the scan does with a message at the front, n bytes of x ∷ xs.
  pub here : (x : ℕ) (xs v : List ℕ) (n : ℕ) (good : Bool) → 1 ≤ n → n ≤ length (x ∷ xs) → front (x ∷ xs ++ v) ≡ Whole n good
      → events front (x ∷ xs ++ v) ≡ reported (message_at n good (x ∷ xs)) ∷ events front (drop (resume 0 n good) (x ∷ xs) ++ v)
  unfolding events_past
  here x xs v zero good some inside e = absurd (omega arith)
  here x xs v (suc n) true some inside e =
      let l : n ≤ length xs = omega arith in
      rw (e, zero-add, events-drop n (xs ++ v), take-append-le n xs v l, drop-append-le n xs v l)
  here x xs v (suc n) false some inside e =
      let l : n ≤ length xs = omega arith in
      rw (e, take-append-le n xs v l)

module _ {front : List ℕ → Verdict} {most_held : ℕ} (sizes : Sizes front most_held) where
  at_front : (u : List ℕ) (n : ℕ) (good : Bool) → front u ≡ Whole n good
      → events front u ≡ reported (message_at n good u) ∷ events front (drop (resume 0 n good) u)
  at_front [] n good e = let s = sizes [] n good e in absurd (omega arith)
  at_front (x ∷ xs) n good e =
      let s = sizes (x ∷ xs) n good e in
      cc (
        here front x xs [] n good s.some (omega arith) (ap front (append-nil (x ∷ xs)) ∙ e),
        append-nil (x ∷ xs),
        append-nil (drop (resume 0 n good) (x ∷ xs)),
      )

  scan_skip : (u : List ℕ) → 1 ≤ length u → front u ≡ Skip → events front u ≡ skipped ∷ events front (drop 1 u)
  unfolding events_past
  scan_skip [] l e = absurd (omega arith)
  scan_skip (x ∷ xs) l e = rw e

  scan_undecided : (u : List ℕ) → front u ≡ Undecided → events front u ≡ []
  unfolding events_past
  scan_undecided [] e = refl
  scan_undecided (x ∷ xs) e = rw e

  seeks : (u : List ℕ) → Seeks front most_held u (seek front u)
  unfolding seek events_past
  seeks [] = record { inside = omega arith; scans = refl; ends = refl }
  seeks (x ∷ xs) = go (front (x ∷ xs)) refl (seek front xs) (seeks xs)
    where
      go : (d : Verdict) → front (x ∷ xs) ≡ d → (r : Sought) → Seeks front most_held xs r → Seeks front most_held (x ∷ xs) (seek_on d r)
      go Skip e (Starved k) ih =
          record { inside = omega (arith, ih.inside); scans = rw e (ap (λ (l : List Event). skipped ∷ l) ih.scans); ends = ih.ends }
      go Skip e (Found k n good) ih =
          let s = ih.sized in
          record {
            sized = record { some = s.some; most = s.most; inside = omega arith };
            scans = rw (e, resume_suc) (ap (λ (l : List Event). skipped ∷ l) ih.scans);
          }
      go Undecided e r ih = record { inside = omega arith; scans = rw e; ends = rw e }
      go (Whole n good) e r ih = record { sized = sizes (x ∷ xs) n good e; scans = at_front (x ∷ xs) n good e }

  pub scanning : Scanning front most_held
  scanning =
      record {
        scan_skip = scan_skip;
        scan_undecided = scan_undecided;
        scan_good = λ u n e. rw zero-add at (at_front u n true e);
        scan_damaged = λ u n e. at_front u n false e;
        seeks = seeks;
      }

-- ---- By the seek's answer.
module _ {front : List ℕ → Verdict} {most_held : ℕ} (S : Scanning front most_held) where
  pub found_is : (u : List ℕ) (k n : ℕ) (good : Bool) → seek front u ≡ Found k n good → Finding front most_held u k n good
  found_is u k n good e = subst (λ (r : Sought). Seeks front most_held u r) e (S.seeks u)

  pub starved_is : (u : List ℕ) (k : ℕ) → seek front u ≡ Starved k → Starving front most_held u k
  starved_is u k e = subst (λ (r : Sought). Seeks front most_held u r) e (S.seeks u)
