-- The scan of a stream that is cut goes on where it stood, whatever follows and however that ends.
use mathlib.Core.Path.{◌≡◌, refl, ap}
use mathlib.Core.Bool.{Bool, true, false}
use mathlib.Core.List.{List, [], ◌∷◌, ◌++◌}
use Prim.Native.Nat.{ℕ, zero, suc, ◌+◌, ◌≤◌}
use native.Mathlib.Omega.{arith}
use lib.ListN.{length, take, drop}
use lib.Seq.{take-append-le, length-take-le}
use Rattle.stream.specs.declared.Verdict.{Verdict}
use Rattle.stream.specs.declared.Verdict.TheVariants.{Skip, Undecided, Whole}
use Rattle.stream.specs.Framing.{Framing}
use Rattle.stream.specs.Scan.{message_at, Event, skipped, reported, events_past, events_on, events, standing}
use Rattle.stream.specs.Silence.{End, up_to}
use Rattle.stream.specs.Cutting.{Continues}
use Rattle.stream.proofs.Ends.{skip_up_to, whole_up_to}

-- The same of a scan that first passes p bytes.
module _ (front : List ℕ → Verdict) (most_held : ℕ) where
  record Rest (p : ℕ) (u : List ℕ) (es : List Event) : Type 0 where
    goes : (e : End) (v : List ℕ) → events_past (up_to e front) p (u ++ v) ≡ es ++ events (up_to e front) (drop (standing es + p) u ++ v)
    inside : standing es + p ≤ length u
    few : length (drop (standing es + p) u) ≤ most_held

module _ {front : List ℕ → Verdict} {most_held peek : ℕ} (F : Framing front most_held peek) where
  pub skip_follows : (e : End) (u v : List ℕ) → front u ≡ Skip → up_to e front (u ++ v) ≡ Skip
  skip_follows e u v h = skip_up_to front e (u ++ v) (F.skip_stays u v h)

  pub whole_follows : (e : End) (u v : List ℕ) (n : ℕ) (good : Bool) → front u ≡ Whole n good → up_to e front (u ++ v) ≡ Whole n good
  whole_follows e u v n good h = whole_up_to front e (u ++ v) n good (F.whole_stays u v n good h)

  rest : (p : ℕ) (u : List ℕ) → p ≤ length u → Rest front most_held p u (events_past front p u)
  unfolding events_past
  rest zero [] l = record { goes = λ e v. refl; inside = omega arith; few = omega arith }
  rest (suc p) [] l = absurd (omega arith)
  rest (suc p) (x ∷ xs) l =
      let r = rest p xs (omega arith) in
      let k : standing (events_past front p xs) + suc p ≡ suc (standing (events_past front p xs) + p) = omega arith in
      record { goes = λ e v. rw k (r.goes e v); inside = omega (arith, r.inside); few = rw k r.few }
  rest zero (x ∷ xs) l = go (front (x ∷ xs)) refl (λ p h. rest p xs h)
    where
      go : (d : Verdict) → front (x ∷ xs) ≡ d → ((p : ℕ) → p ≤ length xs → Rest front most_held p xs (events_past front p xs))
          → Rest front most_held 0 (x ∷ xs) (events_on d (x ∷ xs) (λ p. events_past front p xs))
      go Skip h ih =
          let r = ih 0 (omega arith) in
          let es = events_past front 0 xs in
          let k : standing (skipped ∷ es) + 0 ≡ suc (standing es + 0) = omega arith in
          record {
            goes = λ e v. rw (skip_follows e (x ∷ xs) v h, k) (ap (λ (l : List Event). skipped ∷ l) (r.goes e v));
            inside = omega (arith, r.inside);
            few = rw k r.few;
          }
      go Undecided h ih = record { goes = λ e v. refl; inside = omega arith; few = F.short (x ∷ xs) h }
      go (Whole zero good) h ih = let s = F.size (x ∷ xs) zero good h in absurd (omega arith)
      go (Whole (suc n) true) h ih =
          let s = F.size (x ∷ xs) (suc n) true h in
          let l : n ≤ length xs = omega arith in
          let r = ih n l in
          let es = events_past front n xs in
          let m = message_at (suc n) true (x ∷ xs) in
          let t : length (take n xs) ≡ n = length-take-le n xs l in
          let k : standing (reported m ∷ es) + 0 ≡ suc (standing es + n) = omega (arith, t) in
          record {
            goes = λ e v. rw (whole_follows e (x ∷ xs) v (suc n) true h, take-append-le n xs v l, k) (ap (λ (l : List Event). reported m ∷ l) (r.goes e v));
            inside = omega (arith, r.inside);
            few = rw k r.few;
          }
      go (Whole (suc n) false) h ih =
          let s = F.size (x ∷ xs) (suc n) false h in
          let l : n ≤ length xs = omega arith in
          let r = ih 0 (omega arith) in
          let es = events_past front 0 xs in
          let m = message_at (suc n) false (x ∷ xs) in
          let k : standing (reported m ∷ es) + 0 ≡ suc (standing es + 0) = omega arith in
          record {
            goes = λ e v. rw (whole_follows e (x ∷ xs) v (suc n) false h, take-append-le n xs v l, k) (ap (λ (l : List Event). reported m ∷ l) (r.goes e v));
            inside = omega (arith, r.inside);
            few = rw k r.few;
          }

  pub continues : (u : List ℕ) → Continues front most_held u
  continues u =
      let r = rest 0 u (omega arith) in
      let k : standing (events front u) + 0 ≡ standing (events front u) = omega arith in
      record { goes = λ e v. rw k at (r.goes e v); inside = omega (arith, r.inside); few = rw k at r.few }
