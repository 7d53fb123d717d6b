-- Cutting a stream is harmless, over any framing: the proof of specs/Cutting.antt.
use mathlib.Core.Path.{◌≡◌, refl, subst}
use mathlib.Core.Bool.{Bool}
use mathlib.Core.List.{List, [], ◌∷◌}
use Prim.Native.Nat.{ℕ}
use native.Mathlib.Omega.{arith}
use Rattle.stream.specs.declared.Verdict.{Verdict}
use Rattle.stream.specs.declared.Verdict.TheVariants.{Skip, Undecided, Whole}
use Rattle.stream.specs.declared.Sought.{Sought}
use Rattle.stream.specs.declared.Sought.TheVariants.{Starved, Found}
use Rattle.stream.specs.Framing.{Framing}
use Rattle.stream.specs.Scan.{events_past}
use Rattle.stream.specs.Seek.{seek_on, seek}
use Rattle.stream.specs.Silence.{End, running, up_to}
use Rattle.stream.specs.Cutting.{Sized, StarvedAt, Agrees, Cutting, FramingCuts}
use Rattle.stream.proofs.Drains.{all_read}
use Rattle.stream.proofs.Ends.{whole_unmarked}
use Rattle.stream.proofs.Rests.{skip_follows, whole_follows, continues}
use Rattle.stream.proofs.Scans.{Sizes, resume_suc, here, scanning, found_is}
use Rattle.stream.proofs.Seeks.{found_stays, found_alone, starved_resumes}

module _ {front : List ℕ → Verdict} {most_held peek : ℕ} (F : Framing front most_held peek) where
  sizes : (e : End) → Sizes (up_to e front) most_held
  sizes e u n good h = let s = F.size u n good (whole_unmarked front e u n good h) in record { some = omega arith; most = omega arith; inside = omega arith }

  agrees : (u : List ℕ) → Agrees front most_held u (seek front u)
  unfolding seek events_past
  agrees [] = record { goes = λ e v. refl; few = omega arith }
  agrees (x ∷ xs) = go (front (x ∷ xs)) refl (seek front xs) (agrees xs)
    where
      go : (d : Verdict) → front (x ∷ xs) ≡ d → (r : Sought) → Agrees front most_held xs r → Agrees front most_held (x ∷ xs) (seek_on d r)
      go Skip h (Starved k) ih = record { goes = λ e v. rw (skip_follows F e (x ∷ xs) v h, ih.goes e v); few = ih.few }
      go Skip h (Found k n good) ih = λ e v. rw (skip_follows F e (x ∷ xs) v h, resume_suc, ih e v)
      go Undecided h r ih = record { goes = λ e v. refl; few = F.short (x ∷ xs) h }
      go (Whole n good) h r ih = λ e v.
          let s = F.size (x ∷ xs) n good h in
          here (up_to e front) x xs v n good (omega arith) (omega arith) (whole_follows F e (x ∷ xs) v n good h)

  all : Cutting front most_held
  all =
      record {
        scanning = λ e. scanning (sizes e);
        undecided_short = F.short;
        continues = continues F;
        agrees = agrees;
        found_stays = found_stays F;
        starved_resumes = starved_resumes F;
        found_alone = found_alone F;
        all_read = all_read F;
      }

pub cutting : FramingCuts
cutting front most_held peek F = all F

-- ---- What follows by the seek's answer, of bytes that others follow.
module _ {front : List ℕ → Verdict} {most_held : ℕ} (C : Cutting front most_held) where
  pub found_goes : (u : List ℕ) (k n : ℕ) (good : Bool) → seek front u ≡ Found k n good → Agrees front most_held u (Found k n good)
  found_goes u k n good e = subst (λ (r : Sought). Agrees front most_held u r) e (C.agrees u)

  pub starved_goes : (u : List ℕ) (k : ℕ) → seek front u ≡ Starved k → StarvedAt front most_held u k
  starved_goes u k e = subst (λ (r : Sought). Agrees front most_held u r) e (C.agrees u)

  pub found_sized : (u : List ℕ) (k n : ℕ) (good : Bool) → seek front u ≡ Found k n good → Sized most_held u k n
  found_sized u k n good e = (found_is (C.scanning running) u k n good e).sized
