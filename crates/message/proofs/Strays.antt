-- A stray A5, a run of them, and the type A5.
use Rattle.std.proofs.Common.{◌≡◌, ℕ, zero, suc, pred, Bool, true, false, List, [], ◌∷◌, ◌++◌, length, get_or, take, drop, replicate, sym, refl, ap, ◌∙◌, arith, get_or-take, eq-eqb}
use mathlib.Core.Bool.{and-false}
use Rattle.stream.specs.declared.Verdict.{Verdict}
use Rattle.stream.specs.declared.Verdict.TheVariants.{Skip, Undecided, Whole}
use Rattle.stream.specs.declared.Sought.TheVariants.{Starved}
use Rattle.stream.specs.Scan.{Event, skipped, events_on, events_past, events, messages}
use Rattle.stream.specs.Seek.{after_skip, seek}
use Rattle.stream.specs.Silence.{running}
use Rattle.stream.specs.Cutting.{skips}
use Rattle.stream.proofs.Framings.{IsWhole}
use Rattle.stream.proofs.Scans.{starved_is}
use Rattle.message.specs.Message.{type_of, sums_right}
use Rattle.message.specs.Front.{starts_with_a5, opens, front}
use Rattle.message.specs.Theorems.{NoneOfType, StrayA5}
use Rattle.message.proofs.Openings.{opens_told, front_skip}
use Rattle.message.proofs.Framed.{header, whole_told, cutting_harmless}

-- ---- a run

-- A5 A5 and then bytes that start with A5.
front_stray : (u : List ℕ) → starts_with_a5 u ≡ true → front (0xA5 ∷ 0xA5 ∷ u) ≡ Skip
front_stray u e = sym (front_skip (0xA5 ∷ 0xA5 ∷ u) (rw e))

events_stray : (u : List ℕ) → starts_with_a5 u ≡ true → events front (0xA5 ∷ 0xA5 ∷ u) ≡ skipped ∷ events front (0xA5 ∷ u)
events_stray u e = (cutting_harmless.scanning running).scan_skip (0xA5 ∷ 0xA5 ∷ u) (omega arith) (front_stray u e)

seek_stray : (u : List ℕ) → starts_with_a5 u ≡ true → seek front (0xA5 ∷ 0xA5 ∷ u) ≡ after_skip (seek front (0xA5 ∷ u))
unfolding seek
seek_stray u e = rw (front_stray u e)

run_head : (k : ℕ) (v : List ℕ) → starts_with_a5 (replicate k 0xA5 ++ (0xA5 ∷ v)) ≡ true
run_head zero v = refl
run_head (suc k) v = refl

run : (k : ℕ) (v : List ℕ) → events front (replicate k 0xA5 ++ (0xA5 ∷ 0xA5 ∷ v)) ≡ skips k ++ events front (0xA5 ∷ 0xA5 ∷ v)
run zero v = refl
run (suc zero) v = events_stray (0xA5 ∷ v) refl
run (suc (suc k)) v =
    events_stray (replicate k 0xA5 ++ (0xA5 ∷ 0xA5 ∷ v)) (run_head k (0xA5 ∷ v))
    ∙ ap (λ (es : List Event). skipped ∷ es) (run (suc k) v)

run_held : (k : ℕ) → seek front (replicate k 0xA5 ++ (0xA5 ∷ 0xA5 ∷ [])) ≡ Starved k
unfolding seek front
run_held zero = refl
run_held (suc zero) = refl
run_held (suc (suc k)) =
    seek_stray (replicate k 0xA5 ++ (0xA5 ∷ 0xA5 ∷ [])) (run_head k (0xA5 ∷ []))
    ∙ ap after_skip (run_held (suc k))

-- ---- the type

type_told : (u : List ℕ) (n : ℕ) (good : Bool) → front u ≡ Whole n good → type_of (take n u) ≡ 0xA5 → ⊥
type_told u n good e same =
    let t : IsWhole header sums_right u n good = whole_told u n good e in
    let k : get_or (take n u) 2 0 ≡ get_or u 2 0 = get_or-take n u 2 0 (omega (arith, t.sized)) in
    (opens_told u (omega (arith, t.sized, t.inside)) t.opening).third (sym k ∙ same)

none_past : (p : ℕ) (u : List ℕ) → NoneOfType 0xA5 (messages (events_past front p u))
unfolding events_past
none_past p [] = tt
none_past (suc p) (x ∷ xs) = none_past p xs
none_past zero (x ∷ xs) = go (front (x ∷ xs)) refl (λ p. none_past p xs)
  where
    go : (d : Verdict) → front (x ∷ xs) ≡ d → ((p : ℕ) → NoneOfType 0xA5 (messages (events_past front p xs)))
        → NoneOfType 0xA5 (messages (events_on d (x ∷ xs) (λ p. events_past front p xs)))
    go Skip e ih = ih 0
    go Undecided e ih = tt
    go (Whole n true) e ih = (type_told (x ∷ xs) n true e, ih (pred n))
    go (Whole n false) e ih = (type_told (x ∷ xs) n false e, ih 0)

third_skips : (w : List ℕ) → type_of w ≡ 0xA5 → opens w ≡ false
third_skips [] e = let z : ◌≡◌ {A = ℕ} 0 0xA5 = e in absurd (omega arith)
third_skips (x ∷ []) e = let z : ◌≡◌ {A = ℕ} 0 0xA5 = e in absurd (omega arith)
third_skips (x ∷ y ∷ []) e = let z : ◌≡◌ {A = ℕ} 0 0xA5 = e in absurd (omega arith)
third_skips (x ∷ y ∷ s ∷ w) e = rw (eq-eqb s 0xA5 e, and-false)

skips_something : (w : List ℕ) → type_of w ≡ 0xA5 → events front w ≡ [] → ⊥
skips_something [] e none = let z : ◌≡◌ {A = ℕ} 0 0xA5 = e in absurd (omega arith)
skips_something (x ∷ w) e none =
    let s : events front (x ∷ w) ≡ skipped ∷ events front w =
    (cutting_harmless.scanning running).scan_skip (x ∷ w) (omega arith) (sym (front_skip (x ∷ w) (third_skips (x ∷ w) e))) in
    let l : length (events front (x ∷ w)) ≡ length (skipped ∷ events front w) = ap length s in
    let n : length (events front (x ∷ w)) ≡ 0 = ap length none in
    absurd (omega arith)

held_type : (u : List ℕ) (k : ℕ) → seek front u ≡ Starved k → type_of (drop k u) ≡ 0xA5 → ⊥
held_type u k e same = skips_something (drop k u) same (starved_is (cutting_harmless.scanning running) u k e).ends

pub stray_a5 : StrayA5
unfolding front
stray_a5 =
    record {
      third = λ v. events_stray (0xA5 ∷ v) refl;
      two_alone = refl;
      one_alone = refl;
      run = run;
      run_held = run_held;
      never_reported = none_past 0;
      never_held = held_type;
    }
