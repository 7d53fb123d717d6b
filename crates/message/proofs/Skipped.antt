-- The laws of bytes that are passed over.
use Rattle.std.proofs.Common.{◌≡◌, ℕ, zero, suc, ◌+◌, ◌-◌, ◌<◌, ◌≤◌, Bool, true, false, eqb, List, [], ◌++◌, length, get_or, take, drop, sym, refl, ap, ◌∙◌, subst, append-nil, add-zero, arith, length-append, length-drop, get_or-drop, take_all, drop-drop, eq-eqb, eqb-true}
use lib.ListN.{get_or-append}
use lib.Seq.{drop-append-le, drop-append_seam}
use borrow.Author.Tests.{eqb-false, ltb-false}
use Rattle.std.specs.Option.{unwrap_or}
use Rattle.std.specs.List.{position_or_len}
use Rattle.std.proofs.lemmas.List.{take_rest}
use Rattle.std.proofs.lemmas.List.Sums.{fails_before_first, prefix_len-le-length}
use Rattle.std.proofs.Common.{not, cond, ltb, Option, Some, None}
use Rattle.stream.specs.declared.Verdict.TheVariants.{Skip}
use Rattle.stream.specs.Seek.{beyond, seek}
use Rattle.stream.specs.Silence.{End, up_to}
use Rattle.stream.proofs.Ends.{skip_up_to}
use Rattle.stream.proofs.Seeks.{seek_starts, seek-skips, beyond_zero, beyond-beyond}
use Rattle.message.specs.Front.{opens, front}
use Rattle.message.specs.Skips.{SkippedPart, RunAt}
use Rattle.message.proofs.Openings.{opens_first, opens_bytes, front_skip}

-- ---- one place after the other

module _ (s : List ℕ) where
  pub skips-none : (from : ℕ) → from ≤ length s → SkippedPart s from from
  skips-none from h =
      let z : from - from ≡ 0 = omega arith in
      record { forward = omega arith; inside = h; sought = λ e v. rw z (sym (beyond_zero (seek (up_to e front) (drop from s ++ v)))) }

  pub skips_on : {from i to : ℕ} → SkippedPart s from i → SkippedPart s i to → SkippedPart s from to
  skips_on {from} {i} {to} a b =
      let k : i - from + (to - i) ≡ to - from = omega (arith, a.forward, b.forward) in
      record {
        forward = omega (arith, a.forward, b.forward);
        inside = b.inside;
        sought = λ e v. rw k at (a.sought e v ∙ ap (beyond (i - from)) (b.sought e v) ∙ beyond-beyond (i - from) (to - i) (seek (up_to e front) (drop to s ++ v)));
      }

  -- The same of a part that is all of the bytes.
  pub skips_whole : {from i to : ℕ} → SkippedPart (take (length s - 0) (drop 0 s)) from i → SkippedPart (take (length s - 0) (drop 0 s)) i to → SkippedPart s from to
  skips_whole {from} {i} {to} a b =
      let w : take (length s - 0) (drop 0 s) ≡ s = take_all (length s - 0) s (omega arith) in
      skips_on (subst (λ (l : List ℕ). SkippedPart l from i) w a) (subst (λ (l : List ℕ). SkippedPart l i to) w b)

  -- A place at which no message opens, whatever follows.
  skips_one : (i : ℕ) → i < length s → ((v : List ℕ) → opens (drop i s ++ v) ≡ false) → SkippedPart s i (i + 1)
  skips_one i h no_opening =
      record {
        forward = omega arith;
        inside = omega arith;
        sought = λ e v.
            let w = drop i s ++ v in
            let l : 0 < length w = rw (length-append, length-drop) (omega arith) in
            let d : drop (0 + 1) w ≡ drop (i + 1) s ++ v = rw (drop-append-le 1 (drop i s) v (rw length-drop (omega arith)), drop-drop) in
            let k : i + 1 - i ≡ 0 + 1 = omega arith in
            rw (k, ← d) (seek-skips (up_to e front) w 0 Skip (sym (skip_up_to front e w (sym (front_skip w (no_opening v))))) l refl (seek_starts (up_to e front) w));
      }

  byte : (i k : ℕ) (v : List ℕ) → i + k < length s → get_or (drop i s ++ v) k 0 ≡ get_or s (i + k) 0
  byte i k v h = get_or-append (drop i s) v 0 k (rw length-drop (omega arith)) ∙ get_or-drop i s k 0

  -- What is no A5.
  pub skips_other : (from i : ℕ) → i < length s → (get_or s i 0 ≡ 0xA5 → ⊥) → SkippedPart s from i → SkippedPart s from (i + 1)
  skips_other from i h n before = skips_on before (skips_one i h no_opening)
    where
      no_opening : (v : List ℕ) → opens (drop i s ++ v) ≡ false
      no_opening v =
          opens_first (drop i s ++ v) (rw (length-append, length-drop) (omega arith)) (λ e. n (rw add-zero at (sym (byte i 0 v (omega arith)) ∙ e)))

  -- An A5 that two more follow.
  skips_stray : (from i : ℕ) → i + 2 < length s → get_or s i 0 ≡ 0xA5 → get_or s (i + 1) 0 ≡ 0xA5 → get_or s (i + 2) 0 ≡ 0xA5
      → SkippedPart s from i → SkippedPart s from (i + 1)
  skips_stray from i h x y z before = skips_on before (skips_one i (omega arith) no_opening)
    where
      is : (k : ℕ) (v : List ℕ) → i + k < length s → get_or s (i + k) 0 ≡ 0xA5 → eqb (get_or (drop i s ++ v) k 0) 0xA5 ≡ true
      is k v l e = eq-eqb _ _ (byte i k v l ∙ e)

      no_opening : (v : List ℕ) → opens (drop i s ++ v) ≡ false
      no_opening v =
          opens_bytes (drop i s ++ v) (rw (length-append, length-drop) (omega arith))
          ∙ rw (is 0 v (omega arith) (rw add-zero x), is 1 v (omega arith) y, is 2 v h z)

-- A run of A5.
pub run_more : (s : List ℕ) (from i : ℕ) → i + 2 < length s → get_or s (i + 2) 0 ≡ 0xA5 → RunAt s from i → RunAt s from (i + 1)
run_more s from i h z run =
    let k : i + 2 ≡ i + 1 + 1 = omega arith in
    record { room = omega arith; first = run.second; second = rw k at z; before = skips_stray s from i h run.first run.second z run.before }

-- ---- blocks

-- A chunk of 16 bytes of s at i, and what is behind it.
pub record Chunk (s : List ℕ) (i : ℕ) (block rest : List ℕ) : Type 0 where
  pub room : i + 16 ≤ length s
  pub behind : drop (i + 16) s ≡ rest
  pub bytes : (k : ℕ) → k < 16 → get_or s (i + k) 0 ≡ get_or block k 0
  pub sixteen : length block ≡ 16

pub chunk_here : (s : List ℕ) (i : ℕ) (block rest : List ℕ) → drop i s ≡ block ++ rest → length block ≡ 16 → Chunk s i block rest
chunk_here s i block rest e n =
    record {
      room = omega (arith, ap length e, length-append block rest, length-drop i s);
      behind = rw (← drop-drop 16 i s, e, ← n) (drop-append_seam block rest);
      bytes = λ k h. sym (get_or-drop i s k 0) ∙ rw e (get_or-append block rest 0 k (omega arith));
      sixteen = n;
    }

module _ (s : List ℕ) (from i : ℕ) where
  skips_others : (n : ℕ) → i + n ≤ length s → ((k : ℕ) → k < n → eqb (get_or s (i + k) 0) 0xA5 ≡ false) → SkippedPart s from i → SkippedPart s from (i + n)
  skips_others zero h other before = rw add-zero before
  skips_others (suc n) h other before =
      let k : i + n + 1 ≡ i + suc n = omega arith in
      rw k at
      (skips_other s from (i + n) (omega arith) (eqb-false _ _ (other n (omega arith))) (skips_others n (omega arith) (λ k l. other k (omega arith)) before))

  run_goes_on : (n : ℕ) → i + 2 + n ≤ length s → ((k : ℕ) → k < n → eqb (get_or s (i + 2 + k) 0) 0xA5 ≡ true) → RunAt s from i → RunAt s from (i + n)
  run_goes_on zero h same run = rw add-zero run
  run_goes_on (suc n) h same run =
      let k : i + n + 1 ≡ i + suc n = omega arith in
      let j : i + 2 + n ≡ i + n + 2 = omega arith in
      rw k at
      (run_more s from (i + n) (omega arith) (rw j at (eqb-true _ _ (same n (omega arith)))) (run_goes_on n (omega arith) (λ k l. same k (omega arith)) run))

not_false : (b : Bool) → not b ≡ false → b ≡ true
not_false true e = refl
not_false false e = sym e

-- Up to the first A5, or the first other byte.
module _ (s : List ℕ) (from i n : ℕ) where
  pub skips_to : n ≡ position_or_len (λ b. eqb b 0xA5) (take (length s - i) (drop i s)) → SkippedPart s from i → SkippedPart s from (i + n)
  skips_to found before =
      let e : n ≡ position_or_len (λ b. eqb b 0xA5) (drop i s) = found ∙ ap (position_or_len (λ b. eqb b 0xA5)) (take_rest s i) in
      let h : n ≤ length (drop i s) = rw e (prefix_len-le-length _ (drop i s)) in
      let a : i ≤ length s = before.inside in
      skips_others s from i n (omega (arith, length-drop i s)) (λ k l. ap (λ b. eqb b 0xA5) (sym (get_or-drop i s k 0)) ∙ fails_before_first _ (drop i s) k 0 (rw e at l)) before

  pub run_to : n ≡ position_or_len (λ b. not (eqb b 0xA5)) (take (length s - (i + 2)) (drop (i + 2) s)) → RunAt s from i → SkippedPart s from (i + n)
  run_to found run =
      let e : n ≡ position_or_len (λ b. not (eqb b 0xA5)) (drop (i + 2) s) = found ∙ ap (position_or_len (λ b. not (eqb b 0xA5))) (take_rest s (i + 2)) in
      let h : n ≤ length (drop (i + 2) s) = rw e (prefix_len-le-length _ (drop (i + 2) s)) in
      let a : i + 2 ≤ length s = run.room in
      (run_goes_on s from i n (omega (arith, length-drop (i + 2) s))
      (λ k l. ap (λ b. eqb b 0xA5) (sym (get_or-drop (i + 2) s k 0)) ∙ not_false _ (fails_before_first _ (drop (i + 2) s) k 0 (rw e at l))) run).before

-- What `position` finds, or else the length.
pub first_or_len : (test : ℕ → Bool) (xs : List ℕ) (r : Option ℕ) (n : ℕ)
    → r ≡ cond (ltb (position_or_len test xs) (length xs)) (Some (position_or_len test xs)) None → n ≡ unwrap_or r (length xs) → n ≡ position_or_len test xs
first_or_len test xs r n found e = e ∙ rw found (go (ltb (position_or_len test xs) (length xs)) refl)
  where
    go : (b : Bool) → ltb (position_or_len test xs) (length xs) ≡ b → unwrap_or (cond b (Some (position_or_len test xs)) None) (length xs) ≡ position_or_len test xs
    go true e = refl
    go false e = omega (arith, prefix_len-le-length (λ x. not (test x)) xs, ltb-false _ _ e)

module _ {s block rest : List ℕ} {from i : ℕ} where
  pub skips_block : Chunk s i block rest → ((k : ℕ) → k < length block → eqb (get_or block k 0) 0xA5 ≡ false) → SkippedPart s from i → SkippedPart s from (i + 16)
  skips_block c other before =
      let b : length block ≡ 16 = c.sixteen in
      skips_others s from i 16 c.room (λ k h. ap (λ x. eqb x 0xA5) (c.bytes k h) ∙ other k (omega arith)) before

  pub run_block : Chunk s (i + 2) block rest → ((k : ℕ) → k < length block → eqb (get_or block k 0) 0xA5 ≡ true) → RunAt s from i → RunAt s from (i + 16)
  run_block c same run =
      let b : length block ≡ 16 = c.sixteen in
      run_goes_on s from i 16 c.room (λ k h. ap (λ x. eqb x 0xA5) (c.bytes k h) ∙ same k (omega arith)) run

pub run_behind : (s block rest : List ℕ) (i : ℕ) → Chunk s (i + 2) block rest → drop (i + 16 + 2) s ≡ rest
run_behind s block rest i c = let k : i + 16 + 2 ≡ i + 2 + 16 = omega arith in rw k c.behind

-- ---- a seek that goes on behind them

pub seek_passes : (e : End) (s v : List ℕ) (at to : ℕ) → SkippedPart s at to → seek (up_to e front) (s ++ v) ≡ beyond at (seek (up_to e front) (drop at (s ++ v)))
    → seek (up_to e front) (s ++ v) ≡ beyond to (seek (up_to e front) (drop to (s ++ v)))
seek_passes e s v at to k inv =
    let a : drop at (s ++ v) ≡ drop at s ++ v = drop-append-le at s v (omega (arith, k.forward, k.inside)) in
    let b : drop to (s ++ v) ≡ drop to s ++ v = drop-append-le to s v k.inside in
    let n : at + (to - at) ≡ to = omega (arith, k.forward) in
    rw (n, ← b) at (rw a at inv ∙ ap (beyond at) (k.sought e v) ∙ beyond-beyond at (to - at) (seek (up_to e front) (drop to s ++ v)))

pub seek_passes_here : (e : End) (s : List ℕ) (at to : ℕ) → SkippedPart s at to → seek (up_to e front) s ≡ beyond at (seek (up_to e front) (drop at s))
    → seek (up_to e front) s ≡ beyond to (seek (up_to e front) (drop to s))
seek_passes_here e s at to k inv = rw append-nil at (seek_passes e s [] at to k (rw append-nil inv))
