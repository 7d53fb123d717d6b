-- The walk over the fields of a payload p, by places of p.
use Prim.Native.Nat.{ℕ, zero, suc, ◌+◌, ◌≤◌, ◌<◌}
use native.Mathlib.Omega.{arith}
use native.Mathlib.Decide.{dec_le}
use mathlib.Core.Path.{◌≡◌, refl, ap, ◌∙◌}
use mathlib.Core.Bool.{Bool, true, false, ◌||◌}
use mathlib.Core.List.{List, [], ◌∷◌}
use mathlib.Core.Option.{Option, none, some}
use lib.ListN.{length, get_or, drop, length-drop, drop_of_length-le}
use lib.Seq.{drop-cons, drop-drop}
use borrow.Author.Tests.{eq-eqb, ne_eqb}
use Rattle.message.specs.Fields.{Field, cons_field, fields_past, fields_of}
use Rattle.sample.specs.declared.axes.Axes.{Axes}
use Rattle.sample.specs.declared.reader.Sample.TheVariants.{Acceleration, Rate, Unknown}
use Rattle.sample.specs.Axes.{axes_of}
use Rattle.sample.specs.Reader.{size_wrong, sample_of}
use Rattle.sample.specs.Walk.{field_at, There, tested_from, found_from, Walked}

-- ---- passing bytes

past_drop : (n : ℕ) (bs : List ℕ) → n ≤ length bs → fields_past n bs ≡ fields_past 0 (drop n bs)
past_drop zero bs h = refl
past_drop (suc n) [] h = absurd (omega arith)
past_drop (suc n) (b ∷ bs) h = past_drop n bs (omega arith)

past_over : (n : ℕ) (bs : List ℕ) → length bs < n → fields_past n bs ≡ none
past_over zero bs h = absurd (omega arith)
past_over (suc n) [] h = refl
past_over (suc n) (b ∷ bs) h = past_over n bs (omega arith)

module _ (p : List ℕ) (at : ℕ) where
  -- ---- the first field from `at` on

  two : at + 2 ≤ length p → drop at p ≡ get_or p at 0 ∷ get_or p (at + 1) 0 ∷ drop (at + 2) p
  two h =
      let e1 : at + 1 ≡ suc at = omega arith in
      let e2 : at + 2 ≡ suc (suc at) = omega arith in
      let h0 : at < length p = omega arith in
      let h1 : suc at < length p = omega arith in
      rw (e1, e2, drop-cons p at 0 h0, drop-cons p (suc at) 0 h1)

  first_field : at + 2 + get_or p (at + 1) 0 ≤ length p → fields_past 0 (drop at p) ≡ cons_field (field_at p at) (fields_past 0 (drop (at + 2 + get_or p (at + 1) 0) p))
  first_field h =
      let n : ℕ = get_or p (at + 1) 0 in
      let l : n ≤ length (drop (at + 2) p) = rw length-drop (omega arith) in
      let q : fields_past n (drop (at + 2) p) ≡ fields_past 0 (drop (at + 2 + n) p) = past_drop n (drop (at + 2) p) l ∙ ap (fields_past 0) (drop-drop n (at + 2) p) in
      ap (fields_past 0) (two (omega arith)) ∙ ap (cons_field (field_at p at)) q

  first_over : at < length p → length p < at + 2 + get_or p (at + 1) 0 → fields_past 0 (drop at p) ≡ none
  first_over h o = go (dec_le (at + 2) (length p))
    where
      go : Dec (at + 2 ≤ length p) → fields_past 0 (drop at p) ≡ none
      go (yes l) =
          let n : ℕ = get_or p (at + 1) 0 in
          let q : fields_past n (drop (at + 2) p) ≡ none = past_over n (drop (at + 2) p) (rw length-drop (omega arith)) in
          ap (fields_past 0) (two l) ∙ ap (cons_field (field_at p at)) q
      go (no l) =
          let k : length p ≤ suc at = omega arith in
          let d : drop at p ≡ get_or p at 0 ∷ [] = drop-cons p at 0 h ∙ ap (λ (t : List ℕ). get_or p at 0 ∷ t) (drop_of_length-le p k) in
          rw d

  pub no_field : length p ≤ at → fields_past 0 (drop at p) ≡ some []
  no_field h = rw (drop_of_length-le p h)

  -- ---- what it is

  module _ (place : ℕ) where
    pub sample_81 : get_or p at 0 ≡ 0x81 → (d : List ℕ) (a : Axes) → d ≡ (field_at p at).content → a ≡ axes_of d → Acceleration a ≡ sample_of (field_at p at) place
    unfolding sample_of
    sample_81 h d a ed ea = rw (eq-eqb (get_or p at 0) 0x81 h, ← ed, ← ea)

    pub sample_82 : (get_or p at 0 ≡ 0x81 → ⊥) → get_or p at 0 ≡ 0x82 → (d : List ℕ) (a : Axes) → d ≡ (field_at p at).content → a ≡ axes_of d
        → Rate a ≡ sample_of (field_at p at) place
    unfolding sample_of
    sample_82 n h d a ed ea = rw (ne_eqb (get_or p at 0) 0x81 n, eq-eqb (get_or p at 0) 0x82 h, ← ed, ← ea)

    pub sample_other : (get_or p at 0 ≡ 0x81 → ⊥) → (get_or p at 0 ≡ 0x82 → ⊥) → Unknown (get_or p at 0) place ≡ sample_of (field_at p at) place
    unfolding sample_of
    sample_other n k = rw (ne_eqb (get_or p at 0) 0x81 n, ne_eqb (get_or p at 0) 0x82 k)

  -- ---- the test: t is the number that the walk has to give, e the end of the field at `at`

  module _ (wrong : Bool) (t : ℕ) (goes : tested_from wrong (fields_past 0 (drop at p)) ≡ t) where
    pub tested_over : at < length p → (e : ℕ) → e ≡ at + 2 + get_or p (at + 1) 0 → length p < e → 24 ≡ t
    tested_over h e ee o = let f = first_over h (omega arith) in rw f at goes

    pub tested_passes : (e : ℕ) → e ≡ at + 2 + get_or p (at + 1) 0 → e ≤ length p → (w : Bool) → w ≡ size_wrong (field_at p at)
        → tested_from (wrong || w) (fields_past 0 (drop e p)) ≡ t
    tested_passes e ee l w ew =
        let f = first_field (omega arith) in
        rw (ee, ew) (step wrong (size_wrong (field_at p at)) (fields_past 0 (drop (at + 2 + get_or p (at + 1) 0) p)) refl ∙ (rw f at goes))
      where
        step : (u v : Bool) (rest : Option (List Field)) → size_wrong (field_at p at) ≡ v → tested_from (u || v) rest ≡ tested_from u (cons_field (field_at p at) rest)
        step u v none q = refl
        step true v (some gs) q = refl
        step false v (some gs) q = rw q

-- ---- the walk for field k

pub walk_starts : (p : List ℕ) (k : ℕ) → tested_from false (fields_of p) ≡ 0 → Walked p k 0 k
unfolding fields_of
walk_starts p k e = record { inside = omega arith; tested = e; found = refl }

left_tested : (f : Field) (rest : Option (List Field)) → tested_from false (cons_field f rest) ≡ 0 → (size_wrong f ≡ false) × (tested_from false rest ≡ 0)
left_tested f none e = let z : ◌≡◌ {A = ℕ} 0 24 = cc in absurd (omega arith)
left_tested f (some gs) e = go (size_wrong f) refl
  where
    go : (b : Bool) → size_wrong f ≡ b → (size_wrong f ≡ false) × (tested_from false (some gs) ≡ 0)
    go true q = let z : ◌≡◌ {A = ℕ} 25 0 = rw q at e in absurd (omega arith)
    go false q = (q, rw q at e)

module _ (p : List ℕ) (k at left : ℕ) (w : Walked p k at left) where
  module _ (h : at < length p) where
    walk_whole : at + 2 + get_or p (at + 1) 0 ≤ length p
    walk_whole = go (dec_le (at + 2 + get_or p (at + 1) 0) (length p))
      where
        go : Dec (at + 2 + get_or p (at + 1) 0 ≤ length p) → at + 2 + get_or p (at + 1) 0 ≤ length p
        go (yes l) = l
        go (no l) = let f = first_over p at h (omega arith) in let z : ◌≡◌ {A = ℕ} 24 0 = rw f at w.tested in absurd (omega arith)

    abbrev end : ℕ
    end = at + 2 + get_or p (at + 1) 0

    rest_tested : (size_wrong (field_at p at) ≡ false) × (tested_from false (fields_past 0 (drop end p)) ≡ 0)
    rest_tested = let f = first_field p at walk_whole in left_tested (field_at p at) (fields_past 0 (drop end p)) (rw f at w.tested)

    pub walk_there : There p at
    walk_there = record { whole = walk_whole; sized = rest_tested.0 }

    pub walk_steps : (e : ℕ) → e ≡ at + 2 + get_or p (at + 1) 0 → (l : ℕ) → left ≡ suc l → Walked p k e l
    walk_steps e ee l s =
        let f = first_field p at walk_whole in
        rw ee (record {
          inside = walk_whole;
          tested = rest_tested.1;
          found = step (fields_past 0 (drop end p)) ∙ (rw (f, s) at w.found);
        })
      where
        places : (i j : ℕ) → i + 2 + j + 4 ≡ i + 4 + (2 + j)
        places i j = omega arith

        step : (rest : Option (List Field)) → found_from (end + 4) rest l ≡ found_from (at + 4) (cons_field (field_at p at) rest) (suc l)
        step none = refl
        step (some gs) = rw (places at (get_or p (at + 1) 0))

  -- none is left, and field k is none of them
  pub walk_ends : at ≡ length p → Walked p k (length p) 0
  walk_ends e = let f = no_field p at (omega arith) in rw (← e) (record { inside = w.inside; tested = w.tested; found = rw f (rw f at w.found) })

  -- ---- field k itself

  pub walk_finds : at < length p → left ≡ 0 → some (record { field = field_at p at; place = at + 6 }) ≡ found_from 4 (fields_of p) k
  walk_finds h e =
      let f = first_field p at (walk_whole h) in
      let g : found_from (at + 4) (cons_field (field_at p at) (fields_past 0 (drop (at + 2 + get_or p (at + 1) 0) p))) 0 ≡ found_from 4 (fields_of p) k = rw (f, e) at w.found in
      go (fields_past 0 (drop (at + 2 + get_or p (at + 1) 0) p)) (rest_tested h).1 ∙ g
    where
      go : (rest : Option (List Field)) → tested_from false rest ≡ 0
          → some (record { field = field_at p at; place = at + 6 }) ≡ found_from (at + 4) (cons_field (field_at p at) rest) 0
      go none q = let z : ◌≡◌ {A = ℕ} 24 0 = q in absurd (omega arith)
      go (some gs) q = let u : at + 4 + 2 ≡ at + 6 = omega arith in rw u
