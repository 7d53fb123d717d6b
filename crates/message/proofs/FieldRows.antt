-- Fields that fill a payload are its bytes, and are read back.
use Rattle.std.proofs.Common.{◌≡◌, ℕ, zero, suc, ◌<◌, ◌≤◌, List, [], ◌∷◌, ◌++◌, length, take, drop, sym, refl, ◌∙◌, arith, take-append-drop, length-take-le, take_at}
use mathlib.Core.Option.{Option, none, some}
use Rattle.message.specs.Fields.{Field, row_bytes, SizesRight, fields_past, fields_of}
use Rattle.message.specs.Theorems.{FieldsFill, FieldsBack}

fill_past : (p : ℕ) (bs : List ℕ) (fs : List Field) → fields_past p bs ≡ some fs → (p ≤ length bs) × (row_bytes fs ≡ drop p bs) × SizesRight fs
fill_past zero [] fs e = let q : fs ≡ [] = cc in (omega arith, rw q, rw q tt)
fill_past (suc p) [] fs e = let z : ◌≡◌ {A = ℕ} 0 1 = cc in absurd (omega arith)
fill_past (suc p) (b ∷ bs) fs e = let r = fill_past p bs fs e in (omega (arith, r.0), r.1, r.2)
fill_past zero (code ∷ []) fs e = let z : ◌≡◌ {A = ℕ} 0 1 = cc in absurd (omega arith)
fill_past zero (code ∷ n ∷ bs) fs e = go (fields_past n bs) refl (fill_past n bs)
  where
    go : (r : Option (List Field)) → fields_past n bs ≡ r
        → ((gs : List Field) → fields_past n bs ≡ some gs → (n ≤ length bs) × (row_bytes gs ≡ drop n bs) × SizesRight gs)
        → (0 ≤ length (code ∷ n ∷ bs)) × (row_bytes fs ≡ code ∷ n ∷ bs) × SizesRight fs
    go none q ih = let z : ◌≡◌ {A = ℕ} 0 1 = cc in absurd (omega arith)
    go (some gs) q ih =
        let k : fs ≡ record { code = code; size = n; content = take n bs } ∷ gs = cc in
        let r = ih gs q in
        let l : n ≡ length (take n bs) = sym (length-take-le n bs r.0) in
        (omega arith, rw (k, r.1, take-append-drop n bs), rw k (l, r.2))

pub fields_fill : FieldsFill
unfolding fields_of
fields_fill payload fs e = let r = fill_past 0 payload fs e in (r.1, r.2)

-- ---- passing some bytes

pub past_there : (p : ℕ) (bs : List ℕ) → p ≤ length bs → fields_past p bs ≡ fields_past 0 (drop p bs)
past_there zero bs h = refl
past_there (suc p) [] h = absurd (omega arith)
past_there (suc p) (b ∷ bs) h = past_there p bs (omega arith)

pub past_short : (p : ℕ) (bs : List ℕ) → length bs < p → fields_past p bs ≡ none
past_short zero bs h = absurd (omega arith)
past_short (suc p) [] h = refl
past_short (suc p) (b ∷ bs) h = past_short p bs (omega arith)

pub past_all : (xs ys : List ℕ) → fields_past (length xs) (xs ++ ys) ≡ fields_past 0 ys
past_all [] ys = refl
past_all (x ∷ xs) ys = past_all xs ys

back_past : (fs : List Field) → SizesRight fs → fields_past 0 (row_bytes fs) ≡ some fs
back_past [] s = refl
back_past (f ∷ fs) s =
    let t : take f.size (f.content ++ row_bytes fs) ≡ f.content = take_at f.content (row_bytes fs) f.size (sym s.0) in
    let p : fields_past f.size (f.content ++ row_bytes fs) ≡ some fs = rw s.0 (past_all f.content (row_bytes fs) ∙ back_past fs s.1) in
    rw (t, p)

pub fields_back : FieldsBack
unfolding fields_of
fields_back = back_past
