-- A field's data bytes are a part of the message; its code is kept; a record of proper axes is the one with its bits.
use Prim.Native.Nat.{ℕ, zero, suc, ◌+◌, ◌≤◌}
use native.Mathlib.Omega.{arith}
use mathlib.Core.Path.{◌≡◌, refl, sym}
use mathlib.Core.Bool.{Bool, true, false}
use mathlib.Core.List.{List, [], ◌∷◌, ◌++◌, append_assoc}
use mathlib.Core.Option.{Option, none, some}
use lib.Dec.{eqb}
use lib.ListN.{length, take, drop, length-append, take-append-drop}
use lib.Seq.{take_at, drop_at, length-take-le}
use borrow.Author.Tests.{eqb-true}
use Rattle.message.specs.Message.{type_of, length_of, payload_of}
use Rattle.message.specs.Whole.{whole_number}
use Rattle.message.specs.Fields.{Field, field_bytes, row_bytes, SizesRight, fields_of}
use Rattle.message.proofs.FieldRows.{fields_fill}
use Rattle.message.proofs.RoundTrips.{passed}
use Rattle.sample.specs.Reader.{sample_on, sample_of, code_of, Found, field_from, found_on, some_size_wrong, sizes_on, fields_on, type_on, whole_on, reading_of, field_read, field_data}
use Rattle.sample.specs.Theorems.{RecordBack, CodeKept, PartOf, PartOfMessage, Located, FieldsLocated}
use Rattle.sample.proofs.Patterns.{axes_back}

pub record_back : RecordBack
record_back a p =
    let x = axes_back a.x a.x_nan p.x in
    let y = axes_back a.y a.y_nan p.y in
    let z = axes_back a.z a.z_nan p.z in
    rw (x.float_back, x.kept_back, y.float_back, y.kept_back, z.float_back, z.kept_back)

pub code_kept : CodeKept
unfolding sample_of
code_kept f place = go (eqb f.code 0x81) refl (eqb f.code 0x82) refl
  where
    go : (a : Bool) → eqb f.code 0x81 ≡ a → (r : Bool) → eqb f.code 0x82 ≡ r → code_of (sample_on a r f place) ≡ f.code
    go true p r q = sym (eqb-true f.code 0x81 p)
    go false p true q = sym (eqb-true f.code 0x82 q)
    go false p false q = refl

-- Among the fields of a row that stands behind some bytes and before others.
row_part : (before : List ℕ) (fs : List Field) (after : List ℕ) (at k : ℕ) (f : Found) → length before ≡ at → SizesRight fs → field_from at fs k ≡ some f
    → PartOf (before ++ (row_bytes fs ++ after)) f
row_part before [] after at k f l s e = let z : ◌≡◌ {A = ℕ} 0 1 = cc in absurd (omega arith)
row_part before (g ∷ fs) after at zero f l s e =
    let q : f ≡ record { field = g; place = at + 2 } = cc in
    let rest : List ℕ = row_bytes fs ++ after in
    let shape : before ++ (row_bytes (g ∷ fs) ++ after) ≡ (before ++ g.code ∷ g.size ∷ []) ++ (g.content ++ rest) = simp append_assoc in
    let n : length (before ++ g.code ∷ g.size ∷ []) ≡ at + 2 = rw (length-append, l) in
    let d : drop (at + 2) (before ++ (row_bytes (g ∷ fs) ++ after)) ≡ g.content ++ rest = rw shape (drop_at (before ++ g.code ∷ g.size ∷ []) (g.content ++ rest) (at + 2) n) in
    let fits : at + 2 + g.size ≤ length (before ++ (row_bytes (g ∷ fs) ++ after)) =
    rw (shape, length-append, n, length-append) (omega (arith, s.0))
    in
    rw q (record { part = sym (rw d (take_at g.content rest g.size (sym s.0))); size = s.0; inside = fits })
row_part before (g ∷ fs) after at (suc k) f l s e =
    let shape : before ++ (row_bytes (g ∷ fs) ++ after) ≡ (before ++ field_bytes g) ++ (row_bytes fs ++ after) = simp append_assoc in
    let n : length (before ++ field_bytes g) ≡ at + (2 + g.size) = rw (length-append, l, s.0) (omega arith) in
    rw shape (row_part (before ++ field_bytes g) fs after (at + (2 + g.size)) k f n s.1 e)

pub part_of_message : PartOfMessage
unfolding reading_of
part_of_message m k f e = whole (whole_number m) refl e
  where
    split : (fs : List Field) → row_bytes fs ≡ payload_of m → take 4 m ++ (row_bytes fs ++ drop (length_of m) (drop 4 m)) ≡ m
    split fs p = rw (p, take-append-drop (length_of m) (drop 4 m)) (take-append-drop 4 m)

    sizes : (fs : List Field) → fields_of (payload_of m) ≡ some fs → whole_number m ≡ 0 → (b : Bool) → (sizes_on b fs k).found ≡ some f → PartOf m f
    sizes fs p w true q = let z : ◌≡◌ {A = ℕ} 0 1 = cc in absurd (omega arith)
    sizes fs p w false q =
        let r = fields_fill (payload_of m) fs p in
        let four : length (take 4 m) ≡ 4 = length-take-le 4 m (omega (arith, (passed m w).long)) in
        let found : field_from 4 fs k ≡ some f = go (field_from 4 fs k) q in
        rw (split fs r.0) at (row_part (take 4 m) fs (drop (length_of m) (drop 4 m)) 4 k f four r.1 found)
      where
        go : (o : Option Found) → (found_on o).found ≡ some f → o ≡ some f
        go none q = cc
        go (some g) q = q

    fields : (o : Option (List Field)) → fields_of (payload_of m) ≡ o → whole_number m ≡ 0 → (fields_on o k).found ≡ some f → PartOf m f
    fields none p w q = let z : ◌≡◌ {A = ℕ} 0 1 = cc in absurd (omega arith)
    fields (some fs) p w q = sizes fs p w (some_size_wrong fs) q

    type : (b : Bool) → whole_number m ≡ 0 → (type_on b m k).found ≡ some f → PartOf m f
    type false w q = let z : ◌≡◌ {A = ℕ} 0 1 = cc in absurd (omega arith)
    type true w q = fields (fields_of (payload_of m)) refl w q

    whole : (n : ℕ) → whole_number m ≡ n → (whole_on n m k).found ≡ some f → PartOf m f
    whole zero p q = type (eqb (type_of m) 0xA2) p q
    whole (suc n) p q = let z : ◌≡◌ {A = ℕ} 0 1 = cc in absurd (omega arith)

pub fields_located : FieldsLocated
unfolding field_read field_data
fields_located m k = go (reading_of m k).found refl
  where
    go : (o : Option Found) → (reading_of m k).found ≡ o → Located m k
    go none e = record { inside = rw e (omega arith); part = rw e }
    go (some f) e =
        let p = part_of_message m k f e in
        record { inside = rw e p.inside; part = rw e (sym p.part) }
