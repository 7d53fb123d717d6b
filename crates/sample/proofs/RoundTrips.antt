-- What the data writer writes is read back, and what reads as its two fields is what it writes.
use Prim.Native.Nat.{ℕ, zero, suc, ◌+◌}
use native.Mathlib.Omega.{arith}
use mathlib.Core.Path.{◌≡◌, refl, ap, ◌∙◌, sym, subst}
use mathlib.Core.Bool.{Bool, true, false, ◌||◌, not}
use mathlib.Core.List.{List, [], ◌∷◌, ◌++◌, append-nil}
use mathlib.Core.Option.{Option, none, some}
use lib.Dec.{eqb}
use lib.ListN.{length, drop}
use borrow.Author.Tests.{eqb-true}
use Rattle.message.specs.Message.{type_of, length_of, payload_of, message_of}
use Rattle.message.specs.Whole.{whole_number}
use Rattle.message.specs.Fields.{Field, row_bytes, SizesRight, fields_of}
use Rattle.message.proofs.FieldRows.{fields_fill}
use Rattle.message.proofs.RoundTrips.{written_is_read as message-back, read_is_written as message-again}
use Rattle.sample.specs.declared.axes.Axes.{Axes}
use Rattle.sample.specs.declared.reader.Sample.TheVariants.{Acceleration, Rate, Unknown}
use Rattle.sample.specs.Axes.{axes_of, axes_bytes}
use Rattle.sample.specs.Reader.{size_wrong, some_size_wrong, sample_of, field_from, Found, found_on, reading_of, field_read, field_data}
use Rattle.sample.specs.Writer.{data_payload, data_message}
use Rattle.sample.specs.Theorems.{DataBack, Kept32, Single, WrittenIsRead, ReadIsWritten}
use Rattle.sample.proofs.AxesBytes.{Bytes, axes_again, bytes_again, take_bytes, drop_bytes, front_bytes, rest_bytes}

-- ---- written, then read

abbrev acceleration_field : Axes → Field
acceleration_field a = record { code = 0x81; size = 12; content = axes_bytes a }

abbrev rate_field : Axes → Field
rate_field r = record { code = 0x82; size = 12; content = axes_bytes r }

module _ (a r : Axes) where
  payload_fields : fields_of (data_payload a r) ≡ some (acceleration_field a ∷ rate_field r ∷ [])
  unfolding fields_of axes_bytes
  payload_fields = refl

  payload_size : length (data_payload a r) ≡ 28
  unfolding axes_bytes
  payload_size = refl

  reading : (k : ℕ) → reading_of (data_message a r) k ≡ found_on (field_from 4 (acceleration_field a ∷ rate_field r ∷ []) k)
  unfolding reading_of data_message
  reading k =
      let w = message-back 0xA2 (data_payload a r) (omega (arith, payload_size)) in
      rw (w.whole, w.kind_back, w.payload_back, payload_fields)

  size_m : length (data_message a r) ≡ 34
  unfolding data_message
  size_m = let w = message-back 0xA2 (data_payload a r) (omega (arith, payload_size)) in omega (arith, w.size, payload_size)

  module _ (sa : Single a) (sr : Single r) (ka : Kept32 a) (kr : Kept32 r) where
    data_back : DataBack a r
    unfolding field_read field_data sample_of
    data_back =
        record {
          size = size_m;
          acceleration_back = rw (reading 0, axes_again a sa ka);
          rate_back = rw (reading 1, axes_again r sr kr);
          no_third = rw (reading 2);
          acceleration_part = rw (reading 0);
          rate_part = rw (reading 1);
        }

pub written_is_read : WrittenIsRead
written_is_read = data_back

-- ---- read, then written

-- What a message whose field 0 reads as one has passed.
record Opened (m : List ℕ) : Type 0 where
  pub whole : whole_number m ≡ 0
  pub kind : type_of m ≡ 0xA2
  pub fields : List Field
  pub filled : fields_of (payload_of m) ≡ some fields
  pub sized : some_size_wrong fields ≡ false
  pub reads : (k : ℕ) → reading_of m k ≡ found_on (field_from 4 fields k)

opened : (m : List ℕ) (x : Found) → (reading_of m 0).found ≡ some x → Opened m
unfolding reading_of
opened m x e = go (whole_number m) refl (eqb (type_of m) 0xA2) refl (fields_of (payload_of m)) refl
  where
    sizes : whole_number m ≡ 0 → eqb (type_of m) 0xA2 ≡ true → (fs : List Field) → fields_of (payload_of m) ≡ some fs → (b : Bool) → some_size_wrong fs ≡ b → Opened m
    sizes w t fs f true s = let n : none ≡ some x = rw (w, t, f, s) at e in let z : ◌≡◌ {A = ℕ} 0 1 = cc in absurd (omega arith)
    sizes w t fs f false s =
        record { whole = w; kind = eqb-true (type_of m) 0xA2 t; fields = fs; filled = f; sized = s; reads = λ k. rw (w, t, f, s) }

    go : (n : ℕ) → whole_number m ≡ n → (t : Bool) → eqb (type_of m) 0xA2 ≡ t → (o : Option (List Field)) → fields_of (payload_of m) ≡ o → Opened m
    go (suc n) w t y o f = let n : none ≡ some x = rw w at e in let z : ◌≡◌ {A = ℕ} 0 1 = cc in absurd (omega arith)
    go zero w false y o f = let n : none ≡ some x = rw (w, y) at e in let z : ◌≡◌ {A = ℕ} 0 1 = cc in absurd (omega arith)
    go zero w true y none f = let n : none ≡ some x = rw (w, y, f) at e in let z : ◌≡◌ {A = ℕ} 0 1 = cc in absurd (omega arith)
    go zero w true y (some fs) f = sizes w y fs f (some_size_wrong fs) refl

-- A field that reads as an acceleration, or as a rate, and its size.
is_acceleration : (f : Field) (place : ℕ) (a : Axes) → sample_of f place ≡ Acceleration a → (f.code ≡ 0x81) × (a ≡ axes_of f.content)
unfolding sample_of
is_acceleration f place a e = go (eqb f.code 0x81) refl (eqb f.code 0x82) refl
  where
    go : (s : Bool) → eqb f.code 0x81 ≡ s → (t : Bool) → eqb f.code 0x82 ≡ t → (f.code ≡ 0x81) × (a ≡ axes_of f.content)
    go true p t q = let g : Acceleration (axes_of f.content) ≡ Acceleration a = rw p at e in (eqb-true f.code 0x81 p, cc)
    go false p true q = let g : Rate (axes_of f.content) ≡ Acceleration a = rw (p, q) at e in let z : ◌≡◌ {A = ℕ} 0 1 = cc in absurd (omega arith)
    go false p false q = let g : Unknown f.code place ≡ Acceleration a = rw (p, q) at e in let z : ◌≡◌ {A = ℕ} 0 1 = cc in absurd (omega arith)

is_rate : (f : Field) (place : ℕ) (r : Axes) → sample_of f place ≡ Rate r → (f.code ≡ 0x82) × (r ≡ axes_of f.content)
unfolding sample_of
is_rate f place r e = go (eqb f.code 0x81) refl (eqb f.code 0x82) refl
  where
    go : (s : Bool) → eqb f.code 0x81 ≡ s → (t : Bool) → eqb f.code 0x82 ≡ t → (f.code ≡ 0x82) × (r ≡ axes_of f.content)
    go true p t q = let g : Acceleration (axes_of f.content) ≡ Rate r = rw p at e in let z : ◌≡◌ {A = ℕ} 0 1 = cc in absurd (omega arith)
    go false p true q = let g : Rate (axes_of f.content) ≡ Rate r = rw (p, q) at e in (eqb-true f.code 0x82 q, cc)
    go false p false q = let g : Unknown f.code place ≡ Rate r = rw (p, q) at e in let z : ◌≡◌ {A = ℕ} 0 1 = cc in absurd (omega arith)

size_12 : (n : ℕ) (b : Bool) → not (eqb n 12) || b ≡ false → (n ≡ 12) × (b ≡ false)
size_12 n b e = go (eqb n 12) refl
  where
    go : (t : Bool) → eqb n 12 ≡ t → (n ≡ 12) × (b ≡ false)
    go true q = (eqb-true n 12 q, rw q at e)
    go false q = let z : true ≡ false = rw q at e in let y : ◌≡◌ {A = ℕ} 0 1 = cc in absurd (omega arith)

-- The two fields, and the bytes that they are.
module _ (a r : Axes) (f g : Field) (cf : f.code ≡ 0x81) (af : a ≡ axes_of f.content) (cg : g.code ≡ 0x82) (rg : r ≡ axes_of g.content)
    (sizes : some_size_wrong (f ∷ g ∷ []) ≡ false) (right : SizesRight (f ∷ g ∷ [])) (bytes : Bytes (row_bytes (f ∷ g ∷ []))) where
  both_sizes : (f.size ≡ 12) × (g.size ≡ 12)
  both_sizes =
      let s = size_12 f.size (size_wrong g || false) (rw cf at sizes) in
      (s.0, (size_12 g.size false (rw cg at s.1)).0)

  row : data_payload a r ≡ row_bytes (f ∷ g ∷ [])
  row =
      let s = both_sizes in
      let lf : length f.content ≡ 12 = sym right.0 ∙ s.0 in
      let lg : length g.content ≡ 12 = sym right.1.0 ∙ s.1 in
      let rest : Bytes (f.content ++ (g.code ∷ g.size ∷ (g.content ++ []))) = λ i. bytes (suc (suc i)) in
      let bf : Bytes f.content = front_bytes f.content (g.code ∷ g.size ∷ (g.content ++ [])) rest in
      let bg : Bytes (g.content ++ []) = λ i. rest_bytes f.content (g.code ∷ g.size ∷ (g.content ++ [])) rest (suc (suc i)) in
      let ef : axes_bytes a ≡ f.content = rw af (bytes_again f.content lf bf) in
      let eg : axes_bytes r ≡ g.content = rw rg (bytes_again g.content lg (front_bytes g.content [] bg)) in
      rw (ef, eg, cf, cg, s.0, s.1, append-nil g.content)

-- There is a field 0, a field 1 and no field 2: two fields.
pub read_is_written : ReadIsWritten
unfolding field_read data_message
read_is_written m a r bytes e0 e1 e2 = go o.fields refl
  where
    first : (x : Option Found) → (reading_of m 0).found ≡ x → Opened m
    first none q = let s : Unknown 0 0 ≡ Acceleration a = rw q at e0 in let z : ◌≡◌ {A = ℕ} 0 1 = cc in absurd (omega arith)
    first (some x) q = opened m x q

    o : Opened m
    o = first (reading_of m 0).found refl

    go : (fs : List Field) → o.fields ≡ fs → message_of 0xA2 (data_payload a r) ≡ m
    go [] q = let s : Unknown 0 0 ≡ Acceleration a = rw (o.reads 0, q) at e0 in let z : ◌≡◌ {A = ℕ} 0 1 = cc in absurd (omega arith)
    go (f ∷ []) q = let s : Unknown 0 0 ≡ Rate r = rw (o.reads 1, q) at e1 in let z : ◌≡◌ {A = ℕ} 0 1 = cc in absurd (omega arith)
    go (f ∷ g ∷ h ∷ fs) q = let z : ◌≡◌ {A = ℕ} 0 27 = rw (o.reads 2, q) at e2 in absurd (omega arith)
    go (f ∷ g ∷ []) q =
        let sf : sample_of f 6 ≡ Acceleration a = rw (o.reads 0, q) at e0 in
        let sg : sample_of g (4 + (2 + f.size) + 2) ≡ Rate r = rw (o.reads 1, q) at e1 in
        let cf = is_acceleration f 6 a sf in
        let cg = is_rate g (4 + (2 + f.size) + 2) r sg in
        let fill = fields_fill (payload_of m) (f ∷ g ∷ []) (o.filled ∙ ap some q) in
        let b : Bytes (row_bytes (f ∷ g ∷ [])) = subst Bytes (sym fill.0) (take_bytes (length_of m) (drop 4 m) (drop_bytes 4 m bytes)) in
        let p : data_payload a r ≡ payload_of m = row a r f g cf.0 cf.1 cg.0 cg.1 (rw q at o.sized) fill.1 b ∙ fill.0 in
        ap (message_of 0xA2) p ∙ ap (λ (k : ℕ). message_of k (payload_of m)) (sym o.kind) ∙ message-again m (bytes 3) o.whole
