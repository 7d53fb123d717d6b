-- What a flat struct stands for comes back: replies, values, fields, and the patterns of a data message.
use Prim.Native.Nat.{ℕ, ◌<◌}
use native.Mathlib.Omega.{arith}
use mathlib.Core.Path.{◌≡◌, refl, ap, sym, ◌∙◌}
use mathlib.Core.Bool.{Bool, true, false}
use mathlib.Core.List.{List, [], ◌∷◌}
use mathlib.Core.Option.{Option as Maybe, none, some}
use lib.Dec.{eqb}
use lib.Ieee.{binary32, nan_bits}
use lib.Ieee.Bits.{of_bits-fits}
use lib.ListN.{take, drop}
use Rattle.word.specs.Word.{number}
use Rattle.std.specs.Prelude.{Option, Some, None, Result}
use Rattle.refusal.specs.declared.Refusal.{Refusal}
use Rattle.refusal.proofs.Numbers.{number_back}
use Rattle.message.proofs.Writes.{written_back}
use Rattle.client.specs.Reader.{ReplyAnswer, reply_of, reply_told}
use Rattle.client.proofs.Told.{reply_back}
use Rattle.sample.specs.declared.axes.Axes.{Axes}
use Rattle.sample.specs.declared.reader.Sample.{Sample}
use Rattle.sample.specs.declared.reader.Sample.TheVariants.{Acceleration, Rate, Unknown}
use Rattle.sample.specs.declared.reader.FieldRead.{FieldRead}
use Rattle.sample.specs.Reader.{FieldAnswer, answer_of, field_told}
use Rattle.sample.specs.Axes.{kept_on, kept_of, axes_from, axes_of, restored}
use Rattle.sample.specs.Reader.{sample_on, sample_of, Found, reading_of, read_on, field_read}
use Rattle.sample.specs.Theorems.{Kept32, Single}
use Rattle.sample.proofs.AxesBytes.{Bytes, take_bytes, drop_bytes}
use Rattle.sample.proofs.Parts.{part_of_message, fields_located}
use Rattle.sample.proofs.Patterns.{bits_back}
use Rattle.sample.proofs.RoundTrips.{written_is_read}
use Rattle.sample.proofs.Told.{answer_back}
use Rattle.page.specs.Page.{is_there}
use Rattle.capi.specs.Flat.{number_in, stored_from, flat_reply, flat_axes, flat_on, flat_field}
use Rattle.capi.specs.Theorems.{reply_from, field_read_from, FlatBack, FlatFieldsLocated, Pattern, PatternsBack}

stored_back : (s : Option ℕ) → stored_from (is_there s) (number_in s) ≡ s
stored_back None = refl
stored_back (Some x) = refl

-- ---- axes that were made of patterns have these patterns

module _ (x y z : ℕ) (hx : Pattern x) (hy : Pattern y) (hz : Pattern z) where
  pub axes_patterns : (n code place size : ℕ)
      → flat_axes n code place size (axes_from x y z) ≡ record { number = n; code = code; place = place; size = size; x = x; y = y; z = z }
  axes_patterns n code place size = rw (bits_back x hx, bits_back y hy, bits_back z hz)

  pub axes_restored : restored (axes_from x y z) ≡ axes_from x y z
  axes_restored = rw (bits_back x hx, bits_back y hy, bits_back z hz)

  pub axes_single : Single (axes_from x y z)
  axes_single = (of_bits-fits binary32 x, of_bits-fits binary32 y, of_bits-fits binary32 z)

  pub axes_kept : Kept32 (axes_from x y z)
  unfolding kept_of
  axes_kept = (below x hx (nan_bits binary32 x), below y hy (nan_bits binary32 y), below z hz (nan_bits binary32 z))
    where
      below : (w : ℕ) → Pattern w → (b : Bool) → kept_on b w < 4294967296
      below w h true = h
      below w h false = omega arith

-- ---- a field

-- The number of four bytes at most is a pattern.
four_pattern : (l : List ℕ) → Bytes l → Pattern (number (take 4 l))
four_pattern [] h = omega arith
four_pattern (a ∷ []) h = omega (arith, h 0)
four_pattern (a ∷ b ∷ []) h = omega (arith, h 0, h 1)
four_pattern (a ∷ b ∷ c ∷ []) h = omega (arith, h 0, h 1, h 2)
four_pattern (a ∷ b ∷ c ∷ d ∷ l) h = omega (arith, h 0, h 1, h 2, h 3)

bytes_patterns : (bs : List ℕ) → Bytes bs → (n code place size : ℕ)
    → flat_axes n code place size (axes_of bs)
    ≡ record { number = n; code = code; place = place; size = size; x = number (take 4 bs); y = number (take 4 (drop 4 bs)); z = number (take 4 (drop 8 bs)) }
unfolding axes_of
bytes_patterns bs h n code place size =
    axes_patterns (number (take 4 bs)) (number (take 4 (drop 4 bs))) (number (take 4 (drop 8 bs)))
    (four_pattern bs h) (four_pattern (drop 4 bs) (drop_bytes 4 bs h)) (four_pattern (drop 8 bs) (drop_bytes 8 bs h)) n code place size

found_back : (n : ℕ) (f : Found) → Bytes f.field.content → field_read_from (flat_field (read_on (some f) n)) ≡ read_on (some f) n
unfolding sample_of axes_of
found_back n f h = go (eqb f.field.code 0x81) refl (eqb f.field.code 0x82) refl
  where
    go : (a : Bool) → eqb f.field.code 0x81 ≡ a → (r : Bool) → eqb f.field.code 0x82 ≡ r
        → field_read_from (flat_on (sample_on a r f.field f.place) (read_on (some f) n))
        ≡ record { number = n; field = sample_on a r f.field f.place; place = f.place; size = f.field.size }
    go true p r q = ap field_read_from (bytes_patterns f.field.content h n 0x81 f.place f.field.size)
    go false p true q = ap field_read_from (bytes_patterns f.field.content h n 0x82 f.place f.field.size)
    go false p false q = rw (p, q)

read_back : (n : ℕ) (o : Maybe Found) → ((f : Found) → o ≡ some f → Bytes f.field.content)
    → field_read_from (flat_field (read_on o n)) ≡ read_on o n
read_back n none h = refl
read_back n (some f) h = found_back n f (h f refl)

field_read_back : (m : List ℕ) (k : ℕ) → Bytes m → field_read_from (flat_field (field_read m k)) ≡ field_read m k
unfolding field_read
field_read_back m k h = read_back (reading_of m k).number (reading_of m k).found (λ f e.
    rw (part_of_message m k f e).part (take_bytes f.field.size (drop f.place m) (drop_bytes f.place m h)))

-- What the code answers, by what its number and values tell.
field_answer_told : (m : List ℕ) (k : ℕ) → Bytes m → (r : Result FieldRead Refusal) → answer_of r ≡ field_read m k
    → field_told (field_read_from (flat_field (answer_of r))) ≡ r
field_answer_told m k h r e =
    ap (λ (x : FieldAnswer). field_told (field_read_from (flat_field x))) e ∙ ap field_told (field_read_back m k h ∙ sym e) ∙ answer_back r

reply_flat_back : (r : ReplyAnswer) → reply_from (flat_reply r) ≡ r
reply_flat_back r = rw (stored_back r.value)

pub flat_back : FlatBack
flat_back =
    record {
      reply_back = reply_flat_back;
      values_back = λ v. rw (stored_back v.baud, stored_back v.accelerometer, stored_back v.gyroscope, stored_back v.number);
      field_back = field_read_back;
      reply_answer_back = λ r. ap reply_told (reply_flat_back (reply_of r)) ∙ reply_back r;
      field_answer_back = field_answer_told;
      written_answer_back = written_back;
      number_answer_back = number_back;
    }

-- ---- a field in its message

flat_place : (s : Sample) (r : FieldAnswer) → (flat_on s r).place ≡ r.place
flat_place (Acceleration a) r = refl
flat_place (Rate a) r = refl
flat_place (Unknown code place) r = refl

flat_size : (s : Sample) (r : FieldAnswer) → (flat_on s r).size ≡ r.size
flat_size (Acceleration a) r = refl
flat_size (Rate a) r = refl
flat_size (Unknown code place) r = refl

pub flat_fields_located : FlatFieldsLocated
flat_fields_located m k =
    let r = field_read m k in
    let p = flat_place r.field r in
    let s = flat_size r.field r in
    let l = fields_located m k in
    record { inside = rw (p, s) l.inside; part = rw (p, s) l.part }

-- ---- the data message of six patterns

pub patterns_back : PatternsBack
patterns_back ax ay az rx ry rz hax hay haz hrx hry hrz =
    let a : Axes = axes_from ax ay az in
    let r : Axes = axes_from rx ry rz in
    let d = written_is_read a r (axes_single ax ay az hax hay haz) (axes_single rx ry rz hrx hry hrz) (axes_kept ax ay az hax hay haz) (axes_kept rx ry rz hrx hry hrz) in
    record {
      acceleration = ap flat_field d.acceleration_back ∙ ap (λ (x : Axes). flat_axes 0 0x81 6 12 x) (axes_restored ax ay az hax hay haz)
          ∙ axes_patterns ax ay az hax hay haz 0 0x81 6 12;
      rate = ap flat_field d.rate_back ∙ ap (λ (x : Axes). flat_axes 0 0x82 20 12 x) (axes_restored rx ry rz hrx hry hrz)
          ∙ axes_patterns rx ry rz hrx hry hrz 0 0x82 20 12;
    }
