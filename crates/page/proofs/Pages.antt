-- What a page holds: a writing is 64 bytes and is read back, and the sound pages are the writings of storable values.
use Prim.Native.Nat.{ℕ}
use native.Mathlib.Omega.{arith}
use mathlib.Core.Path.{◌≡◌, refl, ap, ◌∙◌}
use mathlib.Core.Bool.{Bool, true, false, ◌&&◌}
use mathlib.Core.List.{List, [], ◌∷◌}
use lib.Dec.{eqb}
use lib.ListN.{length}
use borrow.Author.Tests.{eqb-true, eq-eqb, ltb-true, lt-ltb}
use Rattle.word.specs.Word.{number}
use Rattle.word.proofs.Numbers.{word_back}
use Rattle.page.specs.declared.setting.Setting.{Setting}
use Rattle.page.specs.declared.setting.Setting.TheVariants.{Baud, Accelerometer, Gyroscope}
use Rattle.std.specs.Prelude.{Option, Some, None}
use Rattle.page.specs.declared.setting.Values.{Values}
use Rattle.page.specs.Settings.{code_of, some_of, usable_values, usable, storable_values, storable, readable, value_bytes, factory_value, Key, value_of, last_number, key_bytes, key_storable}
use Rattle.page.specs.Page.{stored_in, with_key, is_storable, all_storable, items_of, page_size, writing, factory_page}
use Rattle.page.specs.Lookup.{entry_from, entry_of, part_of, body_of, held_under, values_in}
use Rattle.page.specs.Sound.{same, sound, page_number, put_page}
use Rattle.page.specs.Loading.{value_or}
use Rattle.page.specs.Theorems

-- ---- both of two tests

pub both : (a b : Bool) → a && b ≡ true → (a ≡ true) × (b ≡ true)
both true true e = (refl, refl)
both true false e = let z : ◌≡◌ {A = ℕ} 0 1 = cc in absurd (omega arith)
both false b e = let z : ◌≡◌ {A = ℕ} 0 1 = cc in absurd (omega arith)

-- ---- the same bytes

pub same_refl : (xs : List ℕ) → same xs xs ≡ true
same_refl [] = refl
same_refl (x ∷ xs) = rw (eq-eqb x x refl, same_refl xs)

pub same_eq : (xs ys : List ℕ) → same xs ys ≡ true → xs ≡ ys
same_eq [] [] e = refl
same_eq [] (y ∷ ys) e = let z : ◌≡◌ {A = ℕ} 0 1 = cc in absurd (omega arith)
same_eq (x ∷ xs) [] e = let z : ◌≡◌ {A = ℕ} 0 1 = cc in absurd (omega arith)
same_eq (x ∷ xs) (y ∷ ys) e =
    let b = both (eqb x y) (same xs ys) e in
    let p : x ≡ y = eqb-true x y b.0 in
    let q : xs ≡ ys = same_eq xs ys b.1 in
    rw (p, q)

-- ---- what is computed of a writing, by which values are there

-- A value as it is read back from its bytes.
abbrev read_back_of : Key → Option ℕ → Option ℕ
read_back_of k None = None
read_back_of k (Some x) = Some (number (key_bytes k x))

-- What the lookup gives of a setting.
abbrev loaded : Values → Setting → ℕ
loaded v s = value_or (stored_in v s) (factory_value s)

abbrev Body : Values → Setting → Type 0
Body v s = body_of (writing v) factory_page (code_of s) ≡ value_bytes s (loaded v s)

record Computed (v : Values) : Type 0 where
  pub size : length (writing v) ≡ page_size
  pub back : values_in (writing v)
      ≡ record {
        baud = read_back_of (value_of Baud) v.baud;
        accelerometer = read_back_of (value_of Accelerometer) v.accelerometer;
        gyroscope = read_back_of (value_of Gyroscope) v.gyroscope;
        number = read_back_of last_number v.number;
      }
  pub baud : Body v Baud
  pub accelerometer : Body v Accelerometer
  pub gyroscope : Body v Gyroscope

computed : (b a g n : Option ℕ) → Computed (record { baud = b; accelerometer = a; gyroscope = g; number = n })
unfolding writing values_in held_under factory_page body_of entry_of entry_from part_of
computed None None None None = record { size = refl; back = refl; baud = refl; accelerometer = refl; gyroscope = refl }
computed None None None (Some n) = record { size = refl; back = refl; baud = refl; accelerometer = refl; gyroscope = refl }
computed None None (Some g) None = record { size = refl; back = refl; baud = refl; accelerometer = refl; gyroscope = refl }
computed None None (Some g) (Some n) = record { size = refl; back = refl; baud = refl; accelerometer = refl; gyroscope = refl }
computed None (Some a) None None = record { size = refl; back = refl; baud = refl; accelerometer = refl; gyroscope = refl }
computed None (Some a) None (Some n) = record { size = refl; back = refl; baud = refl; accelerometer = refl; gyroscope = refl }
computed None (Some a) (Some g) None = record { size = refl; back = refl; baud = refl; accelerometer = refl; gyroscope = refl }
computed None (Some a) (Some g) (Some n) = record { size = refl; back = refl; baud = refl; accelerometer = refl; gyroscope = refl }
computed (Some b) None None None = record { size = refl; back = refl; baud = refl; accelerometer = refl; gyroscope = refl }
computed (Some b) None None (Some n) = record { size = refl; back = refl; baud = refl; accelerometer = refl; gyroscope = refl }
computed (Some b) None (Some g) None = record { size = refl; back = refl; baud = refl; accelerometer = refl; gyroscope = refl }
computed (Some b) None (Some g) (Some n) = record { size = refl; back = refl; baud = refl; accelerometer = refl; gyroscope = refl }
computed (Some b) (Some a) None None = record { size = refl; back = refl; baud = refl; accelerometer = refl; gyroscope = refl }
computed (Some b) (Some a) None (Some n) = record { size = refl; back = refl; baud = refl; accelerometer = refl; gyroscope = refl }
computed (Some b) (Some a) (Some g) None = record { size = refl; back = refl; baud = refl; accelerometer = refl; gyroscope = refl }
computed (Some b) (Some a) (Some g) (Some n) = record { size = refl; back = refl; baud = refl; accelerometer = refl; gyroscope = refl }

computed_of : (v : Values) → Computed v
computed_of v = computed v.baud v.accelerometer v.gyroscope v.number

pub writing_size : Theorems.WritingSize
writing_size v = (computed_of v).size

-- ---- what holds of each storable value

abbrev each_of : (ℕ → Bool) → List ℕ → Bool
each_of p [] = true
each_of p (x ∷ xs) = p x && each_of p xs

each : (p : ℕ → Bool) (xs : List ℕ) (x : ℕ) → each_of p xs ≡ true → some_of (eqb x) xs ≡ true → p x ≡ true
each p [] x h e = let z : ◌≡◌ {A = ℕ} 0 1 = cc in absurd (omega arith)
each p (k ∷ xs) x h e = go (eqb x k) refl (each p xs x (both (p k) (each_of p xs) h).1)
  where
    go : (b : Bool) → eqb x k ≡ b → (some_of (eqb x) xs ≡ true → p x ≡ true) → p x ≡ true
    go true q ih = let i : x ≡ k = eqb-true x k q in rw i (both (p k) (each_of p xs) h).0
    go false q ih = ih (rw q at e)

-- A page can hold, and a reply report, every value that is usable.
usable_each : (s : Setting) → (each_of (storable s) (usable_values s) ≡ true) × (each_of (readable s) (usable_values s) ≡ true)
unfolding storable readable
usable_each Baud = (refl, refl)
usable_each Accelerometer = (refl, refl)
usable_each Gyroscope = (refl, refl)

pub usable-storable : (s : Setting) (x : ℕ) → usable s x ≡ true → storable s x ≡ true
unfolding usable
usable-storable s x e = each (storable s) (usable_values s) x (usable_each s).0 e

pub usable-readable : (s : Setting) (x : ℕ) → usable s x ≡ true → readable s x ≡ true
unfolding usable
usable-readable s x e = each (readable s) (usable_values s) x (usable_each s).1 e

-- A storable value is the number of its bytes.
abbrev is_number : Setting → ℕ → Bool
is_number s x = eqb (number (value_bytes s x)) x

are_numbers : (s : Setting) → each_of (is_number s) (storable_values s) ≡ true
are_numbers Baud = refl
are_numbers Accelerometer = refl
are_numbers Gyroscope = refl

pub key_back : (k : Key) (x : ℕ) → key_storable k x ≡ true → number (key_bytes k x) ≡ x
unfolding storable
key_back (value_of s) x e = eqb-true (number (value_bytes s x)) x (each (is_number s) (storable_values s) x (are_numbers s) e)
key_back last_number x e = word_back x (ltb-true x 4294967296 e)

pub value_back : (s : Setting) (x : ℕ) → usable s x ≡ true → number (value_bytes s x) ≡ x
value_back s x e = key_back (value_of s) x (usable-storable s x e)

stored_back : (k : Key) (b : Option ℕ) → is_storable k b ≡ true → read_back_of k b ≡ b
stored_back k None e = refl
stored_back k (Some x) e = ap Some (key_back k x e)

-- ---- all values storable

pub record Storable (v : Values) : Type 0 where
  pub baud : is_storable (value_of Baud) v.baud ≡ true
  pub accelerometer : is_storable (value_of Accelerometer) v.accelerometer ≡ true
  pub gyroscope : is_storable (value_of Gyroscope) v.gyroscope ≡ true
  pub number : is_storable last_number v.number ≡ true

pub storable_each : (v : Values) → all_storable v ≡ true → Storable v
unfolding all_storable
storable_each v e =
    let b = is_storable (value_of Baud) v.baud in
    let a = is_storable (value_of Accelerometer) v.accelerometer in
    let g = is_storable (value_of Gyroscope) v.gyroscope in
    let p = both (b && a && g) (is_storable last_number v.number) e in
    let q = both (b && a) g p.0 in
    let r = both b a q.0 in
    record { baud = r.0; accelerometer = r.1; gyroscope = q.1; number = p.1 }

pub each_storable : (v : Values) → Storable v → all_storable v ≡ true
unfolding all_storable
each_storable v h = rw (h.baud, h.accelerometer, h.gyroscope, h.number)

pub read_back : Theorems.ReadBack
read_back v e =
    let h = storable_each v e in
    let b = stored_back (value_of Baud) v.baud h.baud in
    let a = stored_back (value_of Accelerometer) v.accelerometer h.accelerometer in
    let g = stored_back (value_of Gyroscope) v.gyroscope h.gyroscope in
    let n = stored_back last_number v.number h.number in
    (computed_of v).back ∙ rw (b, a, g, n)

-- Whichever values are there.
pub codes_ascend : Theorems.CodesAscend
codes_ascend v = go v.baud v.accelerometer v.gyroscope v.number
  where
    go : (b a g n : Option ℕ) → Theorems.ascending (items_of (record { baud = b; accelerometer = a; gyroscope = g; number = n })) ≡ true
    go None None None None = refl
    go None None None (Some n) = refl
    go None None (Some g) None = refl
    go None None (Some g) (Some n) = refl
    go None (Some a) None None = refl
    go None (Some a) None (Some n) = refl
    go None (Some a) (Some g) None = refl
    go None (Some a) (Some g) (Some n) = refl
    go (Some b) None None None = refl
    go (Some b) None None (Some n) = refl
    go (Some b) None (Some g) None = refl
    go (Some b) None (Some g) (Some n) = refl
    go (Some b) (Some a) None None = refl
    go (Some b) (Some a) None (Some n) = refl
    go (Some b) (Some a) (Some g) None = refl
    go (Some b) (Some a) (Some g) (Some n) = refl

-- ---- sound pages

pub writing-sound : Theorems.WritingSound
unfolding sound
writing-sound v e = rw (read_back v e, e, same_refl (writing v))

pub sound_is_writing : Theorems.SoundIsWriting
unfolding sound
sound_is_writing page e =
    let b = both (all_storable (values_in page)) (same page (writing (values_in page))) e in
    record { storable_values_lem = b.0; written = same_eq page (writing (values_in page)) b.1 }

pub sound_exactly : Theorems.SoundExactly
sound_exactly =
    record {
      sound_some = λ page e. let w = sound_is_writing page e in record { values = values_in page; storable_values_lem = w.storable_values_lem; written = w.written };
      some_sound = λ page w. rw w.written (writing-sound w.values w.storable_values_lem);
    }

-- ---- a value put in

pub with_storable : (v : Values) (k : Key) (x : ℕ) → Storable v → key_storable k x ≡ true → Storable (with_key v k x)
with_storable v (value_of Baud) x h e = record { baud = e; accelerometer = h.accelerometer; gyroscope = h.gyroscope; number = h.number }
with_storable v (value_of Accelerometer) x h e = record { baud = h.baud; accelerometer = e; gyroscope = h.gyroscope; number = h.number }
with_storable v (value_of Gyroscope) x h e = record { baud = h.baud; accelerometer = h.accelerometer; gyroscope = e; number = h.number }
with_storable v last_number x h e = record { baud = h.baud; accelerometer = h.accelerometer; gyroscope = h.gyroscope; number = e }

pub put_storable : (v : Values) (k : Key) (x : ℕ) → all_storable v ≡ true → key_storable k x ≡ true → all_storable (with_key v k x) ≡ true
put_storable v k x a e = each_storable (with_key v k x) (with_storable v k x (storable_each v a) e)

pub put_keeps : Theorems.PutKeeps
unfolding put_page
put_keeps page k x e h =
    let v = with_key (values_in page) k x in
    let f = put_storable (values_in page) k x (sound_is_writing page e).storable_values_lem h in
    record { values = read_back v f; sound_page = writing-sound v f }

pub save_keeps : Theorems.SaveKeeps
save_keeps page s x e h =
    let p = put_keeps page (value_of s) x e h in
    record { values = p.values; sound_page = p.sound_page }

pub number_keeps : Theorems.NumberKeeps
number_keeps page x e h =
    let p = put_keeps page last_number x e (lt-ltb x 4294967296 h) in
    record { values = p.values; sound_page = p.sound_page }

-- ---- the lookup on a sound page

body_of_lem : (v : Values) (s : Setting) → Body v s
body_of_lem v Baud = (computed_of v).baud
body_of_lem v Accelerometer = (computed_of v).accelerometer
body_of_lem v Gyroscope = (computed_of v).gyroscope

-- Every factory value is usable.
pub factory_usable : (s : Setting) → usable s (factory_value s) ≡ true
unfolding usable
factory_usable Baud = refl
factory_usable Accelerometer = refl
factory_usable Gyroscope = refl

pub usable_everywhere : (s : Setting) → Theorems.UsableEverywhere s
usable_everywhere s = record { stored = usable-storable s; reported = usable-readable s; factory = factory_usable s }

stored_in_storable : (v : Values) (s : Setting) → Storable v → is_storable (value_of s) (stored_in v s) ≡ true
stored_in_storable v Baud h = h.baud
stored_in_storable v Accelerometer h = h.accelerometer
stored_in_storable v Gyroscope h = h.gyroscope

value_or_storable : (s : Setting) (b : Option ℕ) → is_storable (value_of s) b ≡ true → storable s (value_or b (factory_value s)) ≡ true
value_or_storable s None e = usable-storable s (factory_value s) (factory_usable s)
value_or_storable s (Some x) e = e

pub looks_up_stored : Theorems.LooksUpStored
looks_up_stored page s e =
    let v = values_in page in
    let w = sound_is_writing page e in
    let f = value_or_storable s (stored_in v s) (stored_in_storable v s (storable_each v w.storable_values_lem)) in
    let b : body_of page factory_page (code_of s) ≡ value_bytes s (loaded v s) =
    ap (λ (p : List ℕ). body_of p factory_page (code_of s)) w.written ∙ body_of_lem v s in
    record { body = b; value = ap number b ∙ key_back (value_of s) (loaded v s) f; value_storable = f }

pub writing_is_sound : Theorems.WritingIsSound
writing_is_sound page i = rw i.written (writing-sound (values_in page) i.storable_values_lem)

pub blank_is_writing : Theorems.BlankIsWriting
unfolding writing values_in held_under entry_of
blank_is_writing = record { written = refl; read = refl }

-- A sound page passes the tests of its number.
pub sound_passes : (page : List ℕ) → sound page ≡ true → page_number page ≡ 0
unfolding page_number
sound_passes page h =
    let l : length page ≡ page_size = ap length (sound_is_writing page h).written ∙ writing_size (values_in page) in
    rw (eq-eqb (length page) page_size l, h)
