-- Every message whose fields are all handled without error is one of what is asked for, but for what is not looked at.
use Prim.Native.Nat.{ℕ, zero, suc, ◌+◌, ◌%◌, ◌<◌}
use native.Mathlib.Omega.{arith}
use mathlib.Core.Path.{◌≡◌, refl, ap, sym, ◌∙◌, subst}
use mathlib.Core.Bool.{Bool, true, false, ◌&&◌, ◌||◌, not}
use mathlib.Core.List.{List, [], ◌∷◌, ◌++◌}
use lib.Dec.{eqb, leb}
use lib.ListN.{length, take, drop, get_or}
use lib.Seq.{get_or-drop}
use borrow.Author.Tests.{eqb-true, eqb-false, leb-true, le-leb}
use Rattle.word.specs.Word.{word, word_bytes}
use Rattle.word.proofs.Numbers.{bytes_back}
use Rattle.page.specs.declared.setting.Setting.{Setting}
use Rattle.page.specs.declared.setting.Setting.TheVariants.{Baud, Accelerometer, Gyroscope}
use Rattle.std.specs.Prelude.{Option}
use Rattle.page.specs.Settings.{setting_of, code_of, usable, value_bytes, value_size}
use Rattle.message.specs.Fields.{Field, field_bytes, row_bytes, SizesRight}
use Rattle.message.specs.Message.{message_of, type_of, length_of, payload_of}
use Rattle.message.proofs.FieldRows.{fields_fill}
use Rattle.command.specs.declared.command.Subject.{Subject}
use Rattle.command.specs.declared.command.Subject.TheVariants.{Ping, Setting as About, Unknown}
use Rattle.command.specs.Command.{command_of, value_for, subject_of}
use Rattle.command.specs.Errors.{value_right, not_on_board, field_error, is_function}
use Rattle.command.proofs.Accepts.{Accepted, accepted, sent_usable}
use Rattle.stream.proofs.Bools.{differ, and_both}
use Rattle.client.specs.Writer.{code_subject, acceptable, command_message, Asked, asked_field, asked_right}
use Rattle.client.specs.Commands.{asked_fields, all_right}
use Rattle.client.specs.Handled.{looked_at, all_looked_at, NoErrors, ObeyedIsWritten, OneObeyedIsWritten}
use Rattle.client.proofs.Tests.{value_length}
use Rattle.client.proofs.Commands.{about_back, subject_ping, subject_about}
use Rattle.client.proofs.Writings.{kind_back}

-- ---- data of a known length

data_none : (l : List ℕ) → length l ≡ 0 → l ≡ []
data_none [] e = refl
data_none (a ∷ l) e = absurd (omega arith)

-- A function, and the bytes of the number that follows it.
data_byte_lem : (l : List ℕ) → ((i : ℕ) → get_or l i 0 < 256) → length l ≡ 2 → l ≡ get_or l 0 0 ∷ get_or l 1 0 % 256 ∷ []
data_byte_lem [] b e = absurd (omega arith)
data_byte_lem (f ∷ []) b e = absurd (omega arith)
data_byte_lem (f ∷ x ∷ []) b e = let r : x % 256 ≡ x = omega (arith, b 1) in rw r
data_byte_lem (f ∷ x ∷ y ∷ l) b e = absurd (omega arith)

data_word : (l : List ℕ) → ((i : ℕ) → get_or l i 0 < 256) → length l ≡ 5
    → l ≡ get_or l 0 0 ∷ word_bytes (word (get_or l 1 0) (get_or l 2 0) (get_or l 3 0) (get_or l 4 0))
data_word [] b e = absurd (omega arith)
data_word (f ∷ []) b e = absurd (omega arith)
data_word (f ∷ w ∷ []) b e = absurd (omega arith)
data_word (f ∷ w ∷ x ∷ []) b e = absurd (omega arith)
data_word (f ∷ w ∷ x ∷ y ∷ []) b e = absurd (omega arith)
data_word (f ∷ w ∷ x ∷ y ∷ z ∷ []) b e = ap (λ (l : List ℕ). f ∷ l) (sym (bytes_back w x y z (b 1) (b 2) (b 3) (b 4)))
data_word (f ∷ w ∷ x ∷ y ∷ z ∷ v ∷ l) b e = absurd (omega arith)

data_value : (s : Setting) (kind : ℕ) (f : Field) → ((i : ℕ) → get_or f.content i 0 < 256) → length f.content ≡ 1 + value_size s
    → f.content ≡ get_or f.content 0 0 ∷ value_bytes s (value_for s (command_of kind f))
unfolding command_of
data_value Baud kind f b e = data_word f.content b e
data_value Accelerometer kind f b e = data_byte_lem f.content b e
data_value Gyroscope kind f b e = data_byte_lem f.content b e

-- ---- one field

record FieldIs (kind : ℕ) (f : Field) : Type 0 where
  asked : Asked
  right : asked_right kind asked ≡ true
  written : field_bytes (looked_at kind f) ≡ asked_field kind asked

ping_is : (kind : ℕ) (f : Field) → kind ≡ 0x01 → f ≡ record { code = 0x02; size = 0x00; content = [] } → FieldIs kind f
unfolding acceptable subject_of
ping_is kind f k e = record { asked = record { code = 0x02; function = 0; value = 0 }; right = rw k; written = rw (k, e) }

module _ (s : Setting) (kind : ℕ) (f : Field) (k : kind ≡ 0x02) (c : f.code ≡ code_of s) where
  -- Function 1, with the bytes of a usable value.
  used_is : (v : ℕ) → usable s v ≡ true → f.size ≡ 1 + value_size s → f.content ≡ 1 ∷ value_bytes s v → FieldIs kind f
  unfolding acceptable
  used_is v a n e =
      record {
        asked = record { code = code_of s; function = 1; value = v };
        right = rw (k, about_back s, a);
        written = rw (k, e, c, n, about_back s, value_length s v);
      }

  -- Functions 2 to 5: the value bytes are not looked at.
  unused_is : is_function (get_or f.content 0 0) ≡ true → eqb (get_or f.content 0 0) 1 ≡ false → FieldIs kind f
  unfolding acceptable
  unused_is i n =
      let b = and_both (leb 1 (get_or f.content 0 0)) (leb (get_or f.content 0 0) 5) i in
      let l : leb 2 (get_or f.content 0 0) ≡ true =
      le-leb 2 (get_or f.content 0 0) (omega (arith, leb-true 1 (get_or f.content 0 0) b.0, eqb-false (get_or f.content 0 0) 1 n)) in
      record {
        asked = record { code = code_of s; function = get_or f.content 0 0; value = 0 };
        right = rw (k, about_back s, b.0, b.1, n);
        written = rw (k, about_back s, l, n, c);
      }

-- Under function 1 the size is the first of the two.
first_size : (x y t : Bool) → t ≡ true → x || (y && not t) ≡ true → x ≡ true
first_size true y t f e = refl
first_size false true true f e = differ (sym e)
first_size false true false f e = differ (sym f)
first_size false false t f e = differ (sym e)

module _ (denial : ℕ) (loaded : Setting → Option ℕ) (kind : ℕ) (f : Field) (sized : f.size ≡ length f.content) (bytes : (i : ℕ) → get_or f.content i 0 < 256)
    (free : field_error denial loaded (command_of kind f) ≡ 0) where
  passed : Accepted loaded (command_of kind f)
  passed = accepted denial loaded (command_of kind f) free

  about_is : (s : Setting) → subject_of kind f.code ≡ About s → (t : Bool) → eqb (get_or f.content 0 0) 1 ≡ t → FieldIs kind f
  unfolding command_of
  about_is s e true o =
      let k = subject_about kind f.code s e in
      let g : get_or f.content 0 0 ≡ 1 = eqb-true (get_or f.content 0 0) 1 o in
      let z : eqb f.size (1 + value_size s) || (eqb f.size 1 && not (eqb (get_or f.content 0 0) 1)) ≡ true = rw e at passed.field.size in
      let x = first_size (eqb f.size (1 + value_size s)) (eqb f.size 1) (eqb (get_or f.content 0 0) 1) o z in
      let n : f.size ≡ 1 + value_size s = eqb-true f.size (1 + value_size s) x in
      let value : value_right (About s) (command_of kind f) ≡ true = subst (λ (b : Subject). value_right b (command_of kind f) ≡ true) e passed.field.value in
      let on : not_on_board (About s) loaded (command_of kind f) ≡ false = subst (λ (b : Subject). not_on_board b loaded (command_of kind f) ≡ false) e passed.on_board in
      let h : usable s (value_for s (command_of kind f)) ≡ true = sent_usable loaded (command_of kind f) s on value g in
      let v : ℕ = value_for s (command_of kind f) in
      used_is s kind f k.0 k.1 v h n (data_value s kind f bytes (sym sized ∙ n) ∙ ap (λ (g : ℕ). g ∷ value_bytes s v) g)
  about_is s e false o =
      let k = subject_about kind f.code s e in
      unused_is s kind f k.0 k.1 (rw e at passed.field.function) o

  field_is : (s : Subject) → subject_of kind f.code ≡ s → FieldIs kind f
  unfolding command_of
  field_is Ping e =
      let k = subject_ping kind f.code e in
      let z : f.size ≡ 0 = eqb-true f.size 0 (rw e at passed.field.size) in
      let d : f.content ≡ [] = data_none f.content (sym sized ∙ z) in
      ping_is kind f k.0 (rw (k.1, z, d))
  field_is (About s) e = about_is s e (eqb (get_or f.content 0 0) 1) refl
  field_is Unknown e = differ (sym (rw e at passed.field.size))

-- ---- bytes of a part

taken_byte : (n : ℕ) (l : List ℕ) → ((i : ℕ) → get_or l i 0 < 256) → (i : ℕ) → get_or (take n l) i 0 < 256
taken_byte zero l b i = omega arith
taken_byte (suc n) [] b i = omega arith
taken_byte (suc n) (x ∷ l) b zero = b 0
taken_byte (suc n) (x ∷ l) b (suc i) = taken_byte n l (λ j. b (suc j)) i

front_byte : (xs ys : List ℕ) → ((i : ℕ) → get_or (xs ++ ys) i 0 < 256) → (i : ℕ) → get_or xs i 0 < 256
front_byte [] ys b i = omega arith
front_byte (x ∷ xs) ys b zero = b 0
front_byte (x ∷ xs) ys b (suc i) = front_byte xs ys (λ j. b (suc j)) i

behind_byte : (xs ys : List ℕ) → ((i : ℕ) → get_or (xs ++ ys) i 0 < 256) → (i : ℕ) → get_or ys i 0 < 256
behind_byte [] ys b i = b i
behind_byte (x ∷ xs) ys b i = behind_byte xs ys (λ j. b (suc j)) i

-- ---- a message

record FieldsAre (kind : ℕ) (fs : List Field) : Type 0 where
  asked : List Asked
  right : all_right kind asked ≡ true
  written : row_bytes (all_looked_at kind fs) ≡ asked_fields kind asked

fields_are : (denial : ℕ) (kind : ℕ) (fs : List Field) → SizesRight fs → ((i : ℕ) → get_or (row_bytes fs) i 0 < 256) → NoErrors denial kind fs → FieldsAre kind fs
fields_are denial kind [] s b e = record { asked = []; right = refl; written = refl }
fields_are denial kind (f ∷ fs) s b e =
    let one = field_is denial e.0.0 kind f s.0 (λ i. front_byte (field_bytes f) (row_bytes fs) b (suc (suc i))) e.0.1 (subject_of kind f.code) refl in
    let more = fields_are denial kind fs s.1 (behind_byte (field_bytes f) (row_bytes fs) b) e.1 in
    record { asked = one.asked ∷ more.asked; right = rw (one.right, more.right); written = rw (← one.written, more.written) }

pub obeyed_is_written : ObeyedIsWritten
obeyed_is_written denial m fs b e free =
    let f = fields_fill (payload_of m) fs e in
    let q : (i : ℕ) → get_or (payload_of m) i 0 < 256 = taken_byte (length_of m) (drop 4 m) (λ i. rw (get_or-drop 4 m i 0) (b (4 + i))) in
    let r = fields_are denial (type_of m) fs f.1 (rw f.0 q) free in
    record { asked = r.asked; right = r.right; written = r.written }

-- ---- one field

-- What is acceptable in a message of this type is what its code is about, and of this type.
known : (kind code : ℕ) (s : Subject) (f v : ℕ) → subject_of kind code ≡ s → acceptable s f v ≡ true → code_subject code ≡ s
unfolding code_subject acceptable setting_of
known kind code Ping f v e a = let k = subject_ping kind code e in rw k.1
known kind code (About Baud) f v e a = let k = subject_about kind code Baud e in rw k.1
known kind code (About Accelerometer) f v e a = let k = subject_about kind code Accelerometer e in rw k.1
known kind code (About Gyroscope) f v e a = let k = subject_about kind code Gyroscope e in rw k.1
known kind code Unknown f v e a = differ (sym a)

pub one_obeyed_is_written : OneObeyedIsWritten
unfolding command_message
one_obeyed_is_written denial loaded m f b e free =
    let h = fields_fill (payload_of m) (f ∷ []) e in
    let q : (i : ℕ) → get_or (payload_of m) i 0 < 256 = taken_byte (length_of m) (drop 4 m) (λ i. rw (get_or-drop 4 m i 0) (b (4 + i))) in
    let p : (i : ℕ) → get_or (row_bytes (f ∷ [])) i 0 < 256 = subst (λ (l : List ℕ). (i : ℕ) → get_or l i 0 < 256) (sym h.0) q in
    let one = field_is denial loaded (type_of m) f h.1.0 (λ i. front_byte (field_bytes f) [] p (suc (suc i))) free (subject_of (type_of m) f.code) refl in
    let a : Asked = one.asked in
    let k = known (type_of m) a.code (subject_of (type_of m) a.code) a.function a.value refl one.right in
    let t = kind_back (type_of m) a.code (subject_of (type_of m) a.code) a.function a.value refl one.right in
    record {
      code = a.code;
      function = a.function;
      value = a.value;
      accepted = rw k one.right;
      written = rw (k, t) (ap (message_of (type_of m)) one.written);
    }
