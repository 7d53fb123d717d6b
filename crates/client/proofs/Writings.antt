-- What the command writer leaves in the room, case by case.
use Prim.Native.Nat.{ℕ, ◌+◌, ◌%◌, ◌≤◌}
use native.Mathlib.Omega.{arith}
use mathlib.Core.Path.{◌≡◌, refl, ap, sym, ◌∙◌}
use mathlib.Core.Logic.{◌⊎◌, inl, inr}
use mathlib.Core.Bool.{Bool, true, false, ◌||◌, not}
use mathlib.Core.List.{List, [], ◌∷◌, ◌++◌}
use lib.Dec.{eqb, leb}
use lib.ListN.{length, take, get_or}
use borrow.Author.Tests.{leb-true, le-ltb, not-false}
use Rattle.word.specs.Word.{word_bytes}
use Rattle.page.specs.declared.setting.Setting.{Setting}
use Rattle.page.specs.declared.setting.Setting.TheVariants.{Baud, Accelerometer, Gyroscope}
use Rattle.page.specs.Settings.{code_of, usable}
use Rattle.message.specs.declared.write.Written.{Written}
use Rattle.refusal.specs.declared.Refusal.{Refusal}
use Rattle.refusal.specs.Refusal.{refusal_number}
use Rattle.message.specs.Write.{Writing, refused_writing, refuse_writing, put_at, plain_writing}
use Rattle.command.specs.declared.command.Subject.{Subject}
use Rattle.command.specs.declared.command.Subject.TheVariants.{Ping, Setting as About, Unknown}
use Rattle.command.specs.Command.{subject_of}
use Rattle.command.specs.Errors.{is_function}
use Rattle.command.proofs.Places.{put_length, put_front}
use Rattle.stream.proofs.Bools.{differ, and_both}
use Rattle.client.specs.Writer.{code_subject, kind_for, acceptable, field_for, command_message, command_writing, numbered_message, numbered_writing, behind_writing, field_writing}
use Rattle.client.proofs.Asked.{field_most}
use Rattle.client.proofs.Commands.{subject_ping, subject_about}
use Rattle.refusal.proofs.Numbers.{number_above}

-- ---- one field more

module _ (s : Setting) (f v n : ℕ) (room : List ℕ) where
  abbrev Appended : Writing → Type 0
  Appended w = w ≡ refuse_writing (not (acceptable (About s) f v)) 28 room (behind_writing (field_for (About s) f v) n room)

  module _ (a : Bool) (t : a ≡ acceptable (About s) f v) (q : not a ≡ false) (code : ℕ) (k : code ≡ code_of s) (w : Writing) where
    -- An accepted function is 1 or more.
    module _ (h : f ≤ 1) where
      one : f ≡ 1
      unfolding acceptable
      one =
          let b = and_both (is_function f) (not (eqb f 1) || usable s v) (sym t ∙ not-false a q) in
          let l = and_both (leb 1 f) (leb f 5) b.0 in
          omega (arith, leb-true 1 f l.0)

      pub appended_word : s ≡ Baud → w ≡ behind_writing (code ∷ 5 ∷ 1 ∷ word_bytes v) n room → Appended w
      appended_word b e = e ∙ rw (← t, q, k, one, b)

      pub appended_byte : (s ≡ Accelerometer) ⊎ (s ≡ Gyroscope) → w ≡ behind_writing (code ∷ 2 ∷ 1 ∷ v % 256 ∷ []) n room → Appended w
      appended_byte b e = e ∙ rw (← t, q, k, one) (elim b [ inl a ↦ rw a | inr g ↦ rw g ])

-- ---- one field, and what a message is made of

pub kind_back : (kind code : ℕ) (s : Subject) (f v : ℕ) → subject_of kind code ≡ s → acceptable s f v ≡ true → kind_for s ≡ kind
unfolding acceptable
kind_back kind code Ping f v e a = sym (subject_ping kind code e).0
kind_back kind code (About s) f v e a = sym (subject_about kind code s e).0
kind_back kind code Unknown f v e a = differ (sym a)

-- One field behind the first n bytes of a payload to be that has room for it.
module _ (code f v kind : ℕ) (ks : subject_of kind code ≡ code_subject code) (n : ℕ) (before : List ℕ) (l : n + 7 ≤ length before) (after : List ℕ) where
  abbrev s : Subject
  s = code_subject code

  abbrev field : List ℕ
  field = field_for s f v

  abbrev told : Written → Writing
  told w = record { answer = w; room = after }

  abbrev done : Writing
  done = record { answer = record { number = 0; length = n + length field }; room = put_at n field before }

  abbrev Left : Written → Type 0
  Left w = told w ≡ field_writing kind (record { code = code; function = f; value = v }) n before

  fits : n + length field ≤ length before
  fits = omega (arith, field_most s f v)

  left_done : (w : Written) → Left w → acceptable s f v ≡ true → told w ≡ done
  unfolding field_writing
  left_done w e a = e ∙ rw (ks, a, le-ltb (length before) (n + length field) fits)

  left_refused : (w : Written) → Left w → acceptable s f v ≡ false → w.number ≡ 28
  unfolding field_writing
  left_refused w e a = ap (λ (x : Writing). x.answer.number) e ∙ rw (ks, a)

  -- It is refused where the command is not accepted.
  module _ (r : Refusal) (e : Left (record { number = refusal_number r; length = 0 })) where
    not_right : acceptable s f v ≡ false
    not_right = go (acceptable s f v) refl
      where
        go : (b : Bool) → acceptable s f v ≡ b → acceptable s f v ≡ false
        go true a =
            let z : refusal_number r ≡ 0 = ap (λ (x : Writing). x.answer.number) (left_done (record { number = refusal_number r; length = 0 }) e a) in
            absurd (omega (arith, number_above r))
        go false a = a

    refused-number : refusal_number r ≡ 28
    refused-number = left_refused (record { number = refusal_number r; length = 0 }) e not_right

    pub command_refused : (room : List ℕ) → refused_writing (refusal_number r) room ≡ command_writing code f v room
    unfolding command_writing
    command_refused room = rw (not_right, refused-number)

    pub numbered_refused : (number : ℕ) (room : List ℕ) → refused_writing (refusal_number r) room ≡ numbered_writing number code f v room
    unfolding numbered_writing
    numbered_refused number room = rw (not_right, refused-number)

  -- What is appended where it is not.
  module _ (m : ℕ) (e : Left (record { number = 0; length = m })) where
    right : acceptable s f v ≡ true
    right = go (acceptable s f v) refl
      where
        go : (b : Bool) → acceptable s f v ≡ b → acceptable s f v ≡ true
        go true a = a
        go false a = absurd (omega (arith, left_refused (record { number = 0; length = m }) e a))

    length_is : m ≡ n + length field
    length_is = ap (λ (x : Writing). x.answer.length) (left_done (record { number = 0; length = m }) e right)

    room_is : after ≡ put_at n field before
    room_is = ap (λ (x : Writing). x.room) (left_done (record { number = 0; length = m }) e right)

    pub field_fits : m ≤ length after
    field_fits = omega (arith, length_is, ap length room_is, put_length n field before fits, fits)

    payload_is : take m after ≡ take n before ++ field
    payload_is = ap (λ (k : ℕ). take k after) length_is ∙ ap (take (n + length field)) room_is ∙ put_front n field before fits

    kind_is : kind_for s ≡ kind
    kind_is = kind_back kind code s f v ks right

-- ---- the writers: a payload of the field, or of the number, the type and the field

pub command_done : (code f v kind : ℕ) → subject_of kind code ≡ code_subject code → (before after : List ℕ) → 7 ≤ length before
    → (m : ℕ) → record { answer = record { number = 0; length = m }; room = after } ≡ field_writing kind (record { code = code; function = f; value = v }) 0 before
    → (p : List ℕ) → p ≡ take m after → (room : List ℕ) (x : Writing) → x ≡ plain_writing kind p room → x ≡ command_writing code f v room
unfolding command_writing command_message plain_writing
command_done code f v kind ks before after l m e p ps room x h =
    let fs : List ℕ = field_for (code_subject code) f v in
    let t : p ≡ fs = ps ∙ payload_is code f v kind ks 0 before l after m e in
    let a : acceptable (code_subject code) f v ≡ true = right code f v kind ks 0 before l after m e in
    let k : kind_for (code_subject code) ≡ kind = kind_is code f v kind ks 0 before l after m e in
    h ∙ rw (t, le-ltb 255 (length fs) (omega (arith, field_most (code_subject code) f v)), a, k)

pub numbered_done : (number code f v kind : ℕ) → subject_of kind code ≡ code_subject code → (bs : List ℕ) → bs ≡ word_bytes number
    → (rest after : List ℕ) → 7 ≤ length rest → (m : ℕ)
    → record { answer = record { number = 0; length = m }; room = after }
    ≡ field_writing kind (record { code = code; function = f; value = v }) 5 (get_or bs 0 0 ∷ get_or bs 1 0 ∷ get_or bs 2 0 ∷ get_or bs 3 0 ∷ kind ∷ rest)
    → (p : List ℕ) → p ≡ take m after → (room : List ℕ) (x : Writing) → x ≡ plain_writing 0x7C p room → x ≡ numbered_writing number code f v room
unfolding numbered_writing numbered_message plain_writing
numbered_done number code f v kind ks bs b rest after l m e p ps room x h =
    let before : List ℕ = get_or bs 0 0 ∷ get_or bs 1 0 ∷ get_or bs 2 0 ∷ get_or bs 3 0 ∷ kind ∷ rest in
    let fs : List ℕ = field_for (code_subject code) f v in
    let g : 5 + 7 ≤ length before = omega arith in
    let t : p ≡ word_bytes number ++ kind ∷ fs = ps ∙ payload_is code f v kind ks 5 before g after m e ∙ rw b in
    let r : acceptable (code_subject code) f v ≡ true = right code f v kind ks 5 before g after m e in
    let k : kind_for (code_subject code) ≡ kind = kind_is code f v kind ks 5 before g after m e in
    h ∙ rw (t, le-ltb 255 (length (word_bytes number ++ kind ∷ fs)) (omega (arith, field_most (code_subject code) f v)), r, k)
