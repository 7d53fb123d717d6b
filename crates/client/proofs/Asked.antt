-- A field that is written for what the board accepts is handled with exactly the error and the effect that are asked for.
use Prim.Native.Nat.{ℕ, zero, suc, ◌+◌, ◌/◌, ◌%◌, ◌≤◌}
use native.Mathlib.Omega.{arith}
use mathlib.Core.Path.{◌≡◌, refl, sym, ◌∙◌}
use mathlib.Core.Bool.{Bool, true, false, ◌||◌, not}
use mathlib.Core.List.{[], ◌∷◌}
use lib.Dec.{eqb, leb}
use lib.ListN.{length}
use borrow.Author.Tests.{eqb-true, ne_eqb}
use Rattle.word.specs.Word.{word}
use Rattle.page.specs.declared.setting.Setting.{Setting}
use Rattle.page.specs.declared.setting.Setting.TheVariants.{Baud, Accelerometer, Gyroscope}
use Rattle.std.specs.Prelude.{Option, Some, None}
use Rattle.page.specs.Settings.{setting_of, code_of, usable, storable, value_bytes, value_size}
use Rattle.page.specs.Page.{is_there}
use Rattle.page.proofs.Pages.{usable-storable}
use Rattle.page.proofs.Settings.{or-true}
use Rattle.message.specs.Fields.{Field, field_bytes}
use Rattle.message.specs.Whole.{refuse}
use Rattle.command.specs.declared.settings.Settings.{Settings}
use Rattle.command.specs.declared.command.Command.{Command}
use Rattle.command.specs.declared.command.Subject.{Subject}
use Rattle.command.specs.declared.command.Subject.TheVariants.{Ping, Setting as About, Unknown}
use Rattle.command.specs.Rights.{all_rights}
use Rattle.command.specs.Command.{command_of, value_for, subject_of}
use Rattle.command.specs.Errors.{is_kind, field_error, field_wrong, is_function, alters}
use Rattle.command.specs.Effects.{loading, Effect, leaving, function_effect, effect_on, effect_of}
use Rattle.command.specs.Outcome.{Access, State, field_outcome}
use Rattle.client.specs.Writer.{acceptable, field_on, field_for, kind_for, Asked, asked_subject, asked_right}
use Rattle.client.specs.Commands.{error_for, effect_for, asks_to_read, asked_outcome}
use Rattle.stream.proofs.Bools.{differ, and_both}
use Rattle.client.proofs.Tests.{usable_below}
use Rattle.client.proofs.Commands.{about_back, subject_ping, subject_about}

-- ---- a function of a setting

-- A command's error where nothing is denied, and its effect.
pub record Does (c : Command) (n : (Setting → Option ℕ) → ℕ) (e : (Setting → Option ℕ) → Settings → Effect) : Type 0 where
  pub error : (loaded : Setting → Option ℕ) → field_error 0 loaded c ≡ n loaded
  pub effect : (loaded : Setting → Option ℕ) (w : Settings) → effect_of 0 loaded w c ≡ e loaded w

-- Function 1 with the bytes of a usable value.
baud_used : (a b c d v : ℕ) → word a b c d ≡ v → usable Baud v ≡ true → storable Baud v ≡ true
    → Does (command_of 0x02 (record { code = 0x01; size = 5; content = 1 ∷ a ∷ b ∷ c ∷ d ∷ [] })) (λ loaded. 0) (λ loaded w. function_effect 1 loaded w Baud v)
unfolding command_of field_error effect_of field_wrong subject_of setting_of
baud_used a b c d v e h k = record { error = λ loaded. rw (e, k, h); effect = λ loaded w. rw (e, k, h) }

accelerometer_used : (a : ℕ) → usable Accelerometer a ≡ true → storable Accelerometer a ≡ true
    → Does (command_of 0x02 (record { code = 0x07; size = 2; content = 1 ∷ a ∷ [] })) (λ loaded. 0) (λ loaded w. function_effect 1 loaded w Accelerometer a)
unfolding command_of field_error effect_of field_wrong subject_of setting_of
accelerometer_used a h k = record { error = λ loaded. rw (k, h); effect = λ loaded w. rw (k, h) }

gyroscope_used : (a : ℕ) → usable Gyroscope a ≡ true → storable Gyroscope a ≡ true
    → Does (command_of 0x02 (record { code = 0x08; size = 2; content = 1 ∷ a ∷ [] })) (λ loaded. 0) (λ loaded w. function_effect 1 loaded w Gyroscope a)
unfolding command_of field_error effect_of field_wrong subject_of setting_of
gyroscope_used a h k = record { error = λ loaded. rw (k, h); effect = λ loaded w. rw (k, h) }

-- The field of a setting's function, with its value or without.
abbrev pub setting_field : Bool → Setting → ℕ → ℕ → Field
setting_field true s f v = record { code = code_of s; size = 1 + length (value_bytes s v); content = f ∷ value_bytes s v }
setting_field false s f v = record { code = code_of s; size = 1; content = f ∷ [] }

setting_code : (t : Bool) (s : Setting) (f v : ℕ) → (setting_field t s f v).code ≡ code_of s
setting_code true s f v = refl
setting_code false s f v = refl

used : (s : Setting) (v : ℕ) → usable s v ≡ true → Does (command_of 0x02 (setting_field true s 1 v)) (λ loaded. 0) (λ loaded w. function_effect 1 loaded w s v)
used Baud v h =
    let b = usable_below Baud v h in
    let t : v / 16777216 % 256 ≡ v / 16777216 = omega arith in
    let e : word (v / 16777216 % 256) (v / 65536 % 256) (v / 256 % 256) (v % 256) ≡ v = rw t (omega arith) in
    baud_used (v / 16777216 % 256) (v / 65536 % 256) (v / 256 % 256) (v % 256) v e h (usable-storable Baud v h)
used Accelerometer v h =
    let b = usable_below Accelerometer v h in
    let e : v % 256 ≡ v = omega arith in
    rw e (accelerometer_used v h (usable-storable Accelerometer v h))
used Gyroscope v h =
    let b = usable_below Gyroscope v h in
    let e : v % 256 ≡ v = omega arith in
    rw e (gyroscope_used v h (usable-storable Gyroscope v h))

-- The functions 2 to 5 do not look at the value.
unseen : (f : ℕ) → eqb f 1 ≡ false → (loaded : Setting → Option ℕ) (w : Settings) (s : Setting) (x y : ℕ)
    → function_effect f loaded w s x ≡ function_effect f loaded w s y
unseen zero n loaded w s x y = refl
unseen (suc zero) n loaded w s x y = differ n
unseen (suc (suc zero)) n loaded w s x y = refl
unseen (suc (suc (suc zero))) n loaded w s x y = refl
unseen (suc (suc (suc (suc zero)))) n loaded w s x y = refl
unseen (suc (suc (suc (suc (suc f))))) n loaded w s x y = refl

-- Where nothing is loaded, function 4 leaves the settings, with its error and without.
left_alone : (f : ℕ) (loaded : Setting → Option ℕ) (w : Settings) (s : Setting) (x : ℕ)
    → effect_on (error_for (About s) loaded f) (function_effect f loaded w s x) w ≡ function_effect f loaded w s x
left_alone zero loaded w s x = refl
left_alone (suc zero) loaded w s x = refl
left_alone (suc (suc zero)) loaded w s x = refl
left_alone (suc (suc (suc zero))) loaded w s x = refl
left_alone (suc (suc (suc (suc zero)))) loaded w s x = go (loaded s)
  where
    go : (o : Option ℕ) → effect_on (refuse (not (is_there o)) 6 0) (leaving (loading w s o)) w ≡ leaving (loading w s o)
    go None = refl
    go (Some y) = refl
left_alone (suc (suc (suc (suc (suc f))))) loaded w s x = rw (ne_eqb (suc (suc (suc (suc (suc f))))) 4 (λ e. omega arith))

without_value : (s : Setting) (f v : ℕ) → is_function f ≡ true → eqb f 1 ≡ false
    → Does (command_of 0x02 (setting_field false s f v)) (λ loaded. error_for (About s) loaded f) (λ loaded w. function_effect f loaded w s v)
unfolding command_of field_error effect_of field_wrong
without_value s f v i n =
    let b = and_both (leb 1 f) (leb f 5) i in
    let z = or-true (eqb 1 (1 + value_size s)) in
    record {
      error = λ loaded. rw (about_back s, n, z, b.0, b.1);
      effect = λ loaded w.
          rw (about_back s, n, z, b.0, b.1)
          (left_alone f loaded w s (value_for s (command_of 0x02 (setting_field false s f v)))
          ∙ unseen f n loaded w s (value_for s (command_of 0x02 (setting_field false s f v))) v);
    }

about_does : (s : Setting) (f v : ℕ) → acceptable (About s) f v ≡ true
    → Does (command_of 0x02 (setting_field (eqb f 1) s f v)) (λ loaded. error_for (About s) loaded f) (λ loaded w. function_effect f loaded w s v)
unfolding acceptable
about_does s f v a = go (eqb f 1) refl
  where
    b : (is_function f ≡ true) × (not (eqb f 1) || usable s v ≡ true)
    b = and_both (is_function f) (not (eqb f 1) || usable s v) a

    go : (t : Bool) → eqb f 1 ≡ t
        → Does (command_of 0x02 (setting_field (eqb f 1) s f v)) (λ loaded. error_for (About s) loaded f) (λ loaded w. function_effect f loaded w s v)
    go true e = let o : f ≡ 1 = eqb-true f 1 e in rw o (used s v (rw e at b.1))
    go false e = rw e (without_value s f v b.0 e)

-- ---- any subject

-- The field of its function, with the value or without.
abbrev pub subject_field : Subject → ℕ → ℕ → Field
subject_field Ping f v = record { code = 0x02; size = 0x00; content = [] }
subject_field (About s) f v = setting_field (eqb f 1) s f v
subject_field Unknown f v = record { code = 0; size = 0; content = [] }

does : (s : Subject) (f v : ℕ) → acceptable s f v ≡ true
    → Does (command_of (kind_for s) (subject_field s f v)) (λ loaded. error_for s loaded f) (λ loaded w. effect_for s loaded w f v)
unfolding acceptable command_of field_error effect_of field_wrong subject_of
does Ping f v a = record { error = λ loaded. refl; effect = λ loaded w. refl }
does (About s) f v a = about_does s f v a
does Unknown f v a = differ (sym a)

-- Its bytes, at most 7, and its size.
pub field_bytes_lem : (s : Subject) (f v : ℕ) → acceptable s f v ≡ true → field_bytes (subject_field s f v) ≡ field_for s f v
unfolding acceptable
field_bytes_lem Ping f v a = refl
field_bytes_lem (About s) f v a = go (eqb f 1)
  where
    go : (t : Bool) → field_bytes (setting_field t s f v) ≡ field_on t (code_of s) f (value_bytes s v)
    go true = refl
    go false = refl
field_bytes_lem Unknown f v a = differ (sym a)

pub field_sized : (s : Subject) (f v : ℕ) → (subject_field s f v).size ≡ length (subject_field s f v).content
field_sized Ping f v = refl
field_sized (About s) f v = go (eqb f 1)
  where
    go : (t : Bool) → (setting_field t s f v).size ≡ length (setting_field t s f v).content
    go true = omega arith
    go false = refl
field_sized Unknown f v = refl

pub field_most : (s : Subject) (f v : ℕ) → length (field_for s f v) ≤ 7
field_most Ping f v = omega arith
field_most (About s) f v = go (eqb f 1) s
  where
    go : (t : Bool) (s : Setting) → length (field_on t (code_of s) f (value_bytes s v)) ≤ 7
    go true Baud = omega arith
    go true Accelerometer = omega arith
    go true Gyroscope = omega arith
    go false s = omega arith
field_most Unknown f v = omega arith

-- ---- what is asked for

-- The field that is written for it.
abbrev pub field_as : ℕ → Asked → Field
field_as kind a = subject_field (asked_subject kind a) a.function a.value

-- Of an acceptable one: the type is one of a command, the code is the field's, and the field does what is asked.
pub record Right (kind : ℕ) (a : Asked) : Type 0 where
  pub kind_right : is_kind kind ≡ true
  pub code_right : (command_of kind (field_as kind a)).code ≡ a.code
  pub obeyed : Does (command_of kind (field_as kind a)) (λ loaded. error_for (asked_subject kind a) loaded a.function)
      (λ loaded w. effect_for (asked_subject kind a) loaded w a.function a.value)

pub asked_right_lem : (kind : ℕ) (a : Asked) → asked_right kind a ≡ true → Right kind a
unfolding acceptable command_of
asked_right_lem kind a h = go (asked_subject kind a) refl h
  where
    go : (s : Subject) → subject_of kind a.code ≡ s → acceptable s a.function a.value ≡ true → Right kind a
    go Ping e h =
        let k = subject_ping kind a.code e in
        record { kind_right = rw k.0; code_right = rw (e, k.1); obeyed = rw (e, k.0) (does Ping a.function a.value h) }
    go (About s) e h =
        let k = subject_about kind a.code s e in
        record {
          kind_right = rw k.0;
          code_right = rw (e, k.1) (setting_code (eqb a.function 1) s a.function a.value);
          obeyed = rw (e, k.0) (does (About s) a.function a.value h);
        }
    go Unknown e h = differ (sym h)

module _ {P : Type 0} (access : Access P) (kind : ℕ) where
  pub field_obeyed : (x : State P) (a : Asked) → asked_right kind a ≡ true → field_outcome access all_rights x (command_of kind (field_as kind a)) ≡ asked_outcome access kind x a
  unfolding field_outcome effect_of
  field_obeyed x a h =
      let r = asked_right_lem kind a h in
      rw (r.obeyed.effect (access.loaded x.page) x.settings, r.obeyed.error (access.loaded x.page), r.code_right)

-- A field that is written for Ping or function 2 asks for no function 1, 3, 4 or 5.
pub field_reads : (kind : ℕ) (a : Asked) → asks_to_read (asked_subject kind a) a.function ≡ true
    → alters (subject_of kind (field_as kind a).code) (command_of kind (field_as kind a)) ≡ false
unfolding command_of subject_of
field_reads kind a h = go (asked_subject kind a) refl h
  where
    go : (s : Subject) → subject_of kind a.code ≡ s → asks_to_read s a.function ≡ true
        → alters (subject_of kind (subject_field s a.function a.value).code) (command_of kind (subject_field s a.function a.value)) ≡ false
    go Ping e h = let k = subject_ping kind a.code e in rw k.0
    go (About s) e h =
        let k = subject_about kind a.code s e in
        let two : a.function ≡ 2 = eqb-true a.function 2 h in
        rw (k.0, two, about_back s)
    go Unknown e h = differ (sym h)
