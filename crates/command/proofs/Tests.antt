-- The tests of the error table, case by case.
use Prim.Native.Nat.{ℕ, zero, suc, ◌+◌, ◌≤◌, ◌<◌}
use native.Mathlib.Omega.{arith}
use mathlib.Core.Path.{◌≡◌, refl, sym, ◌∙◌}
use mathlib.Core.Bool.{Bool, true, false, ◌&&◌, ◌||◌, not, or-false, and-true}
use mathlib.Core.List.{List, [], ◌∷◌}
use mathlib.Core.Option.{Option as Maybe, none, some}
use lib.Dec.{eqb, leb, ltb}
use lib.ListN.{length, take}
use Rattle.stream.proofs.Bools.{differ}
use borrow.Author.Tests.{eq-eqb, ne_eqb, le-leb, lt-leb, le-ltb, lt-ltb, leb-true, leb-false, not-true, not-false, ltb-false}
use Rattle.page.specs.declared.setting.Setting.{Setting}
use Rattle.page.specs.declared.setting.Setting.TheVariants.{Baud, Accelerometer, Gyroscope}
use Rattle.std.specs.Prelude.{Option}
use Rattle.page.specs.Settings.{usable, storable, not_on_this_board, value_size}
use Rattle.page.specs.Page.{is_there}
use Rattle.page.proofs.Pages.{usable-storable}
use Rattle.command.specs.declared.rights.Rights.{Rights}
use Rattle.command.specs.declared.settings.Settings.{Settings}
use Rattle.command.specs.declared.command.Command.{Command}
use Rattle.command.specs.declared.command.Subject.{Subject}
use Rattle.command.specs.declared.command.Subject.TheVariants.{Ping, Setting as About, Unknown}
use Rattle.command.specs.Command.{value_for, subject_of}
use Rattle.message.specs.Fields.{Field, cons_field, fields_past, fields_of}
use Rattle.message.specs.Whole.{refuse}
use Rattle.command.specs.Errors.{is_unknown, is_function, size_right, function_right, field_wrong, not_on_board, field_error, alters, nonzero, denied, fields_refused, is_kind, command_error}
use Rattle.command.specs.Handle.{fields_in}
use Rattle.command.specs.Effects.{settings_usable}
use Rattle.command.specs.Outcome.{denial_of}
use Rattle.command.specs.Answer.{page_access}

-- ---- the size

module _ (full size function : ℕ) where
  pub size_full : size ≡ full → true ≡ eqb size full || eqb size 1 && not (eqb function 1)
  size_full e = rw (eq-eqb size full e)

  pub size_neither : (size ≡ full → ⊥) → (size ≡ 1 → ⊥) → false ≡ eqb size full || eqb size 1 && not (eqb function 1)
  size_neither e h = rw (ne_eqb size full e, ne_eqb size 1 h)

  pub size_one : (size ≡ full → ⊥) → size ≡ 1 → not (eqb function 1) ≡ eqb size full || eqb size 1 && not (eqb function 1)
  size_one e h = rw (ne_eqb size full e, eq-eqb size 1 h)

-- ---- a setting's field

pub size_most : (s : Setting) → value_size s ≤ 4
size_most Baud = omega arith
size_most Accelerometer = omega arith
size_most Gyroscope = omega arith

-- Its own error: 4, then 6.
abbrev pub own_error : Subject → (Setting → Option ℕ) → Command → ℕ
own_error subject loaded c = refuse (field_wrong subject c) 4 (refuse (not_on_board subject loaded c) 6 0)

-- Its size and its function.
abbrev malformed : Setting → Command → Bool
malformed s c = not (size_right (About s) c) || not (function_right (About s) c)

module _ (s : Setting) (c : Command) (v n : ℕ) (vs : v ≡ value_size s) (ns : n ≡ c.size) (b : Bool)
    (is : b ≡ eqb n (1 + v) || eqb n 1 && not (eqb c.function 1)) where
  size_is : b ≡ eqb c.size (1 + value_size s) || eqb c.size 1 && not (eqb c.function 1)
  size_is = rw (← vs, ← ns) is

  pub wrong_size : not b ≡ true → true ≡ malformed s c
  wrong_size e = rw (← size_is, not-true b e)

  module _ (right : not b ≡ false) where
    pub wrong_low : c.function < 1 → true ≡ malformed s c
    wrong_low h = rw (← size_is, not-false b right, lt-leb 1 c.function h)

    pub wrong_high : 1 ≤ c.function → ltb 5 c.function ≡ malformed s c
    wrong_high g = rw (← size_is, not-false b right, le-leb 1 c.function g) (above 5 c.function)
      where
        above : (m n : ℕ) → ltb m n ≡ not (leb n m)
        above m n = go (leb n m) refl
          where
            go : (b : Bool) → leb n m ≡ b → ltb m n ≡ not (leb n m)
            go true e = rw (e, le-ltb m n (leb-true n m e))
            go false e = rw (e, lt-ltb m n (leb-false n m e))

module _ (loaded : Setting → Option ℕ) (s : Setting) (c : Command) (m : Bool) (ms : m ≡ malformed s c) where
  pub own_malformed : m ≡ true → 4 ≡ own_error (About s) loaded c
  unfolding field_wrong
  own_malformed e = rw (← ms, e)

  module _ (formed : m ≡ false) where
    pub own_value : c.function ≡ 1 → (x : ℕ) → x ≡ value_for s c → (r : ℕ) → r ≡ refuse (not (storable s x)) 4 (refuse (not_on_this_board s x) 6 0)
        → r ≡ own_error (About s) loaded c
    unfolding field_wrong
    own_value h x xs r rs =
        let n : eqb c.function 4 ≡ false = ne_eqb c.function 4 (λ f. omega arith) in
        rs ∙ rw (← ms, formed, eq-eqb c.function 1 h, n, ← xs, or-false (not_on_this_board s x))

    pub own_load : (c.function ≡ 1 → ⊥) → c.function ≡ 4 → (r : ℕ) → r ≡ refuse (not (is_there (loaded s))) 6 0 → r ≡ own_error (About s) loaded c
    unfolding field_wrong
    own_load n h r rs = rs ∙ rw (← ms, formed, ne_eqb c.function 1 n, eq-eqb c.function 4 h)

    pub own_other : (c.function ≡ 1 → ⊥) → (c.function ≡ 4 → ⊥) → 0 ≡ own_error (About s) loaded c
    unfolding field_wrong
    own_other n k = rw (← ms, formed, ne_eqb c.function 1 n, ne_eqb c.function 4 k)

-- The error of a value sent with function 1.
module _ (s : Setting) (x : ℕ) (a : Bool) (as' : a ≡ usable s x) where
  abbrev value_error : ℕ
  value_error = refuse (not (storable s x)) 4 (refuse (not_on_this_board s x) 6 0)

  pub value_usable : a ≡ true → 0 ≡ value_error
  value_usable e = let u : usable s x ≡ true = sym as' ∙ e in rw (usable-storable s x u, u)

  module _ (n : a ≡ false) (b : Bool) (bs : b ≡ storable s x) where
    pub value_not_here : b ≡ true → 6 ≡ value_error
    value_not_here e = rw (← bs, e, ← as', n)

    pub value_wrong : b ≡ false → 4 ≡ value_error
    value_wrong e = rw (← bs, e)

-- ---- any field

abbrev pub undenied_error : Subject → (Setting → Option ℕ) → Command → ℕ
undenied_error subject loaded c = refuse (is_unknown subject) 3 (own_error subject loaded c)

module _ (subject : Subject) (loaded : Setting → Option ℕ) (c : Command) where
  pub own_ping : subject ≡ Ping → (r : ℕ) → r ≡ refuse (not (eqb c.size 0)) 4 0 → r ≡ undenied_error subject loaded c
  unfolding field_wrong
  own_ping e r h = h ∙ rw (e, or-false, or-false)

  pub own_setting : (s : Setting) → subject ≡ About s → (r : ℕ) → r ≡ own_error (About s) loaded c → r ≡ undenied_error subject loaded c
  own_setting s e r w = rw e w

  pub own_unknown : subject ≡ Unknown → 3 ≡ undenied_error subject loaded c
  own_unknown e = rw e

-- ---- functions 1, 3, 4 and 5

module _ (f : ℕ) where
  pub altering_low : f < 1 → false ≡ is_function f && not (eqb f 2)
  altering_low h = rw (lt-leb 1 f h)

  pub altering_two : f ≡ 2 → false ≡ is_function f && not (eqb f 2)
  altering_two e = rw e

  pub altering_but : 1 ≤ f → (f ≡ 2 → ⊥) → leb f 5 ≡ is_function f && not (eqb f 2)
  altering_but l n = rw (le-leb 1 f l, ne_eqb f 2 n, and-true (leb f 5))

module _ (subject : Subject) (c : Command) where
  pub alters_setting : (s : Setting) → subject ≡ About s → (r : Bool) → r ≡ is_function c.function && not (eqb c.function 2) → r ≡ alters subject c
  alters_setting s e r h = rw (e, h)

-- What is denied under some rights.
module _ (rights : Rights) (page : List ℕ) where
  abbrev denial : ℕ
  denial = denial_of page_access rights page

  pub denies_all : rights.readonly ≡ true → 7 ≡ denial
  denies_all e = rw e

  module _ (e : rights.readonly ≡ false) where
    pub denies_nothing : not rights.guarded ≡ true → 0 ≡ denial
    denies_nothing h = rw (e, not-true rights.guarded h)

pub denied_asked : (denial : ℕ) (subject : Subject) (c : Command) → (denial ≡ 0 → ⊥) → (r : Bool) → r ≡ alters subject c → r ≡ denied denial subject c
denied_asked zero subject c n r e = absurd (n refl)
denied_asked (suc d) subject c n r e = e

-- Only a code of its type is denied.
denied_known : (denial : ℕ) (subject : Subject) (c : Command) → denied denial subject c ≡ true → is_unknown subject ≡ false
denied_known n Ping c e = refl
denied_known n (About s) c e = refl
denied_known zero Unknown c e = differ (sym e)
denied_known (suc d) Unknown c e = differ (sym e)

-- The field's error, with what it is about.
module _ (denial : ℕ) (loaded : Setting → Option ℕ) (c : Command) (subject : Subject) (is : subject ≡ subject_of c.kind c.code) (d : Bool)
    (ds : d ≡ denied denial subject c) where
  pub error_denied : d ≡ true → denial ≡ field_error denial loaded c
  unfolding field_error
  error_denied e = rw (← is, denied_known denial subject c (sym ds ∙ e), ← ds, e)

  pub error_own : d ≡ false → (r : ℕ) → r ≡ undenied_error subject loaded c → r ≡ field_error denial loaded c
  unfolding field_error
  error_own e r rs = rs ∙ rw (← is, ← ds, e)

-- ---- a command as a whole

-- Its error, test by test.
module _ (kind : ℕ) (payload : List ℕ) (k : Bool) (ks : k ≡ is_kind kind) where
  pub error_other : not k ≡ true → 2 ≡ command_error kind payload
  unfolding command_error
  error_other e = rw (← ks, e)

  module _ (known : not k ≡ false) where
    pub error_empty : length payload ≡ 0 → 3 ≡ command_error kind payload
    unfolding command_error
    error_empty h = rw (← ks, known, eq-eqb (length payload) 0 h)

    module _ (some : length payload ≡ 0 → ⊥) (fit : Bool) (is : fit ≡ not (fields_refused (fields_of payload))) where
      pub error_fit : fit ≡ true → 0 ≡ command_error kind payload
      unfolding command_error
      error_fit e = rw (← ks, known, ne_eqb (length payload) 0 some, not-true (fields_refused (fields_of payload)) (sym is ∙ e))

      pub error_unfit : fit ≡ false → 4 ≡ command_error kind payload
      unfolding command_error
      error_unfit e = rw (← ks, known, ne_eqb (length payload) 0 some, not-false (fields_refused (fields_of payload)) (sym is ∙ e))

-- A chain of tests gives 0 only where none holds.
pub none-refused : (b : Bool) (n next : ℕ) → refuse b (suc n) next ≡ 0 → (b ≡ false) × (next ≡ 0)
none-refused false n next e = (refl, e)
none-refused true n next e = let z : suc n ≡ 0 = e in absurd (omega arith)

-- A denial that gives 0 is none.
pub none-denied : (denial : ℕ) (altering : Bool) (next : ℕ) → refuse (nonzero denial && altering) denial next ≡ 0 → next ≡ 0
none-denied zero altering next e = e
none-denied (suc d) true next e = let z : suc d ≡ 0 = e in absurd (omega arith)
none-denied (suc d) false next e = e

-- A command that is not refused as a whole has passed all tests.
pub record Passed (kind : ℕ) (payload : List ℕ) : Type 0 where
  pub kind_known : eqb kind 0x01 || eqb kind 0x02 ≡ true
  pub some : eqb (length payload) 0 ≡ false
  pub fit : fields_refused (fields_of payload) ≡ false

pub command_passed : (kind : ℕ) (payload : List ℕ) → command_error kind payload ≡ 0 → Passed kind payload
unfolding command_error
command_passed kind payload e =
    let two = none-refused (not (eqb kind 0x01 || eqb kind 0x02)) 1 _ e in
    let three = none-refused (eqb (length payload) 0) 2 _ two.1 in
    let four = none-refused (fields_refused (fields_of payload)) 3 0 three.1 in
    record {
      kind_known = not-false (eqb kind 0x01 || eqb kind 0x02) two.0;
      some = three.0;
      fit = four.0;
    }

-- Fields that are not refused are at most 16.
pub few_fields : (o : Maybe (List Field)) → fields_refused o ≡ false → length (fields_in o) ≤ 16
few_fields none e = differ e
few_fields (some fs) e = ltb-false 16 (length fs) e

-- It has 1 to 16 fields.
pub fields_some : (kind : ℕ) (payload : List ℕ) → command_error kind payload ≡ 0
    → (1 ≤ length (fields_in (fields_of payload))) × (length (fields_in (fields_of payload)) ≤ 16)
unfolding fields_of
fields_some kind payload e =
    let p = command_passed kind payload e in
    go payload p.some (fields_past 0 payload) refl p.fit
  where
    none_first : (f : Field) (o : Maybe (List Field)) → cons_field f o ≡ some [] → ⊥
    none_first f none e = let z : ◌≡◌ {A = ℕ} 0 1 = cc in absurd (omega arith)
    none_first f (some fs) e = let z : ◌≡◌ {A = ℕ} 0 1 = cc in absurd (omega arith)

    never_none : (payload : List ℕ) → eqb (length payload) 0 ≡ false → fields_past 0 payload ≡ some [] → ⊥
    never_none [] s e = let z : ◌≡◌ {A = ℕ} 0 1 = cc in absurd (omega arith)
    never_none (b ∷ []) s e = let z : ◌≡◌ {A = ℕ} 0 1 = cc in absurd (omega arith)
    never_none (b ∷ n ∷ bs) s e = none_first (record { code = b; size = n; content = take n bs }) (fields_past n bs) e

    go : (payload : List ℕ) → eqb (length payload) 0 ≡ false → (o : Maybe (List Field)) → fields_past 0 payload ≡ o → fields_refused (fields_past 0 payload) ≡ false
        → (1 ≤ length (fields_in (fields_past 0 payload))) × (length (fields_in (fields_past 0 payload)) ≤ 16)
    go payload s none e r = let b : true ≡ false = rw e at r in let z : ◌≡◌ {A = ℕ} 0 1 = cc in absurd (omega arith)
    go payload s (some []) e r = absurd (never_none payload s e)
    go payload s (some (f ∷ fs)) e r =
        let b : ltb 16 (length (f ∷ fs)) ≡ false = rw e at r in
        let l : length (f ∷ fs) ≤ 16 = ltb-false 16 (length (f ∷ fs)) b in
        rw e (omega arith, l)

module _ (kind : ℕ) where
  pub kind_one : kind ≡ 0x01 → true ≡ eqb kind 0x01 || eqb kind 0x02
  kind_one e = rw (eq-eqb kind 0x01 e)

  pub kind_other : (kind ≡ 0x01 → ⊥) → eqb kind 0x02 ≡ eqb kind 0x01 || eqb kind 0x02
  kind_other e = rw (ne_eqb kind 0x01 e)

-- ---- the working values

module _ (w : Settings) (a : Bool) (ok : a ≡ usable Baud w.baud) where
  pub baud_not : not a ≡ true → false ≡ settings_usable w
  unfolding settings_usable
  baud_not e = rw (← ok, not-true a e)

  module _ (n : not a ≡ false) (x : ℕ) (xs : x ≡ w.accelerometer) (b : Bool) (bs : b ≡ usable Accelerometer x) where
    baud_right : a ≡ true
    baud_right = not-false a n

    pub accelerometer_not : not b ≡ true → false ≡ settings_usable w
    unfolding settings_usable
    accelerometer_not f = rw (← ok, baud_right, ← xs, ← bs, not-true b f)

    pub all_tested : not b ≡ false → (y : ℕ) → y ≡ w.gyroscope → (g : Bool) → g ≡ usable Gyroscope y → g ≡ settings_usable w
    unfolding settings_usable
    all_tested f y ys g gs = rw (← ok, baud_right, ← xs, ← bs, not-false b f, ← ys, ← gs)
