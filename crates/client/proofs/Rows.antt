-- The rows of a reply on its bytes: the row at the front, and the rows behind it.
use Prim.Native.Nat.{ℕ, suc, ◌+◌, ◌≤◌, ◌<◌}
use native.Mathlib.Omega.{arith}
use mathlib.Core.Path.{◌≡◌, refl, sym, ◌∙◌}
use mathlib.Core.Bool.{Bool, true, false, ◌&&◌}
use mathlib.Core.List.{List, [], ◌∷◌}
use mathlib.Core.Option.{Option as Maybe, none, some}
use lib.Dec.{eqb, leb, ltb}
use lib.ListN.{length, take, drop, get_or}
use lib.Seq.{length-take-le}
use borrow.Author.Tests.{eqb-true, leb-true, leb-false, le-leb, lt-leb, lt-ltb}
use Rattle.word.specs.Word.{number}
use Rattle.page.specs.declared.setting.Setting.{Setting}
use Rattle.std.specs.Prelude.{Option, Some, None}
use Rattle.page.specs.Settings.{setting_of, code_of, value_size, readable}
use Rattle.message.specs.Fields.{Field, cons_field, fields_past, fields_of}
use Rattle.message.proofs.FieldRows.{past_there, past_short}
use Rattle.page.specs.Loading.{value_on}
use Rattle.client.specs.Reader.{carries_values, Row, is_error, is_row, value_in, value_if, value_after, cons_row, rows_of, rows_in}
use Rattle.client.specs.Rows.{starts_with_value, coded_size, size_if, value_field_size, starts_with_row, row_size, row_in}
use Rattle.stream.proofs.Bools.{differ, and_both}
use Rattle.client.proofs.Tests.{size_some, size_small}

-- ---- no row

-- Fields of which the first is no row are no rows.
not_rows : (kind : ℕ) (f : Field) (o : Maybe (List Field)) → is_row f ≡ false → rows_in kind (cons_field f o) ≡ none
unfolding rows_of
not_rows kind f none e = refl
not_rows kind f (some []) e = rw e
not_rows kind f (some (g ∷ fs)) e = rw e

no_row : (kind : ℕ) (bs : List ℕ) → 0 < length bs → starts_with_row bs ≡ false → rows_in kind (fields_of bs) ≡ none
unfolding fields_of
no_row kind [] l e = absurd (omega arith)
no_row kind (a ∷ []) l e = refl
no_row kind (a ∷ n ∷ bs) l e = go (eqb a 0x80) refl (eqb n 2) refl
  where
    -- a field 80 of size 2, with its two bytes or less
    two : (bs : List ℕ) → starts_with_row (0x80 ∷ 2 ∷ bs) ≡ false
        → rows_in kind (cons_field (record { code = 0x80; size = 2; content = take 2 bs }) (fields_past 2 bs)) ≡ none
    two [] e = refl
    two (c ∷ []) e = refl
    two (c ∷ d ∷ bs) e =
        let l : leb 4 (length (0x80 ∷ 2 ∷ c ∷ d ∷ bs)) ≡ true = le-leb 4 (length (0x80 ∷ 2 ∷ c ∷ d ∷ bs)) (omega arith) in
        not_rows kind (record { code = 0x80; size = 2; content = c ∷ d ∷ [] }) (fields_past 0 bs) (rw l at e)

    go : (x : Bool) → eqb a 0x80 ≡ x → (y : Bool) → eqb n 2 ≡ y
        → rows_in kind (cons_field (record { code = a; size = n; content = take n bs }) (fields_past n bs)) ≡ none
    go true p true q =
        let s : a ≡ 0x80 = eqb-true a 0x80 p in
        let t : n ≡ 2 = eqb-true n 2 q in
        let h : starts_with_row (0x80 ∷ 2 ∷ bs) ≡ false = rw (s, t) at e in
        rw (s, t) (two bs h)
    go true p false q = not_rows kind (record { code = a; size = n; content = take n bs }) (fields_past n bs) (rw (p, q))
    go false p y q = not_rows kind (record { code = a; size = n; content = take n bs }) (fields_past n bs) (rw p)

-- ---- a row with what follows it

-- A field whose code, size and value are a setting's, with all its bytes there.
value_field_lem : (s : Setting) (x n : ℕ) (ys : List ℕ) → n ≤ length ys
    → value_in (Some s) (record { code = x; size = n; content = take n ys }) ≡ value_on (starts_with_value s (x ∷ n ∷ ys)) (number (take n ys))
unfolding starts_with_value
value_field_lem s x n ys h = go (eqb n (value_size s)) refl
  where
    go : (t : Bool) → eqb n (value_size s) ≡ t
        → value_in (Some s) (record { code = x; size = n; content = take n ys })
        ≡ value_on (leb (value_size s + 2) (length (x ∷ n ∷ ys)) && eqb x (code_of s) && eqb n (value_size s) && readable s (number (take (value_size s) ys))) (number (take n ys))
    go true p =
        let e : n ≡ value_size s = eqb-true n (value_size s) p in
        rw (le-leb (value_size s + 2) (length (x ∷ n ∷ ys)) (omega arith), ← e)
    go false p = rw p (none_of (eqb x (code_of s)) (leb (value_size s + 2) (length (x ∷ n ∷ ys))) (readable s (number (take n ys))) (readable s (number (take (value_size s) ys))))
      where
        none_of : (a b c d : Bool) → value_on (a && false && c) (number (take n ys)) ≡ value_on (b && a && false && d) (number (take n ys))
        none_of true true c d = refl
        none_of true false c d = refl
        none_of false true c d = refl
        none_of false false c d = refl

-- The field 80 of an echo and an error.
abbrev pub row_field : ℕ → ℕ → Field
row_field echo error = record { code = 0x80; size = 2; content = echo ∷ error ∷ [] }

-- What a field with n bytes of data adds to a row before it: nothing, or its value.
data Adds (n : ℕ) (ys : List ℕ) (v : Option ℕ) (m : ℕ) : Type 0 where
  nothing : v ≡ None → m ≡ 0 → Adds n ys v m
  value : v ≡ Some (number (take n ys)) → m ≡ n + 2 → 1 ≤ n → n ≤ 4 → Adds n ys v m

-- Where a field has a value, it has the setting's size, and its bytes are there.
there : (s : Setting) (x n : ℕ) (ys : List ℕ) → starts_with_value s (x ∷ n ∷ ys) ≡ true → (n ≡ value_size s) × (n ≤ length ys)
unfolding starts_with_value
there s x n ys e =
    let a = and_both (leb (value_size s + 2) (length (x ∷ n ∷ ys)) && eqb x (code_of s) && eqb n (value_size s)) (readable s (number (take (value_size s) ys))) e in
    let b = and_both (leb (value_size s + 2) (length (x ∷ n ∷ ys)) && eqb x (code_of s)) (eqb n (value_size s)) a.0 in
    let c = and_both (leb (value_size s + 2) (length (x ∷ n ∷ ys))) (eqb x (code_of s)) b.0 in
    let z : n ≡ value_size s = eqb-true n (value_size s) b.1 in
    (z, omega (arith, leb-true (value_size s + 2) (length (x ∷ n ∷ ys)) c.0))

module _ (kind echo error x n : ℕ) (ys : List ℕ) (h : n ≤ length ys) where
  adds : Adds n ys (value_after kind (row_field echo error) (record { code = x; size = n; content = take n ys })) (value_field_size kind echo error (x ∷ n ∷ ys))
  unfolding value_after value_field_size
  adds = go (carries_values kind && eqb error 0) (setting_of echo)
    where
      known : (s : Setting) (b : Bool) → starts_with_value s (x ∷ n ∷ ys) ≡ b
          → Adds n ys (value_in (Some s) (record { code = x; size = n; content = take n ys })) (coded_size (Some s) (x ∷ n ∷ ys))
      known s true e =
          let z : n ≡ value_size s = (there s x n ys e).0 in
          value (value_field_lem s x n ys h ∙ rw e) (rw (e, z)) (omega (arith, size_some s)) (omega (arith, size_small s))
      known s false e = nothing (value_field_lem s x n ys h ∙ rw e) (rw e)

      go : (t : Bool) (c : Option Setting) → Adds n ys (value_if t (value_in c (record { code = x; size = n; content = take n ys }))) (size_if t (coded_size c (x ∷ n ∷ ys)))
      go true None = nothing refl refl
      go true (Some s) = known s (starts_with_value s (x ∷ n ∷ ys)) refl
      go false c = nothing refl refl

-- Where no setting's value stands, none is added.
none_added : (kind echo error : ℕ) (bs : List ℕ) → ((s : Setting) → starts_with_value s bs ≡ false) → value_field_size kind echo error bs ≡ 0
unfolding value_field_size
none_added kind echo error bs h = go (carries_values kind && eqb error 0) (setting_of echo)
  where
    go : (t : Bool) (c : Option Setting) → size_if t (coded_size c bs) ≡ 0
    go true None = refl
    go true (Some s) = rw (h s)
    go false c = refl

short_added : (kind echo error : ℕ) (bs : List ℕ) → length bs < 2 → value_field_size kind echo error bs ≡ 0
unfolding starts_with_value
short_added kind echo error bs h = none_added kind echo error bs (λ s. rw (lt-leb (value_size s + 2) (length bs) (omega arith)))

cut_added : (kind echo error x n : ℕ) (ys : List ℕ) → length ys < n → value_field_size kind echo error (x ∷ n ∷ ys) ≡ 0
cut_added kind echo error x n ys h = none_added kind echo error (x ∷ n ∷ ys) (λ s. go s (starts_with_value s (x ∷ n ∷ ys)) refl)
  where
    go : (s : Setting) (t : Bool) → starts_with_value s (x ∷ n ∷ ys) ≡ t → t ≡ false
    go s true e = let l = (there s x n ys e).1 in absurd (omega arith)
    go s false e = refl

-- The row at the front of some bytes, of z bytes, and the rows behind it.
pub record Front (kind : ℕ) (bs : List ℕ) (z : ℕ) : Type 0 where
  pub least : 4 ≤ z
  pub most : z ≤ 10
  pub fits : z ≤ length bs
  pub rows : rows_in kind (fields_of bs) ≡ cons_row (row_in (take z bs)) (rows_in kind (fields_of (drop z bs)))

module _ (kind echo error : ℕ) (t : is_error error ≡ true) where
  abbrev plain : Row
  plain = record { echo = echo; error = error; value = None }

  plain-front : (rest : List ℕ) → rows_in kind (cons_field (row_field echo error) (fields_past 0 rest)) ≡ cons_row plain (rows_in kind (fields_past 0 rest))
      → value_field_size kind echo error rest ≡ 0 → Front kind (0x80 ∷ 2 ∷ echo ∷ error ∷ rest) (4 + value_field_size kind echo error rest)
  unfolding fields_of row_in
  plain-front rest e z = rw z (record { least = omega arith; most = omega arith; fits = omega arith; rows = e })

  module _ (x n : ℕ) (ys : List ℕ) (h : n ≤ length ys) where
    abbrev second : Field
    second = record { code = x; size = n; content = take n ys }

    plain_rows : (o : Maybe (List Field)) → value_after kind (row_field echo error) second ≡ None
        → rows_in kind (cons_field (row_field echo error) (cons_field second o)) ≡ cons_row plain (rows_in kind (cons_field second o))
    unfolding rows_of
    plain_rows none a = refl
    plain_rows (some fs) a = rw (t, a)

    value_rows : (o : Maybe (List Field)) (v : ℕ) → value_after kind (row_field echo error) second ≡ Some v
        → rows_in kind (cons_field (row_field echo error) (cons_field second o)) ≡ cons_row (record { echo = echo; error = error; value = Some v }) (rows_in kind o)
    unfolding rows_of
    value_rows none v a = refl
    value_rows (some fs) v a = rw (t, a)

    value_front : value_after kind (row_field echo error) second ≡ Some (number (take n ys)) → 1 ≤ n → n ≤ 4
        → Front kind (0x80 ∷ 2 ∷ echo ∷ error ∷ x ∷ n ∷ ys) (4 + (n + 2))
    unfolding fields_of row_in
    value_front a l u =
        let e : 4 + (n + 2) ≡ suc (suc (suc (suc (suc (suc n))))) = omega arith in
        let q : ltb 6 (length (0x80 ∷ 2 ∷ echo ∷ error ∷ x ∷ n ∷ take n ys)) ≡ true =
        lt-ltb 6 (length (0x80 ∷ 2 ∷ echo ∷ error ∷ x ∷ n ∷ take n ys)) (omega (arith, length-take-le n ys h)) in
        record {
          least = omega arith;
          most = omega arith;
          fits = omega arith;
          rows = rw (e, q, ← past_there n ys h) (value_rows (fields_past n ys) (number (take n ys)) a);
        }

    second_front : Front kind (0x80 ∷ 2 ∷ echo ∷ error ∷ x ∷ n ∷ ys) (4 + value_field_size kind echo error (x ∷ n ∷ ys))
    second_front = go (adds kind echo error x n ys h)
      where
        go : Adds n ys (value_after kind (row_field echo error) second) (value_field_size kind echo error (x ∷ n ∷ ys))
            → Front kind (0x80 ∷ 2 ∷ echo ∷ error ∷ x ∷ n ∷ ys) (4 + value_field_size kind echo error (x ∷ n ∷ ys))
        go (nothing a z) = plain-front (x ∷ n ∷ ys) (plain_rows (fields_past n ys) a) z
        go (value a z l u) = rw z (value_front a l u)

  field-front : (rest : List ℕ) → Front kind (0x80 ∷ 2 ∷ echo ∷ error ∷ rest) (4 + value_field_size kind echo error rest)
  unfolding rows_of
  field-front [] = plain-front [] (rw t) (short_added kind echo error [] (omega arith))
  field-front (x ∷ []) = plain-front (x ∷ []) refl (short_added kind echo error (x ∷ []) (omega arith))
  field-front (x ∷ n ∷ ys) = go (leb n (length ys)) refl
    where
      go : (b : Bool) → leb n (length ys) ≡ b → Front kind (0x80 ∷ 2 ∷ echo ∷ error ∷ x ∷ n ∷ ys) (4 + value_field_size kind echo error (x ∷ n ∷ ys))
      go true e = second_front x n ys (leb-true n (length ys) e)
      go false e =
          let l : length ys < n = leb-false n (length ys) e in
          plain-front (x ∷ n ∷ ys) (rw (past_short n ys l)) (cut_added kind echo error x n ys l)

row-front : (kind : ℕ) (bs : List ℕ) → starts_with_row bs ≡ true → Front kind bs (4 + value_field_size kind (get_or bs 2 0) (get_or bs 3 0) (drop 4 bs))
row-front kind [] e = differ (sym e)
row-front kind (a ∷ []) e = differ (sym e)
row-front kind (a ∷ b ∷ []) e = differ (sym e)
row-front kind (a ∷ b ∷ c ∷ []) e = differ (sym e)
row-front kind (a ∷ b ∷ c ∷ d ∷ bs) e =
    let p = and_both (leb 4 (length (a ∷ b ∷ c ∷ d ∷ bs)) && eqb a 0x80 && eqb b 2) (is_error d) e in
    let q = and_both (leb 4 (length (a ∷ b ∷ c ∷ d ∷ bs)) && eqb a 0x80) (eqb b 2) p.0 in
    let r = and_both (leb 4 (length (a ∷ b ∷ c ∷ d ∷ bs))) (eqb a 0x80) q.0 in
    rw (eqb-true a 0x80 r.1, eqb-true b 2 q.1) (field-front kind c d p.1 bs)

-- ---- by the size of the row

module _ (kind : ℕ) (bs : List ℕ) where
  -- Bytes that start with no row are no rows.
  pub size_none : 0 < length bs → row_size kind bs ≡ 0 → rows_in kind (fields_of bs) ≡ none
  unfolding row_size
  size_none l e = go (starts_with_row bs) refl
    where
      go : (t : Bool) → starts_with_row bs ≡ t → rows_in kind (fields_of bs) ≡ none
      go true p = let z : 4 + value_field_size kind (get_or bs 2 0) (get_or bs 3 0) (drop 4 bs) ≡ 0 = rw p at e in absurd (omega arith)
      go false p = no_row kind bs l p

  pub size_front : (row_size kind bs ≡ 0 → ⊥) → Front kind bs (row_size kind bs)
  unfolding row_size
  size_front n = go (starts_with_row bs) refl
    where
      go : (t : Bool) → starts_with_row bs ≡ t → Front kind bs (size_if (starts_with_row bs) (4 + value_field_size kind (get_or bs 2 0) (get_or bs 3 0) (drop 4 bs)))
      go true p = rw p (row-front kind bs p)
      go false p = absurd (n (rw p))
