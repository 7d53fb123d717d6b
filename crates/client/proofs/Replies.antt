-- Every reply that handling writes is read back, row by row.
use Prim.Native.Nat.{ℕ, zero, suc, ◌≤◌}
use native.Mathlib.Omega.{arith}
use mathlib.Core.Path.{◌≡◌, refl, ap, sym, ◌∙◌}
use mathlib.Core.Bool.{Bool, true, false, ◌&&◌, ◌||◌, not, cond}
use mathlib.Core.List.{List, [], ◌∷◌, ◌++◌}
use mathlib.Core.Option.{some}
use lib.Dec.{eqb, ltb}
use lib.ListN.{length, take, get_or}
use lib.Seq.{take_at}
use borrow.Author.Tests.{eq-eqb, ne_eqb, eqb-true, le-leb, le-ltb, lt-ltb}
use Rattle.page.specs.declared.setting.Setting.{Setting}
use Rattle.page.specs.declared.setting.Setting.TheVariants.{Baud, Accelerometer, Gyroscope}
use Rattle.std.specs.Prelude.{Option, Some, None}
use Rattle.page.specs.Settings.{setting_of, code_of, value_size, usable, readable, value_bytes, last_number}
use Rattle.page.proofs.Pages.{usable-readable, value_back}
use Rattle.message.specs.Fields.{Field, fields_past, fields_of}
use Rattle.message.specs.Message.{message_of, sums_right}
use Rattle.message.specs.Whole.{refuse, whole_number}
use Rattle.message.proofs.FieldRows.{past_all}
use Rattle.message.proofs.RoundTrips.{written_is_read}
use Rattle.message.proofs.Writes.{message_length}
use Rattle.command.specs.declared.rights.Rights.{Rights}
use Rattle.command.specs.declared.command.Command.{Command}
use Rattle.command.specs.declared.command.Subject.{Subject}
use Rattle.command.specs.declared.command.Subject.TheVariants.{Ping, Setting as About, Unknown}
use Rattle.command.specs.Rights.{all_rights}
use Rattle.command.specs.Command.{command_of, commands_of, subject_of}
use Rattle.command.specs.Errors.{field_error, command_error, fields_refused, is_kind}
use Rattle.command.specs.Numbers.{numbered_kind, number_of, inner_kind, inner_payload, is_fresh, number_error}
use Rattle.command.specs.Effects.{working_value, value_field, effect_of}
use Rattle.command.specs.Outcome.{State, Received, denial_of, field_outcome, fields_outcome}
use Rattle.command.specs.Handle.{fields_in, refused_outcome, command_on, command_outcome, spent, numbered_on, numbered_outcome, message_outcome}
use Rattle.command.specs.Answer.{loaded_from, number_on, page_access}
use Rattle.command.proofs.Accepts.{denial_most, error_most}
use Rattle.command.proofs.Keeps.{value_usable}
use Rattle.command.proofs.Pages.{Sound, field_goes, page_changes, number_small}
use Rattle.command.proofs.Separate.{longest_reply}
use Rattle.command.proofs.Tests.{command_passed, fields_some}
use Rattle.stream.proofs.Bools.{differ}
use Rattle.client.specs.Reader.{carries_values, several_rows, Row, value_in, value_if, value_after, rows_of, rows_in, row_read, rows_wrong, rows_read, reply_read}
use Rattle.client.specs.Replies.{reported, plain_row, field_rows, command_rows_on, command_rows, numbered_rows_on, message_rows, RepliesRead, OlderRead}
use Rattle.client.proofs.Tests.{value_length}
use Rattle.client.proofs.Commands.{setting_back, subject_about}
use Rattle.client.proofs.Rows.{row_field}

-- ---- bytes that are rows

-- No fields, or a field 80 first: no value for a row before them.
abbrev Starts : List Field → Type 0
Starts [] = Unit {0}
Starts (g ∷ gs) = g.code ≡ 0x80

-- Bytes whose fields are these rows.
record Told (kind : ℕ) (bs : List ℕ) (rs : List Row) : Type 0 where
  pub fields : List Field
  pub are : fields_past 0 bs ≡ some fields
  pub start : Starts fields
  pub rows : rows_of kind fields ≡ some rs

no_told : (kind : ℕ) → Told kind [] []
unfolding rows_of
no_told kind = record { fields = []; are = refl; start = tt; rows = refl }

-- A field 80 adds no value to a row before it.
next_row : (kind echo error : ℕ) (g : Field) → g.code ≡ 0x80 → value_after kind (row_field echo error) g ≡ None
unfolding value_after
next_row kind echo error g e = go (carries_values kind && eqb error 0) (setting_of echo)
  where
    known : (s : Setting) → eqb 0x80 (code_of s) ≡ false
    known Baud = refl
    known Accelerometer = refl
    known Gyroscope = refl

    go : (t : Bool) (c : Option Setting) → value_if t (value_in c g) ≡ None
    go true None = refl
    go true (Some s) = rw (e, known s)
    go false c = refl

-- One row more in front, without a value.
plain_told : (kind echo error : ℕ) → error ≤ 7 → (bs : List ℕ) (rs : List Row) → Told kind bs rs
    → Told kind (0x80 ∷ 0x02 ∷ echo ∷ error ∷ bs) (record { echo = echo; error = error; value = None } ∷ rs)
unfolding rows_of
plain_told kind echo error h bs rs t =
    record { fields = row_field echo error ∷ t.fields; are = rw t.are; start = refl; rows = go t.fields t.start t.rows }
  where
    go : (fs : List Field) → Starts fs → rows_of kind fs ≡ some rs
        → rows_of kind (row_field echo error ∷ fs) ≡ some (record { echo = echo; error = error; value = None } ∷ rs)
    go [] s e = let q : rs ≡ [] = cc in rw (le-leb error 7 h, q)
    go (g ∷ fs) s e = rw (le-leb error 7 h, next_row kind echo error g s, e)

-- One row more, with a setting's value.
value_told : (kind : ℕ) → carries_values kind ≡ true → (s : Setting) (x : ℕ) → usable s x ≡ true → (bs : List ℕ) (rs : List Row) → Told kind bs rs
    → Told kind (0x80 ∷ 0x02 ∷ code_of s ∷ 0 ∷ (value_field s x ++ bs)) (record { echo = code_of s; error = 0; value = Some x } ∷ rs)
unfolding rows_of value_after
value_told kind v s x a bs rs t =
    let l : length (value_bytes s x) ≡ value_size s = value_length s x in
    let c : take (value_size s) (value_bytes s x ++ bs) ≡ value_bytes s x = take_at (value_bytes s x) bs (value_size s) l in
    let p : fields_past (value_size s) (value_bytes s x ++ bs) ≡ some t.fields = rw (← l) (past_all (value_bytes s x) bs ∙ t.are) in
    let e : eqb (code_of s) (code_of s) ≡ true = eq-eqb (code_of s) (code_of s) refl in
    let z : eqb (value_size s) (value_size s) ≡ true = eq-eqb (value_size s) (value_size s) refl in
    record {
      fields = row_field (code_of s) 0 ∷ record { code = code_of s; size = value_size s; content = value_bytes s x } ∷ t.fields;
      are = rw (p, c);
      start = refl;
      rows = rw (v, setting_back s, e, z, value_back s x a, usable-readable s x a, t.rows);
    }

-- ---- one field

-- In a reply of this type, whose rows carry values where the field's own type is 02.
module _ (kind : ℕ) (rights : Rights) (x : State (List ℕ)) (ok : Sound x) (c : Command) (carries : c.kind ≡ 0x02 → carries_values kind ≡ true)
    (bs : List ℕ) (rs : List Row) (t : Told kind bs rs) where
  abbrev error : ℕ
  error = field_error (denial_of page_access rights x.page) (loaded_from x.page) c

  -- The rows of a field, and those behind them.
  FieldTold : Type 0
  FieldTold = Told kind ((field_outcome page_access rights x c).rows ++ bs) (record { echo = c.code; error = error; value = reported error c x.settings } ∷ rs)

  -- A field that reports nothing has the plain row.
  silent : (effect_of (denial_of page_access rights x.page) (loaded_from x.page) x.settings c).report ≡ [] → reported error c x.settings ≡ None → FieldTold
  unfolding FieldTold field_outcome effect_of
  silent r v = rw (r, v) (plain_told kind c.code error (error_most (denial_of page_access rights x.page) (loaded_from x.page) c (denial_most page_access rights x.page)) bs rs t)

  about_told : (s : Setting) → subject_of c.kind c.code ≡ About s → error ≡ 0 → (f : ℕ) → c.function ≡ f → FieldTold
  unfolding FieldTold field_outcome effect_of
  about_told s e n zero f = silent (rw (n, e, f)) (rw (n, e, f))
  about_told s e n (suc zero) f = silent (rw (n, e, f)) (rw (n, e, f))
  about_told s e n (suc (suc zero)) f =
      let k = subject_about c.kind c.code s e in
      rw (n, e, f, k.1) (value_told kind (carries k.0) s (working_value x.settings s) (value_usable x.settings s ok.settings) bs rs t)
  about_told s e n (suc (suc (suc zero))) f = silent (rw (n, e, f)) (rw (n, e, f))
  about_told s e n (suc (suc (suc (suc zero)))) f = silent (rw (n, e, f)) (rw (n, e, f))
  about_told s e n (suc (suc (suc (suc (suc g))))) f =
      let d : eqb (suc (suc (suc (suc (suc g))))) 2 ≡ false = ne_eqb (suc (suc (suc (suc (suc g))))) 2 (λ h. omega arith) in
      silent (rw (n, e, f)) (rw (n, e, f, d))

  subject_told : (s : Subject) → subject_of c.kind c.code ≡ s → error ≡ 0 → FieldTold
  unfolding effect_of
  subject_told Ping e n = silent (rw (n, e)) (rw (n, e))
  subject_told (About s) e n = about_told s e n c.function refl
  subject_told Unknown e n = silent (rw (n, e)) (rw (n, e))

  error_told : (n : ℕ) → error ≡ n → FieldTold
  unfolding effect_of
  error_told zero e = subject_told (subject_of c.kind c.code) refl e
  error_told (suc n) e =
      let d : eqb (suc n) 0 ≡ false = ne_eqb (suc n) 0 (λ h. omega arith) in
      silent (rw e) (rw (e, d))

  field_told : Told kind ((field_outcome page_access rights x c).rows ++ bs) (record { echo = c.code; error = error; value = reported error c x.settings } ∷ rs)
  unfolding FieldTold
  field_told = error_told error refl

-- ---- the fields of a command

-- Of type `inner`, in a reply of this type.
module _ (kind inner : ℕ) (carries : inner ≡ 0x02 → carries_values kind ≡ true) (rights : Rights) where
  fields_told : (x : State (List ℕ)) (fs : List Field) → Sound x
      → Told kind (fields_outcome page_access rights x (commands_of inner fs)).rows (field_rows page_access rights x (commands_of inner fs))
  unfolding fields_outcome command_of
  fields_told x [] ok = no_told kind
  fields_told x (f ∷ fs) ok =
      let c : Command = command_of inner f in
      let next : State (List ℕ) = (field_outcome page_access rights x c).next in
      field_told kind rights x ok c carries (fields_outcome page_access rights next (commands_of inner fs)).rows (field_rows page_access rights next (commands_of inner fs))
      (fields_told next fs (field_goes rights x c ok).stays)

  rows_length : (x : State (List ℕ)) (fs : List Field) → length (field_rows page_access rights x (commands_of inner fs)) ≡ length fs
  rows_length x [] = refl
  rows_length x (f ∷ fs) = ap suc (rows_length (field_outcome page_access rights x (command_of inner f)).next fs)

several_rows_lem : (kind : ℕ) → is_kind kind ≡ true → several_rows kind ≡ true
several_rows_lem kind k = go (eqb kind 0x01) (eqb kind 0x02) k
  where
    go : (a b : Bool) → a || b ≡ true → a || (b || eqb kind numbered_kind) ≡ true
    go true b e = refl
    go false true e = refl
    go false false e = differ (sym e)

-- So many rows are a reply.
rows_right : (kind n : ℕ) → several_rows kind ≡ true → 1 ≤ n → n ≤ 16 → rows_wrong kind n ≡ false
rows_right kind n k l h = rw (ne_eqb n 0 (λ z. omega arith), le-ltb 16 n h, k) (go (ltb 1 n))
  where
    go : (b : Bool) → b && false ≡ false
    go true = refl
    go false = refl

-- ---- a message

message_read : (kind : ℕ) (p : List ℕ) (k : ℕ) → length p ≤ 255 → reply_read (message_of kind p) k ≡ rows_read kind (rows_in kind (fields_of p)) k
unfolding reply_read
message_read kind p k h =
    let r = written_is_read kind p h in
    rw (r.whole, r.payload_back, r.kind_back)

told_read : (kind : ℕ) (p : List ℕ) (rs : List Row) (k : ℕ) → Told kind p rs → rows_wrong kind (length rs) ≡ false
    → rows_read kind (rows_in kind (fields_of p)) k ≡ row_read kind rs k
unfolding fields_of
told_read kind p rs k t e = rw (t.are, t.rows, e)

-- ---- a command, a number, a message

-- Bytes that are read as these rows.
record Read (kind : ℕ) (bs : List ℕ) (rs : List Row) : Type 0 where
  pub read : (k : ℕ) → rows_read kind (rows_in kind (fields_of bs)) k ≡ row_read kind rs k

plain_read : (kind echo error : ℕ) → error ≤ 7 → Read kind (0x80 ∷ 0x02 ∷ echo ∷ error ∷ []) (plain_row echo error)
plain_read kind echo error h =
    record { read = λ k. told_read kind (0x80 ∷ 0x02 ∷ echo ∷ error ∷ []) (plain_row echo error) k (plain_told kind echo error h [] [] (no_told kind)) refl }

-- The errors of a command as a whole, and of a number, are of the table.
command_errors : (kind : ℕ) (payload : List ℕ) → command_error kind payload ≤ 7
unfolding command_error
command_errors kind payload = go (not (is_kind kind)) (eqb (length payload) 0) (fields_refused (fields_of payload))
  where
    go : (b c d : Bool) → refuse b 2 (refuse c 3 (refuse d 4 0)) ≤ 7
    go true c d = omega arith
    go false true d = omega arith
    go false false true = omega arith
    go false false false = omega arith

number_errors : (rights : Rights) (last : Option ℕ) (payload : List ℕ) → number_error rights last payload ≤ 7
unfolding number_error
number_errors rights last payload = go rights.readonly (ltb (length payload) 5) (not (is_fresh last (number_of payload)))
  where
    go : (a b c : Bool) → refuse a 7 (refuse b 4 (refuse c 5 0)) ≤ 7
    go true b c = omega arith
    go false true c = omega arith
    go false false true = omega arith
    go false false false = omega arith

-- A command of type `inner` in a reply of a type that may carry its rows.
command_read : (kind inner : ℕ) → (is_kind inner ≡ true → several_rows kind ≡ true) → (inner ≡ 0x02 → carries_values kind ≡ true)
    → (rights : Rights) (x : State (List ℕ)) (payload : List ℕ) → Sound x
    → Read kind (command_outcome page_access rights x inner payload).rows (command_rows page_access rights x inner payload)
unfolding command_outcome
command_read kind inner several carries rights x payload ok = go (command_error inner payload) refl
  where
    go : (n : ℕ) → command_error inner payload ≡ n
        → Read kind (command_on page_access n rights x inner payload).rows (command_rows_on page_access n rights x inner payload)
    go zero e =
        let fs : List Field = fields_in (fields_of payload) in
        let rs : List Row = field_rows page_access rights x (commands_of inner fs) in
        let l = fields_some inner payload e in
        let q : length rs ≡ length fs = rows_length kind inner carries rights x fs in
        let r : rows_wrong kind (length rs) ≡ false =
        rows_right kind (length rs) (several (command_passed inner payload e).kind_known) (omega (arith, l.0)) (omega (arith, l.1)) in
        record { read = λ k. told_read kind (fields_outcome page_access rights x (commands_of inner fs)).rows rs k (fields_told kind inner carries rights x fs ok) r }
    go (suc n) e = plain_read kind (get_or payload 0 0) (suc n) (omega (arith, command_errors inner payload))

numbered_read : (rights : Rights) (x : State (List ℕ)) (payload : List ℕ) → Sound x
    → Read numbered_kind (numbered_outcome page_access rights x payload).rows (numbered_rows_on page_access (number_error rights (number_on x.page) payload) x payload)
unfolding numbered_outcome
numbered_read rights x payload ok = go (number_error rights (number_on x.page) payload) refl
  where
    n : ℕ
    n = number_of payload

    spent-sound : Sound (spent page_access x n)
    spent-sound = record { settings = ok.settings; page = (page_changes x.page last_number n ok.page (lt-ltb n 4294967296 (number_small payload))).sound_page }

    go : (e : ℕ) → number_error rights (number_on x.page) payload ≡ e
        → Read numbered_kind (numbered_on page_access e x payload).rows (numbered_rows_on page_access e x payload)
    go zero h = command_read numbered_kind (inner_kind payload) (λ k. refl) (λ k. refl) all_rights (spent page_access x n) (inner_payload payload) spent-sound
    go (suc e) h = plain_read numbered_kind (get_or (inner_payload payload) 0 0) (suc e) (omega (arith, number_errors rights (number_on x.page) payload))

module _ (rights : Rights) (m : Received) (x : State (List ℕ)) (ok : Sound x) where
  rows_read_lem : Read m.kind (message_outcome page_access rights x m).rows (message_rows page_access rights x m)
  unfolding message_outcome
  rows_read_lem = go (not m.good) (eqb m.kind numbered_kind) refl
    where
      go : (a b : Bool) → eqb m.kind numbered_kind ≡ b
          → Read m.kind
          (cond a (refused_outcome (get_or m.payload 0 0) 1 x)
          (cond b (numbered_outcome page_access rights x m.payload) (command_outcome page_access rights x m.kind m.payload))).rows
          (cond a (plain_row (get_or m.payload 0 0) 1)
          (cond b (numbered_rows_on page_access (number_error rights (number_on x.page) m.payload) x m.payload) (command_rows page_access rights x m.kind m.payload)))
      go true b e = plain_read m.kind (get_or m.payload 0 0) 1 (omega arith)
      go false true e = let k : m.kind ≡ numbered_kind = eqb-true m.kind numbered_kind e in rw k (numbered_read rights x m.payload ok)
      go false false e = command_read m.kind m.kind (several_rows_lem m.kind) (λ k. rw k) rights x m.payload ok

pub replies_read : RepliesRead
replies_read rights m w page k s a =
    let x : State (List ℕ) = record { settings = w; page = page } in
    let p : List ℕ = (message_outcome page_access rights x m).rows in
    let l : length p ≤ 255 = omega (arith, message_length m.kind p, longest_reply.most (List ℕ) page_access rights x m) in
    message_read m.kind p k l ∙ (rows_read_lem rights m x (record { settings = a; page = s })).read k

-- ---- replies of older boards, computed

pub older_read : OlderRead
unfolding setting_of readable message_of sums_right fields_of whole_number value_after rows_of reply_read
older_read = record { none = refl; five = refl; six = refl; seven = refl; eight = refl; error_six = refl; error_seven = refl; error_eight = refl }
