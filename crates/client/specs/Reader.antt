-- Document 01, "Handling one message", and requests 02, 03, 05 and 12: the reply reader, which reads one row of a reply.
use Rattle.std.specs.Prelude.{Bool, true, false, ◌&&◌, ◌||◌, not, List, [], ◌∷◌, ℕ, zero, suc, eqb, leb, ltb, length, get_or, Option, Some, None, Result, Ok, Err}
use Rattle.std.proofs.Math.Option.{Option as Maybe, none, some}
use Rattle.word.specs.Word.{number}
use Rattle.page.specs.declared.setting.Setting.{Setting}
use Rattle.page.specs.Settings.{setting_of, code_of, value_size, readable}
use Rattle.page.specs.Loading.{value_on}
use Rattle.message.specs.Fields.{Field, fields_of}
use Rattle.message.specs.Message.{type_of, payload_of}
use Rattle.message.specs.Whole.{whole_number}
use Rattle.command.specs.Errors.{most_fields}
use Rattle.command.specs.Numbers.{numbered_kind}
use Rattle.refusal.specs.declared.Refusal.{Refusal}
use Rattle.refusal.specs.Refusal.{refusal_number, answer_from}
use Rattle.client.specs.declared.reader.Reply.{Reply}

-- ---- the types

-- "The reply reader takes 7C rows as type 02's": with values, and several.
abbrev pub carries_values : ℕ → Bool
carries_values kind = eqb kind 0x02 || eqb kind numbered_kind

abbrev pub several_rows : ℕ → Bool
several_rows kind = eqb kind 0x01 || carries_values kind

-- ---- a row

-- What a row says: the echo, the error, and the value that follows them, if there is one.
pub record Row : Type 0 where
  pub echo : ℕ
  pub error : ℕ
  pub value : Option ℕ

-- The errors of the table, 0 to 7.
abbrev pub is_error : ℕ → Bool
is_error e = leb e 7

abbrev pub echo_in : Field → ℕ
echo_in f = get_or f.content 0 0

abbrev pub error_in : Field → ℕ
error_in f = get_or f.content 1 0

-- A field 80 of size 2, echo and error, with an error of the table.
abbrev pub is_row : Field → Bool
is_row f = eqb f.code 0x80 && eqb f.size 2 && is_error (error_in f)

-- The value in a field whose code is that of a setting, with its value size and a readable value.
abbrev pub value_in : Option Setting → Field → Option ℕ
value_in None g = None
value_in (Some s) g = value_on (eqb g.code (code_of s) && eqb g.size (value_size s) && readable s (number g.content)) (number g.content)

abbrev pub value_if : Bool → Option ℕ → Option ℕ
value_if true v = v
value_if false v = None

-- The value that a second field adds to a row: in types 02 and 7C and with error 0, where its code is the echo.
unfoldable pub value_after : ℕ → Field → Field → Option ℕ
value_after kind f g = value_if (carries_values kind && eqb (error_in f) 0) (value_in (setting_of (echo_in f)) g)

-- ---- the rows of a reply

abbrev pub cons_row : Row → Maybe (List Row) → Maybe (List Row)
cons_row r none = none
cons_row r (some rs) = some (r ∷ rs)

-- A first field must be a row. A value that the second adds to it is read with it; else the second is the next row's.
abbrev pub row_on : Bool → Field → Option ℕ → Maybe (List Row) → Maybe (List Row) → Maybe (List Row)
row_on false f v past here = none
row_on true f (Some x) past here = cons_row (record { echo = echo_in f; error = error_in f; value = Some x }) past
row_on true f None past here = cons_row (record { echo = echo_in f; error = error_in f; value = None }) here

-- The rows that fields in a message of this type are; none where they are not rows.
unfoldable pub rows_of : ℕ → List Field → Maybe (List Row)
rows_of kind [] = some []
rows_of kind (f ∷ []) = row_on (is_row f) f None (some []) (some [])
rows_of kind (f ∷ g ∷ fs) = row_on (is_row f) f (value_after kind f g) (rows_of kind fs) (rows_of kind (g ∷ fs))

abbrev pub rows_in : ℕ → Maybe (List Field) → Maybe (List Row)
rows_in kind none = none
rows_in kind (some fs) = rows_of kind fs

-- ---- the reader

-- What the reader answers: document 01's number, and what the row says; zeros and no value where it is refused.
pub record ReplyAnswer : Type 0 where
  pub number : ℕ
  pub kind : ℕ
  pub echo : ℕ
  pub error : ℕ
  pub value : Option ℕ

-- A refusal gives zeros.
abbrev pub no_reply : ℕ → ReplyAnswer
no_reply n = record { number = n; kind = 0; echo = 0; error = 0; value = None }

-- The row of a number, counted from 0; 27 where there is none.
abbrev pub row_read : ℕ → List Row → ℕ → ReplyAnswer
row_read kind [] k = no_reply 27
row_read kind (r ∷ rs) zero = record { number = 0; kind = kind; echo = r.echo; error = r.error; value = r.value }
row_read kind (r ∷ rs) (suc k) = row_read kind rs k

-- A reply has 1 to 16 rows, several only in types 01, 02 and 7C.
abbrev pub rows_wrong : ℕ → ℕ → Bool
rows_wrong kind n = eqb n 0 || ltb most_fields n || (ltb 1 n && not (several_rows kind))

abbrev pub refuse_reply : Bool → ℕ → ReplyAnswer → ReplyAnswer
refuse_reply true n next = no_reply n
refuse_reply false n next = next

-- 23, then 27.
abbrev pub rows_read : ℕ → Maybe (List Row) → ℕ → ReplyAnswer
rows_read kind none k = no_reply 23
rows_read kind (some rs) k = refuse_reply (rows_wrong kind (length rs)) 23 (row_read kind rs k)

abbrev pub whole_on : ℕ → List ℕ → ℕ → ReplyAnswer
whole_on zero m k = rows_read (type_of m) (rows_in (type_of m) (fields_of (payload_of m))) k
whole_on (suc n) m k = no_reply (suc n)

-- 21 and 22: not one whole message, sums wrong; 23: not a reply; 27: no row of that number.
unfoldable pub reply_read : List ℕ → ℕ → ReplyAnswer
reply_read m k = whole_on (whole_number m) m k

-- What the code answers stands for: number 0 and the row, or the refusal's number.
abbrev pub reply_of : Result Reply Refusal → ReplyAnswer
reply_of (Ok r) = record { number = 0; kind = r.kind; echo = r.echo; error = r.error; value = r.value }
reply_of (Err e) = no_reply (refusal_number e)

-- Back: the code's answer that a number and a row tell.
abbrev pub reply_told : ReplyAnswer → Result Reply Refusal
reply_told a = answer_from a.number (record { kind = a.kind; echo = a.echo; error = a.error; value = a.value })
