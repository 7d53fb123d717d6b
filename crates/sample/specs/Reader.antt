-- Document 01, "Data messages" and numbers 21 to 25 and 27: the data reader.
use Rattle.std.specs.Prelude.{ℕ, zero, suc, ◌+◌, Bool, true, false, ◌&&◌, ◌||◌, not, List, [], ◌∷◌, eqb, Result, Ok, Err}
use Rattle.std.proofs.Math.Option.{Option, none, some}
use Rattle.refusal.specs.declared.Refusal.{Refusal}
use Rattle.refusal.specs.Refusal.{refusal_number, answer_from}
use Rattle.message.specs.Message.{type_of, payload_of}
use Rattle.message.specs.Whole.{whole_number}
use Rattle.message.specs.Fields.{Field, fields_of}
use Rattle.sample.specs.declared.reader.Sample.{Sample}
use Rattle.sample.specs.declared.reader.Sample.TheVariants.{Acceleration, Rate, Unknown}
use Rattle.sample.specs.declared.reader.FieldRead.{FieldRead}
use Rattle.sample.specs.Axes.{axes_of}

-- ---- one field

-- Field 81 or 82 whose size is not 12.
abbrev pub size_wrong : Field → Bool
size_wrong f = (eqb f.code 0x81 || eqb f.code 0x82) && not (eqb f.size 12)

abbrev pub some_size_wrong : List Field → Bool
some_size_wrong [] = false
some_size_wrong (f ∷ fs) = size_wrong f || some_size_wrong fs

abbrev pub sample_on : Bool → Bool → Field → ℕ → Sample
sample_on true rate f place = Acceleration (axes_of f.content)
sample_on false true f place = Rate (axes_of f.content)
sample_on false false f place = Unknown f.code place

-- Field 81 is acceleration in g, 82 rate in degrees per second, any other unknown: its code, and the place in the message of
-- its first data byte.
unfoldable pub sample_of : Field → ℕ → Sample
sample_of f place = sample_on (eqb f.code 0x81) (eqb f.code 0x82) f place

-- The field's code in each case.
abbrev pub code_of : Sample → ℕ
code_of (Acceleration a) = 0x81
code_of (Rate a) = 0x82
code_of (Unknown code place) = code

-- ---- field k of a row

pub record Found : Type 0 where
  pub field : Field
  pub place : ℕ

-- Field k, counted from 0, of the fields whose first starts at byte `at` of the message.
abbrev pub field_from : ℕ → List Field → ℕ → Option Found
field_from at [] k = none
field_from at (f ∷ fs) zero = some (record { field = f; place = at + 2 })
field_from at (f ∷ fs) (suc k) = field_from (at + (2 + f.size)) fs k

-- ---- the reader

pub record Reading : Type 0 where
  pub number : ℕ
  pub found : Option Found

abbrev pub found_on : Option Found → Reading
found_on none = record { number = 27; found = none }
found_on (some f) = record { number = 0; found = some f }

abbrev pub sizes_on : Bool → List Field → ℕ → Reading
sizes_on true fs k = record { number = 25; found = none }
sizes_on false fs k = found_on (field_from 4 fs k)

abbrev pub fields_on : Option (List Field) → ℕ → Reading
fields_on none k = record { number = 24; found = none }
fields_on (some fs) k = sizes_on (some_size_wrong fs) fs k

abbrev pub type_on : Bool → List ℕ → ℕ → Reading
type_on false m k = record { number = 23; found = none }
type_on true m k = fields_on (fields_of (payload_of m)) k

abbrev pub whole_on : ℕ → List ℕ → ℕ → Reading
whole_on zero m k = type_on (eqb (type_of m) 0xA2) m k
whole_on (suc n) m k = record { number = suc n; found = none }

-- 21 and 22: one whole message; 23: type A2; 24: fields that fill the payload exactly; 25: sizes; then 27: field k. Every
-- field is tested before field k is looked for.
unfoldable pub reading_of : List ℕ → ℕ → Reading
reading_of m k = whole_on (whole_number m) m k

-- What the reader answers, with document 01's number: what the field is, and where its data stands in the message.
pub record FieldAnswer : Type 0 where
  pub number : ℕ
  pub field : Sample
  pub place : ℕ
  pub size : ℕ

-- What the field is, and where its data stands in the message, whatever it is. A refusal gives zeros.
abbrev pub read_on : Option Found → ℕ → FieldAnswer
read_on none n = record { number = n; field = Unknown 0 0; place = 0; size = 0 }
read_on (some f) n = record { number = n; field = sample_of f.field f.place; place = f.place; size = f.field.size }

unfoldable pub field_read : List ℕ → ℕ → FieldAnswer
field_read m k = read_on (reading_of m k).found (reading_of m k).number

-- The paper's number and values of an answer: 0 and the field, or the refusal's number and zeros.
abbrev pub answer_of : Result FieldRead Refusal → FieldAnswer
answer_of (Ok f) = record { number = 0; field = f.field; place = f.place; size = f.size }
answer_of (Err r) = record { number = refusal_number r; field = Unknown 0 0; place = 0; size = 0 }

-- Back: the answer that a number and values tell.
abbrev pub field_told : FieldAnswer → Result FieldRead Refusal
field_told a = answer_from a.number (record { field = a.field; place = a.place; size = a.size })

abbrev pub data_found : Option Found → List ℕ
data_found none = []
data_found (some f) = f.field.content

-- A field's data bytes, handed out as that part of the message; an empty part where refused.
unfoldable pub field_data : List ℕ → ℕ → List ℕ
field_data m k = data_found (reading_of m k).found
