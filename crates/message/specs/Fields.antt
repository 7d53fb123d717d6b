-- Document 01, "A message": a payload is a row of fields: code, size n, n data bytes.
use Rattle.std.specs.Prelude.{◌≡◌, ℕ, zero, suc, List, [], ◌∷◌, ◌++◌, length, take}
use Rattle.std.proofs.Math.Option.{Option, none, some}

pub record Field : Type 0 where
  pub code : ℕ
  pub size : ℕ
  pub content : List ℕ

-- The bytes of a field, and of a row of fields.
abbrev pub field_bytes : Field → List ℕ
field_bytes f = f.code ∷ f.size ∷ f.content

abbrev pub row_bytes : List Field → List ℕ
row_bytes [] = []
row_bytes (f ∷ fs) = field_bytes f ++ row_bytes fs

-- Each size is the number of the data bytes.
abbrev pub SizesRight : List Field → Type 0
SizesRight [] = Unit {0}
SizesRight (f ∷ fs) = (f.size ≡ length f.content) × SizesRight fs

abbrev pub cons_field : Field → Option (List Field) → Option (List Field)
cons_field f none = none
cons_field f (some fs) = some (f ∷ fs)

-- The fields of a payload that first passes p bytes, which must be there.
abbrev pub fields_past : ℕ → List ℕ → Option (List Field)
fields_past zero [] = some []
fields_past (suc p) [] = none
fields_past (suc p) (b ∷ bs) = fields_past p bs
fields_past zero (code ∷ []) = none
fields_past zero (code ∷ n ∷ bs) = cons_field (record { code = code; size = n; content = take n bs }) (fields_past n bs)

-- The fields of a payload; none where fields do not fill it exactly.
unfoldable pub fields_of : List ℕ → Option (List Field)
fields_of payload = fields_past 0 payload
