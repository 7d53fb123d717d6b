-- Internal: the rows of a reply on its bytes, as the reader's code tests them.
use Rattle.std.specs.Prelude.{Bool, true, false, ◌&&◌, List, [], ◌∷◌, ℕ, ◌+◌, ◌-◌, ◌<◌, ◌≡◌, Ok, eqb, leb, ltb, length, take, drop, get_or, Option, Some, None}
use Rattle.word.specs.Word.{number}
use Rattle.page.specs.declared.setting.Setting.{Setting}
use Rattle.page.specs.Settings.{setting_of, code_of, value_size, readable}
use Rattle.page.specs.Loading.{value_on}
use Rattle.client.specs.declared.reader.Reply.{Reply}
use Rattle.client.specs.Reader.{carries_values, Row, is_error, row_read, reply_of}

-- Do the bytes start with a field of this setting, with its value size and a readable value?
unfoldable pub starts_with_value : Setting → List ℕ → Bool
starts_with_value s bs =
    leb (value_size s + 2) (length bs) && eqb (get_or bs 0 0) (code_of s) && eqb (get_or bs 1 0) (value_size s)
    && readable s (number (take (value_size s) (drop 2 bs)))

abbrev pub size_if : Bool → ℕ → ℕ
size_if true n = n
size_if false n = 0

abbrev pub coded_size : Option Setting → List ℕ → ℕ
coded_size None bs = 0
coded_size (Some s) bs = size_if (starts_with_value s bs) (value_size s + 2)

-- The size of the field behind an echo and an error that adds a value to them; 0 where none does.
unfoldable pub value_field_size : ℕ → ℕ → ℕ → List ℕ → ℕ
value_field_size kind echo error bs = size_if (carries_values kind && eqb error 0) (coded_size (setting_of echo) bs)

-- Do the bytes start with a field 80 of size 2, with an error of the table?
abbrev pub starts_with_row : List ℕ → Bool
starts_with_row bs = leb 4 (length bs) && eqb (get_or bs 0 0) 0x80 && eqb (get_or bs 1 0) 2 && is_error (get_or bs 3 0)

-- The size of the row that bytes start with, its value with it; 0 where they start with none.
unfoldable pub row_size : ℕ → List ℕ → ℕ
row_size kind bs = size_if (starts_with_row bs) (4 + value_field_size kind (get_or bs 2 0) (get_or bs 3 0) (drop 4 bs))

-- What the bytes of a row say. A value stands behind the four bytes of the field 80 and the next field's code and size.
unfoldable pub row_in : List ℕ → Row
row_in bs = record { echo = get_or bs 2 0; error = get_or bs 3 0; value = value_on (ltb 6 (length bs)) (number (drop 6 bs)) }

-- ---- the front, and what is behind it

-- The value in a field of z bytes at the front.
pub record ValueSplit (z : ℕ) (bs : List ℕ) (v : ℕ) (rest : List ℕ) : Type 0 where
  pub some : 2 < z
  pub value : v ≡ number (take (z - 2) (drop 2 bs))
  pub behind : rest ≡ drop z bs

-- The row at the front.
pub record RowSplit (kind : ℕ) (bs : List ℕ) (r : Reply) (rest : List ℕ) : Type 0 where
  pub some : row_size kind bs ≡ 0 → ⊥
  pub row : reply_of (Ok r) ≡ row_read kind (row_in (take (row_size kind bs) bs) ∷ []) 0
  pub behind : rest ≡ drop (row_size kind bs) bs
