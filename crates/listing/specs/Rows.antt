-- Request 02: "the listing prints a line for each echo". The rows of a reply, one behind the other.
use Rattle.std.specs.Prelude.{ℕ, ◌+◌, Bool, true, false, ◌||◌, List, eqb, ltb, length, get_or}

abbrev pub row_size_on : Bool → List ℕ → ℕ
row_size_on true rows = 4
row_size_on false rows = 6 + get_or rows 5 0

-- The size of the first row: a field 80 with size 2, echo and error, and the field behind it where that is not another row's.
unfoldable pub row_size : List ℕ → ℕ
row_size rows = row_size_on (ltb (length rows) 6 || eqb (get_or rows 4 0) 0x80) rows
