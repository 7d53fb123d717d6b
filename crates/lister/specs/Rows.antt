-- Request 02: "the listing prints a line for each echo". Why the program finds every row of a reply that the board writes: from one
-- row to the next, `row_size` goes by what one field of the command was answered.
use Rattle.std.specs.Prelude.{ℕ, ◌≡◌, List, [], ◌∷◌, ◌++◌, length, get_or}
use Rattle.listing.specs.Rows.{row_size}
use Rattle.command.specs.declared.rights.Rights.{Rights}
use Rattle.command.specs.declared.command.Command.{Command}
use Rattle.command.specs.Errors.{field_error}
use Rattle.command.specs.Outcome.{Access, State, denial_of, field_outcome, fields_outcome}

-- No byte more, or the field 80 of another row.
abbrev pub AnotherRow : List ℕ → Type 0
AnotherRow [] = Unit {0}
AnotherRow (b ∷ bs) = b ≡ 0x80

-- At the front of what a field was answered, with other rows behind it: its row's size, its code and its error.
pub record RowFound {P : Type 0} (access : Access P) (rights : Rights) (x : State P) (c : Command) (rest : List ℕ) : Type 0 where
  pub size : row_size ((field_outcome access rights x c).rows ++ rest) ≡ length (field_outcome access rights x c).rows
  pub echo : get_or ((field_outcome access rights x c).rows ++ rest) 2 0 ≡ c.code
  pub error : get_or ((field_outcome access rights x c).rows ++ rest) 3 0 ≡ field_error (denial_of access rights x.page) (access.loaded x.page) c

-- And what stands behind it, the rows of the fields that follow, begins with a row. Proof: RowsFound `rows_found`.
pub record RowsFound : Type 1 where
  pub first : (P : Type 0) (access : Access P) (rights : Rights) (x : State P) (c : Command) (rest : List ℕ) → AnotherRow rest → RowFound access rights x c rest
  pub next : (P : Type 0) (access : Access P) (rights : Rights) (x : State P) (cs : List Command) → AnotherRow (fields_outcome access rights x cs).rows
