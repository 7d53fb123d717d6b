-- Request 13: the first error in a reply. Over any keeping of the page's values. The proof stands in proofs/First.
use Rattle.std.specs.Prelude.{List, ◌≡◌, ℕ, ◌≤◌}
use Rattle.command.specs.declared.rights.Rights.{Rights}
use Rattle.command.specs.Outcome.{Access, State, Outcome, Received, reply_of, reply_row, error_in}
use Rattle.command.specs.Handle.{message_outcome}

-- A reply has a first row, whose error is 0 to 7, and that is the reply's first error.
pub record FirstRow {P : Type 0} (kind : ℕ) (o : Outcome P) : Type 0 where
  pub echo : ℕ
  pub error : ℕ
  pub rest : List ℕ
  pub rows : o.rows ≡ reply_row echo error rest
  pub most : error ≤ 7
  pub first : error_in (reply_of kind o) ≡ error

-- Of every message, whatever its rights. Proof: First `first_rows`.
abbrev pub FirstRows : Type 1
FirstRows = (P : Type 0) (access : Access P) (rights : Rights) (x : State P) (m : Received) → FirstRow m.kind (message_outcome access rights x m)
