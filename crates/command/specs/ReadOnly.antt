-- What is proved of a message that may use Ping and function 2 only (request 12), over any keeping of the page's values and whatever is
-- kept. Each statement names its proof, a term of that type in a file of proofs/.
use Rattle.std.specs.Prelude.{◌≡◌, Bool, true, false, ◌&&◌, not, List, [], ◌∷◌, get_or}
use Rattle.message.specs.Fields.{fields_of}
use Rattle.command.specs.declared.command.Command.{Command}
use Rattle.command.specs.declared.rights.Rights.{Rights}
use Rattle.command.specs.Rights.{all_rights, read_only_rights}
use Rattle.command.specs.Command.{commands_of, subject_of}
use Rattle.command.specs.Errors.{is_unknown, alters, command_error}
use Rattle.command.specs.Numbers.{numbered_kind, inner_payload}
use Rattle.command.specs.Outcome.{Access, State, Received, idle, row_outcome, field_outcome}
use Rattle.command.specs.Handle.{fields_in, refused_outcome, message_outcome}
use Rattle.command.specs.Numbered.{Leaves}

-- Nothing changes, whatever the message. Proof: ReadOnly `read_only_leaves`.
abbrev pub ReadOnlyLeaves : Type 1
ReadOnlyLeaves = (P : Type 0) (access : Access P) (x : State P) (m : Received) → Leaves x (message_outcome access read_only_rights x m)

-- One field. "Error 7, not allowed on this port, for functions 1, 3, 4 and 5, after 3 and before a field's own 4 to 6"; any other goes
-- as with all rights.
pub record FieldReadOnly {P : Type 0} (access : Access P) (x : State P) (c : Command) : Type 0 where
  pub not_allowed : alters (subject_of c.kind c.code) c ≡ true
      → field_outcome access read_only_rights x c ≡ row_outcome c.code 7 (idle x)
  pub unknown : is_unknown (subject_of c.kind c.code) ≡ true → field_outcome access read_only_rights x c ≡ row_outcome c.code 3 (idle x)
  pub other : alters (subject_of c.kind c.code) c ≡ false → field_outcome access read_only_rights x c ≡ field_outcome access all_rights x c

-- Proof: ReadOnly `fields_read_only`.
abbrev pub FieldsReadOnly : Type 1
FieldsReadOnly = (P : Type 0) (access : Access P) (x : State P) (c : Command) → FieldReadOnly access x c

-- One message. "Any 7C with right sums gets it at once, its number unspent": one row. A message that is damaged or that is refused as a
-- whole is answered as with all rights.
pub record MessageReadOnly {P : Type 0} (access : Access P) (x : State P) (m : Received) : Type 0 where
  pub numbered : m.good ≡ true → m.kind ≡ numbered_kind → message_outcome access read_only_rights x m ≡ refused_outcome (get_or (inner_payload m.payload) 0 0) 7 x
  pub damaged : m.good ≡ false → message_outcome access read_only_rights x m ≡ message_outcome access all_rights x m
  pub refused : (m.kind ≡ numbered_kind → ⊥) → (command_error m.kind m.payload ≡ 0 → ⊥) → message_outcome access read_only_rights x m ≡ message_outcome access all_rights x m

-- Proof: ReadOnly `messages_read_only`.
abbrev pub MessagesReadOnly : Type 1
MessagesReadOnly = (P : Type 0) (access : Access P) (x : State P) (m : Received) → MessageReadOnly access x m

-- None of some fields asks for function 1, 3, 4 or 5.
abbrev pub none_alters : List Command → Bool
none_alters [] = true
none_alters (c ∷ cs) = not (alters (subject_of c.kind c.code) c) && none_alters cs

-- A message whose fields are so is answered under any rights as with all: a read-only port may use Ping and function 2, and so may port 0
-- once the page keeps a number. Proof: ReadOnly `reading_allowed`.
abbrev pub ReadingAllowed : Type 1
ReadingAllowed =
    (P : Type 0) (access : Access P) (rights : Rights) (x : State P) (m : Received) → (m.kind ≡ numbered_kind → ⊥)
    → none_alters (commands_of m.kind (fields_in (fields_of m.payload))) ≡ true → message_outcome access rights x m ≡ message_outcome access all_rights x m
