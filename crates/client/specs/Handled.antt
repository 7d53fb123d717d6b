-- What is proved of messages that are handled without error: they are what the command writers write. Each statement names its proof, a
-- term of that type in a file of proofs/.
use Rattle.std.specs.Prelude.{◌≡◌, true, ◌&&◌, cond, List, [], ◌∷◌, ℕ, ◌<◌, eqb, leb, get_or, Option}
use Rattle.std.proofs.Math.Option.{some}
use Rattle.page.specs.declared.setting.Setting.{Setting}
use Rattle.message.specs.Fields.{Field, field_bytes, row_bytes, fields_of}
use Rattle.message.specs.Message.{message_of, type_of, payload_of}
use Rattle.command.specs.Command.{command_of}
use Rattle.command.specs.Errors.{field_error}
use Rattle.client.specs.Writer.{code_subject, acceptable, command_message, Asked}
use Rattle.client.specs.Commands.{asked_fields, all_right}

-- A field without the value bytes that are not looked at: those of the functions 2 to 5.
abbrev pub looked_at : ℕ → Field → Field
looked_at kind f =
    cond (eqb kind 0x02 && leb 2 (get_or f.content 0 0)) (record { code = f.code; size = 1; content = get_or f.content 0 0 ∷ [] }) f

abbrev pub all_looked_at : ℕ → List Field → List Field
all_looked_at kind [] = []
all_looked_at kind (f ∷ fs) = looked_at kind f ∷ all_looked_at kind fs

-- Each field is handled without error, whatever functions 1, 3, 4 and 5 are denied with, for some values to be loaded.
abbrev pub NoErrors : ℕ → ℕ → List Field → Type 0
NoErrors denial kind [] = Unit {0}
NoErrors denial kind (f ∷ fs) = ((loaded : Setting → Option ℕ) × (field_error denial loaded (command_of kind f) ≡ 0)) × NoErrors denial kind fs

-- Every message of type 01 or 02 whose fields are all handled without error is, but for the value bytes that are not looked at, one of what is
-- asked by its codes, functions and values. (The value bytes are bytes.)
pub record IsCommand (m : List ℕ) (fs : List Field) : Type 0 where
  pub asked : List Asked
  pub right : all_right (type_of m) asked ≡ true
  pub written : row_bytes (all_looked_at (type_of m) fs) ≡ asked_fields (type_of m) asked

-- Proof: Written `obeyed_is_written`.
abbrev pub ObeyedIsWritten : Type 0
ObeyedIsWritten =
    (denial : ℕ) (m : List ℕ) (fs : List Field) → ((i : ℕ) → get_or m i 0 < 256) → fields_of (payload_of m) ≡ some fs → NoErrors denial (type_of m) fs → IsCommand m fs

-- Of one field: but for those bytes, it is what the command writer writes.
pub record IsWritten (m : List ℕ) (f : Field) : Type 0 where
  pub code : ℕ
  pub function : ℕ
  pub value : ℕ
  pub accepted : acceptable (code_subject code) function value ≡ true
  pub written : message_of (type_of m) (field_bytes (looked_at (type_of m) f)) ≡ command_message code function value

-- Proof: Written `one_obeyed_is_written`.
abbrev pub OneObeyedIsWritten : Type 0
OneObeyedIsWritten =
    (denial : ℕ) (loaded : Setting → Option ℕ) (m : List ℕ) (f : Field) → ((i : ℕ) → get_or m i 0 < 256) → fields_of (payload_of m) ≡ some (f ∷ [])
    → field_error denial loaded (command_of (type_of m) f) ≡ 0 → IsWritten m f
