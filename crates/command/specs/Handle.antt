-- Document 01, "Handling one message", and requests 02, 03 and 12: what a command of 1 to 16 fields, and a message, leave. Over any keeping of
-- the page's values, as in Outcome.
use Rattle.std.specs.Prelude.{true, not, cond, List, [], ℕ, zero, suc, eqb, get_or}
use Rattle.std.proofs.Math.Option.{Option, none, some}
use Rattle.message.specs.Fields.{Field, fields_of}
use Rattle.command.specs.declared.rights.Rights.{Rights}
use Rattle.command.specs.Rights.{all_rights}
use Rattle.command.specs.Command.{commands_of}
use Rattle.command.specs.Errors.{command_error}
use Rattle.command.specs.Numbers.{numbered_kind, number_of, inner_kind, inner_payload, number_error}
use Rattle.command.specs.Outcome.{Access, State, Outcome, Received, idle, row_outcome, fields_outcome}

-- ---- one command

-- The fields of a payload, none where they do not fill it.
abbrev pub fields_in : Option (List Field) → List Field
fields_in none = []
fields_in (some fs) = fs

-- One row, and nothing changes.
abbrev pub refused_outcome : {P : Type 0} → ℕ → ℕ → State P → Outcome P
refused_outcome echo error x = row_outcome echo error (idle x)

module _ {P : Type 0} (access : Access P) where
  -- A command that is refused as a whole echoes its first code, 0 if it has none.
  abbrev pub command_on : ℕ → Rights → State P → ℕ → List ℕ → Outcome P
  command_on zero rights x kind payload = fields_outcome access rights x (commands_of kind (fields_in (fields_of payload)))
  command_on (suc n) rights x kind payload = refused_outcome (get_or payload 0 0) (suc n) x

  unfoldable pub command_outcome : Rights → State P → ℕ → List ℕ → Outcome P
  command_outcome rights x kind payload = command_on (command_error kind payload) rights x kind payload

-- ---- one message

-- "A fresh number sets the feed's mark of a save."
abbrev pub marked : {P : Type 0} → Outcome P → Outcome P
marked o = record { rows = o.rows; saved = true; next = o.next }

module _ {P : Type 0} (access : Access P) where
  -- "A fresh number is written to the page."
  abbrev pub spent : State P → ℕ → State P
  spent x n = record { settings = x.settings; page = access.put_number x.page n }

  -- ".. Then the command inside is handled, with its own errors; the number is spent either way." A message that does not come so far
  -- echoes "the inner command's first code, 0 if it has none".
  abbrev pub numbered_on : ℕ → State P → List ℕ → Outcome P
  numbered_on zero x payload = marked (command_outcome access all_rights (spent x (number_of payload)) (inner_kind payload) (inner_payload payload))
  numbered_on (suc n) x payload = refused_outcome (get_or (inner_payload payload) 0 0) (suc n) x

  unfoldable pub numbered_outcome : Rights → State P → List ℕ → Outcome P
  numbered_outcome rights x payload = numbered_on (number_error rights (access.last_number x.page) payload) x payload

  -- A message that has these rights on its port. 1, sums wrong: the reply echoes the first payload byte, 0 if L = 0.
  unfoldable pub message_outcome : Rights → State P → Received → Outcome P
  message_outcome rights x m =
      cond (not m.good) (refused_outcome (get_or m.payload 0 0) 1 x)
      (cond (eqb m.kind numbered_kind) (numbered_outcome rights x m.payload)
      (command_outcome access rights x m.kind m.payload))
