-- Handling before request 12, when what a message might do followed from the number of its port, and what the request left of it. No other
-- file of this crate uses these definitions.
use Rattle.std.specs.Prelude.{◌≡◌, Bool, false, ◌&&◌, not, cond, List, [], ◌∷◌, ℕ, zero, suc, eqb, ltb, length, get_or, Option}
use Rattle.page.specs.declared.setting.Setting.{Setting}
use Rattle.page.specs.Page.{is_there}
use Rattle.message.specs.Fields.{fields_of}
use Rattle.message.specs.Whole.{refuse}
use Rattle.command.specs.declared.command.Command.{Command}
use Rattle.command.specs.Rights.{all_rights, guarded_rights}
use Rattle.command.specs.Command.{commands_of, subject_of}
use Rattle.command.specs.Errors.{is_unknown, field_wrong, not_on_board, alters, command_error}
use Rattle.command.specs.Numbers.{numbered_kind, number_of, inner_kind, inner_payload, is_fresh}
use Rattle.command.specs.Outcome.{Access, State, Outcome, Received, idle, then_outcome, field_on}
use Rattle.command.specs.Handle.{fields_in, refused_outcome, marked, spent, message_outcome}

-- 3: the code is not one of this type's. 5: functions 1, 3, 4 and 5, where they need a number. 4: size, function or value wrong. 6: not
-- on this board.
unfoldable pub error_unprofiled : Bool → (Setting → Option ℕ) → Command → ℕ
error_unprofiled needs_number loaded c =
    refuse (is_unknown (subject_of c.kind c.code)) 3
    (refuse (needs_number && alters (subject_of c.kind c.code) c) 5
    (refuse (field_wrong (subject_of c.kind c.code) c) 4
    (refuse (not_on_board (subject_of c.kind c.code) loaded c) 6
    0)))

-- 4: L under 5. 5: the number is stale.
unfoldable pub number_unprofiled : Option ℕ → List ℕ → ℕ
number_unprofiled last payload = refuse (ltb (length payload) 5) 4 (refuse (not (is_fresh last (number_of payload))) 5 0)

module _ {P : Type 0} (access : Access P) where
  -- `guarded`: a field came on port 0 without a number.
  unfoldable pub field_unprofiled : Bool → State P → Command → Outcome P
  field_unprofiled guarded x c = field_on access (error_unprofiled (guarded && is_there (access.last_number x.page)) (access.loaded x.page) c) x c

  unfoldable pub fields_unprofiled : Bool → State P → List Command → Outcome P
  fields_unprofiled guarded x [] = idle x
  fields_unprofiled guarded x (c ∷ cs) = then_outcome (field_unprofiled guarded x c) (fields_unprofiled guarded (field_unprofiled guarded x c).next cs)

  abbrev pub command_unprofiled_on : ℕ → Bool → State P → ℕ → List ℕ → Outcome P
  command_unprofiled_on zero guarded x kind payload = fields_unprofiled guarded x (commands_of kind (fields_in (fields_of payload)))
  command_unprofiled_on (suc n) guarded x kind payload = refused_outcome (get_or payload 0 0) (suc n) x

  unfoldable pub command_unprofiled : Bool → State P → ℕ → List ℕ → Outcome P
  command_unprofiled guarded x kind payload = command_unprofiled_on (command_error kind payload) guarded x kind payload

  abbrev pub numbered_unprofiled_on : ℕ → State P → List ℕ → Outcome P
  numbered_unprofiled_on zero x payload = marked (command_unprofiled false (spent access x (number_of payload)) (inner_kind payload) (inner_payload payload))
  numbered_unprofiled_on (suc n) x payload = refused_outcome (get_or (inner_payload payload) 0 0) (suc n) x

  unfoldable pub numbered_unprofiled : State P → List ℕ → Outcome P
  numbered_unprofiled x payload = numbered_unprofiled_on (number_unprofiled (access.last_number x.page) payload) x payload

  -- A message on a port.
  unfoldable pub message_unprofiled : ℕ → State P → Received → Outcome P
  message_unprofiled port x m =
      cond (not m.good) (refused_outcome (get_or m.payload 0 0) 1 x)
      (cond (eqb m.kind numbered_kind) (numbered_unprofiled x m.payload)
      (command_unprofiled (eqb port 0) x m.kind m.payload))

-- The rights of port 0 and of port 1 in the full profile: a message is handled as it was. Proof: Unprofiled `as_unprofiled`.
pub record FullAsUnprofiled {P : Type 0} (access : Access P) (x : State P) (m : Received) : Type 0 where
  pub first : message_outcome access guarded_rights x m ≡ message_unprofiled access 0 x m
  pub second : (p : ℕ) → message_outcome access all_rights x m ≡ message_unprofiled access (suc p) x m

abbrev pub AsUnprofiled : Type 1
AsUnprofiled = (P : Type 0) (access : Access P) (x : State P) (m : Received) → FullAsUnprofiled access x m
