-- Document 01's handling before requests 02, 03 and 05, when a message had one field and no number and this board the gyroscope's ranges
-- 06 and 07, and what the requests left of it. No other file uses these definitions.
use Rattle.std.specs.Prelude.{◌≡◌, Bool, true, false, ◌||◌, not, cond, List, [], ◌∷◌, ℕ, ◌+◌, eqb, length, get_or, drop}
use Rattle.std.proofs.Math.Option.{some}
use Rattle.message.specs.Fields.{Field, fields_of}
use Rattle.message.specs.Whole.{refuse}
use Rattle.command.specs.declared.command.Command.{Command}
use Rattle.command.specs.Rights.{all_rights}
use Rattle.command.specs.Command.{command_of, subject_of}
use Rattle.command.specs.Errors.{is_unknown, field_wrong, not_on_board, fields_refused, is_kind}
use Rattle.command.specs.Numbers.{numbered_kind}
use Rattle.command.specs.Effects.{field_effect, effect_on}
use Rattle.command.specs.Outcome.{Access, State, Outcome, Received, idle, row_outcome, effect_outcome}
use Rattle.command.specs.Handle.{message_outcome}

-- The whole payload as one field, whatever its size says.
abbrev pub one_field_of : List ℕ → Field
one_field_of payload = record { code = get_or payload 0 0; size = get_or payload 1 0; content = drop 2 payload }

abbrev pub one_command : Received → Command
one_command m = command_of m.kind (one_field_of m.payload)

-- 1: sums wrong. 2: type neither 01 nor 02. 3: L = 0, or the code is not one of this type's. 4: L = 1; size is not L - 2; size
-- wrong; function not 1 to 5; value not allowed. 0: otherwise.
unfoldable pub error_before : Received → ℕ
error_before m =
    refuse (not m.good) 1
    (refuse (not (is_kind m.kind)) 2
    (refuse (eqb (length m.payload) 0 || is_unknown (subject_of m.kind (get_or m.payload 0 0))) 3
    (refuse (eqb (length m.payload) 1 || not (eqb (get_or m.payload 1 0 + 2) (length m.payload)) || field_wrong (subject_of m.kind (get_or m.payload 0 0)) (one_command m)) 4
    0)))

unfoldable pub outcome_before : {P : Type 0} → Access P → State P → Received → Outcome P
outcome_before access x m =
    row_outcome (get_or m.payload 0 0) (error_before m)
    (effect_outcome access.save
    (effect_on (error_before m) (field_effect (subject_of m.kind (get_or m.payload 0 0)) (access.loaded x.page) x.settings (one_command m)) x.settings)
    x)

-- Request 05: what its one field sends, or would load, is not on this board.
abbrev pub not_on_board_in : {P : Type 0} → Access P → State P → Received → Bool
not_on_board_in access x m = not_on_board (subject_of m.kind (get_or m.payload 0 0)) (access.loaded x.page) (one_command m)

-- What a message is handled to, now and before: one that is not of type 7C, on port 1 of the full profile. (On port 0 it is the same as
-- long as the page has no number: `WithoutNumber` in Numbered.)
pub record NowAndBefore {P : Type 0} (access : Access P) (x : State P) (m : Received) : Type 0 where
  -- One field, no field, wrong sums, another type: as before, but for a value that is not on this board. (What function 4 loaded from a
  -- page with 06 or 07 is not said here: `loaded` is today's.)
  pub one_field : (f : Field) → fields_of m.payload ≡ some (f ∷ []) → not_on_board_in access x m ≡ false → message_outcome access all_rights x m ≡ outcome_before access x m
  -- Where it is not, what was refused before is refused as before, and what was accepted is 6 now, and changes nothing.
  pub refused_before : (f : Field) → fields_of m.payload ≡ some (f ∷ []) → (error_before m ≡ 0 → ⊥) → message_outcome access all_rights x m ≡ outcome_before access x m
  pub not_on_board_lem : (f : Field) → fields_of m.payload ≡ some (f ∷ []) → not_on_board_in access x m ≡ true → error_before m ≡ 0
      → message_outcome access all_rights x m ≡ row_outcome (get_or m.payload 0 0) 6 (idle x)
  pub no_field : m.payload ≡ [] → message_outcome access all_rights x m ≡ outcome_before access x m
  pub refused : not m.good || not (is_kind m.kind) ≡ true → message_outcome access all_rights x m ≡ outcome_before access x m
  -- A payload that fields do not fill, L = 1 among them, or more than 16: 4 now. Before, it was 3 where its first byte is an unknown
  -- code, else 4.
  pub unfilled : m.good ≡ true → is_kind m.kind ≡ true → fields_refused (fields_of m.payload) ≡ true
      → message_outcome access all_rights x m ≡ row_outcome (get_or m.payload 0 0) 4 (idle x)
  pub unfilled_before : m.good ≡ true → is_kind m.kind ≡ true → fields_refused (fields_of m.payload) ≡ true
      → outcome_before access x m ≡ row_outcome (get_or m.payload 0 0) (cond (is_unknown (subject_of m.kind (get_or m.payload 0 0))) 3 4) (idle x)

-- Proof: Before `one_as_before`.
abbrev pub OneAsBefore : Type 1
OneAsBefore = (P : Type 0) (access : Access P) (x : State P) (m : Received) → (m.kind ≡ numbered_kind → ⊥) → NowAndBefore access x m
