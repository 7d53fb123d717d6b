-- The rows of a field are at least 4 bytes and at most 10, those of a message at most 160.
use Prim.Native.Nat.{ℕ, zero, suc, ◌*◌, ◌≤◌}
use native.Mathlib.Omega.{arith}
use mathlib.Core.Path.{◌≡◌, refl}
use mathlib.Core.Bool.{Bool, true, false, not, cond}
use mathlib.Core.List.{List, [], ◌∷◌}
use lib.Dec.{eqb}
use lib.ListN.{length, get_or, length-append}
use Rattle.page.specs.declared.setting.Setting.{Setting}
use Rattle.std.specs.Prelude.{Option}
use Rattle.page.specs.declared.setting.Setting.TheVariants.{Baud, Accelerometer, Gyroscope}
use Rattle.message.specs.Fields.{Field, fields_of}
use Rattle.command.specs.declared.rights.Rights.{Rights}
use Rattle.command.specs.declared.settings.Settings.{Settings}
use Rattle.command.specs.declared.command.Command.{Command}
use Rattle.command.specs.declared.command.Subject.{Subject}
use Rattle.command.specs.declared.command.Subject.TheVariants.{Ping, Setting as About, Unknown}
use Rattle.command.specs.Rights.{all_rights}
use Rattle.command.specs.Command.{command_of, commands_of, value_for, subject_of}
use Rattle.command.specs.Errors.{field_error, command_error}
use Rattle.command.specs.Numbers.{numbered_kind, number_of, inner_kind, inner_payload, number_error}
use Rattle.command.specs.Effects.{working_value, value_field, function_effect, field_effect, effect_on, effect_of}
use Rattle.command.specs.Outcome.{Access, State, Received, denial_of, field_outcome, fields_outcome, field_with}
use Rattle.command.specs.Handle.{fields_in, spent, refused_outcome, command_on, command_outcome, numbered_on, numbered_outcome, message_outcome}
use Rattle.command.specs.Answer.{page_access}
use Rattle.command.specs.Place.{fields_with}
use Rattle.command.proofs.Tests.{fields_some}

row_most : (s : Setting) (x : ℕ) → length (value_field s x) ≤ 6
row_most Baud x = omega arith
row_most Accelerometer x = omega arith
row_most Gyroscope x = omega arith

pub function_row : (f : ℕ) (loaded : Setting → Option ℕ) (w : Settings) (s : Setting) (x : ℕ) → length (function_effect f loaded w s x).report ≤ 6
function_row zero loaded w s x = omega arith
function_row (suc zero) loaded w s x = omega arith
function_row (suc (suc zero)) loaded w s x = row_most s (working_value w s)
function_row (suc (suc (suc zero))) loaded w s x = omega arith
function_row (suc (suc (suc (suc zero)))) loaded w s x = omega arith
function_row (suc (suc (suc (suc (suc f))))) loaded w s x = omega arith

field_row : (subject : Subject) (loaded : Setting → Option ℕ) (w : Settings) (c : Command) → length (field_effect subject loaded w c).report ≤ 6
field_row Ping loaded w c = omega arith
field_row (About s) loaded w c = function_row c.function loaded w s (value_for s c)
field_row Unknown loaded w c = omega arith

pub effect_row : (denial : ℕ) (loaded : Setting → Option ℕ) (w : Settings) (c : Command) → length (effect_of denial loaded w c).report ≤ 6
unfolding effect_of
effect_row denial loaded w c = go (field_error denial loaded c)
  where
    go : (n : ℕ) → length (effect_on n (field_effect (subject_of c.kind c.code) loaded w c) w).report ≤ 6
    go zero = field_row (subject_of c.kind c.code) loaded w c
    go (suc n) = omega arith

pub with_most : {P : Type 0} (access : Access P) (denial : ℕ) (x : State P) (c : Command) → length (field_with access denial x c).rows ≤ 10
unfolding effect_of
with_most access denial x c = omega (arith, effect_row denial (access.loaded x.page) x.settings c)

pub all_with_most : (denial : ℕ) (x : State (List ℕ)) (kind : ℕ) (fs : List Field) → length (fields_with denial x (commands_of kind fs)).rows ≤ 10 * length fs
unfolding fields_with
all_with_most denial x kind [] = omega arith
all_with_most denial x kind (f ∷ fs) =
    let a = field_with page_access denial x (command_of kind f) in
    let b = fields_with denial a.next (commands_of kind fs) in
    rw (length-append a.rows b.rows) (omega (arith, with_most page_access denial x (command_of kind f), all_with_most denial a.next kind fs))

module _ {P : Type 0} (access : Access P) (rights : Rights) where
  outcome_most : (x : State P) (c : Command) → length (field_outcome access rights x c).rows ≤ 10
  unfolding field_outcome
  outcome_most x c = with_most access (denial_of access rights x.page) x c

  pub outcome_least : (x : State P) (c : Command) → 4 ≤ length (field_outcome access rights x c).rows
  unfolding field_outcome
  outcome_least x c = omega arith

  outcomes_most : (x : State P) (kind : ℕ) (fs : List Field) → length (fields_outcome access rights x (commands_of kind fs)).rows ≤ 10 * length fs
  unfolding fields_outcome
  outcomes_most x kind [] = omega arith
  outcomes_most x kind (f ∷ fs) =
      let a = field_outcome access rights x (command_of kind f) in
      let b = fields_outcome access rights a.next (commands_of kind fs) in
      rw (length-append a.rows b.rows) (omega (arith, outcome_most x (command_of kind f), outcomes_most a.next kind fs))

  pub outcomes_least : (x : State P) (kind : ℕ) (fs : List Field) → 1 ≤ length fs → 4 ≤ length (fields_outcome access rights x (commands_of kind fs)).rows
  unfolding fields_outcome
  outcomes_least x kind [] h = absurd (omega arith)
  outcomes_least x kind (f ∷ fs) h =
      let a = field_outcome access rights x (command_of kind f) in
      let b = fields_outcome access rights a.next (commands_of kind fs) in
      rw (length-append a.rows b.rows) (omega (arith, outcome_least x (command_of kind f)))

-- ---- a message

module _ {P : Type 0} (access : Access P) where
  pub command_most : (rights : Rights) (x : State P) (kind : ℕ) (payload : List ℕ) → length (command_outcome access rights x kind payload).rows ≤ 160
  unfolding command_outcome
  command_most rights x kind payload = go (command_error kind payload) refl
    where
      go : (n : ℕ) → command_error kind payload ≡ n → length (command_on access n rights x kind payload).rows ≤ 160
      go zero e = omega (arith, outcomes_most access rights x kind (fields_in (fields_of payload)), (fields_some kind payload e).1)
      go (suc n) e = omega arith

  numbered_most : (rights : Rights) (x : State P) (payload : List ℕ) → length (numbered_outcome access rights x payload).rows ≤ 160
  unfolding numbered_outcome
  numbered_most rights x payload = go (number_error rights (access.last_number x.page) payload)
    where
      go : (n : ℕ) → length (numbered_on access n x payload).rows ≤ 160
      go zero = command_most all_rights (spent access x (number_of payload)) (inner_kind payload) (inner_payload payload)
      go (suc n) = omega arith

  pub message_most : (rights : Rights) (x : State P) (m : Received) → length (message_outcome access rights x m).rows ≤ 160
  unfolding message_outcome
  message_most rights x m = go (not m.good) (eqb m.kind numbered_kind)
    where
      go : (a b : Bool)
          → length (cond a (refused_outcome (get_or m.payload 0 0) 1 x)
          (cond b (numbered_outcome access rights x m.payload) (command_outcome access rights x m.kind m.payload))).rows ≤ 160
      go true b = omega arith
      go false true = numbered_most rights x m.payload
      go false false = command_most rights x m.kind m.payload
