-- In the full profile a message is handled as before request 12.
use Prim.Native.Nat.{ℕ, zero, suc}
use native.Mathlib.Omega.{arith}
use mathlib.Core.Path.{◌≡◌, refl, ap}
use mathlib.Core.Bool.{Bool, true, false}
use mathlib.Core.List.{List, [], ◌∷◌}
use borrow.Author.Tests.{ne_eqb}
use Rattle.page.specs.Page.{is_there}
use Rattle.message.specs.Fields.{fields_of}
use Rattle.message.specs.Whole.{refuse}
use Rattle.command.specs.declared.rights.Rights.{Rights}
use Rattle.command.specs.declared.command.Command.{Command}
use Rattle.command.specs.Rights.{all_rights, guarded_rights}
use Rattle.command.specs.Command.{commands_of}
use Rattle.command.specs.Errors.{field_error, command_error}
use Rattle.command.specs.Numbers.{number_of, inner_kind, inner_payload, number_error}
use Rattle.command.specs.Outcome.{Access, State, then_outcome, field_on, field_outcome, fields_outcome}
use Rattle.command.specs.Handle.{fields_in, marked, spent, command_on, command_outcome, numbered_on, numbered_outcome, message_outcome}
use Rattle.command.specs.Unprofiled.{error_unprofiled, number_unprofiled, field_unprofiled, fields_unprofiled, command_unprofiled_on, command_unprofiled, numbered_unprofiled_on, numbered_unprofiled, message_unprofiled, AsUnprofiled}

-- The rights that a field had: on port 0 without a number, and otherwise.
abbrev rights_for : Bool → Rights
rights_for true = guarded_rights
rights_for false = all_rights

module _ {P : Type 0} (access : Access P) where
  field-same : (guarded : Bool) (x : State P) (c : Command) → field_outcome access (rights_for guarded) x c ≡ field_unprofiled access guarded x c
  unfolding field_outcome field_unprofiled field_error error_unprofiled
  field-same false x c = refl
  field-same true x c = go (is_there (access.last_number x.page))
    where
      go : (kept : Bool) → field_on access (field_error (refuse kept 5 0) (access.loaded x.page) c) x c
          ≡ field_on access (error_unprofiled kept (access.loaded x.page) c) x c
      go true = refl
      go false = refl

  fields_same : (guarded : Bool) (x : State P) (cs : List Command) → fields_outcome access (rights_for guarded) x cs ≡ fields_unprofiled access guarded x cs
  unfolding fields_outcome fields_unprofiled
  fields_same guarded x [] = refl
  fields_same guarded x (c ∷ cs) =
      let o = field_unprofiled access guarded x c in
      rw (field-same guarded x c) (ap (then_outcome o) (fields_same guarded o.next cs))

  command_same : (guarded : Bool) (x : State P) (kind : ℕ) (payload : List ℕ)
      → command_outcome access (rights_for guarded) x kind payload ≡ command_unprofiled access guarded x kind payload
  unfolding command_outcome command_unprofiled
  command_same guarded x kind payload = go (command_error kind payload)
    where
      go : (n : ℕ) → command_on access n (rights_for guarded) x kind payload ≡ command_unprofiled_on access n guarded x kind payload
      go zero = fields_same guarded x (commands_of kind (fields_in (fields_of payload)))
      go (suc n) = refl

  number_same : (n : ℕ) (x : State P) (payload : List ℕ) → numbered_on access n x payload ≡ numbered_unprofiled_on access n x payload
  number_same zero x payload = ap marked (command_same false (spent access x (number_of payload)) (inner_kind payload) (inner_payload payload))
  number_same (suc n) x payload = refl

  numbered-same : (guarded : Bool) (x : State P) (payload : List ℕ) → numbered_outcome access (rights_for guarded) x payload ≡ numbered_unprofiled access x payload
  unfolding numbered_outcome numbered_unprofiled number_error number_unprofiled
  numbered-same true x payload = number_same (number_unprofiled (access.last_number x.page) payload) x payload
  numbered-same false x payload = number_same (number_unprofiled (access.last_number x.page) payload) x payload

pub as_unprofiled : AsUnprofiled
unfolding message_outcome message_unprofiled
as_unprofiled P access x m =
    record {
      first = rw (numbered-same access true x m.payload, command_same access true x m.kind m.payload);
      second = λ p. rw (numbered-same access false x m.payload, command_same access false x m.kind m.payload, ne_eqb (suc p) 0 (λ z. omega (arith, z)));
    }
