-- A field that is denied what it asks for leaves all as it is, and so does a message that may use Ping and function 2 only.
use Prim.Native.Nat.{ℕ, zero, suc}
use native.Mathlib.Omega.{arith}
use mathlib.Core.Path.{◌≡◌, refl, sym, ap, subst}
use mathlib.Core.Bool.{Bool, true, false, ◌&&◌, ◌||◌, not, cond}
use mathlib.Core.List.{List, [], ◌∷◌}
use Rattle.std.specs.Prelude.{Option, None}
use lib.Dec.{eqb}
use borrow.Author.Tests.{eq-eqb, ne_eqb, eqb-true, not-true, not-false}
use Rattle.page.specs.declared.setting.Setting.{Setting}
use Rattle.message.specs.Fields.{fields_of}
use Rattle.message.specs.Whole.{refuse}
use Rattle.stream.proofs.Bools.{and_both, differ, or_neither}
use Rattle.command.specs.declared.rights.Rights.{Rights}
use Rattle.command.specs.declared.settings.Settings.{Settings}
use Rattle.command.specs.declared.command.Command.{Command}
use Rattle.command.specs.declared.command.Subject.{Subject}
use Rattle.command.specs.declared.command.Subject.TheVariants.{Ping, Setting as About, Unknown}
use Rattle.command.specs.Rights.{all_rights, read_only_rights}
use Rattle.command.specs.Command.{commands_of, subject_of}
use Rattle.command.specs.Errors.{is_unknown, is_function, size_right, value_right, alters, field_wrong, not_on_board, field_error, command_error}
use Rattle.command.specs.Effects.{Effect, field_effect, effect_on}
use Rattle.command.specs.Numbers.{numbered_kind, number_error}
use Rattle.command.specs.Outcome.{Access, State, then_outcome, denial_of, field_with, field_outcome, fields_outcome}
use Rattle.command.specs.Handle.{fields_in, command_on, command_outcome, numbered_outcome, message_outcome}
use Rattle.command.specs.Numbered.{Leaves}
use Rattle.command.specs.ReadOnly.{ReadOnlyLeaves, FieldsReadOnly, MessagesReadOnly, none_alters, ReadingAllowed}

-- ---- one field

module _ (loaded : Setting → Option ℕ) (w : Settings) (c : Command) where
  record Still (e : Effect) : Type 0 where
    same_settings : e.settings ≡ w
    no_save : e.saves ≡ None

  -- An accepted function that is none of 1, 3, 4 and 5 reads.
  reads_only : (s : Setting) → alters (About s) c ≡ false → field_wrong (About s) c ≡ false → Still (field_effect (About s) loaded w c)
  unfolding field_wrong
  reads_only s a r =
      let sized : Bool = not (size_right (About s) c) in
      let known : Bool = not (is_function c.function) in
      let o = or_neither (sized || known) (not (value_right (About s) c)) r in
      let right : is_function c.function ≡ true = not-false (is_function c.function) (or_neither sized known o.0).1 in
      let b : not (eqb c.function 2) ≡ false = subst (λ (f : Bool). f && not (eqb c.function 2) ≡ false) right a in
      let two : c.function ≡ 2 = eqb-true c.function 2 (not-false (eqb c.function 2) b) in
      rw two (record { same_settings = refl; no_save = refl })

  still : (denial : ℕ) (subject : Subject) (n : ℕ)
      → refuse (is_unknown subject) 3 (refuse (alters subject c) (suc denial) (refuse (field_wrong subject c) 4 (refuse (not_on_board subject loaded c) 6 0))) ≡ n
      → Still (effect_on n (field_effect subject loaded w c) w)
  still denial subject (suc n) e = record { same_settings = refl; no_save = refl }
  still denial Ping zero e = record { same_settings = refl; no_save = refl }
  still denial Unknown zero e = record { same_settings = refl; no_save = refl }
  still denial (About s) zero e = go (alters (About s) c) (field_wrong (About s) c) refl refl e
    where
      go : (a r : Bool) → alters (About s) c ≡ a → field_wrong (About s) c ≡ r
          → refuse a (suc denial) (refuse r 4 (refuse (not_on_board (About s) loaded c) 6 0)) ≡ 0 → Still (field_effect (About s) loaded w c)
      go true r as' rs e = absurd (omega (arith, e))
      go false true as' rs e = absurd (omega (arith, e))
      go false false as' rs e = reads_only s as' rs

-- ---- where functions 1, 3, 4 and 5 are denied

module _ {P : Type 0} (access : Access P) (rights : Rights) where
  field_leaves : (x : State P) (c : Command) (d : ℕ) → denial_of access rights x.page ≡ suc d → Leaves x (field_outcome access rights x c)
  unfolding field_outcome field_error
  field_leaves x c d e =
      let s = still (access.loaded x.page) x.settings c d (subject_of c.kind c.code) (field_error (denial_of access rights x.page) (access.loaded x.page) c) (rw e) in
      record { next = rw (s.same_settings, s.no_save); unmarked = rw s.no_save }

  fields_leave : (x : State P) (cs : List Command) (d : ℕ) → denial_of access rights x.page ≡ suc d → Leaves x (fields_outcome access rights x cs)
  unfolding fields_outcome
  fields_leave x [] d e = record { next = refl; unmarked = refl }
  fields_leave x (c ∷ cs) d e =
      let f = field_leaves x c d e in
      let r = fields_leave x cs d e in
      rw f.next (record { next = r.next; unmarked = rw f.unmarked r.unmarked })

  pub command_leaves : (x : State P) (kind : ℕ) (payload : List ℕ) (d : ℕ) → denial_of access rights x.page ≡ suc d
      → Leaves x (command_outcome access rights x kind payload)
  unfolding command_outcome
  command_leaves x kind payload d e = go (command_error kind payload)
    where
      go : (n : ℕ) → Leaves x (command_on access n rights x kind payload)
      go zero = fields_leave x (commands_of kind (fields_in (fields_of payload))) d e
      go (suc n) = record { next = refl; unmarked = refl }

-- ---- Ping and function 2 only

pub read_only_leaves : ReadOnlyLeaves
unfolding message_outcome numbered_outcome number_error
read_only_leaves P access x m = go m.good (eqb m.kind numbered_kind) refl refl
  where
    go : (g k : Bool) → m.good ≡ g → eqb m.kind numbered_kind ≡ k → Leaves x (message_outcome access read_only_rights x m)
    go false k gs ks = record { next = rw gs; unmarked = rw gs }
    go true false gs ks =
        let l = command_leaves access read_only_rights x m.kind m.payload 6 refl in
        record { next = rw (gs, ks) l.next; unmarked = rw (gs, ks) l.unmarked }
    go true true gs ks = record { next = rw (gs, ks); unmarked = rw (gs, ks) }

pub fields_read_only : FieldsReadOnly
unfolding field_outcome field_error
fields_read_only P access x c =
    record {
      not_allowed = λ a. rw (known (subject_of c.kind c.code) a, a);
      unknown = λ u. rw u;
      other = λ a. rw a;
    }
  where
    -- What asks for such a function is a setting.
    known : (subject : Subject) → alters subject c ≡ true → is_unknown subject ≡ false
    known Ping a = refl
    known (About s) a = refl
    known Unknown a = differ (sym a)

pub messages_read_only : MessagesReadOnly
unfolding message_outcome numbered_outcome number_error command_outcome
messages_read_only P access x m =
    record {
      numbered = λ g k. rw (g, eq-eqb m.kind numbered_kind k);
      damaged = λ g. rw g;
      refused = λ n e. rw (ne_eqb m.kind numbered_kind n) (ap (cond (not m.good) _) (go (command_error m.kind m.payload) e));
    }
  where
    go : (e : ℕ) → (e ≡ 0 → ⊥) → command_on access e read_only_rights x m.kind m.payload ≡ command_on access e all_rights x m.kind m.payload
    go zero n = absurd (n refl)
    go (suc e) n = refl

-- ---- what is denied nowhere

module _ {P : Type 0} (access : Access P) (rights : Rights) where
  -- A field that does not ask for functions 1, 3, 4 and 5.
  field_reading : (x : State P) (c : Command) → alters (subject_of c.kind c.code) c ≡ false
      → field_outcome access rights x c ≡ field_outcome access all_rights x c
  unfolding field_outcome field_error
  field_reading x c a = go (denial_of access rights x.page)
    where
      go : (d : ℕ) → field_with access d x c ≡ field_with access 0 x c
      go zero = refl
      go (suc d) = rw a

  fields_reading : (x : State P) (cs : List Command) → none_alters cs ≡ true → fields_outcome access rights x cs ≡ fields_outcome access all_rights x cs
  unfolding fields_outcome
  fields_reading x [] e = refl
  fields_reading x (c ∷ cs) e =
      let b = and_both (not (alters (subject_of c.kind c.code) c)) (none_alters cs) e in
      let f = field_reading x c (not-true (alters (subject_of c.kind c.code) c) b.0) in
      let o = field_outcome access all_rights x c in
      rw f (ap (then_outcome o) (fields_reading o.next cs b.1))

pub reading_allowed : ReadingAllowed
unfolding message_outcome command_outcome
reading_allowed P access rights x m n e =
    rw (ne_eqb m.kind numbered_kind n) (ap (cond (not m.good) _) (go (command_error m.kind m.payload)))
  where
    go : (n : ℕ) → command_on access n rights x m.kind m.payload ≡ command_on access n all_rights x m.kind m.payload
    go zero = fields_reading access rights x (commands_of m.kind (fields_in (fields_of m.payload))) e
    go (suc n) = refl
