-- Numbered commands, and the number that the page keeps.
use Prim.Native.Nat.{ℕ, zero, suc, ◌≤◌, ◌<◌}
use native.Mathlib.Omega.{arith}
use mathlib.Core.Path.{◌≡◌, refl, sym, ap, subst, ◌∙◌}
use mathlib.Core.Bool.{Bool, true, false, ◌&&◌, not, cond}
use mathlib.Core.List.{List, [], ◌∷◌}
use Rattle.std.specs.Prelude.{Option, Some, None}
use lib.Dec.{eqb, leb}
use lib.ListN.{length, get_or}
use borrow.Author.Tests.{ne_eqb, le-ltb, lt-ltb, leb-true, leb-false}
use Rattle.page.specs.declared.setting.Setting.{Setting}
use Rattle.page.specs.declared.setting.Setting.TheVariants.{Baud, Accelerometer, Gyroscope}
use Rattle.page.specs.declared.setting.Values.{Values}
use Rattle.page.specs.Settings.{last_number, key_storable}
use Rattle.page.specs.Page.{is_there, with_value, all_storable, writing, page_size}
use Rattle.page.specs.Lookup.{values_in}
use Rattle.page.specs.Sound.{sound, refuse_writing, page_writing}
use Rattle.page.proofs.Pages.{read_back, put_keeps}
use Rattle.message.specs.Fields.{fields_of}
use Rattle.message.specs.Whole.{refuse}
use Rattle.command.specs.declared.rights.Rights.{Rights}
use Rattle.command.specs.declared.command.Command.{Command}
use Rattle.command.specs.Rights.{all_rights, guarded_rights}
use Rattle.command.specs.Command.{commands_of}
use Rattle.command.specs.Errors.{command_error}
use Rattle.command.specs.Numbers.{numbered_kind, number_of, inner_kind, inner_payload, is_fresh, number_error}
use Rattle.command.specs.Effects.{working_value, effect_of}
use Rattle.command.specs.Outcome.{Access, State, Outcome, Received, then_outcome, page_after, denial_of, field_outcome, fields_outcome}
use Rattle.command.specs.Handle.{fields_in, refused_outcome, command_on, command_outcome, marked, spent, numbered_outcome, message_outcome}
use Rattle.command.specs.Answer.{loaded_from, saved_on, spent_on, number_on, page_access}
use Rattle.command.specs.Numbered.{carried, allowed_number, kept_on, carries_fresh, NumberHandles, NumberKept, WithoutNumber, Leaves, NumberGuards}
use Rattle.command.specs.Place.{fields_with}
use Rattle.stream.proofs.Bools.{and_both}
use Rattle.command.proofs.Pages.{number_small, page_changes}
use Rattle.command.proofs.ReadOnly.{command_leaves}
use Rattle.command.proofs.Separate.{is_command}

-- ---- a message that carries a number

-- It is good, of type 7C and long enough, and the number is that of its payload.
record Carries (m : Received) (n : ℕ) : Type 0 where
  pub good : m.good ≡ true
  pub numbered : eqb m.kind numbered_kind ≡ true
  pub long : 5 ≤ length m.payload
  pub number : number_of m.payload ≡ n

carries : (m : Received) (n : ℕ) → carried m ≡ Some n → Carries m n
unfolding carried
carries m n e = go (m.good && eqb m.kind numbered_kind && leb 5 (length m.payload)) refl e
  where
    go : (b : Bool) → m.good && eqb m.kind numbered_kind && leb 5 (length m.payload) ≡ b → cond b (Some (number_of m.payload)) None ≡ Some n → Carries m n
    go true t e =
        let p = and_both (m.good && eqb m.kind numbered_kind) (leb 5 (length m.payload)) t in
        let q = and_both m.good (eqb m.kind numbered_kind) p.0 in
        record { good = q.0; numbered = q.1; long = leb-true 5 (length m.payload) p.1; number = cc }
    go false t e = let z : ◌≡◌ {A = ℕ} 0 1 = cc in absurd (omega arith)

module _ {P : Type 0} (access : Access P) (rights : Rights) (x : State P) where
  abbrev last : Option ℕ
  last = access.last_number x.page

  numbered_not_allowed : (payload : List ℕ) → rights.readonly ≡ true → numbered_outcome access rights x payload ≡ refused_outcome (get_or (inner_payload payload) 0 0) 7 x
  unfolding numbered_outcome number_error
  numbered_not_allowed payload o = rw o

  module _ (payload : List ℕ) (o : rights.readonly ≡ false) (long : 5 ≤ length payload) where
    numbered-fresh : is_fresh last (number_of payload) ≡ true
        → numbered_outcome access rights x payload ≡ marked (command_outcome access all_rights (spent access x (number_of payload)) (inner_kind payload) (inner_payload payload))
    unfolding numbered_outcome number_error
    numbered-fresh f = rw (o, le-ltb (length payload) 5 long, f)

    numbered_stale : is_fresh last (number_of payload) ≡ false → numbered_outcome access rights x payload ≡ refused_outcome (get_or (inner_payload payload) 0 0) 5 x
    unfolding numbered_outcome number_error
    numbered_stale f = rw (o, le-ltb (length payload) 5 long, f)

  is_numbered : (m : Received) → m.good ≡ true → eqb m.kind numbered_kind ≡ true
      → message_outcome access rights x m ≡ numbered_outcome access rights x m.payload
  unfolding message_outcome
  is_numbered m g k = rw (g, k)

-- A type 7C inside is none.
in_itself : {P : Type 0} (access : Access P) (x : State P) (kind : ℕ) (payload : List ℕ) → kind ≡ numbered_kind
    → command_outcome access all_rights x kind payload ≡ refused_outcome (get_or payload 0 0) 2 x
unfolding command_outcome command_error
in_itself access x kind payload k = rw k

pub number_handles : NumberHandles
number_handles P access rights x m n e =
    record {
      fresh = λ o f k. to ∙ numbered-fresh access rights x m.payload o c.long (rw c.number f) ∙ rw c.number (ap marked (sym (inner k)));
      fresh_twice = λ o f k. to ∙ numbered-fresh access rights x m.payload o c.long (rw c.number f) ∙ rw c.number (ap marked (twice k));
      stale = λ o f. to ∙ numbered_stale access rights x m.payload o c.long (rw c.number f);
      not_allowed = λ o. to ∙ numbered_not_allowed access rights x m.payload o;
      mark = ap (λ (o : Outcome P). o.saved) to ∙ rw (← c.number) (mark rights.readonly (is_fresh (last access rights x) (number_of m.payload)) refl refl);
    }
  where
    c : Carries m n
    c = carries m n e

    to : message_outcome access rights x m ≡ numbered_outcome access rights x m.payload
    to = is_numbered access rights x m c.good c.numbered

    kind : ℕ
    kind = inner_kind m.payload

    payload : List ℕ
    payload = inner_payload m.payload

    inner : (kind ≡ numbered_kind → ⊥)
        → message_outcome access all_rights (spent access x n) (record { good = true; kind = kind; payload = payload })
        ≡ command_outcome access all_rights (spent access x n) kind payload
    inner k = is_command access all_rights (spent access x n) kind payload (ne_eqb kind numbered_kind k)

    twice : kind ≡ numbered_kind → command_outcome access all_rights (spent access x n) kind payload ≡ refused_outcome (get_or payload 0 0) 2 (spent access x n)
    twice k = in_itself access (spent access x n) kind payload k

    mark : (r b : Bool) → rights.readonly ≡ r → is_fresh (last access rights x) (number_of m.payload) ≡ b
        → (numbered_outcome access rights x m.payload).saved ≡ not rights.readonly && is_fresh (last access rights x) (number_of m.payload)
    mark true b o f = rw (numbered_not_allowed access rights x m.payload o, o)
    mark false true o f = rw (numbered-fresh access rights x m.payload o c.long f, o, f)
    mark false false o f = rw (numbered_stale access rights x m.payload o c.long f, o, f)

-- ---- the number that the page keeps

-- Values written to any page leave its number if they have it: they are written as they are, or not at all.
writing-number : (v : Values) (page : List ℕ) → v.number ≡ number_on page → number_on (page_writing v page).page ≡ number_on page
unfolding page_writing
writing-number v page e = go (eqb (length page) page_size) (all_storable v) refl
  where
    go : (size all : Bool) → all_storable v ≡ all
        → number_on (refuse_writing (not size) 19 page (refuse_writing (not all) 20 page (record { number = 0; page = writing v }))).page ≡ number_on page
    go false all a = refl
    go true false a = refl
    go true true a = ap (λ (v : Values). v.number) (read_back v a) ∙ e

-- So does a save, on any page.
pub save_keeps_number : (page : List ℕ) (s : Setting) (x : ℕ) → number_on (saved_on page s x) ≡ number_on page
save_keeps_number page s x = writing-number (with_value (values_in page) s x) page (same_number s)
  where
    same_number : (s : Setting) → (with_value (values_in page) s x).number ≡ number_on page
    same_number Baud = refl
    same_number Accelerometer = refl
    same_number Gyroscope = refl

-- A number put in on a sound page is the one that it keeps.
pub put_number_lem : (page : List ℕ) (n : ℕ) → sound page ≡ true → n < 4294967296 → number_on (spent_on page n) ≡ Some n
put_number_lem page n h l =
    let k : key_storable last_number n ≡ true = lt-ltb n 4294967296 l in
    ap number_on (page_changes page last_number n h k).put_page_lem ∙ ap (λ (v : Values). v.number) (put_keeps page last_number n h k).values

module _ (rights : Rights) where
  pub field_keeps_number : (x : State (List ℕ)) (c : Command) → number_on (field_outcome page_access rights x c).next.page ≡ number_on x.page
  unfolding field_outcome effect_of
  field_keeps_number x c = go (effect_of (denial_of page_access rights x.page) (loaded_from x.page) x.settings c).saves
    where
      go : (saves : Option Setting) → number_on (page_after saved_on saves x.settings x.page) ≡ number_on x.page
      go None = refl
      go (Some s) = save_keeps_number x.page s (working_value x.settings s)

  -- So one look at the number serves all fields.
  pub fields_denied : (x : State (List ℕ)) (cs : List Command) → fields_outcome page_access rights x cs ≡ fields_with (denial_of page_access rights x.page) x cs
  unfolding fields_outcome fields_with field_outcome
  fields_denied x [] = refl
  fields_denied x (c ∷ cs) =
      let o = field_outcome page_access rights x c in
      let same : denial_of page_access rights o.next.page ≡ denial_of page_access rights x.page =
      ap (λ (n : Option ℕ). refuse rights.readonly 7 (refuse (rights.guarded && is_there n) 5 0)) (field_keeps_number x c) in
      ap (then_outcome o) (fields_denied o.next cs ∙ ap (λ (d : ℕ). fields_with d o.next cs) same)

  fields_keep_number : (x : State (List ℕ)) (cs : List Command) → number_on (fields_outcome page_access rights x cs).next.page ≡ number_on x.page
  unfolding fields_outcome
  fields_keep_number x [] = refl
  fields_keep_number x (c ∷ cs) = fields_keep_number (field_outcome page_access rights x c).next cs ∙ field_keeps_number x c

  pub command_keeps_number : (x : State (List ℕ)) (kind : ℕ) (payload : List ℕ)
      → number_on (command_outcome page_access rights x kind payload).next.page ≡ number_on x.page
  unfolding command_outcome
  command_keeps_number x kind payload = go (command_error kind payload)
    where
      go : (n : ℕ) → number_on (command_on page_access n rights x kind payload).next.page ≡ number_on x.page
      go zero = fields_keep_number x (commands_of kind (fields_in (fields_of payload)))
      go (suc n) = refl

none_allowed : (rights : Rights) → allowed_number rights None ≡ None
none_allowed rights = go rights.readonly
  where
    go : (r : Bool) → ◌≡◌ {A = Option ℕ} (cond r None None) None
    go true = refl
    go false = refl

module _ (rights : Rights) (x : State (List ℕ)) (payload : List ℕ) where
  numbered_keeps : rights.readonly ≡ false → sound x.page ≡ true → 5 ≤ length payload
      → number_on (numbered_outcome page_access rights x payload).next.page ≡ kept_on (Some (number_of payload)) (number_on x.page)
  numbered_keeps o h l = go (is_fresh (number_on x.page) (number_of payload)) refl
    where
      after : State (List ℕ)
      after = spent page_access x (number_of payload)

      go : (b : Bool) → is_fresh (number_on x.page) (number_of payload) ≡ b
          → number_on (numbered_outcome page_access rights x payload).next.page ≡ kept_on (Some (number_of payload)) (number_on x.page)
      go true f =
          rw (numbered-fresh page_access rights x payload o l f, f)
          (command_keeps_number all_rights after (inner_kind payload) (inner_payload payload) ∙ put_number_lem x.page (number_of payload) h (number_small payload))
      go false f = rw (numbered_stale page_access rights x payload o l f, f)

  numbered_short : rights.readonly ≡ false → leb 5 (length payload) ≡ false → number_on (numbered_outcome page_access rights x payload).next.page ≡ number_on x.page
  unfolding numbered_outcome number_error
  numbered_short o s = rw (o, lt-ltb (length payload) 5 (leb-false 5 (length payload) s))

pub number-kept : NumberKept
unfolding message_outcome carried
number-kept rights x m h =
    record {
      four_bytes = λ n e. rw (← (carries m n e).number) (number_small m.payload);
      kept = kept m.good (eqb m.kind numbered_kind) rights.readonly (leb 5 (length m.payload)) refl refl refl refl;
    }
  where
    kept : (g k r l : Bool) → m.good ≡ g → eqb m.kind numbered_kind ≡ k → rights.readonly ≡ r → leb 5 (length m.payload) ≡ l
        → number_on (message_outcome page_access rights x m).next.page ≡ kept_on (allowed_number rights (carried m)) (number_on x.page)
    kept false k r l gs ks rs ls = rw (gs, none_allowed rights)
    kept true false r l gs ks rs ls = rw (gs, ks, none_allowed rights) (command_keeps_number rights x m.kind m.payload)
    kept true true true l gs ks rs ls = rw (gs, ks, numbered_not_allowed page_access rights x m.payload rs, rs)
    kept true true false false gs ks rs ls = rw (gs, ks, ls, none_allowed rights) (numbered_short rights x m.payload rs ls)
    kept true true false true gs ks rs ls =
        rw (gs, ks, ls)
        (numbered_keeps rights x m.payload rs h (leb-true 5 (length m.payload) ls)
        ∙ sym (ap (λ (r : Bool). kept_on (cond r None (Some (number_of m.payload))) (number_on x.page)) rs))

-- ---- a page without a number

field_unguarded : (x : State (List ℕ)) (c : Command) → number_on x.page ≡ None → field_outcome page_access guarded_rights x c ≡ field_outcome page_access all_rights x c
unfolding field_outcome
field_unguarded x c e = rw e

fields_unguarded : (x : State (List ℕ)) (cs : List Command) → number_on x.page ≡ None
    → fields_outcome page_access guarded_rights x cs ≡ fields_outcome page_access all_rights x cs
unfolding fields_outcome
fields_unguarded x [] e = refl
fields_unguarded x (c ∷ cs) e =
    let o = field_outcome page_access all_rights x c in
    let a : number_on o.next.page ≡ None = field_keeps_number all_rights x c ∙ e in
    rw (field_unguarded x c e) (ap (then_outcome o) (fields_unguarded o.next cs a))

command_unguarded : (x : State (List ℕ)) (kind : ℕ) (payload : List ℕ) → number_on x.page ≡ None
    → command_outcome page_access guarded_rights x kind payload ≡ command_outcome page_access all_rights x kind payload
unfolding command_outcome
command_unguarded x kind payload e = go (command_error kind payload)
  where
    go : (n : ℕ) → command_on page_access n guarded_rights x kind payload ≡ command_on page_access n all_rights x kind payload
    go zero = fields_unguarded x (commands_of kind (fields_in (fields_of payload))) e
    go (suc n) = refl

numbered_unguarded : {P : Type 0} (access : Access P) (x : State P) (payload : List ℕ) → numbered_outcome access guarded_rights x payload ≡ numbered_outcome access all_rights x payload
unfolding numbered_outcome number_error
numbered_unguarded access x payload = refl

pub without_number : WithoutNumber
unfolding message_outcome
without_number x m e = rw (command_unguarded x m.kind m.payload e, numbered_unguarded page_access x m.payload)

-- ---- a page with a number, where one is needed

module _ (kept : ℕ) where
  command_left : (x : State (List ℕ)) (kind : ℕ) (payload : List ℕ) → number_on x.page ≡ Some kept → Leaves x (command_outcome page_access guarded_rights x kind payload)
  command_left x kind payload e = command_leaves page_access guarded_rights x kind payload 4 (rw e)

  numbered_left : (x : State (List ℕ)) (payload : List ℕ) → number_on x.page ≡ Some kept
      → carries_fresh (Some kept) (cond (leb 5 (length payload)) (Some (number_of payload)) None) ≡ false → Leaves x (numbered_outcome page_access guarded_rights x payload)
  unfolding numbered_outcome number_error
  numbered_left x payload e f = go (leb 5 (length payload)) refl f
    where
      go : (l : Bool) → leb 5 (length payload) ≡ l → carries_fresh (Some kept) (cond l (Some (number_of payload)) None) ≡ false
          → Leaves x (numbered_outcome page_access guarded_rights x payload)
      go false l f = rw (lt-ltb (length payload) 5 (leb-false 5 (length payload) l)) (record { next = refl; unmarked = refl })
      go true l f = rw (numbered_stale page_access guarded_rights x payload refl (leb-true 5 (length payload) l) (rw e f)) (record { next = refl; unmarked = refl })

pub number_guards : NumberGuards
unfolding message_outcome carried
number_guards x m kept e f = go m.good (eqb m.kind numbered_kind) refl refl
  where
    go : (g k : Bool) → m.good ≡ g → eqb m.kind numbered_kind ≡ k → Leaves x (message_outcome page_access guarded_rights x m)
    go false k gs ks = record { next = rw gs; unmarked = rw gs }
    go true false gs ks = let l = command_left kept x m.kind m.payload e in record { next = rw (gs, ks) l.next; unmarked = rw (gs, ks) l.unmarked }
    go true true gs ks =
        let c : carried m ≡ cond (leb 5 (length m.payload)) (Some (number_of m.payload)) None = rw (gs, ks) in
        let l = numbered_left kept x m.payload e (subst (λ (c : Option ℕ). carries_fresh (Some kept) c ≡ false) c f) in
        record { next = rw (gs, ks) l.next; unmarked = rw (gs, ks) l.unmarked }
