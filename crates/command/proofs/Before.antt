-- What requests 02, 03 and 05 left of the handling of one field.
use Prim.Native.Nat.{ℕ, ◌+◌}
use native.Mathlib.Omega.{arith}
use mathlib.Core.Path.{◌≡◌, refl, sym, ap, subst, ◌∙◌}
use mathlib.Core.Bool.{Bool, true, false, ◌||◌, not, cond}
use mathlib.Core.List.{List, [], ◌∷◌, append-nil}
use mathlib.Core.Option.{some}
use lib.Dec.{eqb}
use lib.ListN.{length, get_or}
use borrow.Author.Tests.{eq-eqb, ne_eqb, not-false}
use Rattle.stream.proofs.Bools.{differ}
use Rattle.message.specs.Fields.{Field, field_bytes, fields_of}
use Rattle.message.specs.Whole.{refuse}
use Rattle.message.proofs.FieldRows.{fields_fill, fields_back}
use Rattle.command.specs.Rights.{all_rights}
use Rattle.command.specs.Command.{command_of, subject_of}
use Rattle.command.specs.Errors.{is_unknown, field_wrong, field_error, fields_refused, is_kind, command_error}
use Rattle.command.specs.Numbers.{numbered_kind}
use Rattle.command.specs.Outcome.{Access, State, Received, idle, row_outcome, field_outcome, fields_outcome}
use Rattle.command.specs.Handle.{command_outcome, message_outcome}
use Rattle.command.specs.Before.{error_before, outcome_before, not_on_board_in, OneAsBefore}
use Rattle.command.proofs.Separate.{known_kind, then_idle}
use Rattle.command.proofs.Tests.{none-refused}

module _ {P : Type 0} (access : Access P) (x : State P) where
  -- ---- one field

  module _ (good : Bool) (kind : ℕ) (f : Field) (s : f.size ≡ length f.content) where
    abbrev alone : Received
    alone = record { good = good; kind = kind; payload = field_bytes f }

    filled : eqb (f.size + 2) (length (field_bytes f)) ≡ true
    filled = eq-eqb (f.size + 2) (length (field_bytes f)) (omega arith)

    long : eqb (length (field_bytes f)) 1 ≡ false
    long = ne_eqb (length (field_bytes f)) 1 (λ e. omega arith)

    some_bytes : eqb (length (field_bytes f)) 0 ≡ false
    some_bytes = ne_eqb (length (field_bytes f)) 0 (λ e. omega arith)

    field_alone : fields_of (field_bytes f) ≡ some (f ∷ [])
    field_alone = ap fields_of (sym (append-nil (field_bytes f))) ∙ fields_back (f ∷ []) (s, tt)

    module _ (g : good ≡ true) (k : is_kind kind ≡ true) where
      passes : command_error kind (field_bytes f) ≡ 0
      unfolding command_error
      passes = rw (k, field_alone, some_bytes)

      now_one : message_outcome access all_rights x alone ≡ field_outcome access all_rights x (command_of kind f)
      unfolding message_outcome command_outcome fields_outcome
      now_one = rw (g, known_kind kind k, passes, field_alone) (then_idle access (field_outcome access all_rights x (command_of kind f)))

      -- Where the value is on this board, the error is the same; where it is not and was accepted, it is 6.
      error_now : field_error 0 (access.loaded x.page) (command_of kind f)
          ≡ refuse (is_unknown (subject_of kind f.code)) 3 (refuse (field_wrong (subject_of kind f.code) (command_of kind f)) 4 (refuse (not_on_board_in access x alone) 6 0))
      unfolding field_error command_of
      error_now = refl

      error_then : error_before alone ≡ refuse (is_unknown (subject_of kind f.code)) 3 (refuse (field_wrong (subject_of kind f.code) (command_of kind f)) 4 0)
      unfolding error_before command_of
      error_then = rw (g, k, some_bytes, long, filled)

      before_one : not_on_board_in access x alone ≡ false → outcome_before access x alone ≡ field_outcome access all_rights x (command_of kind f)
      unfolding outcome_before field_outcome command_of
      before_one o =
          let same : error_before alone ≡ field_error 0 (access.loaded x.page) (command_of kind f) = error_then ∙ sym (error_now ∙ rw o) in
          rw same

      -- Where there was an error, it is the same.
      before_refused : (error_before alone ≡ 0 → ⊥) → outcome_before access x alone ≡ field_outcome access all_rights x (command_of kind f)
      unfolding outcome_before field_outcome command_of
      before_refused n = rw (error_then ∙ sym (error_now ∙ same (is_unknown (subject_of kind f.code)) (field_wrong (subject_of kind f.code) (command_of kind f)) (λ z. n (error_then ∙ z))))
        where
          same : (u w : Bool) → (refuse u 3 (refuse w 4 0) ≡ 0 → ⊥) → refuse u 3 (refuse w 4 (refuse (not_on_board_in access x alone) 6 0)) ≡ refuse u 3 (refuse w 4 0)
          same true w n = refl
          same false true n = refl
          same false false n = absurd (n refl)

      both_right : not_on_board_in access x alone ≡ false → message_outcome access all_rights x alone ≡ outcome_before access x alone
      both_right o = now_one ∙ sym (before_one o)

      six_now : not_on_board_in access x alone ≡ true → error_before alone ≡ 0 → message_outcome access all_rights x alone ≡ row_outcome f.code 6 (idle x)
      unfolding field_outcome command_of
      six_now o z =
          let three = none-refused (is_unknown (subject_of kind f.code)) 2 _ (sym error_then ∙ z) in
          let four = none-refused (field_wrong (subject_of kind f.code) (command_of kind f)) 3 0 three.1 in
          let six : field_error 0 (access.loaded x.page) (command_of kind f) ≡ 6 = error_now ∙ rw (three.0, four.0, o) in
          now_one ∙ rw six

  -- ---- sums wrong, another type

  abbrev NotNumbered : Received → Type 0
  NotNumbered m = m.kind ≡ numbered_kind → ⊥

  damaged : (m : Received) → m.good ≡ false → message_outcome access all_rights x m ≡ outcome_before access x m
  unfolding message_outcome outcome_before error_before
  damaged m g = rw g

  other : (m : Received) → NotNumbered m → m.good ≡ true → is_kind m.kind ≡ false → message_outcome access all_rights x m ≡ outcome_before access x m
  unfolding message_outcome command_outcome command_error outcome_before error_before
  other m n g k = rw (g, ne_eqb m.kind numbered_kind n, k)

  early : (m : Received) → NotNumbered m → (g k : Bool) → m.good ≡ g → is_kind m.kind ≡ k → not g || not k ≡ true
      → message_outcome access all_rights x m ≡ outcome_before access x m
  early m n false k gs ks e = damaged m gs
  early m n true false gs ks e = other m n gs ks
  early m n true true gs ks e = differ (sym e)

  -- ---- any sums and type

  module _ (m : Received) (n : NotNumbered m) (f : Field) (e : fields_of m.payload ≡ some (f ∷ [])) where
    r : (field_bytes f ≡ m.payload) × (f.size ≡ length f.content)
    r = let h = fields_fill m.payload (f ∷ []) e in (sym (append-nil (field_bytes f)) ∙ h.0, h.1.0)

    q : alone m.good m.kind f r.1 ≡ m
    q = ap (λ (l : List ℕ). record { good = m.good; kind = m.kind; payload = l }) r.0

    -- Any sums and type, from good ones.
    from_good : ((gs : m.good ≡ true) (ks : is_kind m.kind ≡ true)
        → message_outcome access all_rights x (alone m.good m.kind f r.1) ≡ outcome_before access x (alone m.good m.kind f r.1))
        → message_outcome access all_rights x m ≡ outcome_before access x m
    from_good b = go m.good (is_kind m.kind) refl refl
      where
        go : (g k : Bool) → m.good ≡ g → is_kind m.kind ≡ k → message_outcome access all_rights x m ≡ outcome_before access x m
        go false k gs ks = damaged m gs
        go true false gs ks = other m n gs ks
        go true true gs ks = ap (message_outcome access all_rights x) (sym q) ∙ b gs ks ∙ ap (outcome_before access x) q

    one_field : not_on_board_in access x m ≡ false → message_outcome access all_rights x m ≡ outcome_before access x m
    one_field o = from_good (λ gs ks. both_right m.good m.kind f r.1 gs ks (subst (λ (l : Received). not_on_board_in access x l ≡ false) (sym q) o))

    refused_before : (error_before m ≡ 0 → ⊥) → message_outcome access all_rights x m ≡ outcome_before access x m
    refused_before e =
        from_good (λ gs ks. now_one m.good m.kind f r.1 gs ks ∙ sym (before_refused m.good m.kind f r.1 gs ks (λ z. e (ap error_before (sym q) ∙ z))))

    -- What was accepted was good, and of a known type.
    passed : error_before m ≡ 0 → (m.good ≡ true) × (is_kind m.kind ≡ true)
    unfolding error_before
    passed z =
        let one = none-refused (not m.good) 0 _ z in
        let two = none-refused (not (is_kind m.kind)) 1 _ one.1 in
        (not-false m.good one.0, not-false (is_kind m.kind) two.0)

    not_on_board_lem : not_on_board_in access x m ≡ true → error_before m ≡ 0 → message_outcome access all_rights x m ≡ row_outcome (get_or m.payload 0 0) 6 (idle x)
    not_on_board_lem o z =
        let p = passed z in
        let b = six_now m.good m.kind f r.1 p.0 p.1 (subst (λ (l : Received). not_on_board_in access x l ≡ true) (sym q) o) (ap error_before q ∙ z) in
        ap (message_outcome access all_rights x) (sym q) ∙ b ∙ ap (λ (l : List ℕ). row_outcome (get_or l 0 0) 6 (idle x)) r.0

  no_field : (m : Received) → NotNumbered m → m.payload ≡ [] → message_outcome access all_rights x m ≡ outcome_before access x m
  unfolding message_outcome command_outcome command_error outcome_before error_before
  no_field m n e = go m.good (is_kind m.kind) refl refl
    where
      go : (g k : Bool) → m.good ≡ g → is_kind m.kind ≡ k → message_outcome access all_rights x m ≡ outcome_before access x m
      go false k gs ks = damaged m gs
      go true false gs ks = other m n gs ks
      go true true gs ks = rw (gs, known_kind m.kind ks, ks, e)

  -- ---- a payload that fields do not fill

  module _ (m : Received) (g : m.good ≡ true) (k : is_kind m.kind ≡ true) (e : fields_refused (fields_of m.payload) ≡ true) where
    some_bytes_there : eqb (length m.payload) 0 ≡ false
    unfolding fields_of
    some_bytes_there = go m.payload e
      where
        go : (l : List ℕ) → fields_refused (fields_of l) ≡ true → eqb (length l) 0 ≡ false
        go [] n = differ (sym n)
        go (b ∷ bs) n = ne_eqb (length (b ∷ bs)) 0 (λ z. omega arith)

    unfilled : message_outcome access all_rights x m ≡ row_outcome (get_or m.payload 0 0) 4 (idle x)
    unfolding message_outcome command_outcome command_error
    unfilled = rw (g, known_kind m.kind k, k, some_bytes_there, e)

    -- Its size is not what is there.
    size_wrong_lem : (l : List ℕ) → fields_refused (fields_of l) ≡ true → eqb (length l) 1 ≡ false → eqb (get_or l 1 0 + 2) (length l) ≡ false
    unfolding fields_of
    size_wrong_lem [] n o = differ (sym n)
    size_wrong_lem (b ∷ []) n o = differ o
    size_wrong_lem (b ∷ c ∷ bs) n o = ne_eqb (c + 2) (length (b ∷ c ∷ bs)) (λ h. one_field_there (record { code = b; size = c; content = bs }) (omega arith) n)
      where
        one_field_there : (f : Field) → f.size ≡ length f.content → fields_refused (fields_of (field_bytes f)) ≡ true → ⊥
        one_field_there f s r =
            let z : false ≡ true = rw (field_alone true 0 f s) at r in
            differ (sym z)

    unfilled_before : outcome_before access x m ≡ row_outcome (get_or m.payload 0 0) (cond (is_unknown (subject_of m.kind (get_or m.payload 0 0))) 3 4) (idle x)
    unfolding outcome_before error_before
    unfilled_before = go (is_unknown (subject_of m.kind (get_or m.payload 0 0))) refl (eqb (length m.payload) 1) refl
      where
        go : (u : Bool) → is_unknown (subject_of m.kind (get_or m.payload 0 0)) ≡ u → (o : Bool) → eqb (length m.payload) 1 ≡ o
            → outcome_before access x m ≡ row_outcome (get_or m.payload 0 0) (cond (is_unknown (subject_of m.kind (get_or m.payload 0 0))) 3 4) (idle x)
        go true us o os = rw (g, k, some_bytes_there, us)
        go false us true os = rw (g, k, some_bytes_there, us, os)
        go false us false os = rw (g, k, some_bytes_there, us, os, size_wrong_lem m.payload e os)

pub one_as_before : OneAsBefore
one_as_before P access x m n =
    record {
      one_field = one_field access x m n;
      refused_before = refused_before access x m n;
      not_on_board_lem = not_on_board_lem access x m n;
      no_field = no_field access x m n;
      refused = early access x m n m.good (is_kind m.kind) refl refl;
      unfilled = unfilled access x m;
      unfilled_before = unfilled_before access x m;
    }
