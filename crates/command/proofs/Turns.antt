-- The loop over the fields of a message: what is placed, with what remains, is what the whole message leaves.
use Prim.Native.Nat.{ℕ, ◌+◌, ◌-◌, ◌*◌, ◌≤◌, ◌<◌}
use native.Mathlib.Omega.{arith}
use mathlib.Core.Path.{◌≡◌, refl, sym, ap, ◌∙◌}
use mathlib.Core.Bool.{Bool, true, false}
use mathlib.Core.List.{List, [], ◌∷◌}
use mathlib.Core.Option.{Option, none, some}
use lib.Dec.{ltb}
use lib.ListN.{length, get_or, take, drop}
use lib.Seq.{get_or-take, length-take-le}
use borrow.Author.Tests.{ltb-true, ltb-false}
use Rattle.message.specs.Fields.{Field, cons_field, fields_past, fields_of}
use Rattle.command.specs.declared.command.Command.{Command}
use Rattle.command.specs.Command.{command_of, commands_of}
use Rattle.command.specs.Errors.{fields_refused}
use Rattle.command.specs.Outcome.{Outcome, field_with}
use Rattle.command.specs.Handle.{fields_in}
use Rattle.command.specs.Answer.{page_access}
use Rattle.command.specs.Place.{field_at, Placed, state_of, placed, fields_with}
use Rattle.command.proofs.Places.{put_length, placed_then, placed-idle}
use Rattle.command.proofs.Rests.{rest_of, rest_cons, rest_one, rest_past, rest_end, field_there}
use Rattle.command.proofs.Rows.{with_most, all_with_most}

-- What some fields leave, placed behind what is there.
abbrev pub placed_fields : ℕ → ℕ → List Field → Placed → Placed
placed_fields denial kind fs q = placed q.done (fields_with denial (state_of q.done q.page) (commands_of kind fs)) q.room

-- Before a turn at a place of the first `to` bytes of a row: fields remain, there is room for them, and with them placed the
-- whole is.
pub record Turn (row : List ℕ) (denial : ℕ) (kind to : ℕ) (whole : Placed) (at : ℕ) (q : Placed) : Type 0 where
  pub fields : List Field
  pub rest : rest_of (take to row) at ≡ some fields
  pub space : q.done.end + 10 * length fields ≤ length q.room
  pub left : placed_fields denial kind fields q ≡ whole

-- ---- the first turn

pub turn_start : (row : List ℕ) (denial : ℕ) (kind to from : ℕ) (q : Placed) → from ≤ to → to ≤ length row → q.done.end + 160 ≤ length q.room
    → fields_refused (fields_of (drop from (take to row))) ≡ false
    → Turn row denial kind to (placed_fields denial kind (fields_in (fields_of (drop from (take to row)))) q) from q
unfolding fields_of
turn_start row denial kind to from q h l s r =
    let z : from - length (take to row) ≡ 0 = omega (arith, length-take-le to row l) in
    go (fields_past 0 (drop from (take to row))) refl z
  where
    go : (o : Option (List Field)) → fields_past 0 (drop from (take to row)) ≡ o → from - length (take to row) ≡ 0
        → Turn row denial kind to (placed_fields denial kind (fields_in (fields_past 0 (drop from (take to row)))) q) from q
    go none e z = let b : true ≡ false = rw e at r in let n : ◌≡◌ {A = ℕ} 0 1 = cc in absurd (omega arith)
    go (some fs) e z =
        let b : ltb 16 (length fs) ≡ false = rw e at r in
        let m : length fs ≤ 16 = ltb-false 16 (length fs) b in
        record { fields = fs; rest = rw (z, e); space = omega arith; left = rw e }

-- ---- a turn

module _ (row : List ℕ) (denial : ℕ) (kind to : ℕ) (fits : to ≤ length row) (at : ℕ) (h : at < to) where
  long : length (take to row) ≡ to
  long = length-take-le to row fits

  -- The first of the fields that remain stands there.
  pub record First (f : Field) (fs : List Field) : Type 0 where
    pub is : f ≡ field_at at row
    pub rest : rest_of (take to row) (at + (2 + get_or row (at + 1) 0)) ≡ some fs

  consed : (g f : Field) (fs : List Field) (o : Option (List Field)) → cons_field g o ≡ some (f ∷ fs) → (g ≡ f) × (o ≡ some fs)
  consed g f fs none e = let n : ◌≡◌ {A = ℕ} 0 1 = cc in absurd (omega arith)
  consed g f fs (some gs) e = (cc, cc)

  unconsed : (g : Field) (o : Option (List Field)) → cons_field g o ≡ some [] → ⊥
  unconsed g none e = let n : ◌≡◌ {A = ℕ} 0 1 = cc in absurd (omega arith)
  unconsed g (some gs) e = let n : ◌≡◌ {A = ℕ} 0 1 = cc in absurd (omega arith)

  in_row : (fs : List Field) → rest_of (take to row) at ≡ some fs → at + 1 < to
  in_row fs e = go (ltb (at + 1) to) refl
    where
      go : (b : Bool) → ltb (at + 1) to ≡ b → at + 1 < to
      go true p = ltb-true (at + 1) to p
      go false p =
          let k : to ≤ at + 1 = ltb-false (at + 1) to p in
          let n : rest_of (take to row) at ≡ none = rest_one (take to row) at (omega (arith, long)) in
          let z : ◌≡◌ {A = ℕ} 0 1 = cc in absurd (omega arith)

  not_past : (n : ℕ) (fs : List Field) → rest_of (take to row) n ≡ some fs → n ≤ to
  not_past n fs e = go (ltb to n) refl
    where
      go : (b : Bool) → ltb to n ≡ b → n ≤ to
      go false p = ltb-false to n p
      go true p =
          let k : to < n = ltb-true to n p in
          let m : rest_of (take to row) n ≡ none = rest_past (take to row) n (omega (arith, long)) in
          let z : ◌≡◌ {A = ℕ} 0 1 = cc in absurd (omega arith)

  pub some_left : rest_of (take to row) at ≡ some [] → ⊥
  some_left e =
      let k : at + 1 < to = in_row [] e in
      unconsed (field_at at (take to row)) (rest_of (take to row) (at + (2 + get_or (take to row) (at + 1) 0)))
      (sym (rest_cons (take to row) at (omega (arith, long))) ∙ e)

  pub first : (f : Field) (fs : List Field) → rest_of (take to row) at ≡ some (f ∷ fs) → First f fs
  first f fs e =
      let k : at + 1 < to = in_row (f ∷ fs) e in
      let s : get_or (take to row) (at + 1) 0 ≡ get_or row (at + 1) 0 = get_or-take to row (at + 1) 0 k in
      let p = consed (field_at at (take to row)) f fs (rest_of (take to row) (at + (2 + get_or (take to row) (at + 1) 0)))
      (sym (rest_cons (take to row) at (omega (arith, long))) ∙ e) in
      let r : rest_of (take to row) (at + (2 + get_or row (at + 1) 0)) ≡ some fs = rw s at p.1 in
      record { is = sym p.0 ∙ field_there row to at k (not_past (at + (2 + get_or row (at + 1) 0)) fs r); rest = r }

  module _ (whole q : Placed) where
    pub turn_space : Turn row denial kind to whole at q → q.done.end + 10 ≤ length q.room
    turn_space t = go t.fields t.rest t.space
      where
        go : (fs : List Field) → rest_of (take to row) at ≡ some fs → q.done.end + 10 * length fs ≤ length q.room → q.done.end + 10 ≤ length q.room
        go [] e s = absurd (some_left e)
        go (f ∷ fs) e s = omega arith

    -- The next turn, on what the field left.
    pub turn_next : Turn row denial kind to whole at q → (c : Command) → c ≡ command_of kind (field_at at row) → (next : Placed)
        → next ≡ placed q.done (field_with page_access denial (state_of q.done q.page) c) q.room
        → Turn row denial kind to whole (at + (2 + get_or row (at + 1) 0)) next
    unfolding fields_with
    turn_next t c is next e = go t.fields t.rest t.space t.left
      where
        a : Outcome (List ℕ)
        a = field_with page_access denial (state_of q.done q.page) c

        go : (fs : List Field) → rest_of (take to row) at ≡ some fs → q.done.end + 10 * length fs ≤ length q.room → placed_fields denial kind fs q ≡ whole
            → Turn row denial kind to whole (at + (2 + get_or row (at + 1) 0)) next
        go [] r s l = absurd (some_left r)
        go (f ∷ fs) r s l =
            let g = first f fs r in
            let k : c ≡ command_of kind f = is ∙ ap (command_of kind) (sym g.is) in
            let b : Outcome (List ℕ) = fields_with denial a.next (commands_of kind fs) in
            let am : length a.rows ≤ 10 = with_most page_access denial (state_of q.done q.page) c in
            let bm : length b.rows ≤ 10 * length fs = all_with_most denial a.next kind fs in
            let w : placed (placed q.done a q.room).done b (placed q.done a q.room).room ≡ whole =
            placed_then q.done a b q.room (omega arith) ∙ rw (← k) at l in
            rw e
            (record {
              fields = fs;
              rest = g.rest;
              space = omega (arith, put_length q.done.end a.rows q.room (omega arith));
              left = w;
            })

-- ---- behind the last turn

pub turn_end : (row : List ℕ) (denial : ℕ) (kind to : ℕ) → to ≤ length row → (at : ℕ) (whole q : Placed) → to ≤ at → Turn row denial kind to whole at q → q ≡ whole
unfolding fields_with
turn_end row denial kind to fits at whole q h t = go t.fields t.rest t.left
  where
    long : length (take to row) ≡ to
    long = length-take-le to row fits

    no_more : (fs : List Field) → rest_of (take to row) at ≡ some fs → fs ≡ []
    no_more fs e = cases (ltb to at) refl
      where
        cases : (b : Bool) → ltb to at ≡ b → fs ≡ []
        cases true p =
            let k : to < at = ltb-true to at p in
            let m : rest_of (take to row) at ≡ none = rest_past (take to row) at (omega (arith, long)) in
            let z : ◌≡◌ {A = ℕ} 0 1 = cc in absurd (omega arith)
        cases false p =
            let k : at ≤ to = ltb-false to at p in
            let m : rest_of (take to row) at ≡ some [] = rest_end (take to row) at (omega (arith, long)) in
            cc

    go : (fs : List Field) → rest_of (take to row) at ≡ some fs → placed_fields denial kind fs q ≡ whole → q ≡ whole
    go fs r l =
        let n : fs ≡ [] = no_more fs r in
        sym (placed-idle q.done q.room q.page) ∙ rw n at l
