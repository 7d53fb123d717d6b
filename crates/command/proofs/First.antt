-- Every reply has a first row, whose error is 0 to 7: the proof of `FirstRows`.
use Prim.Native.Nat.{ℕ, zero, suc, ◌≤◌, ◌<◌}
use native.Mathlib.Omega.{arith}
use mathlib.Core.Path.{◌≡◌, refl, sym, ap, ◌∙◌}
use mathlib.Core.Bool.{Bool, true, false, not, cond}
use mathlib.Core.List.{List, [], ◌∷◌, ◌++◌}
use lib.Dec.{eqb, ltb}
use lib.ListN.{length, get_or, get_or-eq_default}
use Rattle.message.specs.Fields.{Field, fields_of}
use Rattle.message.specs.Message.{message_of}
use Rattle.message.specs.Whole.{refuse}
use Rattle.command.specs.declared.rights.Rights.{Rights}
use Rattle.command.specs.Rights.{all_rights}
use Rattle.command.specs.Command.{command_of, commands_of}
use Rattle.command.specs.Errors.{field_error, fields_refused, is_kind, command_error}
use Rattle.command.specs.Numbers.{is_fresh, numbered_kind, number_of, inner_kind, inner_payload, number_error}
use Rattle.command.specs.Outcome.{Access, State, Outcome, reply_of, reply_row, error_in, denial_of, field_outcome, fields_outcome}
use Rattle.command.specs.Handle.{fields_in, spent, refused_outcome, marked, command_on, command_outcome, numbered_on, numbered_outcome, message_outcome}
use Rattle.command.specs.First.{FirstRow, FirstRows}
use Rattle.command.proofs.Accepts.{denial_most, error_most}
use Rattle.command.proofs.Tests.{fields_some}

row_told : (kind echo error : ℕ) (rest : List ℕ) → error_in (message_of kind (reply_row echo error rest)) ≡ error
unfolding message_of
row_told kind echo error rest = refl

pub no_error : (room : List ℕ) → length room < 8 → 0 ≡ error_in room
no_error room h = sym (get_or-eq_default room 0 {n = 7} (omega arith))

module _ {P : Type 0} where
  first : (kind : ℕ) (o : Outcome P) (echo error : ℕ) (rest : List ℕ) → o.rows ≡ reply_row echo error rest → error ≤ 7 → FirstRow kind o
  first kind o echo error rest e l =
      record { echo = echo; error = error; rest = rest; rows = e; most = l; first = ap (λ (rs : List ℕ). error_in (message_of kind rs)) e ∙ row_told kind echo error rest }

  refused_first : (kind echo error : ℕ) (x : State P) → error ≤ 7 → FirstRow kind (refused_outcome echo error x)
  refused_first kind echo error x l = first kind (refused_outcome echo error x) echo error [] refl l

command_error_most : (kind : ℕ) (payload : List ℕ) → command_error kind payload ≤ 7
unfolding command_error
command_error_most kind payload = go (not (is_kind kind)) (eqb (length payload) 0) (fields_refused (fields_of payload))
  where
    go : (a b c : Bool) → refuse a 2 (refuse b 3 (refuse c 4 0)) ≤ 7
    go true b c = omega arith
    go false true c = omega arith
    go false false true = omega arith
    go false false false = omega arith

module _ {P : Type 0} (access : Access P) where
  number_error_most : (rights : Rights) (x : State P) (payload : List ℕ) → number_error rights (access.last_number x.page) payload ≤ 7
  unfolding number_error
  number_error_most rights x payload = go rights.readonly (ltb (length payload) 5) (not (is_fresh (access.last_number x.page) (number_of payload)))
    where
      go : (a b c : Bool) → refuse a 7 (refuse b 4 (refuse c 5 0)) ≤ 7
      go true b c = omega arith
      go false true c = omega arith
      go false false true = omega arith
      go false false false = omega arith

  fields_first : (rights : Rights) (x : State P) (k kind : ℕ) (fs : List Field) → 1 ≤ length fs → FirstRow k (fields_outcome access rights x (commands_of kind fs))
  unfolding fields_outcome field_outcome
  fields_first rights x k kind [] h = absurd (omega arith)
  fields_first rights x k kind (f ∷ fs) h =
      first k (fields_outcome access rights x (commands_of kind (f ∷ fs))) (command_of kind f).code (field_error (denial_of access rights x.page) (access.loaded x.page) (command_of kind f)) _ refl
      (error_most (denial_of access rights x.page) (access.loaded x.page) (command_of kind f) (denial_most access rights x.page))

  command_first : (rights : Rights) (x : State P) (k kind : ℕ) (payload : List ℕ) → FirstRow k (command_outcome access rights x kind payload)
  unfolding command_outcome
  command_first rights x k kind payload = go (command_error kind payload) refl (command_error_most kind payload)
    where
      go : (n : ℕ) → command_error kind payload ≡ n → n ≤ 7 → FirstRow k (command_on access n rights x kind payload)
      go zero e l = fields_first rights x k kind (fields_in (fields_of payload)) (fields_some kind payload e).0
      go (suc n) e l = refused_first k (get_or payload 0 0) (suc n) x l

  -- The mark of a save is not in the rows.
  marked_first : (k : ℕ) (o : Outcome P) → FirstRow k o → FirstRow k (marked o)
  marked_first k o f = first k (marked o) f.echo f.error f.rest f.rows f.most

  numbered_first : (rights : Rights) (x : State P) (k : ℕ) (payload : List ℕ) → FirstRow k (numbered_outcome access rights x payload)
  unfolding numbered_outcome
  numbered_first rights x k payload = go (number_error rights (access.last_number x.page) payload) (number_error_most rights x payload)
    where
      go : (n : ℕ) → n ≤ 7 → FirstRow k (numbered_on access n x payload)
      go zero l = marked_first k _ (command_first all_rights (spent access x (number_of payload)) k (inner_kind payload) (inner_payload payload))
      go (suc n) l = refused_first k (get_or (inner_payload payload) 0 0) (suc n) x l

pub first_rows : FirstRows
unfolding message_outcome
first_rows P access rights x m = go (not m.good) (eqb m.kind numbered_kind)
  where
    go : (a b : Bool) → FirstRow m.kind (cond a (refused_outcome (get_or m.payload 0 0) 1 x)
        (cond b (numbered_outcome access rights x m.payload) (command_outcome access rights x m.kind m.payload)))
    go true b = refused_first m.kind (get_or m.payload 0 0) 1 x (omega arith)
    go false true = numbered_first access rights x m.kind m.payload
    go false false = command_first access rights x m.kind m.kind m.payload

-- The first error stands at the front of a room that begins with the reply.
pub first_written : (P : Type 0) (kind : ℕ) (o : Outcome P) (more : List ℕ) → FirstRow kind o → error_in (reply_of kind o ++ more) ≡ error_in (reply_of kind o)
unfolding message_of
first_written P kind o more f = rw f.rows
