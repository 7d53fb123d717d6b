-- What the command writers write is obeyed by the board that it is fed to.
use Prim.Native.Nat.{ℕ, ◌≤◌}
use native.Mathlib.Omega.{arith}
use mathlib.Core.Path.{◌≡◌, refl, ap, sym, ◌∙◌}
use mathlib.Core.Bool.{Bool, true, false, ◌||◌, or-false, and-true}
use mathlib.Core.List.{List, [], ◌∷◌, append-nil}
use lib.Dec.{eqb}
use lib.ListN.{length}
use borrow.Author.Tests.{eqb-true, le-ltb}
use Rattle.message.specs.Message.{message_of}
use Rattle.message.specs.Theorems.{RoundTrip}
use Rattle.message.proofs.RoundTrips.{written_is_read}
use Rattle.std.specs.Prelude.{Option, Some, None}
use Rattle.page.specs.Page.{is_there}
use Rattle.message.specs.Whole.{refuse}
use Rattle.command.specs.declared.rights.Rights.{Rights}
use Rattle.command.specs.Rights.{all_rights}
use Rattle.command.specs.Errors.{is_kind}
use Rattle.command.specs.Numbers.{numbered_kind}
use Rattle.command.specs.Outcome.{State, Outcome, Received, idle, then_outcome, received_of, denial_of}
use Rattle.command.specs.Handle.{marked, spent, message_outcome}
use Rattle.command.specs.Answer.{reply_room, number_on, page_access, Answering, answer_with, answering}
use Rattle.command.proofs.Numbers.{without_number}
use Rattle.client.specs.Writer.{code_subject, kind_for, acceptable, numbered_payload, Asked, asked_subject}
use Rattle.client.specs.Commands.{Obeyed, ObeyedNumbered, asked_outcome, asked_outcomes, asked_fields, asks_to_read, all_read, OneAsked}
use Rattle.client.proofs.Obedience.{fields_some, fields_short, written_is_obeyed, numbered_is_obeyed, subject_same, one_is_written}
use Rattle.stream.proofs.Bools.{differ}
use Rattle.board.specs.declared.board.Board.{Board}
use Rattle.board.specs.Profile.{rights_of}
use Rattle.board.specs.Feed.{feed_on, feed_of}
use Rattle.board.specs.Alone.{Ready, answered_step}
use Rattle.board.proofs.Alone.{fed_alone}
use Rattle.exchange.specs.Theorems.{state_of, answered_with, denial_on, CallObeys, written_outcome, WriterObeyed, NumberedCallObeys, NumberedWriterObeyed}

not_a5 : (kind : ℕ) → is_kind kind ≡ true → kind ≡ 0xA5 → ⊥
not_a5 kind k e = differ (sym (rw e at k))

-- Where nothing is denied, a message is handled as with all rights.
undenied : (rights : Rights) (x : State (List ℕ)) (m : Received) → denial_of page_access rights x.page ≡ 0
    → message_outcome page_access rights x m ≡ message_outcome page_access all_rights x m
undenied rights x m e = go rights.guarded rights.readonly e
  where
    absent : (s : Option ℕ) → refuse (is_there s) 5 0 ≡ 0 → s ≡ None
    absent None e = refl
    absent (Some n) e = absurd (omega (arith, e))

    go : (g r : Bool) → denial_of page_access (record { guarded = g; readonly = r }) x.page ≡ 0
        → message_outcome page_access (record { guarded = g; readonly = r }) x m ≡ message_outcome page_access all_rights x m
    go g true e = absurd (omega (arith, e))
    go false false e = refl
    go true false e = without_number x m (absent (number_on x.page) e)

-- A message of at most 255 payload bytes, fed alone and handled to this outcome.
module _ (port : ℕ) (b : Board) (room page : List ℕ) (r : Ready port b room page) (kind : ℕ) (payload : List ℕ) (not_a5 : kind ≡ 0xA5 → ⊥) (few : length payload ≤ 255) where
  answered : (o : Outcome (List ℕ)) → message_outcome page_access (rights_of b.readonly port) (state_of b page) (received_of true (message_of kind payload)) ≡ o
      → feed_of port b (message_of kind payload) room page ≡ answered_with port b room kind (message_of kind payload) o
  unfolding answering received_of
  answered o e =
      let t : RoundTrip kind payload = written_is_read kind payload few in
      let a : answering (rights_of b.readonly port) (received_of true (message_of kind payload)) b.settings room page ≡ answer_with kind o room =
      rw (e, le-ltb (length room) reply_room r.large_room, t.kind_back) in
      fed_alone port b room page kind payload r not_a5 few ∙ ap (λ (a : Answering). feed_on (answered_step (message_of kind payload) a) port b) a

pub call_obeys : CallObeys
call_obeys port b room page kind asks r f h l n =
    answered port b room page r kind p (not_a5 kind (fields_some kind asks h l).0) (omega (arith, fields_short kind asks n)) (asked_outcomes page_access kind x asks)
    (go (eqb (denial_on port b page) 0) refl f)
  where
    p : List ℕ
    p = asked_fields kind asks

    x : State (List ℕ)
    x = state_of b page

    o : Obeyed kind asks
    o = written_is_obeyed kind asks h l n

    go : (d : Bool) → eqb (denial_on port b page) 0 ≡ d → d || all_read kind asks ≡ true
        → message_outcome page_access (rights_of b.readonly port) x (received_of true (message_of kind p)) ≡ asked_outcomes page_access kind x asks
    go true e f = undenied (rights_of b.readonly port) x (received_of true (message_of kind p)) (eqb-true (denial_on port b page) 0 e) ∙ o.outcome (List ℕ) page_access x
    go false e f = o.reading f (List ℕ) page_access (rights_of b.readonly port) x

pub numbered_call_obeys : NumberedCallObeys
numbered_call_obeys port b room page number kind asks r s allowed f h l n =
    let p : List ℕ = numbered_payload number kind (asked_fields kind asks) in
    let q : length p ≤ 255 = omega (arith, fields_short kind asks n) in
    let o : ObeyedNumbered number kind asks = numbered_is_obeyed number kind asks s h l n in
    answered port b room page r numbered_kind p (λ e. absurd (omega arith)) q (marked (asked_outcomes page_access kind (spent page_access (state_of b page) number) asks))
    (o.outcome (List ℕ) page_access (rights_of b.readonly port) (state_of b page) allowed f)

-- One after nothing is that one.
then_idle : {P : Type 0} (o : Outcome P) → then_outcome o (idle o.next) ≡ o
then_idle o = rw (append-nil o.rows, or-false o.saved)

-- What is asked for in one field.
one_outcome : (x : State (List ℕ)) (code function value : ℕ) → acceptable (code_subject code) function value ≡ true
    → asked_outcomes page_access (kind_for (code_subject code)) x (record { code = code; function = function; value = value } ∷ []) ≡ written_outcome x code function value
one_outcome x code function value ok =
    let e = subject_same code (code_subject code) function value refl ok in
    then_idle (asked_outcome page_access (kind_for (code_subject code)) x (record { code = code; function = function; value = value })) ∙ rw e

pub writer_obeyed : WriterObeyed
writer_obeyed port b room page code function value r f ok =
    let k : ℕ = kind_for (code_subject code) in
    let a : Asked = record { code = code; function = function; value = value } in
    let w : OneAsked code function value = one_is_written code function value ok in
    let e : asked_subject k a ≡ code_subject code = subject_same code (code_subject code) function value refl ok in
    let g : eqb (denial_on port b page) 0 || all_read k (a ∷ []) ≡ true = rw (e, and-true (asks_to_read (code_subject code) function)) f in
    let c = call_obeys port b room page k (a ∷ []) r g w.right (omega arith) (omega arith) in
    rw w.written (c ∙ ap (answered_with port b room k (message_of k (asked_fields k (a ∷ [])))) (one_outcome (state_of b page) code function value ok))

pub numbered_writer_obeyed : NumberedWriterObeyed
numbered_writer_obeyed port b room page number code function value r s allowed f ok =
    let k : ℕ = kind_for (code_subject code) in
    let a : Asked = record { code = code; function = function; value = value } in
    let w : OneAsked code function value = one_is_written code function value ok in
    let m : List ℕ = message_of numbered_kind (numbered_payload number k (asked_fields k (a ∷ []))) in
    let c = numbered_call_obeys port b room page number k (a ∷ []) r s allowed f w.right (omega arith) (omega arith) in
    let o = one_outcome (spent page_access (state_of b page) number) code function value ok in
    rw (w.numbered number) (c ∙ ap (λ (o : Outcome (List ℕ)). answered_with port b room numbered_kind m (marked o)) o)
