-- A message that is refused by its sums and its type alone: its error and its answer, case by case, and that this is how any message is
-- answered.
use Prim.Native.Nat.{ℕ, ◌≤◌, ◌<◌}
use native.Mathlib.Omega.{arith}
use mathlib.Core.Path.{◌≡◌, refl, ◌∙◌}
use mathlib.Core.Bool.{Bool, true, false, ◌||◌, not, cond, or-true}
use mathlib.Core.List.{List, []}
use lib.Dec.{eqb, ltb}
use lib.ListN.{length, get_or}
use borrow.Author.Tests.{eq-eqb, ne_eqb, lt-ltb, le-ltb}
use Rattle.message.specs.declared.write.Written.{Written}
use Rattle.message.specs.Message.{message_of, type_of, payload_of}
use Rattle.message.specs.Whole.{refuse}
use Rattle.message.specs.Write.{done_writing, sealing, put_at}
use Rattle.command.specs.declared.rights.Rights.{Rights}
use Rattle.command.specs.declared.settings.Settings.{Settings}
use Rattle.command.specs.Errors.{is_kind, command_error}
use Rattle.command.specs.Numbers.{numbered_kind}
use Rattle.command.specs.Outcome.{Received, received_of, State, reply_row}
use Rattle.command.specs.Handle.{refused_outcome, command_outcome, numbered_outcome, message_outcome}
use Rattle.command.specs.Answer.{page_access, reply_room, answer_on, answering, opening_error, refusing_by_type_on, refusing_by_type}
use Rattle.command.proofs.Answers.{sealed_rows}

-- ---- the error

module _ (good : Bool) (kind : ℕ) where
  pub opening_damaged : not good ≡ true → 1 ≡ opening_error good kind
  unfolding opening_error
  opening_damaged e = rw e

  module _ (sound : not good ≡ false) where
    pub opening_numbered : kind ≡ 0x7C → 0 ≡ opening_error good kind
    unfolding opening_error
    opening_numbered e = rw (sound, eq-eqb kind numbered_kind e, or-true (is_kind kind))

    module _ (plain : kind ≡ 0x7C → ⊥) (k : Bool) (ks : k ≡ is_kind kind) where
      pub opening_command : k ≡ true → 0 ≡ opening_error good kind
      unfolding opening_error
      opening_command e = rw (sound, ← ks, e)

      pub opening_other : k ≡ false → 2 ≡ opening_error good kind
      unfolding opening_error
      opening_other e = rw (sound, ← ks, e, ne_eqb kind numbered_kind plain)

-- ---- the answer

module _ (kind echo error : ℕ) (w : Settings) (room : List ℕ) where
  pub refused_small : length room < 166 → record { answer = record { saved = false; error = 0; settings = w }; room = room } ≡ refusing_by_type kind echo error w room
  unfolding refusing_by_type
  refused_small h = rw (lt-ltb (length room) 166 h)

  pub refused_large : 166 ≤ length room → (mid after : List ℕ) (a : Written) → mid ≡ put_at 4 (reply_row echo error []) room
      → record { answer = a; room = after } ≡ sealing kind 4 mid
      → record { answer = record { saved = false; error = error; settings = w }; room = after } ≡ refusing_by_type kind echo error w room
  unfolding refusing_by_type
  refused_large h mid after a ms e =
      let s : (sealing kind 4 (put_at 4 (reply_row echo error []) room)).room ≡ (done_writing (message_of kind (reply_row echo error [])) room).room =
      sealed_rows kind (reply_row echo error []) room (omega arith) h in
      let b : after ≡ (sealing kind 4 mid).room = rw (← e) in
      let r : after ≡ (done_writing (message_of kind (reply_row echo error [])) room).room = b ∙ rw ms s in
      rw (le-ltb (length room) 166 h, r)

-- ---- any message

-- It leaves one row.
refused_outcome_lem : (rights : Rights) (x : State (List ℕ)) (m : Received) (error : ℕ) → error ≡ opening_error m.good m.kind → (error ≡ 0 → ⊥)
    → message_outcome page_access rights x m ≡ refused_outcome (get_or m.payload 0 0) error x
unfolding message_outcome opening_error command_outcome command_error
refused_outcome_lem rights x m error es n = go m.good (is_kind m.kind) refl (eqb m.kind numbered_kind) es
  where
    go : (good k : Bool) → is_kind m.kind ≡ k → (b : Bool) → error ≡ refuse (not good) 1 (refuse (not (k || b)) 2 0)
        → cond (not good) (refused_outcome (get_or m.payload 0 0) 1 x)
        (cond b (numbered_outcome page_access rights x m.payload) (command_outcome page_access rights x m.kind m.payload))
        ≡ refused_outcome (get_or m.payload 0 0) error x
    go false k q b e = rw e
    go true true q b e = absurd (n e)
    go true false q true e = absurd (n e)
    go true false q false e = rw (q, e)

pub refused_answering : (rights : Rights) (m : Received) (w : Settings) (room page : List ℕ) (error : ℕ) → error ≡ opening_error m.good m.kind
    → (error ≡ 0 → ⊥)
    → record {
      answer = (refusing_by_type m.kind (get_or m.payload 0 0) error w room).answer;
      room = (refusing_by_type m.kind (get_or m.payload 0 0) error w room).room;
      page = page;
    }
    ≡ answering rights m w room page
unfolding refusing_by_type answering message_of
refused_answering rights m w room page error es n =
    rw (refused_outcome_lem rights (record { settings = w; page = page }) m error es n) (go (ltb (length room) reply_room))
  where
    go : (small : Bool)
        → record { answer = (refusing_by_type_on small m.kind (get_or m.payload 0 0) error w room).answer; room = (refusing_by_type_on small m.kind (get_or m.payload 0 0) error w room).room; page = page }
        ≡ answer_on small m.kind (refused_outcome (get_or m.payload 0 0) error (record { settings = w; page = page })) w room page
    go true = refl
    go false = refl

-- The same of the message at the front of some bytes.
pub refused_front : (rights : Rights) (good : Bool) (u : List ℕ) (w : Settings) (room page : List ℕ) (error : ℕ) → error ≡ opening_error good (type_of u)
    → (error ≡ 0 → ⊥)
    → record {
      answer = (refusing_by_type (type_of u) (get_or (payload_of u) 0 0) error w room).answer;
      room = (refusing_by_type (type_of u) (get_or (payload_of u) 0 0) error w room).room;
      page = page;
    }
    ≡ answering rights (received_of good u) w room page
unfolding received_of
refused_front rights good u w room page error es n = refused_answering rights (received_of good u) w room page error es n
