-- What is proved of messages of several fields (request 02). Each statement names its proof, a term of that type in a file of proofs/.
use Rattle.std.specs.Prelude.{◌≡◌, true, false, ◌||◌, List, [], ◌∷◌, ◌++◌, ℕ, zero, suc, ◌≤◌, ◌<◌, length}
use Rattle.std.proofs.Math.Option.{some}
use Rattle.message.specs.Fields.{Field, field_bytes, fields_of}
use Rattle.message.specs.Message.{message_of, type_of, payload_of}
use Rattle.command.specs.declared.rights.Rights.{Rights}
use Rattle.command.specs.declared.command.Command.{Command}
use Rattle.command.specs.Errors.{command_error}
use Rattle.command.specs.Outcome.{Access, State, Outcome, Received, received_of, reply_of, field_outcome}
use Rattle.command.specs.Handle.{spent, message_outcome}
use Rattle.command.specs.Answer.{reply_room}

-- Messages handled one after the other, each on what those before it left: the fields of their replies in that order, a mark where
-- one of them marks a save, and what the last one leaves.
abbrev pub in_turn : {P : Type 0} → Access P → Rights → State P → List Received → Outcome P
in_turn access rights x [] = record { rows = []; saved = false; next = x }
in_turn {P = P} access rights x (m ∷ ms) =
    let o : Outcome P = message_outcome access rights x m in
    let rest : Outcome P = in_turn access rights o.next ms in
    record { rows = o.rows ++ rest.rows; saved = o.saved || rest.saved; next = rest.next }

-- Separate messages of the same type, one for each field in order.
abbrev pub separate : ℕ → List Field → List Received
separate kind [] = []
separate kind (f ∷ fs) = received_of true (message_of kind (field_bytes f)) ∷ separate kind fs

-- A message of several fields leaves the settings and the page that separate messages would leave; its reply carries the
-- separate replies' fields in that order; a save is marked where one of them marks it. Proof: Separate `as_separate`.
abbrev pub AsSeparate : Type 1
AsSeparate =
    (P : Type 0) (access : Access P) (rights : Rights) (x : State P) (m : List ℕ) (fs : List Field) → command_error (type_of m) (payload_of m) ≡ 0
    → fields_of (payload_of m) ≡ some fs → message_outcome access rights x (received_of true m) ≡ in_turn access rights x (separate (type_of m) fs)

abbrev pub times : ℕ → List ℕ → List ℕ
times zero bs = []
times (suc n) bs = bs ++ times n bs

-- Sixteen reports of the baud rate.
abbrev pub sixteen_reports : Received
sixteen_reports = record { good = true; kind = 0x02; payload = times 16 (0x01 ∷ 0x01 ∷ 0x02 ∷ []) }

-- The longest reply is 166 bytes: none is longer, and one is as long. Proof: Separate `longest_reply`.
pub record LongestReply : Type 1 where
  pub most : (P : Type 0) (access : Access P) (rights : Rights) (x : State P) (m : Received) → length (reply_of m.kind (message_outcome access rights x m)) ≤ reply_room
  pub reached : (P : Type 0) (access : Access P) (rights : Rights) (x : State P) → length (reply_of 0x02 (message_outcome access rights x sixteen_reports)) ≡ reply_room

-- Two keepings of the page's values that stay related give the same replies and marks of a save.
pub record Alike {P Q : Type 0} (R : State P → State Q → Type 0) (a : Outcome P) (b : Outcome Q) : Type 0 where
  pub rows : a.rows ≡ b.rows
  pub saved : a.saved ≡ b.saved
  pub next : R a.next b.next

-- For every field, and for every number.
pub record KeepAlike {P Q : Type 0} (s : Access P) (t : Access Q) (R : State P → State Q → Type 0) : Type 0 where
  pub fields : (rights : Rights) (x : State P) (y : State Q) (c : Command) → R x y → Alike R (field_outcome s rights x c) (field_outcome t rights y c)
  pub numbers : (x : State P) (y : State Q) → R x y → s.last_number x.page ≡ t.last_number y.page
  pub puts : (n : ℕ) (x : State P) (y : State Q) → n < 4294967296 → R x y → R (spent s x n) (spent t y n)

-- Then they do for every message with any rights. Proof: Separate `messages_alike`.
abbrev pub MessagesAlike : Type 1
MessagesAlike =
    (P Q : Type 0) (s : Access P) (t : Access Q) (R : State P → State Q → Type 0) → KeepAlike s t R
    → (rights : Rights) (x : State P) (y : State Q) (m : Received) → R x y → Alike R (message_outcome s rights x m) (message_outcome t rights y m)
