-- Internal: the rows of a reply placed in its room, field by field; a message opened. What the inner functions of an answer leave.
use Rattle.std.specs.Prelude.{Bool, true, false, ◌||◌, not, cond, List, [], ◌∷◌, ℕ, zero, suc, ◌+◌, eqb, length, take, drop, get_or}
use Rattle.message.specs.Fields.{Field}
use Rattle.message.specs.Write.{put_at}
use Rattle.command.specs.declared.rights.Rights.{Rights}
use Rattle.command.specs.declared.command.Command.{Command}
use Rattle.command.specs.declared.place.Progress.{Progress}
use Rattle.command.specs.declared.number.Opened.{Opened}
use Rattle.command.specs.Rights.{all_rights}
use Rattle.command.specs.Numbers.{numbered_kind, number_of, inner_kind, number_error}
use Rattle.command.specs.Outcome.{State, Outcome, idle, then_outcome, field_with}
use Rattle.command.specs.Handle.{refused_outcome, command_outcome}
use Rattle.command.specs.Answer.{number_on, spent_on, page_access}

-- The field whose code stands at a place of some bytes.
abbrev pub field_at : ℕ → List ℕ → Field
field_at at bs = record { code = get_or bs at 0; size = get_or bs (at + 1) 0; content = take (get_or bs (at + 1) 0) (drop (at + 2) bs) }

-- How far an answer has come, and the room and the page.
pub record Placed : Type 0 where
  pub done : Progress
  pub room : List ℕ
  pub page : List ℕ

-- The state that it has come to.
abbrev pub state_of : Progress → List ℕ → State (List ℕ)
state_of p page = record { settings = p.settings; page = page }

-- An outcome's rows behind those that stand in the room already.
abbrev pub placed : Progress → Outcome (List ℕ) → List ℕ → Placed
placed p o room =
    record {
      done = record { end = p.end + length o.rows; saved = p.saved || o.saved; settings = o.next.settings };
      room = put_at p.end o.rows room;
      page = o.next.page;
    }

-- Fields in order, where functions 1, 3, 4 and 5 have this error. No field changes the page's number, so that one look at it serves them all.
unfoldable pub fields_with : ℕ → State (List ℕ) → List Command → Outcome (List ℕ)
fields_with denial x [] = idle x
fields_with denial x (c ∷ cs) = then_outcome (field_with page_access denial x c) (fields_with denial (field_with page_access denial x c).next cs)

-- ---- a message opened

-- What it comes to before any field, and the page then.
pub record Opening : Type 0 where
  pub opened : Opened
  pub page : List ℕ

abbrev pub opening : ℕ → ℕ → ℕ → Bool → List ℕ → Opening
opening error kind from numbered page = record { opened = record { error = error; kind = kind; from = from; numbered = numbered }; page = page }

-- The number behind the header, which ends at 4, then the type; the command's fields start at 9.
abbrev pub number_opening : ℕ → ℕ → List ℕ → List ℕ → Opening
number_opening zero kind payload page = opening 0 (inner_kind payload) 9 true (spent_on page (number_of payload))
number_opening (suc n) kind payload page = opening (suc n) kind 9 false page

unfoldable pub opening_of : Rights → Bool → ℕ → List ℕ → List ℕ → Opening
opening_of rights good kind payload page =
    cond (not good) (opening 1 kind 4 false page)
    (cond (eqb kind numbered_kind) (number_opening (number_error rights (number_on page) payload) kind payload page)
    (opening 0 kind 4 false page))

-- Behind a number that was spent a command has all rights.
abbrev pub rights_behind : Bool → Rights → Rights
rights_behind true rights = all_rights
rights_behind false rights = rights

-- What it is answered, where the bytes from `from` on are given: one row, or the command's rows.
abbrev pub opened_on : ℕ → Rights → Opened → State (List ℕ) → List ℕ → Outcome (List ℕ)
opened_on zero rights o x part = command_outcome page_access (rights_behind o.numbered rights) x o.kind part
opened_on (suc n) rights o x part = refused_outcome (get_or part 0 0) (suc n) x

abbrev pub opened_outcome : Rights → Opened → State (List ℕ) → List ℕ → Outcome (List ℕ)
opened_outcome rights o x part = opened_on o.error rights o x part
