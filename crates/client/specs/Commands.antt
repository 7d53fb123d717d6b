-- What is proved of the command writer, beyond the contracts of the code. Each statement names its proof, a term of that type in a
-- file of proofs/.
use Rattle.std.specs.Prelude.{◌≡◌, Bool, true, false, ◌&&◌, not, List, [], ◌∷◌, ◌++◌, ℕ, zero, suc, ◌+◌, ◌<◌, ◌≤◌, eqb, length, take, Option}
use Rattle.page.specs.declared.setting.Setting.{Setting}
use Rattle.page.specs.Page.{is_there}
use Rattle.message.specs.Message.{message_of}
use Rattle.message.specs.Whole.{refuse, whole_number}
use Rattle.message.specs.Write.{Writing}
use Rattle.command.specs.declared.rights.Rights.{Rights}
use Rattle.command.specs.declared.settings.Settings.{Settings}
use Rattle.command.specs.declared.command.Subject.{Subject}
use Rattle.command.specs.declared.command.Subject.TheVariants.{Ping, Setting as About, Unknown}
use Rattle.command.specs.Rights.{all_rights}
use Rattle.command.specs.Effects.{Effect, leaving, function_effect}
use Rattle.command.specs.Errors.{most_fields}
use Rattle.command.specs.Numbers.{numbered_kind, is_fresh}
use Rattle.command.specs.Outcome.{Access, State, Outcome, received_of, idle, row_outcome, then_outcome, effect_outcome}
use Rattle.command.specs.Handle.{marked, spent, message_outcome}
use Rattle.client.specs.Writer.{code_subject, kind_for, acceptable, command_message, numbered_payload, numbered_message, Asked, asked_subject, asked_field, asked_right, field_writing}

-- ---- what is asked for

-- The error of a subject's function: none, but for function 4 where nothing is loaded, since the page holds a value that is not usable on
-- this board (6).
abbrev pub error_for : Subject → (Setting → Option ℕ) → ℕ → ℕ
error_for Ping loaded function = 0
error_for (About s) loaded function = refuse (eqb function 4 && not (is_there (loaded s))) 6 0
error_for Unknown loaded function = 0

-- Its effect with a value. (Function 4 leaves the settings where nothing is loaded.)
abbrev pub effect_for : Subject → (Setting → Option ℕ) → Settings → ℕ → ℕ → Effect
effect_for Ping loaded w function value = leaving w
effect_for (About s) loaded w function value = function_effect function loaded w s value
effect_for Unknown loaded w function value = leaving w

-- That error, and exactly that effect.
abbrev pub asked_outcome : {P : Type 0} → Access P → ℕ → State P → Asked → Outcome P
asked_outcome access kind x a =
    row_outcome a.code (error_for (asked_subject kind a) (access.loaded x.page) a.function)
    (effect_outcome access.save (effect_for (asked_subject kind a) (access.loaded x.page) x.settings a.function a.value) x)

-- One after the other, each on what those before it left.
abbrev pub asked_outcomes : {P : Type 0} → Access P → ℕ → State P → List Asked → Outcome P
asked_outcomes access kind x [] = idle x
asked_outcomes access kind x (a ∷ asks) = then_outcome (asked_outcome access kind x a) (asked_outcomes access kind (asked_outcome access kind x a).next asks)

-- The fields of a command, and whether the board accepts each.
abbrev pub asked_fields : ℕ → List Asked → List ℕ
asked_fields kind [] = []
asked_fields kind (a ∷ asks) = asked_field kind a ++ asked_fields kind asks

abbrev pub all_right : ℕ → List Asked → Bool
all_right kind [] = true
all_right kind (a ∷ asks) = asked_right kind a && all_right kind asks

-- Ping, or function 2 of a setting.
abbrev pub asks_to_read : Subject → ℕ → Bool
asks_to_read Ping function = true
asks_to_read (About s) function = eqb function 2
asks_to_read Unknown function = false

abbrev pub all_read : ℕ → List Asked → Bool
all_read kind [] = true
all_read kind (a ∷ asks) = asks_to_read (asked_subject kind a) a.function && all_read kind asks

-- ---- what is written is obeyed

-- A message of 1 to 16 such fields is whole. With all rights (port 1 of the full profile) it is handled without error, but for function 4
-- on a page that holds a value that is not usable on this board, with exactly their effects in order, whatever the settings and the page.
-- (On port 0 it is the same as long as the page has no number: `WithoutNumber` in crate command.) Where all that it asks for is Ping and
-- function 2, so under any rights.
pub record Obeyed (kind : ℕ) (asks : List Asked) : Type 1 where
  pub whole : whole_number (message_of kind (asked_fields kind asks)) ≡ 0
  pub outcome : (P : Type 0) (access : Access P) (x : State P)
      → message_outcome access all_rights x (received_of true (message_of kind (asked_fields kind asks))) ≡ asked_outcomes access kind x asks
  pub reading : all_read kind asks ≡ true → (P : Type 0) (access : Access P) (rights : Rights) (x : State P)
      → message_outcome access rights x (received_of true (message_of kind (asked_fields kind asks))) ≡ asked_outcomes access kind x asks

-- Proof: Obedience `written_is_obeyed`.
abbrev pub WrittenIsObeyed : Type 1
WrittenIsObeyed = (kind : ℕ) (asks : List Asked) → all_right kind asks ≡ true → 1 ≤ length asks → length asks ≤ most_fields → Obeyed kind asks

-- Behind a fresh number it is handled so wherever a number is allowed, on the page with the number, and the mark of a save is set.
pub record ObeyedNumbered (number kind : ℕ) (asks : List Asked) : Type 1 where
  pub whole : whole_number (message_of numbered_kind (numbered_payload number kind (asked_fields kind asks))) ≡ 0
  pub outcome : (P : Type 0) (access : Access P) (rights : Rights) (x : State P) → rights.readonly ≡ false → is_fresh (access.last_number x.page) number ≡ true
      → message_outcome access rights x (received_of true (message_of numbered_kind (numbered_payload number kind (asked_fields kind asks))))
      ≡ marked (asked_outcomes access kind (spent access x number) asks)

-- Proof: Obedience `numbered_is_obeyed`.
abbrev pub NumberedIsObeyed : Type 1
NumberedIsObeyed =
    (number kind : ℕ) (asks : List Asked) → number < 4294967296 → all_right kind asks ≡ true → 1 ≤ length asks → length asks ≤ most_fields
    → ObeyedNumbered number kind asks

-- The command writers write such messages, of one field. Proof: Obedience `one_is_written`.
pub record OneAsked (code function value : ℕ) : Type 0 where
  pub right : all_right (kind_for (code_subject code)) (record { code = code; function = function; value = value } ∷ []) ≡ true
  pub written : command_message code function value
      ≡ message_of (kind_for (code_subject code)) (asked_fields (kind_for (code_subject code)) (record { code = code; function = function; value = value } ∷ []))
  pub numbered : (number : ℕ) → numbered_message number code function value
      ≡ message_of numbered_kind
      (numbered_payload number (kind_for (code_subject code)) (asked_fields (kind_for (code_subject code)) (record { code = code; function = function; value = value } ∷ [])))

abbrev pub OneIsWritten : Type 0
OneIsWritten = (code function value : ℕ) → acceptable (code_subject code) function value ≡ true → OneAsked code function value

-- Fields appended one after the other behind the first n bytes of a room; a refusal ends it.
abbrev pub unless_refused : ℕ → Writing → Writing → Writing
unless_refused zero w next = next
unless_refused (suc n) w next = w

abbrev pub append_all : ℕ → List Asked → ℕ → List ℕ → Writing
append_all kind [] n room = record { answer = record { number = 0; length = n }; room = room }
append_all kind (a ∷ asks) n room =
    let w : Writing = field_writing kind a n room in
    unless_refused w.answer.number w (append_all kind asks w.answer.length w.room)

-- None is refused, and they stand behind those n bytes: from the front of a room they are the payload of such a message, and behind a
-- number and the type, five bytes, that of a numbered one. Proof: Obedience `appended_are_fields`.
pub record Appended (kind : ℕ) (asks : List Asked) (n : ℕ) (room : List ℕ) : Type 0 where
  pub done : (append_all kind asks n room).answer.number ≡ 0
  pub size : (append_all kind asks n room).answer.length ≡ n + length (asked_fields kind asks)
  pub payload : take (n + length (asked_fields kind asks)) (append_all kind asks n room).room ≡ take n room ++ asked_fields kind asks

abbrev pub AppendedAreFields : Type 0
AppendedAreFields =
    (kind : ℕ) (asks : List Asked) (n : ℕ) (room : List ℕ) → all_right kind asks ≡ true → n + length (asked_fields kind asks) ≤ length room
    → Appended kind asks n room
