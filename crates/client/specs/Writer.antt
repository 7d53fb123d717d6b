-- Document 01, "Handling one message": the command writer; for request 02 one field more behind a payload, for request 03 a number
-- in front of a command.
use Rattle.std.specs.Prelude.{Bool, true, false, ◌&&◌, ◌||◌, not, List, [], ◌∷◌, ◌++◌, ℕ, ◌+◌, eqb, ltb, length}
use Rattle.word.specs.Word.{word_bytes}
use Rattle.page.specs.Settings.{setting_of, code_of, usable, value_bytes}
use Rattle.message.specs.Message.{message_of}
use Rattle.message.specs.Write.{Writing, refuse_writing, writing_of, put_at}
use Rattle.command.specs.declared.command.Subject.{Subject}
use Rattle.command.specs.declared.command.Subject.TheVariants.{Ping, Setting as About, Unknown}
use Rattle.command.specs.Command.{subject_on, subject_of}
use Rattle.command.specs.Errors.{is_function}
use Rattle.command.specs.Numbers.{numbered_kind}

abbrev pub ping_or : Bool → Subject → Subject
ping_or true s = Ping
ping_or false s = s

-- What a code is about, whatever the type: 02 is Ping, 01, 07 and 08 are the settings.
unfoldable pub code_subject : ℕ → Subject
code_subject code = ping_or (eqb code 0x02) (subject_on (setting_of code))

-- The type of a command.
abbrev pub kind_for : Subject → ℕ
kind_for Ping = 0x01
kind_for (About s) = 0x02
kind_for Unknown = 0

-- Is it a command that the board accepts? What is not written is not looked at. (The writer does not see the page: function 4 is 6 where
-- that holds a value that is not on this board.)
unfoldable pub acceptable : Subject → ℕ → ℕ → Bool
acceptable Ping function value = true
acceptable (About s) function value = is_function function && (not (eqb function 1) || usable s value)
acceptable Unknown function value = false

-- Function 1 is written with its value, functions 2 to 5 without.
abbrev pub field_on : Bool → ℕ → ℕ → List ℕ → List ℕ
field_on true code function value = code ∷ (1 + length value) ∷ function ∷ value
field_on false code function value = code ∷ 1 ∷ function ∷ []

-- The field of a command; Ping is written without a function and a value.
abbrev pub field_for : Subject → ℕ → ℕ → List ℕ
field_for Ping function value = 0x02 ∷ 0x00 ∷ []
field_for (About s) function value = field_on (eqb function 1) (code_of s) function (value_bytes s value)
field_for Unknown function value = []

unfoldable pub command_message : ℕ → ℕ → ℕ → List ℕ
command_message code function value = message_of (kind_for (code_subject code)) (field_for (code_subject code) function value)

-- The command writer: 28, then 18.
unfoldable pub command_writing : ℕ → ℕ → ℕ → List ℕ → Writing
command_writing code function value room =
    refuse_writing (not (acceptable (code_subject code) function value)) 28 room (writing_of (command_message code function value) room)

-- ---- a numbered command

-- "A four-byte number, then a command's type and its fields."
abbrev pub numbered_payload : ℕ → ℕ → List ℕ → List ℕ
numbered_payload number kind fields = word_bytes number ++ (kind ∷ fields)

unfoldable pub numbered_message : ℕ → ℕ → ℕ → ℕ → List ℕ
numbered_message number code function value =
    message_of numbered_kind (numbered_payload number (kind_for (code_subject code)) (field_for (code_subject code) function value))

-- Its writer: 28, then 18.
unfoldable pub numbered_writing : ℕ → ℕ → ℕ → ℕ → List ℕ → Writing
numbered_writing number code function value room =
    refuse_writing (not (acceptable (code_subject code) function value)) 28 room (writing_of (numbered_message number code function value) room)

-- ---- a command of several fields

-- What a field of a command asks for.
pub record Asked : Type 0 where
  pub code : ℕ
  pub function : ℕ
  pub value : ℕ

-- What it is about, in a message of this type.
abbrev pub asked_subject : ℕ → Asked → Subject
asked_subject kind a = subject_of kind a.code

abbrev pub asked_field : ℕ → Asked → List ℕ
asked_field kind a = field_for (asked_subject kind a) a.function a.value

abbrev pub asked_right : ℕ → Asked → Bool
asked_right kind a = acceptable (asked_subject kind a) a.function a.value

-- Bytes behind the first n of a room: 18 where they do not fit. The answer has the length with them.
abbrev pub behind_writing : List ℕ → ℕ → List ℕ → Writing
behind_writing bs n room =
    refuse_writing (ltb (length room) (n + length bs)) 18 room (record { answer = record { number = 0; length = n + length bs }; room = put_at n bs room })

-- One field more behind the first n bytes of a room, a payload to be: 28 where a message of this type with that field would not be
-- accepted, then 18.
unfoldable pub field_writing : ℕ → Asked → ℕ → List ℕ → Writing
field_writing kind a n room = refuse_writing (not (asked_right kind a)) 28 room (behind_writing (asked_field kind a) n room)
