-- Document 01, "Handling one message", and requests 02, 03, 05 and 12: the errors, first that applies; of a field, and of a command
-- as a whole.
use Rattle.std.specs.Prelude.{Bool, true, false, ◌&&◌, ◌||◌, not, List, ℕ, zero, suc, ◌+◌, eqb, leb, ltb, length, Option}
use Rattle.std.proofs.Math.Option.{Option as Maybe, none, some}
use Rattle.page.specs.declared.setting.Setting.{Setting}
use Rattle.page.specs.Settings.{storable, not_on_this_board, value_size}
use Rattle.page.specs.Page.{is_there}
use Rattle.message.specs.Fields.{Field, fields_of}
use Rattle.message.specs.Whole.{refuse}
use Rattle.command.specs.declared.command.Command.{Command}
use Rattle.command.specs.declared.command.Subject.{Subject}
use Rattle.command.specs.declared.command.Subject.TheVariants.{Ping, Setting as About, Unknown}
use Rattle.command.specs.Command.{value_for, subject_of}

abbrev pub is_unknown : Subject → Bool
is_unknown Ping = false
is_unknown (About s) = false
is_unknown Unknown = true

-- Functions: 1 use the value; 2 report the working value; 3 save the working value to the page; 4 take the page's value;
-- 5 take the factory value.
abbrev pub is_function : ℕ → Bool
is_function f = leb 1 f && leb f 5

-- Ping has size 0. Function 1 needs the function and the value; functions 2 to 5 come with the function only, or with as
-- many value bytes as function 1 has.
abbrev pub size_right : Subject → Command → Bool
size_right Ping c = eqb c.size 0
size_right (About s) c = eqb c.size (1 + value_size s) || (eqb c.size 1 && not (eqb c.function 1))
size_right Unknown c = false

abbrev pub function_right : Subject → Command → Bool
function_right Ping c = true
function_right (About s) c = is_function c.function
function_right Unknown c = false

-- The value is looked at under function 1 only. One that is storable and not usable has an error of its own.
abbrev pub value_right : Subject → Command → Bool
value_right Ping c = true
value_right (About s) c = not (eqb c.function 1) || storable s (value_for s c)
value_right Unknown c = false

-- Size, function, value.
unfoldable pub field_wrong : Subject → Command → Bool
field_wrong subject c = not (size_right subject c) || not (function_right subject c) || not (value_right subject c)

-- "Not on this board": the value sent with function 1; or the page's under function 4, which has nothing to load then. `loaded s` is what
-- is loaded of s, a value or nothing.
abbrev pub not_on_board : Subject → (Setting → Option ℕ) → Command → Bool
not_on_board Ping loaded c = false
not_on_board (About s) loaded c = eqb c.function 1 && not_on_this_board s (value_for s c) || (eqb c.function 4 && not (is_there (loaded s)))
not_on_board Unknown loaded c = false

-- ---- one field

-- Functions 1, 3, 4 and 5 of a setting.
abbrev pub alters : Subject → Command → Bool
alters Ping c = false
alters (About s) c = is_function c.function && not (eqb c.function 2)
alters Unknown c = false

abbrev pub nonzero : ℕ → Bool
nonzero zero = false
nonzero (suc n) = true

-- Functions 1, 3, 4 and 5 are refused where `denial`, the error that they get here, is not 0.
abbrev pub denied : ℕ → Subject → Command → Bool
denied denial subject c = nonzero denial && alters subject c

-- 3: the code is not one of this type's. `denial`, where it is not 0: functions 1, 3, 4 and 5, which need a number (5) or are not
-- allowed on this port (7). 4: size wrong; function not 1 to 5; value not allowed, that is not storable. 6: not on this board. 0:
-- otherwise.
unfoldable pub field_error : ℕ → (Setting → Option ℕ) → Command → ℕ
field_error denial loaded c =
    refuse (is_unknown (subject_of c.kind c.code)) 3
    (refuse (denied denial (subject_of c.kind c.code) c) denial
    (refuse (field_wrong (subject_of c.kind c.code) c) 4
    (refuse (not_on_board (subject_of c.kind c.code) loaded c) 6
    0)))

-- ---- a command as a whole

-- A command has 1 to 16 fields.
abbrev pub most_fields : ℕ
most_fields = 16

-- Fields do not fill the payload exactly, or are more than 16.
abbrev pub fields_refused : Maybe (List Field) → Bool
fields_refused none = true
fields_refused (some fs) = ltb most_fields (length fs)

-- The type is 01 or 02.
abbrev pub is_kind : ℕ → Bool
is_kind kind = eqb kind 0x01 || eqb kind 0x02

-- 2: type neither 01 nor 02. 3: no payload. 4: fields do not fill the payload exactly, or are more than 16. 0: each field has its own
-- error.
unfoldable pub command_error : ℕ → List ℕ → ℕ
command_error kind payload =
    refuse (not (is_kind kind)) 2
    (refuse (eqb (length payload) 0) 3
    (refuse (fields_refused (fields_of payload)) 4
    0))
