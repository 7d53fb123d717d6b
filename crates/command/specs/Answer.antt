-- Document 01, "Handling one message", on the board: the answer to a message, with the reply room and the page afterwards.
use Rattle.std.specs.Prelude.{Bool, true, false, ◌||◌, not, List, [], ℕ, eqb, ltb, length, get_or, take, Option}
use Rattle.word.specs.Word.{number}
use Rattle.page.specs.declared.setting.Setting.{Setting}
use Rattle.page.specs.declared.setting.Setting.TheVariants.{Baud, Accelerometer, Gyroscope}
use Rattle.page.specs.Settings.{code_of, Key, value_of, last_number}
use Rattle.page.specs.Page.{with_key, factory_page}
use Rattle.page.specs.Lookup.{body_of, values_in}
use Rattle.page.specs.Loading.{if_usable}
use Rattle.page.specs.Sound.{page_writing}
use Rattle.message.specs.Message.{message_of}
use Rattle.message.specs.Whole.{refuse}
use Rattle.message.specs.Write.{done_writing}
use Rattle.command.specs.declared.rights.Rights.{Rights}
use Rattle.command.specs.declared.settings.Settings.{Settings}
use Rattle.command.specs.declared.answer.Answer.{Answer}
use Rattle.command.specs.Errors.{is_kind}
use Rattle.command.specs.Numbers.{numbered_kind}
use Rattle.command.specs.Effects.{start_settings}
use Rattle.command.specs.Outcome.{Access, Outcome, Received, reply_of, reply_row, error_in}
use Rattle.command.specs.Handle.{message_outcome}

-- The value in a body: its four bytes, or its one.
abbrev pub body_value : Setting → List ℕ → ℕ
body_value Baud bs = number (take 4 bs)
body_value Accelerometer bs = get_or bs 0 0
body_value Gyroscope bs = get_or bs 0 0

-- Loading takes the body from the page if it has the entry, else from the factory page.
unfoldable pub looked_up : List ℕ → Setting → ℕ
looked_up page s = body_value s (body_of page factory_page (code_of s))

-- A value that is not usable on this board is not loaded.
unfoldable pub loaded_from : List ℕ → Setting → Option ℕ
loaded_from page s = if_usable s (looked_up page s)

-- The settings as starting sets them.
abbrev pub settings_from : List ℕ → Settings
settings_from page = start_settings (loaded_from page)

-- A value put in: the other entries are kept, and the page is written anew.
abbrev pub put_on : List ℕ → Key → ℕ → List ℕ
put_on page k x = (page_writing (with_key (values_in page) k x) page).page

-- A save, and a fresh number.
abbrev pub saved_on : List ℕ → Setting → ℕ → List ℕ
saved_on page s x = put_on page (value_of s) x

abbrev pub spent_on : List ℕ → ℕ → List ℕ
spent_on page n = put_on page last_number n

-- The last number accepted.
abbrev pub number_on : List ℕ → Option ℕ
number_on page = (values_in page).number

-- The board keeps a page, of 64 bytes.
abbrev pub page_access : Access (List ℕ)
page_access = record { loaded = loaded_from; save = saved_on; last_number = number_on; put_number = spent_on }

-- The longest reply is 166 bytes: 6, and for each of 16 fields at most 10. 18: a feed's room under that.
abbrev pub reply_room : ℕ
reply_room = 166

-- What answering a message gives: the answer, and the room and the page afterwards.
pub record Answering : Type 0 where
  pub answer : Answer
  pub room : List ℕ
  pub page : List ℕ

-- The reply from the room's front, and what the outcome leaves.
abbrev pub answer_with : ℕ → Outcome (List ℕ) → List ℕ → Answering
answer_with kind o room =
    record {
      answer = record { saved = o.saved; error = error_in (reply_of kind o); settings = o.next.settings };
      room = (done_writing (reply_of kind o) room).room;
      page = o.next.page;
    }

-- In a smaller room a message is not handled.
abbrev pub answer_on : Bool → ℕ → Outcome (List ℕ) → Settings → List ℕ → List ℕ → Answering
answer_on true kind o w room page = record { answer = record { saved = false; error = 0; settings = w }; room = room; page = page }
answer_on false kind o w room page = answer_with kind o room

unfoldable pub answering : Rights → Received → Settings → List ℕ → List ℕ → Answering
answering rights m w room page =
    answer_on (ltb (length room) reply_room) m.kind (message_outcome page_access rights (record { settings = w; page = page }) m) w room page

-- ---- a message that is refused by its sums and its type alone

-- 1: sums wrong. 2: type neither 01 nor 02, nor 7C. 0: the rest of the message decides.
unfoldable pub opening_error : Bool → ℕ → ℕ
opening_error good kind =
    refuse (not good) 1
    (refuse (not (is_kind kind || eqb kind numbered_kind)) 2
    0)

-- What answering it gives: the answer, and the room afterwards. The page stays as it is.
pub record Refusing : Type 0 where
  pub answer : Answer
  pub room : List ℕ

-- The reply is one row, and in a smaller room the message is not handled.
abbrev pub refusing_by_type_on : Bool → ℕ → ℕ → ℕ → Settings → List ℕ → Refusing
refusing_by_type_on true kind echo error w room = record { answer = record { saved = false; error = 0; settings = w }; room = room }
refusing_by_type_on false kind echo error w room =
    record {
      answer = record { saved = false; error = error; settings = w };
      room = (done_writing (message_of kind (reply_row echo error [])) room).room;
    }

-- This is `answering` where `error` is the message's `opening_error` and not 0, and `echo` its first payload byte. Proof: Refusals
-- `refused_answering`.
unfoldable pub refusing_by_type : ℕ → ℕ → ℕ → Settings → List ℕ → Refusing
refusing_by_type kind echo error w room = refusing_by_type_on (ltb (length room) reply_room) kind echo error w room
