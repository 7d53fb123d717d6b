-- What is proved of handling, beyond the contracts of the code. Each statement names its proof, a term of that type in a file of
-- proofs/.
use Rattle.std.specs.Prelude.{◌≡◌, Bool, true, false, not, List, ◌++◌, ℕ, ◌+◌, ◌≤◌, ◌<◌, length, drop, Option, Some}
use Rattle.page.specs.declared.setting.Setting.{Setting}
use Rattle.page.specs.Settings.{usable, Key, key_storable}
use Rattle.page.specs.Sound.{sound, put_page, saved_page}
use Rattle.message.specs.Message.{length_of}
use Rattle.command.specs.declared.rights.Rights.{Rights}
use Rattle.command.specs.declared.settings.Settings.{Settings}
use Rattle.command.specs.declared.command.Command.{Command}
use Rattle.command.specs.declared.command.Subject.TheVariants.{Setting as About}
use Rattle.command.specs.Command.{subject_of}
use Rattle.command.specs.Errors.{field_error}
use Rattle.command.specs.Effects.{working_value, effect_of, settings_usable}
use Rattle.command.specs.Outcome.{State, Received, received_of, reply_of, denial_of, field_outcome}
use Rattle.command.specs.Handle.{message_outcome}
use Rattle.command.specs.Puts.{puts_on, is_empty, message_puts}
use Rattle.command.specs.Answer.{loaded_from, put_on, page_access, reply_room, answering}

-- ---- one field

-- It keeps the working values usable, whatever the command, if what is loaded is usable or nothing. Proof: Keeps `keeps_usable`.
abbrev pub KeepsUsable : Type 0
KeepsUsable =
    (denial : ℕ) (loaded : Setting → Option ℕ) (w : Settings) (c : Command) → ((s : Setting) (x : ℕ) → loaded s ≡ Some x → usable s x ≡ true)
    → settings_usable w ≡ true → settings_usable (effect_of denial loaded w c).settings ≡ true

-- A save of a setting is accepted where there is no error, the command is about that setting and its function is 3, and
-- nowhere else.
pub record SaveOf (denial : ℕ) (loaded : Setting → Option ℕ) (c : Command) (s : Setting) : Type 0 where
  pub no_error : field_error denial loaded c ≡ 0
  pub about : subject_of c.kind c.code ≡ About s
  pub function : c.function ≡ 3

-- Proofs: Keeps `saves_only`, `saves_then`.
abbrev pub SavesOnly : Type 0
SavesOnly = (denial : ℕ) (loaded : Setting → Option ℕ) (w : Settings) (c : Command) (s : Setting) → (effect_of denial loaded w c).saves ≡ Some s → SaveOf denial loaded c s

abbrev pub SavesThen : Type 0
SavesThen = (denial : ℕ) (loaded : Setting → Option ℕ) (w : Settings) (c : Command) (s : Setting) → SaveOf denial loaded c s → (effect_of denial loaded w c).saves ≡ Some s

-- ---- the board's page

-- What is put in on a sound page is there, the other entries are kept, and the page stays sound: a storable value, or a number of four
-- bytes.
pub record PageKept (page : List ℕ) (k : Key) (x : ℕ) : Type 0 where
  pub put_page_lem : put_on page k x ≡ put_page page k x
  pub sound_page : sound (put_on page k x) ≡ true

-- Proof: Pages `page_changes`.
abbrev pub PageChanges : Type 0
PageChanges = (page : List ℕ) (k : Key) (x : ℕ) → sound page ≡ true → key_storable k x ≡ true → PageKept page k x

-- One field on a sound page with usable settings: an accepted save is marked and puts the working value in, and nothing else is
-- marked or changes the page.
pub record FieldKept (rights : Rights) (x : State (List ℕ)) (c : Command) : Type 0 where
  pub saved : (s : Setting) → SaveOf (denial_of page_access rights x.page) (loaded_from x.page) c s
      → ((field_outcome page_access rights x c).saved ≡ true) × ((field_outcome page_access rights x c).next.page ≡ saved_page x.page s (working_value x.settings s))
  pub unsaved : ((s : Setting) → SaveOf (denial_of page_access rights x.page) (loaded_from x.page) c s → ⊥)
      → ((field_outcome page_access rights x c).saved ≡ false) × ((field_outcome page_access rights x c).next.page ≡ x.page)

-- Proof: Pages `field_keeps`.
abbrev pub FieldKeeps : Type 0
FieldKeeps = (rights : Rights) (x : State (List ℕ)) (c : Command) → sound x.page ≡ true → settings_usable x.settings ≡ true → FieldKept rights x c

-- ---- the answer to a message

abbrev pub reply_to : Rights → Received → Settings → List ℕ → List ℕ
reply_to rights m w page = reply_of m.kind (message_outcome page_access rights (record { settings = w; page = page }) m)

-- In a room of 166 bytes the reply is written whole, from the room's front, and nothing else of the room is touched. Proof: Pages
-- `reply_whole`.
abbrev pub ReplyWhole : Type 0
ReplyWhole =
    (rights : Rights) (m : Received) (w : Settings) (room page : List ℕ) → reply_room ≤ length room
    → (answering rights m w room page).room ≡ reply_to rights m w page ++ drop (length (reply_to rights m w page)) room

-- Answering a message on a sound page with usable settings keeps both so. The page changes on accepted saves and fresh numbers, and on
-- nothing else: exactly these values are put in, and the mark is set where there is one. Proof: Pages `answer_keeps`.
pub record KeptBy (rights : Rights) (m : Received) (w : Settings) (room page : List ℕ) : Type 0 where
  pub settings_usable_lem : settings_usable (answering rights m w room page).answer.settings ≡ true
  pub page_sound : sound (answering rights m w room page).page ≡ true
  pub page_after_lem : reply_room ≤ length room → (answering rights m w room page).page ≡ puts_on page (message_puts rights (record { settings = w; page = page }) m)
  pub mark : reply_room ≤ length room → (answering rights m w room page).answer.saved ≡ not (is_empty (message_puts rights (record { settings = w; page = page }) m))
  -- In a smaller room nothing changes.
  pub small_room : length room < reply_room
      → answering rights m w room page ≡ record { answer = record { saved = false; error = 0; settings = w }; room = room; page = page }

abbrev pub AnswerKeeps : Type 0
AnswerKeeps =
    (rights : Rights) (m : Received) (w : Settings) (room page : List ℕ) → sound page ≡ true → settings_usable w ≡ true → KeptBy rights m w room page

-- A message is handled by its own bytes: what follows it changes nothing. Proof: Pages `own_bytes`.
abbrev pub OwnBytes : Type 0
OwnBytes = (good : Bool) (m rest : List ℕ) → length m ≡ length_of m + 6 → received_of good (m ++ rest) ≡ received_of good m
