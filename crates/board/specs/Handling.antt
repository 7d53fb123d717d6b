-- Document 01, "The plain reckoning": message n + 1 is handled on the values kept. Beside it, the same on the board's settings and
-- page.
use Rattle.std.specs.Prelude.{true, not, List, ◌≡◌, ℕ, eqb, length, Option}
use Rattle.stream.specs.Scan.{Message}
use Rattle.history.specs.Reckoning.{Outcome}
use Rattle.history.specs.Program.{Tests}
use Rattle.page.specs.declared.setting.Setting.{Setting}
use Rattle.page.specs.declared.setting.Values.{Values}
use Rattle.page.specs.Page.{stored_in, with_value, with_number, all_storable, writing, page_size}
use Rattle.page.specs.Sound.{sound}
use Rattle.page.specs.Loading.{loaded_value}
use Rattle.command.specs.declared.settings.Settings.{Settings}
use Rattle.command.specs.Outcome.{Access, State, Received, received_of, reply_of}
use Rattle.command.specs.Handle.{message_outcome}
use Rattle.command.specs.Answer.{page_access}
use Rattle.command.specs.Effects.{start_settings, settings_usable}
use Rattle.board.specs.Profile.{Profile, rights_of}

-- A message handled on a port of a board in a profile, over any keeping of the page's values: its reply, its save mark, and what is left.
unfoldable pub handle_on : {P : Type 0} → Access P → Profile → ℕ → State P → Message → Outcome (State P)
handle_on access profile port x m =
    let r : Received = received_of m.good m.bytes in
    record {
      reply = reply_of r.kind (message_outcome access (rights_of profile port) x r);
      saved = (message_outcome access (rights_of profile port) x r).saved;
      next = (message_outcome access (rights_of profile port) x r).next;
    }

-- ---- the reckoning

-- The working values; and the page's values, one or none under each code.
abbrev pub Reckoned : Type 0
Reckoned = State Values

-- What is loaded of a setting: the page's value, or the factory value where it has none; nothing where the page's value is not usable.
abbrev pub loaded_of : Values → Setting → Option ℕ
loaded_of v s = loaded_value s (stored_in v s)

-- The working values as starting sets them.
abbrev pub settings_of : Values → Settings
settings_of v = start_settings (loaded_of v)

-- A save puts its value in, and a fresh number the number; the others are kept.
abbrev pub values_access : Access Values
values_access = record { loaded = loaded_of; save = with_value; last_number = λ v. v.number; put_number = with_number }

-- A message handled on the values kept. The reckoning is told the profile.
abbrev pub reckon_message : Profile → ℕ → Reckoned → Message → Outcome Reckoned
reckon_message = handle_on values_access

-- ---- the board

-- The working values, and the page.
abbrev pub Kept : Type 0
Kept = State (List ℕ)

-- A message handled on them.
abbrev pub handle_message : Profile → ℕ → Kept → Message → Outcome Kept
handle_message = handle_on page_access

-- 17: a working value is not usable; 19: the page is not 64 bytes; 20: it is neither blank nor sound.
unfoldable pub kept_tests : Kept → Tests
kept_tests x = record { unusable = not (settings_usable x.settings); wrong_length = not (eqb (length x.page) page_size); unsound = not (sound x.page) }

-- The board's settings and page stand for the reckoning's values: "the page is the writing of its values, blank with none", and
-- the working values are usable and the page's storable.
pub record StoredAs (x : Reckoned) (y : Kept) : Type 0 where
  pub settings : x.settings ≡ y.settings
  pub page : y.page ≡ writing x.page
  pub settings_usable_lem : settings_usable x.settings ≡ true
  pub values_storable : all_storable x.page ≡ true
