-- What is proved of values that are on this board, and of those that are not (request 05). Each statement names its proof, a term of that
-- type in a file of proofs/.
use Rattle.std.specs.Prelude.{◌≡◌, true, false, List, ℕ, Option, Some, None}
use Rattle.page.specs.declared.setting.Setting.{Setting}
use Rattle.page.specs.Settings.{usable, storable, not_on_this_board, factory_value}
use Rattle.page.specs.Page.{stored_in}
use Rattle.page.specs.Lookup.{values_in}
use Rattle.page.specs.Sound.{sound}
use Rattle.page.specs.Loading.{loaded_value}
use Rattle.command.specs.declared.rights.Rights.{Rights}
use Rattle.command.specs.declared.settings.Settings.{Settings}
use Rattle.command.specs.declared.command.Command.{Command}
use Rattle.command.specs.declared.command.Subject.TheVariants.{Setting as About}
use Rattle.command.specs.Command.{value_for, subject_of}
use Rattle.command.specs.Errors.{size_right}
use Rattle.command.specs.Effects.{working_value, with_working, start_settings, settings_usable}
use Rattle.command.specs.Outcome.{State, Outcome, idle, row_outcome, denial_of, field_outcome}
use Rattle.command.specs.Answer.{loaded_from, settings_from, page_access}

-- ---- the working values

-- They are usable exactly where each of them is. Proof: Keeps `usable_each`.
pub record UsableEach (w : Settings) : Type 0 where
  pub each : settings_usable w ≡ true → (s : Setting) → usable s (working_value w s) ≡ true
  pub all : ((s : Setting) → usable s (working_value w s) ≡ true) → settings_usable w ≡ true

-- ---- what is loaded

-- From any bytes it is usable or nothing. Proof: Pages `loads_usable`.
abbrev pub LoadsUsable : Type 0
LoadsUsable = (page : List ℕ) (s : Setting) (x : ℕ) → loaded_from page s ≡ Some x → usable s x ≡ true

-- From a sound page it is the value that the page holds, or the factory value where it has none; and nothing where the page holds a value
-- that is not usable. Proof: Pages `loads_stored`.
abbrev pub LoadsStored : Type 0
LoadsStored = (page : List ℕ) (s : Setting) → sound page ≡ true → loaded_from page s ≡ loaded_value s (stored_in (values_in page) s)

-- ---- starting

-- It sets usable values, if what is loaded is usable or nothing. Proof: Keeps `starts_usable`.
abbrev pub StartsUsable : Type 0
StartsUsable = (loaded : Setting → Option ℕ) → ((s : Setting) (x : ℕ) → loaded s ≡ Some x → usable s x ≡ true) → settings_usable (start_settings loaded) ≡ true

-- On a sound page it takes the value held, where that is usable; else the factory value. Proof: Pages `start_takes`.
pub record StartTakes (page : List ℕ) (s : Setting) : Type 0 where
  pub held : (v : ℕ) → stored_in (values_in page) s ≡ Some v → usable s v ≡ true → working_value (settings_from page) s ≡ v
  pub unheld : stored_in (values_in page) s ≡ None → working_value (settings_from page) s ≡ factory_value s
  pub not_on_board_lem : (v : ℕ) → stored_in (values_in page) s ≡ Some v → usable s v ≡ false → working_value (settings_from page) s ≡ factory_value s

abbrev pub StartsTake : Type 0
StartsTake = (page : List ℕ) (s : Setting) → sound page ≡ true → StartTakes page s

-- ---- functions 1 and 4

-- A field about a setting with this function and a right size, of which nothing is denied.
pub record Asks (rights : Rights) (x : State (List ℕ)) (c : Command) (s : Setting) (function : ℕ) : Type 0 where
  pub about : subject_of c.kind c.code ≡ About s
  pub function_is : c.function ≡ function
  pub size : size_right (About s) c ≡ true
  pub free : denial_of page_access rights x.page ≡ 0

-- Its row has this error, and nothing but the working value of the setting changes.
abbrev pub working : State (List ℕ) → Command → Setting → ℕ → Outcome (List ℕ)
working x c s v = row_outcome c.code 0 (idle (record { settings = with_working x.settings s v; page = x.page }))

abbrev pub refusing : State (List ℕ) → Command → ℕ → Outcome (List ℕ)
refusing x c error = row_outcome c.code error (idle x)

-- Function 1: a usable value is used; one that is not on this board is 6; any other is still 4. Proof: Pages `uses_or_refuses`.
pub record UsesOrRefuses (rights : Rights) (x : State (List ℕ)) (c : Command) (s : Setting) : Type 0 where
  pub used : usable s (value_for s c) ≡ true → field_outcome page_access rights x c ≡ working x c s (value_for s c)
  pub not_on_board_lem : not_on_this_board s (value_for s c) ≡ true → field_outcome page_access rights x c ≡ refusing x c 6
  pub bad : storable s (value_for s c) ≡ false → field_outcome page_access rights x c ≡ refusing x c 4

abbrev pub FunctionOne : Type 0
FunctionOne = (rights : Rights) (x : State (List ℕ)) (c : Command) (s : Setting) → Asks rights x c s 1 → UsesOrRefuses rights x c s

-- Function 4 on a sound page: the value held is used, or the factory value where there is none; where the page holds a value that is not
-- usable it is 6, and the working value is left. Proof: Pages `loads_or_refuses`.
pub record LoadsOrRefuses (rights : Rights) (x : State (List ℕ)) (c : Command) (s : Setting) : Type 0 where
  pub held : (v : ℕ) → stored_in (values_in x.page) s ≡ Some v → usable s v ≡ true → field_outcome page_access rights x c ≡ working x c s v
  pub unheld : stored_in (values_in x.page) s ≡ None → field_outcome page_access rights x c ≡ working x c s (factory_value s)
  pub not_on_board_lem : (v : ℕ) → stored_in (values_in x.page) s ≡ Some v → usable s v ≡ false → field_outcome page_access rights x c ≡ refusing x c 6

abbrev pub FunctionFour : Type 0
FunctionFour =
    (rights : Rights) (x : State (List ℕ)) (c : Command) (s : Setting) → sound x.page ≡ true → Asks rights x c s 4 → LoadsOrRefuses rights x c s
