-- Document 01, "Handling one message": what an accepted command does.
use Rattle.std.specs.Prelude.{Bool, ◌&&◌, List, [], ◌∷◌, ℕ, zero, suc, ◌<◌, Option, Some, None}
use Rattle.page.specs.declared.setting.Setting.{Setting}
use Rattle.page.specs.declared.setting.Setting.TheVariants.{Baud, Accelerometer, Gyroscope}
use Rattle.page.specs.Settings.{code_of, usable, value_bytes, value_size, factory_value}
use Rattle.page.specs.Loading.{value_or}
use Rattle.command.specs.declared.settings.Settings.{Settings}
use Rattle.command.specs.declared.command.Command.{Command}
use Rattle.command.specs.declared.command.Subject.{Subject}
use Rattle.command.specs.declared.command.Subject.TheVariants.{Ping, Setting as About, Unknown}
use Rattle.command.specs.Command.{value_for, subject_of}
use Rattle.command.specs.Errors.{field_error}

-- ---- the working settings

abbrev pub working_value : Settings → Setting → ℕ
working_value w Baud = w.baud
working_value w Accelerometer = w.accelerometer
working_value w Gyroscope = w.gyroscope

abbrev pub with_working : Settings → Setting → ℕ → Settings
with_working w Baud x = record { baud = x; accelerometer = w.accelerometer; gyroscope = w.gyroscope }
with_working w Accelerometer x = record { baud = w.baud; accelerometer = x; gyroscope = w.gyroscope }
with_working w Gyroscope x = record { baud = w.baud; accelerometer = w.accelerometer; gyroscope = x }

-- The value has as many bytes as the setting's values have.
abbrev pub Fits : Setting → ℕ → Type 0
Fits Baud x = x < 4294967296
Fits Accelerometer x = x < 256
Fits Gyroscope x = x < 256

-- Each working value is usable.
unfoldable pub settings_usable : Settings → Bool
settings_usable w = usable Baud w.baud && usable Accelerometer w.accelerometer && usable Gyroscope w.gyroscope

-- The settings with what is loaded; where that is nothing, the working value is left.
abbrev pub loading : Settings → Setting → Option ℕ → Settings
loading w s None = w
loading w s (Some x) = with_working w s x

-- The settings as starting sets them, from what is loaded: the factory value where that is nothing.
unfoldable pub start_settings : (Setting → Option ℕ) → Settings
start_settings loaded =
    record {
      baud = value_or (loaded Baud) (factory_value Baud);
      accelerometer = value_or (loaded Accelerometer) (factory_value Accelerometer);
      gyroscope = value_or (loaded Gyroscope) (factory_value Gyroscope);
    }

-- ---- one field

-- What a field leaves: the settings, the setting whose working value is to be saved, and the field that it adds to its row of the reply.
pub record Effect : Type 0 where
  pub settings : Settings
  pub saves : Option Setting
  pub report : List ℕ

-- Leaves these settings, and neither saves nor reports.
abbrev pub leaving : Settings → Effect
leaving w = record { settings = w; saves = None; report = [] }

-- code, value size, working value
abbrev pub value_field : Setting → ℕ → List ℕ
value_field s x = code_of s ∷ value_size s ∷ value_bytes s x

-- The effect of a function number on a setting, where x is the value sent. `loaded s` is what is loaded of s, a value or nothing. 1 sets
-- the working value, 2 reads it, 3 saves it, 4 loads the page's value, 5 the factory value. (No command with a function below 1 or
-- above 5 is accepted.)
abbrev pub function_effect : ℕ → (Setting → Option ℕ) → Settings → Setting → ℕ → Effect
function_effect zero loaded w s x = leaving w
function_effect (suc zero) loaded w s x = leaving (with_working w s x)
function_effect (suc (suc zero)) loaded w s x = record { settings = w; saves = None; report = value_field s (working_value w s) }
function_effect (suc (suc (suc zero))) loaded w s x = record { settings = w; saves = Some s; report = [] }
function_effect (suc (suc (suc (suc zero)))) loaded w s x = leaving (loading w s (loaded s))
function_effect (suc (suc (suc (suc (suc f))))) loaded w s x = leaving (with_working w s (factory_value s))

abbrev pub field_effect : Subject → (Setting → Option ℕ) → Settings → Command → Effect
field_effect Ping loaded w c = leaving w
field_effect (About s) loaded w c = function_effect c.function loaded w s (value_for s c)
field_effect Unknown loaded w c = leaving w

-- A field with an error changes nothing.
abbrev pub effect_on : ℕ → Effect → Settings → Effect
effect_on zero e w = e
effect_on (suc n) e w = leaving w

-- The effect of a field with its own error.
unfoldable pub effect_of : ℕ → (Setting → Option ℕ) → Settings → Command → Effect
effect_of denial loaded w c = effect_on (field_error denial loaded c) (field_effect (subject_of c.kind c.code) loaded w c) w
