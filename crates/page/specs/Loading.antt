-- Document 01, "The start-up page": loading, with document 02, request 05: "Old pages that hold [06 and 07] stay sound: starting uses
-- the factory value, and function 4 is refused with the working value left."
use Rattle.std.specs.Prelude.{Bool, true, false, ℕ, Option, Some, None}
use Rattle.page.specs.declared.setting.Setting.{Setting}
use Rattle.page.specs.Settings.{usable, factory_value}

abbrev pub value_on : Bool → ℕ → Option ℕ
value_on true x = Some x
value_on false x = None

-- A value that is not usable on this board is not loaded.
abbrev pub if_usable : Setting → ℕ → Option ℕ
if_usable s x = value_on (usable s x) x

-- What is loaded of a setting, a value or nothing: the page's, or the factory value where the page has none.
abbrev pub loaded_value : Setting → Option ℕ → Option ℕ
loaded_value s None = Some (factory_value s)
loaded_value s (Some x) = if_usable s x

-- A value, or another one where there is none. Starting takes what is loaded, or the factory value.
abbrev pub value_or : Option ℕ → ℕ → ℕ
value_or None x = x
value_or (Some y) x = y
