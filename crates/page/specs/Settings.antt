-- Document 01, "Handling one message", values: the settings, their codes, sizes, values and factory values; and document 02,
-- requests 03 and 05: the number that the page keeps beside them, and the ranges of this board's gyroscope.
use Rattle.std.specs.Prelude.{Bool, true, false, ◌&&◌, ◌||◌, not, List, [], ◌∷◌, ℕ, ◌%◌, eqb, ltb, length, Option, Some, None}
use Rattle.word.specs.Word.{word_bytes}
use Rattle.page.specs.declared.setting.Setting.{Setting}
use Rattle.page.specs.declared.setting.Setting.TheVariants.{Baud, Accelerometer, Gyroscope}

-- The low bytes of the commands 0x0201, 0x0207 and 0x0208.
abbrev pub code_of : Setting → ℕ
code_of Baud = 0x01
code_of Accelerometer = 0x07
code_of Gyroscope = 0x08

abbrev pub coded_on : Bool → Setting → Option Setting → Option Setting
coded_on true s next = Some s
coded_on false s next = next

-- The setting that a code stands for.
unfoldable pub setting_of : ℕ → Option Setting
setting_of code = coded_on (eqb code 0x01) Baud (coded_on (eqb code 0x07) Accelerometer (coded_on (eqb code 0x08) Gyroscope None))

-- Does the test hold of some element?
abbrev pub some_of : {A : Type 0} → (A → Bool) → List A → Bool
some_of p [] = false
some_of p (x ∷ xs) = p x || some_of p xs

-- Baud: one of six rates; accelerometer range: 01 to 04.
abbrev pub baud_rates : List ℕ
baud_rates = 9600 ∷ 19200 ∷ 115200 ∷ 230400 ∷ 460800 ∷ 921600 ∷ []

abbrev pub accelerometer_ranges : List ℕ
accelerometer_ranges = 0x01 ∷ 0x02 ∷ 0x03 ∷ 0x04 ∷ []

-- Gyroscope range: "Our new sensor has codes 01 to 05."
abbrev pub gyroscope_ranges : List ℕ
gyroscope_ranges = 0x01 ∷ 0x02 ∷ 0x03 ∷ 0x04 ∷ 0x05 ∷ []

-- Older boards, and what they saved, have document 01's: 01 to 07.
abbrev pub older_gyroscope_ranges : List ℕ
older_gyroscope_ranges = 0x01 ∷ 0x02 ∷ 0x03 ∷ 0x04 ∷ 0x05 ∷ 0x06 ∷ 0x07 ∷ []

-- Document 01's "allowed" has three meanings, by where a value stands. Usable on this board: as a working value, with function 1, and
-- for the command writer.
abbrev pub usable_values : Setting → List ℕ
usable_values Baud = baud_rates
usable_values Accelerometer = accelerometer_ranges
usable_values Gyroscope = gyroscope_ranges

unfoldable pub usable : Setting → ℕ → Bool
usable s v = some_of (eqb v) (usable_values s)

-- Storable in a page: "old pages that hold [06 and 07] stay sound".
abbrev pub storable_values : Setting → List ℕ
storable_values Baud = baud_rates
storable_values Accelerometer = accelerometer_ranges
storable_values Gyroscope = older_gyroscope_ranges

unfoldable pub storable : Setting → ℕ → Bool
storable s v = some_of (eqb v) (storable_values s)

-- "Not on this board": a page can hold the value, and this board cannot use it.
abbrev pub not_on_this_board : Setting → ℕ → Bool
not_on_this_board s v = storable s v && not (usable s v)

-- Readable in a reply: "the reply reader still takes them, from older boards".
abbrev pub readable_values : Setting → List ℕ
readable_values Baud = baud_rates
readable_values Accelerometer = accelerometer_ranges
readable_values Gyroscope = older_gyroscope_ranges

unfoldable pub readable : Setting → ℕ → Bool
readable s v = some_of (eqb v) (readable_values s)

-- The bytes of a value: four, or one.
abbrev pub value_bytes : Setting → ℕ → List ℕ
value_bytes Baud v = word_bytes v
value_bytes Accelerometer v = v % 256 ∷ []
value_bytes Gyroscope v = v % 256 ∷ []

abbrev pub value_size : Setting → ℕ
value_size s = length (value_bytes s 0)

-- Factory: 115200, 02, 03.
abbrev pub factory_value : Setting → ℕ
factory_value Baud = 115200
factory_value Accelerometer = 0x02
factory_value Gyroscope = 0x03

-- ---- the page's keys

-- What a page keeps: the value of a setting, or the last number accepted.
pub data Key : Type 0 where
  value_of : Setting → Key
  last_number : Key

abbrev pub key_code : Key → ℕ
key_code (value_of s) = code_of s
key_code last_number = 0x70

-- A number is four bytes.
abbrev pub key_bytes : Key → ℕ → List ℕ
key_bytes (value_of s) x = value_bytes s x
key_bytes last_number x = word_bytes x

abbrev pub key_size : Key → ℕ
key_size k = length (key_bytes k 0)

-- Storable under a key: of a setting as above; a number has any value of four bytes.
abbrev pub key_storable : Key → ℕ → Bool
key_storable (value_of s) x = storable s x
key_storable last_number x = ltb x 4294967296

abbrev pub keyed_on : Option Setting → Bool → Option Key
keyed_on (Some s) n = Some (value_of s)
keyed_on None true = Some last_number
keyed_on None false = None

-- The key that a code stands for.
unfoldable pub key_of : ℕ → Option Key
key_of code = keyed_on (setting_of code) (eqb code 0x70)
