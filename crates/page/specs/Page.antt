-- Document 01, "The start-up page", with entry 70 of document 02, request 03: the values that a page keeps, and the writing of
-- them.
use Rattle.std.specs.Prelude.{Bool, true, false, ◌&&◌, List, [], ◌∷◌, ◌++◌, ℕ, ◌+◌, ◌-◌, ◌*◌, length, replicate, Option, Some, None}
use Rattle.page.specs.declared.setting.Setting.{Setting}
use Rattle.page.specs.declared.setting.Setting.TheVariants.{Baud, Accelerometer, Gyroscope}
use Rattle.page.specs.declared.setting.Values.{Values}
use Rattle.page.specs.Settings.{factory_value, Key, value_of, last_number, key_code, key_bytes, key_storable}

-- ---- values under codes

abbrev pub is_there : Option ℕ → Bool
is_there None = false
is_there (Some x) = true

abbrev pub stored_in : Values → Setting → Option ℕ
stored_in v Baud = v.baud
stored_in v Accelerometer = v.accelerometer
stored_in v Gyroscope = v.gyroscope

-- The values with one put in, the others kept.
abbrev pub with_value : Values → Setting → ℕ → Values
with_value v Baud x = record { baud = Some x; accelerometer = v.accelerometer; gyroscope = v.gyroscope; number = v.number }
with_value v Accelerometer x = record { baud = v.baud; accelerometer = Some x; gyroscope = v.gyroscope; number = v.number }
with_value v Gyroscope x = record { baud = v.baud; accelerometer = v.accelerometer; gyroscope = Some x; number = v.number }

-- The values with a number put in, the others kept.
abbrev pub with_number : Values → ℕ → Values
with_number v x = record { baud = v.baud; accelerometer = v.accelerometer; gyroscope = v.gyroscope; number = Some x }

abbrev pub with_key : Values → Key → ℕ → Values
with_key v (value_of s) x = with_value v s x
with_key v last_number x = with_number v x

abbrev pub no_values : Values
no_values = record { baud = None; accelerometer = None; gyroscope = None; number = None }

-- There is no factory number.
abbrev pub factory_values : Values
factory_values =
    record {
      baud = Some (factory_value Baud);
      accelerometer = Some (factory_value Accelerometer);
      gyroscope = Some (factory_value Gyroscope);
      number = None;
    }

abbrev pub is_storable : Key → Option ℕ → Bool
is_storable k None = true
is_storable k (Some x) = key_storable k x

-- Each value that is there is storable.
unfoldable pub all_storable : Values → Bool
all_storable v =
    is_storable (value_of Baud) v.baud
    && is_storable (value_of Accelerometer) v.accelerometer
    && is_storable (value_of Gyroscope) v.gyroscope
    && is_storable last_number v.number

-- ---- the writing of values

pub record Item : Type 0 where
  pub code : ℕ
  pub content : List ℕ

abbrev pub item_on : Key → Option ℕ → List Item → List Item
item_on k None items = items
item_on k (Some x) items = record { code = key_code k; content = key_bytes k x } ∷ items

-- The entries of a page with their bodies: codes ascend.
abbrev pub items_of : Values → List Item
items_of v =
    item_on (value_of Baud) v.baud
    (item_on (value_of Accelerometer) v.accelerometer
    (item_on (value_of Gyroscope) v.gyroscope
    (item_on last_number v.number [])))

-- For each entry code, offset, length, where the bodies start at an offset and stand close together.
abbrev pub contents_from : ℕ → List Item → List ℕ
contents_from offset [] = []
contents_from offset (e ∷ es) = e.code ∷ offset ∷ length e.content ∷ contents_from (offset + length e.content) es

-- The bodies in the same order.
abbrev pub bodies_of : List Item → List ℕ
bodies_of [] = []
bodies_of (e ∷ es) = e.content ++ bodies_of es

abbrev pub page_size : ℕ
page_size = 64

-- FF to the end.
abbrev pub filled : List ℕ → List ℕ
filled bs = bs ++ replicate (page_size - length bs) 0xFF

-- The number of entries, the contents, the bodies; blank with no entry.
abbrev pub page_of : List Item → List ℕ
page_of [] = filled []
page_of (e ∷ es) = filled (length (e ∷ es) ∷ contents_from (1 + 3 * length (e ∷ es)) (e ∷ es) ++ bodies_of (e ∷ es))

unfoldable pub writing : Values → List ℕ
writing v = page_of (items_of v)

-- Blank: 64 bytes FF.
abbrev pub blank_page : List ℕ
blank_page = filled []

-- The factory page is the writing of the factory values.
unfoldable pub factory_page : List ℕ
factory_page = writing factory_values
