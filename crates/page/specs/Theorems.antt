-- What is proved of the page's definitions, beyond the contracts of the code. Each statement names its proof, a term of that type in a
-- file of proofs/.
use Rattle.std.specs.Prelude.{◌≡◌, Bool, true, false, ◌&&◌, ◌||◌, List, [], ◌∷◌, ℕ, ◌<◌, eqb, ltb, length}
use Rattle.word.specs.Word.{number}
use Rattle.page.specs.declared.setting.Setting.{Setting}
use Rattle.page.specs.declared.setting.Setting.TheVariants.{Baud, Accelerometer, Gyroscope}
use Rattle.page.specs.declared.setting.Values.{Values}
use Rattle.page.specs.Settings.{code_of, usable, storable, not_on_this_board, readable, value_bytes, factory_value, Key, key_storable}
use Rattle.page.specs.Page.{stored_in, with_value, with_number, with_key, no_values, all_storable, Item, items_of, writing, page_size, blank_page, factory_page}
use Rattle.page.specs.Lookup.{body_of, values_in}
use Rattle.page.specs.Sound.{sound, put_page, saved_page, numbered_page}
use Rattle.page.specs.Loading.{value_or}

-- Every writing is 64 bytes. Proof: Pages `writing_size`.
abbrev pub WritingSize : Type 0
WritingSize = (v : Values) → length (writing v) ≡ page_size

-- Codes ascend: in every writing each entry's code is smaller than the next one's. Proof: Pages `codes_ascend`.
abbrev pub ascending : List Item → Bool
ascending [] = true
ascending (e ∷ []) = true
ascending (e ∷ f ∷ es) = ltb e.code f.code && ascending (f ∷ es)

abbrev pub CodesAscend : Type 0
CodesAscend = (v : Values) → ascending (items_of v) ≡ true

-- Reading a writing gives the values back. Proof: Pages `read_back`.
abbrev pub ReadBack : Type 0
ReadBack = (v : Values) → all_storable v ≡ true → values_in (writing v) ≡ v

-- The writing of storable values is sound, and a sound page is the writing of the storable values that are read from it. Proofs: Pages
-- `writing-sound`, `sound_is_writing`, `writing_is_sound`.
abbrev pub WritingSound : Type 0
WritingSound = (v : Values) → all_storable v ≡ true → sound (writing v) ≡ true

pub record IsWriting (page : List ℕ) : Type 0 where
  pub storable_values_lem : all_storable (values_in page) ≡ true
  pub written : page ≡ writing (values_in page)

abbrev pub SoundIsWriting : Type 0
SoundIsWriting = (page : List ℕ) → sound page ≡ true → IsWriting page

abbrev pub WritingIsSound : Type 0
WritingIsSound = (page : List ℕ) → IsWriting page → sound page ≡ true

-- "Exactly the writing of some allowed values", storable ones: a page is sound where there are such values, and nowhere else. Proof:
-- Pages `sound_exactly`.
pub record SomeWriting (page : List ℕ) : Type 0 where
  pub values : Values
  pub storable_values_lem : all_storable values ≡ true
  pub written : page ≡ writing values

pub record SoundExactly : Type 0 where
  pub sound_some : (page : List ℕ) → sound page ≡ true → SomeWriting page
  pub some_sound : (page : List ℕ) → SomeWriting page → sound page ≡ true

-- Blank is the writing of no values. Proof: Pages `blank_is_writing`.
pub record BlankIsWriting : Type 0 where
  pub written : writing no_values ≡ blank_page
  pub read : values_in blank_page ≡ no_values

-- A value put in under a key is there, the other entries are kept, and the page stays sound. Proof: Pages `put_keeps`.
pub record Put (page : List ℕ) (k : Key) (x : ℕ) : Type 0 where
  pub values : values_in (put_page page k x) ≡ with_key (values_in page) k x
  pub sound_page : sound (put_page page k x) ≡ true

abbrev pub PutKeeps : Type 0
PutKeeps = (page : List ℕ) (k : Key) (x : ℕ) → sound page ≡ true → key_storable k x ≡ true → Put page k x

-- So it is of a save, and of a fresh number. Proofs: Pages `save_keeps`, `number_keeps`.
pub record Saved (page : List ℕ) (s : Setting) (x : ℕ) : Type 0 where
  pub values : values_in (saved_page page s x) ≡ with_value (values_in page) s x
  pub sound_page : sound (saved_page page s x) ≡ true

abbrev pub SaveKeeps : Type 0
SaveKeeps = (page : List ℕ) (s : Setting) (x : ℕ) → sound page ≡ true → storable s x ≡ true → Saved page s x

pub record Numbered (page : List ℕ) (n : ℕ) : Type 0 where
  pub values : values_in (numbered_page page n) ≡ with_number (values_in page) n
  pub sound_page : sound (numbered_page page n) ≡ true

abbrev pub NumberKeeps : Type 0
NumberKeeps = (page : List ℕ) (n : ℕ) → sound page ≡ true → n < 4294967296 → Numbered page n

-- From a sound page the lookup gives the bytes of the value that it holds, or of the factory value where it holds none; it is storable.
-- Proof: Pages `looks_up_stored`.
pub record LookedUp (page : List ℕ) (s : Setting) : Type 0 where
  pub body : body_of page factory_page (code_of s) ≡ value_bytes s (value_or (stored_in (values_in page) s) (factory_value s))
  pub value : number (body_of page factory_page (code_of s)) ≡ value_or (stored_in (values_in page) s) (factory_value s)
  pub value_storable : storable s (value_or (stored_in (values_in page) s) (factory_value s)) ≡ true

abbrev pub LooksUpStored : Type 0
LooksUpStored = (page : List ℕ) (s : Setting) → sound page ≡ true → LookedUp page s

-- ---- the roles of a value

-- What is usable on this board can be saved and reported, and the factory values are usable. Proof: Pages `usable_everywhere`.
pub record UsableEverywhere (s : Setting) : Type 0 where
  pub stored : (x : ℕ) → usable s x ≡ true → storable s x ≡ true
  pub reported : (x : ℕ) → usable s x ≡ true → readable s x ≡ true
  pub factory : usable s (factory_value s) ≡ true

abbrev pub is_gyroscope : Setting → Bool
is_gyroscope Baud = false
is_gyroscope Accelerometer = false
is_gyroscope Gyroscope = true

-- "06 or 07": these are the values that a page can hold and a reply report, and that are not usable on this board. Proof: Settings
-- `not_on_this_board_lem`.
pub record NotOnThisBoard (s : Setting) (x : ℕ) : Type 0 where
  pub stored : not_on_this_board s x ≡ is_gyroscope s && (eqb x 0x06 || eqb x 0x07)
  pub reported : readable s x ≡ storable s x
