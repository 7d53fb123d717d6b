-- Document 01, "The start-up page" and numbers 19 and 20: blank and sound pages.
use Rattle.std.specs.Prelude.{Bool, true, false, ◌&&◌, not, List, [], ◌∷◌, ℕ, eqb, length}
use Rattle.page.specs.declared.setting.Setting.{Setting}
use Rattle.page.specs.declared.setting.Values.{Values}
use Rattle.page.specs.Settings.{Key, value_of, last_number}
use Rattle.page.specs.Page.{writing, page_size, all_storable, with_key}
use Rattle.page.specs.Lookup.{values_in}

-- Are two rows of bytes the same?
abbrev pub same : List ℕ → List ℕ → Bool
same [] [] = true
same [] (y ∷ ys) = false
same (x ∷ xs) [] = false
same (x ∷ xs) (y ∷ ys) = eqb x y && same xs ys

-- Sound: blank, or exactly the writing of some allowed values, that is storable ones. (Blank is the writing of no values.) Some values are
-- those read from the page (`SoundExactly`), and there are no others, since a writing reads back (`ReadBack`): so these are tried.
unfoldable pub sound : List ℕ → Bool
sound page = all_storable (values_in page) && same page (writing (values_in page))

abbrev pub refuse : Bool → ℕ → ℕ → ℕ
refuse true n next = n
refuse false n next = next

-- 19: not 64 bytes; 20: neither blank nor sound.
unfoldable pub page_number : List ℕ → ℕ
page_number page = refuse (not (eqb (length page) page_size)) 19 (refuse (not (sound page)) 20 0)

-- ---- writing and saving

-- What writing values to a page answers, and the page afterwards.
pub record PageWriting : Type 0 where
  pub number : ℕ
  pub page : List ℕ

abbrev pub refuse_writing : Bool → ℕ → List ℕ → PageWriting → PageWriting
refuse_writing true n page next = record { number = n; page = page }
refuse_writing false n page next = next

-- 19: not 64 bytes; 20: a value is not storable, so that the page would not be sound. Nothing is written then.
unfoldable pub page_writing : Values → List ℕ → PageWriting
page_writing v page =
    refuse_writing (not (eqb (length page) page_size)) 19 page
    (refuse_writing (not (all_storable v)) 20 page
    (record { number = 0; page = writing v }))

-- The page with a value put in: it keeps the other entries, and is written anew.
unfoldable pub put_page : List ℕ → Key → ℕ → List ℕ
put_page page k x = writing (with_key (values_in page) k x)

-- A save puts the value of a setting in, a fresh number the number.
abbrev pub saved_page : List ℕ → Setting → ℕ → List ℕ
saved_page page s x = put_page page (value_of s) x

abbrev pub numbered_page : List ℕ → ℕ → List ℕ
numbered_page page n = put_page page last_number n
