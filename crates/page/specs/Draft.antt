-- Internal: how store.rt fills a page, entry by entry, and put.rt puts a value in. That the page ends as the writing of
-- the values is proved in proofs/Drafts.antt.
use Rattle.std.specs.Prelude.{List, [], ◌∷◌, ℕ, zero, suc, ◌+◌, ◌*◌, length, set, Option, Some, None}
use Rattle.std.proofs.lemmas.List.Edits.{sets}
use Rattle.page.specs.declared.setting.Values.{Values}
use Rattle.page.specs.declared.store.Places.{Places}
use Rattle.page.specs.Settings.{Key}
use Rattle.page.specs.Page.{with_key}

-- 1 for a value that is there.
abbrev pub presence : Option ℕ → ℕ
presence None = 0
presence (Some x) = 1

-- A page that is being filled, and where its next entry and its next body go.
pub record Draft : Type 0 where
  pub page : List ℕ
  pub places : Places

-- A page of n entries before any is written; with none it is blank. Its first entry is at 1, and the bodies start behind
-- the entries.
abbrev pub draft_of : List ℕ → ℕ → Draft
draft_of page zero = record { page = page; places = record { at = 1; start = 1 } }
draft_of page (suc n) = record { page = set page 0 (suc n); places = record { at = 1; start = 1 + 3 * suc n } }

-- One entry more, and its body.
abbrev pub with_body : Draft → ℕ → List ℕ → Draft
with_body d code bs =
    let p : Places = d.places in
    record {
      page = sets (sets d.page p.at (code ∷ p.start ∷ length bs ∷ [])) p.start bs;
      places = record { at = p.at + 3; start = p.start + length bs };
    }

-- One entry more where there is a body.
abbrev pub with_entry : Draft → ℕ → Option (List ℕ) → Draft
with_entry d code None = d
with_entry d code (Some bs) = with_body d code bs

-- ---- a value put in

-- The values with one put in under a code that stands for a key.
abbrev pub with_coded : Values → Option Key → ℕ → Values
with_coded v (Some k) x = with_key v k x
with_coded v None x = v
