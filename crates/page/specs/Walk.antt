-- Internal: how sound.rt tests a page that has entries: it walks over them in place. That the walk tells the sound pages is proved in
-- proofs/Sounds.antt.
use Rattle.std.specs.Prelude.{Bool, true, false, ◌&&◌, List, ℕ, zero, suc, ◌+◌, ◌*◌, eqb, leb, ltb, get_or, take, drop, Option, Some, None}
use Rattle.std.proofs.Math.Seq.{slice}
use Rattle.std.specs.List.{list_all}
use Rattle.word.specs.Word.{number}
use Rattle.page.specs.Settings.{storable, value_size, Key, value_of, last_number, key_of}
use Rattle.page.specs.Lookup.{most_entries}

-- Is each byte FF?
abbrev pub all_blank : List ℕ → Bool
all_blank bs = list_all (λ b. eqb b 0xFF) bs

-- A size, or 0 where something is not right.
abbrev pub size_on : Bool → ℕ → ℕ
size_on true size = size
size_on false size = 0

-- A size, told where it is not 0.
abbrev pub told_size : ℕ → Option ℕ
told_size zero = None
told_size (suc n) = Some (suc n)

-- The size of the value that some bytes start with, or 0 where it is not storable; 0 for a code that stands for nothing. Any four
-- bytes are a number.
abbrev pub coded_size : Option Key → List ℕ → ℕ
coded_size (Some (value_of s)) bs = size_on (storable s (number (take (value_size s) bs))) (value_size s)
coded_size (Some last_number) bs = 4
coded_size None bs = 0

-- The size of the body at start under a code.
unfoldable pub body_size : List ℕ → ℕ → ℕ → ℕ
body_size page code start = coded_size (key_of code) (drop start page)

-- The size of the body of the entry at byte i, where its body has to be at start and its code above the last one: codes
-- ascend, and bodies stand close together.
unfoldable pub entry_size : List ℕ → ℕ → ℕ → ℕ → ℕ
entry_size page i start last =
    let size : ℕ = body_size page (get_or page i 0) start in
    size_on (ltb last (get_or page i 0) && eqb (get_or page (i + 1) 0) start && eqb (get_or page (i + 2) 0) size) size

-- n entries are right, the first at byte i with its body at start, and behind the last body is FF to the end.
unfoldable pub entries_from : List ℕ → ℕ → ℕ → ℕ → ℕ → Bool
entries_from page zero i start last = all_blank (slice start 64 page)
entries_from page (suc n) i start last =
    let size : ℕ = entry_size page i start last in
    ltb 0 size && entries_from page n (i + 3) (start + size) (get_or page i 0)

-- One to four entries; the bodies start behind them.
unfoldable pub entries_right : List ℕ → Bool
entries_right page =
    let n : ℕ = get_or page 0 0 in
    ltb 0 n && leb n most_entries && entries_from page n 1 (1 + 3 * n) 0
