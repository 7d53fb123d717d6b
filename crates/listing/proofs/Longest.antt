-- The longest lines.
use Prim.Native.Nat.{ℕ, ◌+◌, ◌≤◌}
use native.Mathlib.Omega.{arith}
use mathlib.Core.Path.{◌≡◌}
use mathlib.Core.Bool.{Bool, true, false}
use mathlib.Core.List.{List, ◌++◌}
use lib.ListN.{length, length-append}
use Rattle.listing.specs.Text.{hex_of, blank, newline, page_of, decimal_of, line_of, counts_of, taken_word, skipped_word, held_word, total_of}
use Rattle.listing.specs.Theorems.{LineLongest, CountsLongest, TotalLongest}
use Rattle.listing.proofs.Decimals.{byte_digits, word-digits}

page_longest : (saved : Bool) → length (page_of saved) ≤ 5
page_longest true = omega arith
page_longest false = omega arith

line_parts : (a b c d e f g h : List ℕ)
    → length (a ++ b ++ c ++ d ++ e ++ f ++ g ++ h) ≡ length a + length b + length c + length d + length e + length f + length g + length h
line_parts a b c d e f g h = simp length-append

pub line_longest : LineLongest
unfolding line_of
line_longest kind echo error saved h =
    rw (line_parts (hex_of kind) blank (hex_of echo) blank (decimal_of error) blank (page_of saved) newline) (omega (arith, byte_digits error h, page_longest saved))

count_parts : (a b c d e f g : List ℕ)
    → length (a ++ b ++ c ++ d ++ e ++ f ++ g) ≡ length a + length b + length c + length d + length e + length f + length g
count_parts a b c d e f g = simp length-append

pub counts_longest : CountsLongest
unfolding counts_of
counts_longest taken skipped held h k l =
    rw (count_parts taken_word (decimal_of taken) skipped_word (decimal_of skipped) held_word (decimal_of held) newline)
    (omega (arith, word-digits taken h, word-digits skipped k, word-digits held l))

pub total_longest : TotalLongest
unfolding total_of
total_longest n h = rw length-append (omega (arith, word-digits n h))
