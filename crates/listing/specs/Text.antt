-- Document 01, "Listing": the text of a listing, byte by byte. Every line ends in a newline, 10.
use Rattle.std.specs.Prelude.{ℕ, zero, suc, ◌+◌, ◌/◌, ◌%◌, Bool, true, false, cond, List, [], ◌∷◌, ◌++◌, ltb}

abbrev pub blank : List ℕ
blank = 32 ∷ []

abbrev pub newline : List ℕ
newline = 10 ∷ []

-- ---- numbers

-- 0 to 9 are the bytes 48 to 57, A to F the bytes 65 to 70.
abbrev pub hex_digit : ℕ → ℕ
hex_digit d = cond (ltb d 10) (48 + d) (55 + d)

-- "in two upper-case hex digits"
abbrev pub hex_of : ℕ → List ℕ
hex_of b = hex_digit (b / 16) ∷ hex_digit (b % 16) ∷ []

-- The last k decimal digits of n, the most significant first.
unfoldable pub digits : ℕ → ℕ → List ℕ
digits zero n = []
digits (suc k) n = digits k (n / 10) ++ ((48 + n % 10) ∷ [])

-- How many digits n has, up to the most told: one where it is under 10, else one more than its tenth.
unfoldable pub places : ℕ → ℕ → ℕ
places zero n = 0
places (suc most) n = cond (ltb n 10) 1 (suc (places most (n / 10)))

-- "the counts are decimal". A number under 2^64 has at most 20 digits.
unfoldable pub decimal_of : ℕ → List ℕ
decimal_of n = digits (places 20 n) n

-- ---- the lines

-- `type code error page`
abbrev pub heading : List ℕ
heading = 116 ∷ 121 ∷ 112 ∷ 101 ∷ 32 ∷ 99 ∷ 111 ∷ 100 ∷ 101 ∷ 32 ∷ 101 ∷ 114 ∷ 114 ∷ 111 ∷ 114 ∷ 32 ∷ 112 ∷ 97 ∷ 103 ∷ 101 ∷ 10 ∷ []

-- "`saved` or `same` as the feed answered"
abbrev pub page_of : Bool → List ℕ
page_of true = 115 ∷ 97 ∷ 118 ∷ 101 ∷ 100 ∷ []
page_of false = 115 ∷ 97 ∷ 109 ∷ 101 ∷ []

-- "Type and echo in two upper-case hex digits, then the error, then `saved` or `same` as the feed answered."
unfoldable pub line_of : ℕ → ℕ → ℕ → Bool → List ℕ
line_of kind echo error saved = hex_of kind ++ blank ++ hex_of echo ++ blank ++ decimal_of error ++ blank ++ page_of saved ++ newline

-- `taken `, ` skipped ` and ` held `
abbrev pub taken_word : List ℕ
taken_word = 116 ∷ 97 ∷ 107 ∷ 101 ∷ 110 ∷ 32 ∷ []

abbrev pub skipped_word : List ℕ
skipped_word = 32 ∷ 115 ∷ 107 ∷ 105 ∷ 112 ∷ 112 ∷ 101 ∷ 100 ∷ 32 ∷ []

abbrev pub held_word : List ℕ
held_word = 32 ∷ 104 ∷ 101 ∷ 108 ∷ 100 ∷ 32 ∷ []

-- Request 13: a total for service, on a line of its own.
unfoldable pub total_of : ℕ → List ℕ
total_of n = decimal_of n ++ newline

-- `taken 19 skipped 1 held 0`
unfoldable pub counts_of : ℕ → ℕ → ℕ → List ℕ
counts_of taken skipped held = taken_word ++ decimal_of taken ++ skipped_word ++ decimal_of skipped ++ held_word ++ decimal_of held ++ newline
