-- Document 01, "The scan", with request 01 of document 02: the framing of MS CIP.
use Rattle.std.specs.Prelude.{ℕ, ◌+◌, Bool, true, false, not, ◌&&◌, List, [], ◌∷◌, drop, ◌==◌}
use Rattle.stream.specs.declared.Verdict.{Verdict}
use Rattle.stream.specs.Framing.{front_by}
use Rattle.message.specs.Message.{length_of, sums_right}

-- The first byte is A5, or there is none.
abbrev pub a5_or_none : List ℕ → Bool
a5_or_none [] = true
a5_or_none (b ∷ bs) = b == 0xA5

-- A first byte is there and is A5.
abbrev pub starts_with_a5 : List ℕ → Bool
starts_with_a5 [] = false
starts_with_a5 (b ∷ bs) = b == 0xA5

-- Not: the first byte is not A5, or a second byte is there and is not A5. And not (request 01): behind A5 A5 a third byte is
-- there and is A5, for A5 is nobody's type.
abbrev pub opens : List ℕ → Bool
opens u = a5_or_none u && a5_or_none (drop 1 u) && not (starts_with_a5 (drop 2 u))

-- L + 6 bytes.
abbrev pub size_of : List ℕ → ℕ
size_of u = length_of u + 6

-- What stands at the front of the unread bytes.
unfoldable pub front : List ℕ → Verdict
front = front_by opens size_of sums_right

-- An undecided front is at most so many bytes: one fewer than the longest message.
abbrev pub most_undecided : ℕ
most_undecided = 260
