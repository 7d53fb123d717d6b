-- Document 01, "A message": A5 A5, type, length L, L payload bytes, F1, F2; in all L + 6 bytes.
use Rattle.std.specs.Prelude.{ℕ, ◌+◌, ◌-◌, ◌%◌, Bool, ◌&&◌, List, [], ◌∷◌, ◌++◌, length, take, drop, ◌==◌, slice_index}
use Rattle.message.specs.Fletcher.{sums}

-- The bytes that the sums go over: from the first A5 to the last of the payload.
abbrev pub summed_bytes : ℕ → List ℕ → List ℕ
summed_bytes kind payload = 0xA5 ∷ 0xA5 ∷ kind ∷ length payload ∷ payload

-- Bytes, and their two sums behind them.
abbrev pub with_sums : List ℕ → List ℕ
with_sums bs = bs ++ ((sums bs).f1 ∷ (sums bs).f2 ∷ [])

-- The message of a type and a payload.
unfoldable pub message_of : ℕ → List ℕ → List ℕ
message_of kind payload = with_sums (summed_bytes kind payload)

-- The type, and the length L, of the bytes of a message; 0 where they are not there. A byte is below 256, so the remainder
-- is the byte itself: it only bounds the definition on lists of larger numbers.
abbrev pub type_of : List ℕ → ℕ
type_of m = slice_index m 2

abbrev pub length_of : List ℕ → ℕ
length_of m = slice_index m 3 % 256

abbrev pub payload_of : List ℕ → List ℕ
payload_of m = take (length_of m) (drop 4 m)

-- Do the bytes start with A5 A5?
abbrev pub headed : List ℕ → Bool
headed m = slice_index m 0 == 0xA5 && slice_index m 1 == 0xA5

-- Are the last two bytes of a message the sums of those before them?
unfoldable pub sums_right : List ℕ → Bool
sums_right m =
    let n : ℕ = length m - 2 in
    (slice_index m n == (sums (take n m)).f1) && slice_index m (n + 1) == (sums (take n m)).f2
