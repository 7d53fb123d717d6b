-- Document 01, "Numbers of the calls", 21 and 22: is this one whole message?
use Rattle.std.specs.Prelude.{ℕ, ◌+◌, Bool, true, false, not, List, length, ◌==◌, nat_lt}
use Rattle.message.specs.Message.{length_of, headed, sums_right}

-- The number n where the test is true, else what follows: an order of tests.
abbrev pub refuse : Bool → ℕ → ℕ → ℕ
refuse true n next = n
refuse false n next = next

-- Under 6 bytes, no A5 A5, or not L + 6 bytes; then sums wrong.
unfoldable pub whole_number : List ℕ → ℕ
whole_number m =
    refuse (nat_lt (length m) 6) 21
    (refuse (not (headed m)) 21
    (refuse (not (length m == length_of m + 6)) 21
    (refuse (not (sums_right m)) 22
    0)))
