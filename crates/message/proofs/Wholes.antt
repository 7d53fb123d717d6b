-- One whole message: what its sums say.
use Rattle.std.proofs.Common.{◌≡◌, ℕ, ◌+◌, ◌%◌, ◌≤◌, Bool, true, false, not, List, length, get_or, take, drop, sym, ◌∙◌, le-ltb, eq-eqb}
use lib.Seq.{take-length}
use Rattle.message.specs.Message.{sums_right}
use Rattle.message.specs.Whole.{refuse, whole_number}

-- Bytes that open as a message and are as many as their length byte tells (n).
module _ (m : List ℕ) (long : 6 ≤ length m) (first : get_or m 0 0 ≡ 0xA5) (second : get_or m 1 0 ≡ 0xA5) (n : ℕ) (t : n ≡ get_or m 3 0 % 256 + 6) where
  module _ (e : length m ≡ n) (good : Bool) (g : good ≡ sums_right (take n (drop 0 m))) where
    right : good ≡ sums_right m
    right = g ∙ rw (← e, take-length m)

    passes : whole_number m ≡ refuse (not good) 22 0
    unfolding whole_number
    passes = rw (le-ltb (length m) 6 long, eq-eqb (get_or m 0 0) 0xA5 first, eq-eqb (get_or m 1 0) 0xA5 second, ← t, eq-eqb (length m) n e, ← right)

    pub whole_right : good ≡ true → 0 ≡ whole_number m
    whole_right r = sym (rw r at passes)

    pub whole_wrong : good ≡ false → 22 ≡ whole_number m
    whole_wrong r = sym (rw r at passes)
