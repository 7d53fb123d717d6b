-- The seek for one message through the unread bytes: how a feed looks for the next message. The contracts of the code cite it.
use Rattle.std.specs.Prelude.{Bool, true, false, List, [], ◌∷◌, ℕ, suc, ◌+◌}
use Rattle.stream.specs.declared.Verdict.{Verdict}
use Rattle.stream.specs.declared.Verdict.TheVariants.{Skip, Undecided, Whole}
use Rattle.stream.specs.declared.Sought.{Sought}
use Rattle.stream.specs.declared.Sought.TheVariants.{Starved, Found}

-- What is sought, behind k bytes more that are skipped.
abbrev pub beyond : ℕ → Sought → Sought
beyond k (Starved j) = Starved (k + j)
beyond k (Found j n good) = Found (k + j) n good

-- One byte is skipped before what is sought.
abbrev pub after_skip : Sought → Sought
after_skip (Starved k) = Starved (suc k)
after_skip (Found k n good) = Found (suc k) n good

abbrev pub seek_on : Verdict → Sought → Sought
seek_on Skip rest = after_skip rest
seek_on Undecided rest = Starved 0
seek_on (Whole n good) rest = Found 0 n good

module _ (front : List ℕ → Verdict) where
  -- Skips bytes until a message stands at the front, or the front is undecided, or nothing is left.
  unfoldable pub seek : List ℕ → Sought
  seek [] = Starved 0
  seek (x ∷ xs) = seek_on (front (x ∷ xs)) (seek xs)

-- Where reading goes on after a message that is found behind k bytes and n long: after its last byte where it is good,
-- one byte after its start where it is damaged.
abbrev pub resume : ℕ → ℕ → Bool → ℕ
resume k n true = k + n
resume k n false = suc k

-- The bytes skipped with such a message.
abbrev pub skipped_by : ℕ → Bool → ℕ
skipped_by k true = k
skipped_by k false = suc k
