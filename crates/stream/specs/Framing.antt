-- Document 01, "The scan": what stands at the front of what is unread, over any framing of messages in a byte stream.
use Rattle.std.specs.Prelude.{◌≡◌, Bool, true, false, List, ◌++◌, ℕ, suc, ◌≤◌, leb, length, take}
use Rattle.stream.specs.declared.Verdict.{Verdict}
use Rattle.stream.specs.declared.Verdict.TheVariants.{Skip, Undecided, Whole}

-- Are all n bytes of a message there? Then it is good or damaged.
abbrev pub verdict_on : Bool → ℕ → Bool → Verdict
verdict_on false n good = Undecided
verdict_on true n good = Whole n good

-- Does the front open a message?
abbrev pub front_on : Bool → Verdict → Verdict
front_on false v = Skip
front_on true v = v

-- The verdict of a framing by three functions of the unread bytes: a test whether they may open a message, the message's
-- length, and a test of the message's own bytes. No opening: one byte is skipped. Otherwise, until the length is there,
-- it is undecided. Then the message is good or damaged.
abbrev pub front_by : (List ℕ → Bool) → (List ℕ → ℕ) → (List ℕ → Bool) → List ℕ → Verdict
front_by opens size valid u = front_on (opens u) (verdict_on (leb (size u) (length u)) (size u) (valid (take (size u) u)))

-- The laws that the scan needs of a framing. A skip and a message stay what they are when bytes are added; `peek` bytes
-- tell a skip, and a message's own bytes tell it; an undecided front is at most `most_held` bytes.
pub record Framing (front : List ℕ → Verdict) (most_held peek : ℕ) : Type 0 where
  pub skip_stays : (u v : List ℕ) → front u ≡ Skip → front (u ++ v) ≡ Skip
  pub whole_stays : (u v : List ℕ) (n : ℕ) (good : Bool) → front u ≡ Whole n good → front (u ++ v) ≡ Whole n good
  pub skip_alone : (u v : List ℕ) → front (u ++ v) ≡ Skip → peek ≤ length u → front u ≡ Skip
  pub whole_alone : (u v : List ℕ) (n : ℕ) (good : Bool) → front (u ++ v) ≡ Whole n good → n ≤ length u → front u ≡ Whole n good
  pub size : (u : List ℕ) (n : ℕ) (good : Bool) → front u ≡ Whole n good → (1 ≤ n) × (peek ≤ n) × (n ≤ suc most_held) × (n ≤ length u)
  pub short : (u : List ℕ) → front u ≡ Undecided → length u ≤ most_held
