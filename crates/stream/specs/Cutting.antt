-- What makes the cutting of a stream harmless, over any framing: the statements, proved in proofs/Cuts.antt. First the laws of any
-- scan; then those about added bytes and about a silence mark.
use Rattle.std.specs.Prelude.{◌≡◌, Bool, true, false, List, [], ◌∷◌, ◌++◌, ℕ, zero, suc, ◌+◌, ◌≤◌, length, drop}
use Rattle.stream.specs.declared.Verdict.{Verdict}
use Rattle.stream.specs.declared.Verdict.TheVariants.{Skip, Undecided, Whole}
use Rattle.stream.specs.declared.Sought.{Sought}
use Rattle.stream.specs.declared.Sought.TheVariants.{Starved, Found}
use Rattle.stream.specs.Framing.{Framing}
use Rattle.stream.specs.Scan.{Message, message_at, Event, skipped, reported, events, standing}
use Rattle.stream.specs.Seek.{beyond, seek, resume}
use Rattle.stream.specs.Silence.{End, ended, up_to}

-- k bytes skipped.
abbrev pub skips : ℕ → List Event
skips zero = []
skips (suc k) = skipped ∷ skips k

-- k bytes skipped, then a message.
abbrev pub skips_then : ℕ → Message → List Event
skips_then zero m = reported m ∷ []
skips_then (suc k) m = skipped ∷ skips_then k m

-- The sizes of a message that is found in u behind k bytes.
pub record Sized (most_held : ℕ) (u : List ℕ) (k n : ℕ) : Type 0 where
  pub some : 1 ≤ n
  pub most : n ≤ suc most_held
  pub inside : k + n ≤ length u

-- ---- The laws of any scan, whatever its verdict.

module _ (front : List ℕ → Verdict) (most_held : ℕ) where
  -- A seek that is starved behind k bytes: the scan skips them and finds nothing in the rest.
  pub record Starving (u : List ℕ) (k : ℕ) : Type 0 where
    pub inside : k ≤ length u
    pub scans : events front u ≡ skips k
    pub ends : events front (drop k u) ≡ []

  -- A seek that finds a message: the scan skips the bytes before it, reports it and goes on.
  pub record Finding (u : List ℕ) (k n : ℕ) (good : Bool) : Type 0 where
    pub sized : Sized most_held u k n
    pub scans : events front u ≡ skips_then k (message_at n good (drop k u)) ++ events front (drop (resume k n good) u)

  abbrev pub Seeks : List ℕ → Sought → Type 0
  Seeks u (Starved k) = Starving u k
  Seeks u (Found k n good) = Finding u k n good

  pub record Scanning : Type 0 where
    -- The scan as document 01 words it, a line for each verdict.
    pub scan_skip : (u : List ℕ) → 1 ≤ length u → front u ≡ Skip → events front u ≡ skipped ∷ events front (drop 1 u)
    pub scan_undecided : (u : List ℕ) → front u ≡ Undecided → events front u ≡ []
    pub scan_good : (u : List ℕ) (n : ℕ) → front u ≡ Whole n true → events front u ≡ reported (message_at n true u) ∷ events front (drop n u)
    pub scan_damaged : (u : List ℕ) (n : ℕ) → front u ≡ Whole n false → events front u ≡ reported (message_at n false u) ∷ events front (drop 1 u)
    -- What is sought in u is what the scan of u does first.
    pub seeks : (u : List ℕ) → Seeks u (seek front u)

-- ---- The laws about added bytes, and about a mark.

module _ (front : List ℕ → Verdict) (most_held : ℕ) where
  -- A seek that is starved behind k bytes: the scan skips them, whatever follows and however that ends. What is left is at most
  -- `most_held` bytes.
  pub record StarvedAt (u : List ℕ) (k : ℕ) : Type 0 where
    pub goes : (e : End) (v : List ℕ) → events (up_to e front) (u ++ v) ≡ skips k ++ events (up_to e front) (drop k u ++ v)
    pub few : length (drop k u) ≤ most_held

  -- Seek and scan agree: what is sought in u is what the scan does first, whatever follows u and however that ends.
  abbrev pub Agrees : List ℕ → Sought → Type 0
  Agrees u (Starved k) = StarvedAt u k
  Agrees u (Found k n good) = (e : End) (v : List ℕ)
      → events (up_to e front) (u ++ v) ≡ skips_then k (message_at n good (drop k u)) ++ events (up_to e front) (drop (resume k n good) u ++ v)

  -- The scan of u, whatever follows it and however that ends: its events, then the scan of what it leaves, which is at most
  -- `most_held` bytes.
  pub record Continues (u : List ℕ) : Type 0 where
    pub goes : (e : End) (v : List ℕ) → events (up_to e front) (u ++ v) ≡ events front u ++ events (up_to e front) (drop (standing (events front u)) u ++ v)
    pub inside : standing (events front u) ≤ length u
    pub few : length (drop (standing (events front u)) u) ≤ most_held

  pub record Cutting : Type 0 where
    -- Bytes that others may follow are scanned, and bytes that end at a mark.
    pub scanning : (e : End) → Scanning (up_to e front) most_held
    -- An undecided front is short.
    pub undecided_short : (u : List ℕ) → front u ≡ Undecided → length u ≤ most_held
    -- The scan of a stream that is cut goes on where it stood.
    pub continues : (u : List ℕ) → Continues u
    -- Seek and scan agree.
    pub agrees : (u : List ℕ) → Agrees u (seek front u)
    -- A found message stays found when bytes are added.
    pub found_stays : (u v : List ℕ) (k n : ℕ) (good : Bool) → seek front u ≡ Found k n good → seek front (u ++ v) ≡ Found k n good
    -- A starved seek resumes: what was skipped need not be looked at again.
    pub starved_resumes : (u v : List ℕ) (k : ℕ) → seek front u ≡ Starved k → seek front (u ++ v) ≡ beyond k (seek front (drop k u ++ v))
    -- What was found can be found with its own bytes alone.
    pub found_alone : (u v : List ℕ) (k n : ℕ) (good : Bool) → seek front (u ++ v) ≡ Found k n good → k + n ≤ length u → seek front u ≡ Found k n good
    -- Bytes that end at a mark are all read.
    pub all_read : (u : List ℕ) → standing (events (up_to ended front) u) ≡ length u

-- Cutting is harmless for every framing that has the six laws.
abbrev pub FramingCuts : Type 0
FramingCuts = (front : List ℕ → Verdict) (most_held peek : ℕ) → Framing front most_held peek → Cutting front most_held
