-- The theorems about lists of calls: the statements, proved in proofs/.
use Rattle.std.specs.Prelude.{◌≡◌, true, false, List, [], ℕ, ◌≤◌, ◌<◌, length, take}
use Rattle.std.proofs.Math.Option.{Option, none, some}
use Rattle.stream.specs.declared.Verdict.{Verdict}
use Rattle.stream.specs.Scan.{Message, events}
use Rattle.stream.specs.Silence.{Stream, extend, scan, with_bytes}
use Rattle.stream.specs.Cutting.{Cutting}
use Rattle.history.specs.Calls.{Call, port_of}
use Rattle.history.specs.Reckoning.{Outcome, Ledger, finds, shortest, reckoning}
use Rattle.history.specs.Program.{Tests, held_program}
use Rattle.history.specs.Ports.{PortHistory, PortAccount}
use Rattle.history.specs.Drained.{drained, only_feeds}
use Rattle.history.specs.Premises.{Handles, Matches}
use Rattle.history.specs.EveryList.{history, held}

-- ---- The reckoning's search.

module _ (front : List ℕ → Verdict) where
  -- A beginning of j bytes does it, and no shorter one.
  pub record Shortest (l : Ledger) (chunk : List ℕ) (j : ℕ) : Type 0 where
    pub inside : j ≤ length chunk
    pub does : finds front l.count (extend l.stream (take j chunk)) ≡ true
    pub below : (i : ℕ) → i < j → finds front l.count (extend l.stream (take i chunk)) ≡ false

  abbrev pub ShortestOf : Ledger → List ℕ → Option ℕ → Type 0
  ShortestOf l chunk (some j) = Shortest l chunk j
  ShortestOf l chunk none = (i : ℕ) → i ≤ length chunk → finds front l.count (extend l.stream (take i chunk)) ≡ false

-- What the reckoning takes is the shortest beginning, and where it takes the whole chunk with number 1 no beginning does it.
-- Proof: Shortest `shortest_is`.
abbrev pub ShortestIs : Type 0
ShortestIs = (front : List ℕ → Verdict) (l : Ledger) (chunk : List ℕ) → ShortestOf front l chunk (shortest front l chunk)

-- Two histories of a port, with what it holds after each, that differ at most in how the same bytes were cut.
pub record SameCut (t t' : PortHistory) (h h' : List ℕ) : Type 0 where
  pub reports : t.reports ≡ t'.reports
  pub skips : t.skips ≡ t'.skips
  pub held : h ≡ h'

-- The scan of a stream without marks is document 01's. Proof: Silences `unmarked_scan`.
abbrev pub UnmarkedScan : Type 0
UnmarkedScan = (front : List ℕ → Verdict) (u : List ℕ) → scan front (record { segments = []; current = u }) ≡ events front u

-- The same bytes with marks at the same places; marks with no byte between them count as one.
pub record SameStream (s s' : Stream) : Type 0 where
  pub segments : with_bytes s.segments ≡ with_bytes s'.segments
  pub current : s.current ≡ s'.current

-- ---- The theorems, over any framing whose cutting is harmless and any handling. `room` is the least length of a room.

module _ (front : List ℕ → Verdict) (most_held room : ℕ) {Values Stored : Type 0} (StoredAs : Values → Stored → Type 0)
    (reckoned : ℕ → Values → Message → Outcome Values) (tests : Stored → Tests) (handle : ℕ → Stored → Message → Outcome Stored) where
  -- Demand 3, "one claim about the whole list", "for lists in which each accepted silence is drained to answer 1 before a feed of
  -- that port is accepted again": to every such list the program gives the reckoning's answers, and it is left with the
  -- reckoning's values and held bytes. Proof: Demand `demand3`.
  abbrev pub Demand3 : Type 0
  Demand3 = Cutting front most_held → Handles StoredAs reckoned tests handle
      → (v : Values) (w : Stored) (cs : List Call) → StoredAs v w
      → drained cs (reckoning front reckoned room v cs).answers ≡ true
      → Matches StoredAs (reckoning front reckoned room v cs) (held_program front handle most_held room tests w cs)

  -- Demand 3 as it was before there were silences: every list of feeds. Proof: Demand `feeds_demand3`.
  abbrev pub FeedsDemand3 : Type 0
  FeedsDemand3 = Cutting front most_held → Handles StoredAs reckoned tests handle
      → (v : Values) (w : Stored) (cs : List Call) → StoredAs v w → only_feeds cs ≡ true
      → Matches StoredAs (reckoning front reckoned room v cs) (held_program front handle most_held room tests w cs)

  -- The streams of its reckoning have no mark. Proof: Silences `feeds_unmarked`.
  abbrev pub FeedsUnmarked : Type 0
  FeedsUnmarked = (p : ℕ) (v : Values) (cs : List Call) → only_feeds cs ≡ true
      → (port_of p (reckoning front reckoned room v cs).final).stream.segments ≡ []

  -- Whether a list is such a list, the program's answers tell as the reckoning's do. Proof: Demand `drained_alike`.
  abbrev pub DrainedAlike : Type 0
  DrainedAlike = Cutting front most_held → Handles StoredAs reckoned tests handle
      → (v : Values) (w : Stored) (cs : List Call) → StoredAs v w
      → drained cs (held_program front handle most_held room tests w cs).answers ≡ drained cs (reckoning front reckoned room v cs).answers

  -- The list is such a list, by the program's answers.
  abbrev pub Drains : Stored → List Call → Type 0
  Drains w cs = drained cs (held_program front handle most_held room tests w cs).answers ≡ true

  -- The messages reported are those of the scan. Proof: Accounts `port_accounts`.
  abbrev pub PortAccounts : Type 0
  PortAccounts = Cutting front most_held → Handles StoredAs reckoned tests handle
      → (p : ℕ) (v : Values) (w : Stored) (cs : List Call) → p ≤ 1 → StoredAs v w → Drains w cs
      → PortAccount front (history front most_held room tests handle p w cs)

  -- However a stream is cut: two ports that took the same bytes with silences at the same places, each called on to answer 1,
  -- reported the same messages, skipped as many bytes and hold the same, whatever else the two lists of calls have.
  -- Proof: Accounts `cuts_harmless`.
  abbrev pub CutsHarmless : Type 0
  CutsHarmless = Cutting front most_held → Handles StoredAs reckoned tests handle
      → (p p' : ℕ) (v v' : Values) (w w' : Stored) (cs cs' : List Call) → p ≤ 1 → p' ≤ 1 → StoredAs v w → StoredAs v' w'
      → Drains w cs → Drains w' cs'
      → SameStream (history front most_held room tests handle p w cs).stream (history front most_held room tests handle p' w' cs').stream
      → (history front most_held room tests handle p w cs).last ≡ 1 → (history front most_held room tests handle p' w' cs').last ≡ 1
      → SameCut (history front most_held room tests handle p w cs) (history front most_held room tests handle p' w' cs')
      (held front most_held room tests handle p w cs) (held front most_held room tests handle p' w' cs')
