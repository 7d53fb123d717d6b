-- Request 13: the totals in the board, over histories of calls (feeds, and silences drained or not) and restarts; what they count; and a
-- driver's own record. Each statement names its proof, a term of that type in proofs/Tallied. (Demand 3 covers the totals, too: `AsReckoned`.)
use Rattle.std.specs.Prelude.{Bool, true, false, List, [], ◌∷◌, ◌≡◌, ℕ, ◌+◌, ◌≤◌, ◌<◌, eqb, length}
use Rattle.history.specs.Program.{sought_by}
use Rattle.history.specs.Restarts.{Act, call, restart}
use Rattle.message.specs.Front.{front}
use Rattle.totals.specs.declared.Tally.{Tally}
use Rattle.totals.specs.Tally.{largest, zero_tally, counted_of}
use Rattle.totals.specs.Counts.{Counts, no_counts, times, totals_of, counts_after}
use Rattle.command.specs.Outcome.{error_in}
use Rattle.board.specs.declared.board.Board.{Board}
use Rattle.board.specs.Profile.{Profile}
use Rattle.board.specs.Port.{held_bytes, port_of, tally_at}
use Rattle.board.specs.Start.{start_of}
use Rattle.board.specs.Feed.{Feeding}
use Rattle.board.specs.Runs.{Call, reply_in}
use Rattle.board.specs.AnyBoard.{good_length}
use Rattle.board.specs.Histories.{feeding_of, acts_from, acts_on}

-- ---- the counts from the history

-- What a call adds to the counts of port p, by its own answer, its room and what it found: nothing where it named another port.
abbrev pub counts_by : Bool → Board → Call → Feeding → Counts → Counts
counts_by true b c f n =
    counts_after f.answer.number f.answer.taken f.answer.skipped (good_length (sought_by front c.input (held_bytes (port_of c.port b))))
    (error_in (reply_in f.answer.number f.room)) n
counts_by false b c f n = n

-- Since the last start.
unfoldable pub counts_from : ℕ → Counts → Board → List ℕ → List (Act Profile Call) → Counts
counts_from p n b page [] = n
counts_from p n b page (call c ∷ acts) =
    let f : Feeding = feeding_of b page c in
    counts_from p (counts_by (eqb c.port p) b c f n) f.answer.board f.page acts
counts_from p n b page (restart profile ∷ acts) = counts_from p no_counts (start_of profile page).board page acts

abbrev pub counts_on : Profile → List ℕ → List (Act Profile Call) → ℕ → Counts
counts_on profile page acts p = counts_from p no_counts (start_of profile page).board page acts

pub record CountsHistory (profile : Profile) (page : List ℕ) (acts : List (Act Profile Call)) (p : ℕ) : Type 0 where
  -- "Until a total reaches its largest figure, where it stops, each equals the count from the history."
  pub totals : tally_at p (acts_on profile page acts).board ≡ totals_of (counts_on profile page acts p)
  -- "The sum law holds between them and the bytes held": between the counts always, and between the totals while that of the bytes taken
  -- is below its largest figure, which the others then are, too.
  pub counts_sum : (counts_on profile page acts p).taken
      ≡ (counts_on profile page acts p).good + (counts_on profile page acts p).skipped + length (held_bytes (port_of p (acts_on profile page acts).board))
  pub sum : (tally_at p (acts_on profile page acts).board).taken < largest
      → (tally_at p (acts_on profile page acts).board).taken
      ≡ (tally_at p (acts_on profile page acts).board).good + (tally_at p (acts_on profile page acts).board).skipped
      + length (held_bytes (port_of p (acts_on profile page acts).board))
  -- Every message is among those counted: no reply has a first error above 7.
  pub known_errors : (e : ℕ) → 7 < e → times e (counts_on profile page acts p).errors ≡ 0

-- From a start on any page, for every list of calls and restarts: any ports, chunks, rooms and profiles, silences drained or not, refused
-- calls and starts too. Proof: `counts_histories`.
abbrev pub CountsHistories : Type 0
CountsHistories = (profile : Profile) (page : List ℕ) (acts : List (Act Profile Call)) (p : ℕ) → p ≤ 1 → CountsHistory profile page acts p

-- ---- the driver's record

abbrev pub record_by : Bool → ℕ → Board → Feeding → Tally → Tally
record_by true p b f t =
    counted_of t f.answer.number f.answer.taken f.answer.skipped f.answer.error (port_of p b).held (port_of p f.answer.board).held
record_by false p b f t = t

-- "Kept in the caller's tally record, one for each port and zero at the start, and updated there from each call's number, taken, skipped,
-- first error and that port's held counts before and after": of port p, from the answers to a history and the boards between them.
unfoldable pub record_from : ℕ → Tally → Board → List ℕ → List (Act Profile Call) → Tally
record_from p t b page [] = t
record_from p t b page (call c ∷ acts) =
    let f : Feeding = feeding_of b page c in
    record_from p (record_by (eqb c.port p) p b f t) f.answer.board f.page acts
record_from p t b page (restart profile ∷ acts) = record_from p zero_tally (start_of profile page).board page acts

-- "So updated, the record equals the board's totals": from any board, whose totals the record has at first, and over any history. Proof:
-- `record_equals`.
abbrev pub RecordEquals : Type 0
RecordEquals = (p : ℕ) (b : Board) (page : List ℕ) (acts : List (Act Profile Call)) → p ≤ 1 → record_from p (tally_at p b) b page acts ≡ tally_at p (acts_from b page acts).board

-- "Zero at the start." Proof: `record_from_start`.
abbrev pub RecordFromStart : Type 0
RecordFromStart =
    (p : ℕ) (profile : Profile) (page : List ℕ) (acts : List (Act Profile Call)) → p ≤ 1
    → record_from p zero_tally (start_of profile page).board page acts ≡ tally_at p (acts_on profile page acts).board
