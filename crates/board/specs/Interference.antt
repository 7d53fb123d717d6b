-- Request 12: what port 0 sees of a board that was started read-only, and what port 1 does to it. Each statement names its proof, a term of
-- that type in a file of proofs/.
use Rattle.std.specs.Prelude.{false, List, [], ◌∷◌, ◌≡◌, ℕ, suc, eqb}
use Rattle.history.specs.Calls.{Input}
use Rattle.history.specs.Interference.{only_if, port_zero_calls}
use Rattle.command.specs.declared.settings.Settings.{Settings}
use Rattle.board.specs.declared.board.Board.{Board}
use Rattle.board.specs.Profile.{read_only}
use Rattle.board.specs.Port.{held_bytes}
use Rattle.board.specs.Start.{start_of}
use Rattle.board.specs.Feed.{Feeding, call_of}
use Rattle.board.specs.Runs.{Call, calls_from, told_of, Out, out_of}

-- ---- port 1 changes nothing

-- A call of a port other than 0, of any board that is read-only, on any page: the working settings, the page and port 0 with its totals stay
-- as they are, and there is no mark of a save.
pub record Unchanged (b : Board) (page : List ℕ) (f : Feeding) : Type 0 where
  pub settings : f.answer.board.settings ≡ b.settings
  pub page_same : f.page ≡ page
  pub first : f.answer.board.first ≡ b.first
  pub first_totals : f.answer.board.tally0 ≡ b.tally0
  pub unmarked : f.answer.saved ≡ false

-- Proof: Interference `second_reads`.
abbrev pub SecondReads : Type 0
SecondReads =
    (p : ℕ) (b : Board) (i : Input) (room page : List ℕ) → b.readonly ≡ read_only → Unchanged b page (call_of (suc p) b i room page)

-- ---- two runs

-- What port 0 sees after one of its calls: "port 0's replies, save marks, counts, numbers and held bytes, the working settings and the
-- page".
pub record Seen : Type 0 where
  pub out : Out
  pub held : List ℕ
  pub settings : Settings
  pub page : List ℕ

abbrev pub seen_of : Feeding → Seen
seen_of f = record { out = out_of f; held = held_bytes f.answer.board.first; settings = f.answer.board.settings; page = f.page }

-- One for each call of port 0, in order, by the calls' own answers.
abbrev pub seen_by : List Call → List Feeding → List Seen
seen_by [] fs = []
seen_by (c ∷ cs) [] = []
seen_by (c ∷ cs) (f ∷ fs) = only_if (eqb c.port 0) (seen_of f) (seen_by cs fs)

-- From a start in the profile.
abbrev pub seen_on : List ℕ → List Call → List Seen
seen_on page cs = seen_by cs (calls_from (start_of read_only page).board page cs).feedings

-- "Take two runs from one start in this profile, with the same feeds, silences and room lengths on port 0, and anything at all on port 1.
-- After each call of port 0, matched in order," it sees the same. `port_zero_calls` are the calls of port 0, `told_of` keeps of a room its
-- length. Of demand 3's premises none is needed: the silences may be undrained, and the start a refused one. Proof: Interference
-- `no_interference`.
abbrev pub NoInterference : Type 0
NoInterference = (page : List ℕ) (cs cs' : List Call) → port_zero_calls (told_of cs) ≡ port_zero_calls (told_of cs') → seen_on page cs ≡ seen_on page cs'

-- With request 13: nor does port 1 touch port 0's totals. Two such lists leave them the same, and so do the beginnings of the two that end
-- with one call of port 0, since their calls of port 0 are the same, too. Proof: Interference `totals_unseen`.
abbrev pub TotalsUnseen : Type 0
TotalsUnseen =
    (page : List ℕ) (cs cs' : List Call) → port_zero_calls (told_of cs) ≡ port_zero_calls (told_of cs')
    → (calls_from (start_of read_only page).board page cs).board.tally0 ≡ (calls_from (start_of read_only page).board page cs').board.tally0
