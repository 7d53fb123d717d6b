-- Request 03: histories of calls (feeds, and silences drained or not) and restarts of the board, each in any profile, over one page,
-- which is not erased and which nobody else writes; the numbers accepted in them; and what is sent again. Each statement names its proof,
-- a term of that type in a file of proofs/.
use Rattle.std.specs.Prelude.{Bool, true, false, ◌&&◌, not, List, [], ◌∷◌, ◌++◌, ◌≡◌, ℕ, ◌<◌, eqb, length, drop, get_or, Option, Some, None}
use Rattle.stream.specs.declared.Sought.{Sought}
use Rattle.stream.specs.declared.Sought.TheVariants.{Starved, Found}
use Rattle.history.specs.Calls.{chunk_of}
use Rattle.history.specs.Program.{sought_by}
use Rattle.history.specs.Restarts.{Act, call, restart, calls}
use Rattle.history.specs.Numbers.{Growing, NoneTwice}
use Rattle.message.specs.Front.{front}
use Rattle.command.specs.Numbers.{is_fresh}
use Rattle.command.specs.Numbered.{carried}
use Rattle.command.specs.Outcome.{received_of}
use Rattle.command.specs.Answer.{number_on}
use Rattle.board.specs.declared.board.Board.{Board}
use Rattle.board.specs.Profile.{Profile, rights_of}
use Rattle.board.specs.Port.{held_bytes, port_of}
use Rattle.board.specs.Start.{start_of}
use Rattle.board.specs.Feed.{Feeding, call_of}
use Rattle.board.specs.Runs.{Call, Calls, calls_from}
use Rattle.board.specs.Theorems.{calls_then}

-- ---- a history

-- What a call gives, on a board and a page.
abbrev pub feeding_of : Board → List ℕ → Call → Feeding
feeding_of b page c = call_of c.port b c.input c.room page

-- Each call is given the board and the page that the last act left; a restart starts a new board on the page as it stands. That page is
-- the one that the last call left: a call whose page was not stored before the power cut is outside the history.
unfoldable pub acts_from : Board → List ℕ → List (Act Profile Call) → Calls
acts_from b page [] = record { feedings = []; board = b; page = page }
acts_from b page (call c ∷ acts) =
    let f : Feeding = feeding_of b page c in
    let rest : Calls = acts_from f.answer.board f.page acts in
    record { feedings = f ∷ rest.feedings; board = rest.board; page = rest.page }
acts_from b page (restart profile ∷ acts) = acts_from (start_of profile page).board page acts

-- It begins with a start.
abbrev pub acts_on : Profile → List ℕ → List (Act Profile Call) → Calls
acts_on profile page acts = acts_from (start_of profile page).board page acts

-- Without a restart it is a list of calls. Proof: Histories `no_restart`.
abbrev pub NoRestart : Type 0
NoRestart = (b : Board) (page : List ℕ) (cs : List Call) → acts_from b page (calls cs) ≡ calls_from b page cs

-- A history with one act more gives what the history gave, and then what that act does to the board and the page that it left. So what
-- is said of the end of every history is said of every place in it. Proof: Histories `one_act_more`.
abbrev pub act_then : Calls → Act Profile Call → Calls
act_then r (call c) = calls_then r c
act_then r (restart profile) = record { feedings = r.feedings; board = (start_of profile r.page).board; page = r.page }

abbrev pub OneActMore : Type 0
OneActMore = (b : Board) (page : List ℕ) (acts : List (Act Profile Call)) (a : Act Profile Call) → acts_from b page (acts ++ (a ∷ [])) ≡ act_then (acts_from b page acts) a

-- ---- the numbers accepted

abbrev pub carried_at : Sought → List ℕ → Option ℕ
carried_at (Found k n good) bytes = carried (received_of good (drop k bytes))
carried_at (Starved k) bytes = None

-- The number that a call's message carries, where it finds one that does: a feed in the bytes held and then the chunk, a silence in the
-- bytes held.
abbrev pub number_found : Board → Call → Option ℕ
number_found b c =
    let held : List ℕ = held_bytes (port_of c.port b) in
    carried_at (sought_by front c.input held) (held ++ chunk_of c.input)

abbrev pub accepted_with : Bool → Option ℕ → List ℕ
accepted_with true (Some n) = n ∷ []
accepted_with true None = []
accepted_with false carries = []

-- "A fresh number sets the feed's mark of a save": a call accepts the number of its message where it sets the mark, and nowhere else.
abbrev pub accepted_by : Board → Call → Feeding → List ℕ
accepted_by b c f = accepted_with f.answer.saved (number_found b c)

-- All that are accepted in a history, in order.
unfoldable pub accepted_from : Board → List ℕ → List (Act Profile Call) → List ℕ
accepted_from b page [] = []
accepted_from b page (call c ∷ acts) =
    let f : Feeding = feeding_of b page c in
    accepted_by b c f ++ accepted_from f.answer.board f.page acts
accepted_from b page (restart profile ∷ acts) = accepted_from (start_of profile page).board page acts

abbrev pub accepted_on : Profile → List ℕ → List (Act Profile Call) → List ℕ
accepted_on profile page acts = accepted_from (start_of profile page).board page acts

-- One call of any board, on any page, whose message carries a number: where it is answered, the mark is set if and only if a number is
-- allowed on that port and this one is fresh on that page; unmarked, settings and page are as they were. Proof: Histories `marks-fresh`.
pub record MarkIsFresh (b : Board) (page : List ℕ) (c : Call) (n : ℕ) : Type 0 where
  pub answered : (feeding_of b page c).answer.number ≡ 0
      → (feeding_of b page c).answer.saved ≡ not (rights_of b.readonly c.port).readonly && is_fresh (number_on page) n
  pub unmarked : (feeding_of b page c).answer.saved ≡ false
      → ((feeding_of b page c).answer.board.settings ≡ b.settings) × ((feeding_of b page c).page ≡ page)

abbrev pub MarksFresh : Type 0
MarksFresh = (b : Board) (page : List ℕ) (c : Call) (n : ℕ) → number_found b c ≡ Some n → MarkIsFresh b page c n

-- ---- no number twice

-- The last of some numbers, or what was kept before them.
abbrev pub last_after : Option ℕ → List ℕ → Option ℕ
last_after kept [] = kept
last_after kept (n ∷ ns) = last_after (Some n) ns

pub record AcceptedOnce (profile : Profile) (page : List ℕ) (acts : List (Act Profile Call)) : Type 0 where
  -- The numbers accepted strictly grow, so that none is accepted twice.
  pub growing : Growing (accepted_on profile page acts)
  pub none_twice : NoneTwice (accepted_on profile page acts)
  -- Each is larger than the number that the page kept at the beginning, if it kept one.
  pub larger : (n i : ℕ) → number_on page ≡ Some n → i < length (accepted_on profile page acts) → n < get_or (accepted_on profile page acts) i 0
  -- At the end the page keeps the last of them, or what it kept at the beginning where there is none.
  pub kept_last : number_on (acts_on profile page acts).page ≡ last_after (number_on page) (accepted_on profile page acts)

-- "No number is accepted twice in any history of feeds and restarts over one page that begins blank or sound"; "histories take in silences,
-- drained or not": any ports, chunks, rooms and profiles, refused calls too. (Every page: on one that is neither, all calls are refused.) Proof:
-- Histories `no_number_twice`.
abbrev pub NoNumberTwice : Type 0
NoNumberTwice = (profile : Profile) (page : List ℕ) (acts : List (Act Profile Call)) → AcceptedOnce profile page acts

-- ---- what is sent again

-- Every call names port 0.
abbrev pub on_port_zero : List (Act Profile Call) → Bool
on_port_zero [] = true
on_port_zero (call c ∷ acts) = eqb c.port 0 && on_port_zero acts
on_port_zero (restart profile ∷ acts) = on_port_zero acts

pub record NothingChanged (profile : Profile) (page : List ℕ) (acts : List (Act Profile Call)) : Type 0 where
  pub page_same : (acts_on profile page acts).page ≡ page
  -- The working values are those that a start on the page sets.
  pub settings_same : (acts_on profile page acts).board.settings ≡ (start_of profile page).board.settings

-- Yesterday's commands, sent again, change nothing: where the page keeps a number, no history whose calls all name port 0 and accept no
-- number changes the page or a working value, whatever their chunks and rooms. (Every number accepted is larger than the one kept, by
-- `NoNumberTwice`; so none that was accepted before is.) Proof: Histories `replay_changes_nothing`.
abbrev pub ReplayChangesNothing : Type 0
ReplayChangesNothing =
    (profile : Profile) (page : List ℕ) (acts : List (Act Profile Call)) (last : ℕ) → number_on page ≡ Some last → on_port_zero acts ≡ true → accepted_on profile page acts ≡ []
    → NothingChanged profile page acts
