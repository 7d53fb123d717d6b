-- Demand 3 over the histories of calls and restarts (Histories) whose silences are drained: the plain reckoning of them, where a restart
-- takes the working values anew from the page's values. Each statement names its proof, a term of that type in a file of proofs/.
use Rattle.std.specs.Prelude.{true, List, [], ◌∷◌, ◌++◌, ◌≡◌, ℕ, Option, None}
use Rattle.stream.specs.Scan.{Message}
use Rattle.history.specs.Calls.{Answer, Run, State}
use Rattle.history.specs.Calls.{Call as CallOf}
use Rattle.history.specs.Reckoning.{Ledger}
use Rattle.history.specs.Restarts.{Act, call, restart, reckoned_history, drained_history, only_fed_acts}
use Rattle.message.specs.Front.{front}
use Rattle.page.specs.declared.setting.Values.{Values}
use Rattle.page.specs.Page.{all_storable, writing}
use Rattle.page.specs.Lookup.{values_in}
use Rattle.page.specs.Sound.{page_number}
use Rattle.command.specs.Numbered.{carried}
use Rattle.command.specs.Outcome.{received_of}
use Rattle.command.specs.Answer.{reply_room}
use Rattle.board.specs.declared.board.Board.{Board}
use Rattle.board.specs.Profile.{Profile}
use Rattle.board.specs.Start.{start_of}
use Rattle.board.specs.Handling.{Reckoned, settings_of, reckon_message}
use Rattle.board.specs.Runs.{Call, call_from}
use Rattle.board.specs.Theorems.{answers_of, AsReckoned}
use Rattle.board.specs.Histories.{acts_from, acts_on, accepted_with, accepted_on}

abbrev pub calls_in : List (Act Profile Call) → List Call
calls_in [] = []
calls_in (call c ∷ acts) = c ∷ calls_in acts
calls_in (restart profile ∷ acts) = calls_in acts

-- What the reckoning is given: each call's port, chunk and length of room, the silences, and the restarts with their profiles.
abbrev pub told_acts : List (Act Profile Call) → List (Act Profile CallOf)
told_acts [] = []
told_acts (call c ∷ acts) = call (call_from c) ∷ told_acts acts
told_acts (restart profile ∷ acts) = restart profile ∷ told_acts acts

-- A start sets the working values anew, from the page's values that are kept.
abbrev pub start_anew : Reckoned → Reckoned
start_anew x = record { settings = settings_of x.page; page = x.page }

abbrev pub reckoned_acts : Profile → Values → List (Act Profile Call) → Run (State Ledger Reckoned)
reckoned_acts profile v acts = reckoned_history front reckon_message reply_room start_anew profile (record { settings = settings_of v; page = v }) (told_acts acts)

-- The numbers accepted by the reckoning's answers, which name the message that each call reported.
abbrev pub carried_by : List Message → Option ℕ
carried_by [] = None
carried_by (m ∷ ms) = carried (received_of m.good m.bytes)

abbrev pub accepted_in : List Answer → List ℕ
accepted_in [] = []
accepted_in (a ∷ answers) = accepted_with a.saved (carried_by a.reports) ++ accepted_in answers

-- The profile that a history leaves the board in: that of its last start.
abbrev pub profile_after : Profile → List (Act Profile Call) → Profile
profile_after profile [] = profile
profile_after profile (call c ∷ acts) = profile_after profile acts
profile_after profile (restart next ∷ acts) = profile_after next acts

-- No call changes it, on any board and page. Proof: Restarts `profile_stays`.
abbrev pub ProfileStays : Type 0
ProfileStays = (b : Board) (page : List ℕ) (acts : List (Act Profile Call)) → (acts_from b page acts).board.readonly ≡ profile_after b.readonly acts

-- The page is the writing of storable values; from a start on it all goes as reckoned from those values; and the numbers accepted are
-- those of the messages that the reckoning reports with the mark of a save. A start at the end is done; and so is every restart, since
-- each stands at the end of the history before it (`OneActMore`).
pub record HistoryFromPage (profile : Profile) (page : List ℕ) (acts : List (Act Profile Call)) : Type 0 where
  pub values : Values
  pub storable_values_lem : all_storable values ≡ true
  pub written : page ≡ writing values
  pub reckoned : AsReckoned (calls_in acts) (acts_on profile page acts) (reckoned_acts profile values acts)
  pub profile_kept : (acts_on profile page acts).board.readonly ≡ profile_after profile acts
  pub started : (next : Profile) → (start_of next (acts_on profile page acts).page).number ≡ 0
  pub accepted : accepted_on profile page acts ≡ accepted_in (reckoned_acts profile values acts).answers

-- Demand 3 over histories: from a start on every blank or sound page, for every list of calls and restarts in which each accepted silence
-- is drained to answer 1 before a feed of that port is accepted again, by the numbers that the calls answered. Proof: Restarts
-- `history_demand3`.
abbrev pub HistoryDemand3 : Type 0
HistoryDemand3 =
    (profile : Profile) (page : List ℕ) (acts : List (Act Profile Call)) → page_number page ≡ 0 → drained_history (told_acts acts) (answers_of (acts_on profile page acts).feedings) ≡ true
    → HistoryFromPage profile page acts

-- As it was before there were silences: every history of feeds and restarts. Proof: Restarts `history-feeds_demand3`.
abbrev pub HistoryFeedsDemand3 : Type 0
HistoryFeedsDemand3 = (profile : Profile) (page : List ℕ) (acts : List (Act Profile Call)) → page_number page ≡ 0 → only_fed_acts (told_acts acts) ≡ true → HistoryFromPage profile page acts

-- Whether a history is drained, the reckoning's answers tell as the calls' own do. Proof: Restarts `history-drained_alike`.
abbrev pub HistoryDrainedAlike : Type 0
HistoryDrainedAlike =
    (profile : Profile) (page : List ℕ) (acts : List (Act Profile Call)) → page_number page ≡ 0
    → drained_history (told_acts acts) (answers_of (acts_on profile page acts).feedings) ≡ drained_history (told_acts acts) (reckoned_acts profile (values_in page) acts).answers
