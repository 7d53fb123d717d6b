-- Request 03: "any history of feeds and restarts over one page", with request 06 of silences, and with request 12 a start in one of some
-- profiles. Over any profiles, any calls and any state.
use Rattle.std.specs.Prelude.{◌≡◌, Bool, true, ◌&&◌, List, [], ◌∷◌, ℕ}
use Rattle.stream.specs.declared.Verdict.{Verdict}
use Rattle.stream.specs.Scan.{Message}
use Rattle.stream.specs.Cutting.{Cutting}
use Rattle.history.specs.Calls.{Call, Answer, Step, Run, run, State}
use Rattle.history.specs.Drained.{Undrained, no_silence, undrained_of, undrained_after, early, unless_early, drained, is_feed}
use Rattle.history.specs.Reckoning.{Outcome, Ledger, fresh, reckon_step}
use Rattle.history.specs.Program.{Tests, held_step}
use Rattle.history.specs.Premises.{Handles, Matches}
use Rattle.history.specs.EveryList.{Sound}

-- A call of the board that runs, or a restart: a new board is started on the page as it stands, in this profile.
pub data Act (Profile C : Type 0) : Type 0 where
  call : C → Act Profile C
  restart : Profile → Act Profile C

-- Each act is given the state that the last one left, and a call the profile of the last start. The answers are those of the calls.
unfoldable pub history_from : {Profile S C : Type 0} → (Profile → S → C → Step S) → (S → S) → Profile → S → List (Act Profile C) → Run S
history_from step restarted profile s [] = record { answers = []; final = s }
history_from {Profile} {S} step restarted profile s (call c ∷ acts) =
    let one : Step S = step profile s c in
    let rest : Run S = history_from step restarted profile one.state acts in
    record { answers = one.answer ∷ rest.answers; final = rest.final }
history_from step restarted profile s (restart next ∷ acts) = history_from step restarted next (restarted s) acts

-- ---- calls and restarts

-- A start: two fresh ports, and the values that it takes from what was kept.
abbrev pub started_on : {Port Values : Type 0} → Port → (Values → Values) → Values → State Port Values
started_on empty start v = record { port0 = empty; port1 = empty; values = start v }

-- The program that keeps only held bytes. A history begins with a start.
unfoldable pub held_history : (List ℕ → Verdict) → {Profile Stored : Type 0} → (Profile → ℕ → Stored → Message → Outcome Stored)
    → ℕ → ℕ → (Stored → Tests) → (Stored → Stored) → Profile → Stored → List (Act Profile Call) → Run (State (List ℕ) Stored)
held_history front handle most_held room tests start profile w =
    history_from (λ p. held_step front (handle p) most_held room tests) (λ s. started_on [] start s.values) profile (started_on [] start w)

-- The plain reckoning, told of the restarts and their profiles.
unfoldable pub reckoned_history : (List ℕ → Verdict) → {Profile Values : Type 0} → (Profile → ℕ → Values → Message → Outcome Values)
    → ℕ → (Values → Values) → Profile → Values → List (Act Profile Call) → Run (State Ledger Values)
reckoned_history front handle room start profile v =
    history_from (λ p. reckon_step front (handle p) room) (λ s. started_on fresh start s.values) profile (started_on fresh start v)

-- Is each accepted silence drained to answer 1 before a feed of that port is accepted again? A restart leaves none that is not: a fresh
-- port holds nothing.
unfoldable pub drained_acts : {Profile : Type 0} → Undrained → List (Act Profile Call) → List Answer → Bool
drained_acts u [] answers = true
drained_acts u (restart profile ∷ acts) answers = drained_acts no_silence acts answers
drained_acts u (call c ∷ acts) [] = true
drained_acts u (call c ∷ acts) (a ∷ answers) =
    unless_early (early c.input a.number (undrained_of c.port u)) (drained_acts (undrained_after c a.number u) acts answers)

abbrev pub drained_history : {Profile : Type 0} → List (Act Profile Call) → List Answer → Bool
drained_history acts answers = drained_acts no_silence acts answers

-- ---- the theorems

-- A history without a restart is a list of calls. Proof: Driven `without_restarts`.
abbrev pub calls : {Profile C : Type 0} → List C → List (Act Profile C)
calls [] = []
calls (c ∷ cs) = call c ∷ calls cs

abbrev pub WithoutRestarts : Type 1
WithoutRestarts = (Profile S : Type 0) (step : Profile → S → Call → Step S) (restarted : S → S) (profile : Profile) (s : S) (cs : List Call)
    → history_from step restarted profile s (calls cs) ≡ run (step profile) s cs

-- Its silences are drained where those of the list are. Proof: Driven `drained_without_restarts`.
abbrev pub DrainedWithoutRestarts : Type 1
DrainedWithoutRestarts = (Profile : Type 0) (cs : List Call) (answers : List Answer) → drained_history {Profile = Profile} (calls cs) answers ≡ drained cs answers

-- A history without silences is drained. Proof: Silences `fed_acts_drained`.
abbrev pub only_fed_acts : {Profile : Type 0} → List (Act Profile Call) → Bool
only_fed_acts [] = true
only_fed_acts (restart profile ∷ acts) = only_fed_acts acts
only_fed_acts (call c ∷ acts) = is_feed c.input && only_fed_acts acts

abbrev pub FedActsDrained : Type 1
FedActsDrained = (Profile : Type 0) (acts : List (Act Profile Call)) (answers : List Answer) → only_fed_acts acts ≡ true → drained_history acts answers ≡ true

-- Over any framing whose cutting is harmless and any handling in each profile, where starting goes together on both sides too.
module _ (front : List ℕ → Verdict) (most_held room : ℕ) {Profile Values Stored : Type 0} (StoredAs : Values → Stored → Type 0)
    (reckoned : Profile → ℕ → Values → Message → Outcome Values) (tests : Stored → Tests) (handle : Profile → ℕ → Stored → Message → Outcome Stored)
    (start_values : Values → Values) (start_stored : Stored → Stored) where
  abbrev pub HandlesIn : Type 0
  HandlesIn = (profile : Profile) → Handles StoredAs (reckoned profile) tests (handle profile)

  abbrev pub StartsAlike : Type 0
  StartsAlike = (v : Values) (w : Stored) → StoredAs v w → StoredAs (start_values v) (start_stored w)

  -- Demand 3 over histories with restarts whose silences are drained: the program gives the reckoning's answers, and it is left with
  -- the reckoning's values and held bytes. Proof: Restarts `restarts_match`.
  abbrev pub RestartsMatch : Type 0
  RestartsMatch = Cutting front most_held → HandlesIn → StartsAlike
      → (profile : Profile) (v : Values) (w : Stored) (acts : List (Act Profile Call)) → StoredAs v w
      → drained_history acts (reckoned_history front reckoned room start_values profile v acts).answers ≡ true
      → Matches StoredAs (reckoned_history front reckoned room start_values profile v acts) (held_history front handle most_held room tests start_stored profile w acts)

  -- Whether they are drained, the program's answers tell as the reckoning's do. Proof: Restarts `restarts_drained_alike`.
  abbrev pub RestartsDrainedAlike : Type 0
  RestartsDrainedAlike = Cutting front most_held → HandlesIn → StartsAlike
      → (profile : Profile) (v : Values) (w : Stored) (acts : List (Act Profile Call)) → StoredAs v w
      → drained_history acts (held_history front handle most_held room tests start_stored profile w acts).answers
      ≡ drained_history acts (reckoned_history front reckoned room start_values profile v acts).answers

  -- Of every history, its silences drained or not. Proof: Sound `restarts_stay_sound`.
  abbrev pub RestartsStaySound : Type 0
  RestartsStaySound = Cutting front most_held → HandlesIn → StartsAlike
      → (profile : Profile) (v : Values) (w : Stored) (acts : List (Act Profile Call)) → StoredAs v w
      → Sound most_held StoredAs (held_history front handle most_held room tests start_stored profile w acts)
