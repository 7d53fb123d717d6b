-- Demand 3 over histories: from a start on a blank or sound page, every list of calls and restarts whose silences are drained goes as the
-- plain reckoning says.
use mathlib.Core.Bool.{true}
use mathlib.Core.List.{List, [], ◌∷◌}
use mathlib.Core.Path.{◌≡◌, refl, sym, ap, subst, ◌∙◌}
use Prim.Native.Nat.{ℕ, ◌≤◌}
use lib.ListN.{length}
use Rattle.history.specs.Calls.{Answer, Run, State}
use Rattle.history.specs.Calls.{Call as CallOf, port_of as kept_port}
use Rattle.history.specs.Drained.{Undrained, no_silence, undrained_of, undrained_after, early, unless_early}
use Rattle.history.specs.Premises.{Matches}
use Rattle.history.specs.Program.{held_step}
use Rattle.history.specs.Restarts.{Act, call, restart, history_from, started_on, held_history, reckoned_history, drained_acts, drained_history}
use Rattle.history.proofs.Restarts.{restarts_match, restarts_drained_alike}
use Rattle.history.proofs.Silences.{fed_acts_drained}
use Rattle.history.proofs.Sound.{restarts_stay_sound}
use Rattle.message.specs.Front.{front, most_undecided}
use Rattle.message.proofs.Framed.{cutting_harmless}
use Rattle.page.specs.declared.setting.Values.{Values}
use Rattle.page.specs.Lookup.{values_in}
use Rattle.page.specs.Sound.{page_number}
use Rattle.page.proofs.Pages.{sound_is_writing}
use Rattle.command.specs.Answer.{reply_room}
use Rattle.board.specs.Profile.{Profile}
use Rattle.board.specs.declared.board.Board.{Board}
use Rattle.board.specs.Port.{port_room}
use Rattle.board.specs.Start.{start_of}
use Rattle.board.specs.Feed.{Feeding, call_of}
use Rattle.board.specs.Handling.{Reckoned, Kept, settings_of, reckon_message, handle_message, kept_tests, StoredAs}
use Rattle.board.specs.Runs.{Call, Calls, call_from, AllTold}
use Rattle.board.specs.Histories.{acts_from, acts_on, accepted_from, accepted_on}
use Rattle.board.specs.Theorems.{answers_of}
use Rattle.board.specs.Restarts.{calls_in, told_acts, start_anew, reckoned_acts, accepted_in, profile_after, ProfileStays, HistoryDemand3, HistoryFeedsDemand3, HistoryDrainedAlike}
use Rattle.board.proofs.Feedings.{calls_keep}
use Rattle.board.proofs.Follows.{call_profile, start_profile, page_sound}
use Rattle.board.proofs.Handles.{handles}
use Rattle.board.proofs.Begins.{settings_usable_lem, start_padded, start_kept, start_state, starts_alike}
use Rattle.board.proofs.Reckons.{Followed, followed_reckoned}
use Rattle.board.proofs.Steps.{state_of, Padded, Same, step_same}
use Rattle.board.proofs.Tallied.{Reckons, started_reckon}

-- ---- histories of the board are histories of that program

abbrev program_from : Profile → State (List ℕ) Kept → List (Act Profile CallOf) → Run (State (List ℕ) Kept)
program_from profile s acts =
    history_from (λ p. held_step front (handle_message p) 260 reply_room kept_tests) (λ s. started_on [] start_kept s.values) profile s acts

record FollowedActs (acts : List (Act Profile Call)) (r : Calls) (ns : List ℕ) (q : Run (State (List ℕ) Kept)) : Type 0 where
  calls_told : Followed (calls_in acts) r q
  accepted_told : ns ≡ accepted_in q.answers

from_start : (profile : Profile) (x : Kept) (acts : List (Act Profile Call)) (r : Calls) (ns : List ℕ)
    → FollowedActs acts r ns (program_from profile (state_of (start_of profile x.page).board x.page) (told_acts acts))
    → FollowedActs acts r ns (program_from profile (started_on [] start_kept x) (told_acts acts))
from_start profile x acts r ns f =
    subst (λ (s : State (List ℕ) Kept). FollowedActs acts r ns (program_from profile s (told_acts acts))) (sym (start_state profile x)) f

-- A board keeps its profile.
in_profile : (acts : List (Act Profile Call)) (r : Calls) (ns : List ℕ) (s : State (List ℕ) Kept) {p q : Profile} → p ≡ q
    → FollowedActs acts r ns (program_from p s (told_acts acts)) → FollowedActs acts r ns (program_from q s (told_acts acts))
in_profile acts r ns s e f = subst (λ (p : Profile). FollowedActs acts r ns (program_from p s (told_acts acts))) e f

followed : (acts : List (Act Profile Call)) (b : Board) (page : List ℕ) → Padded b
    → FollowedActs acts (acts_from b page acts) (accepted_from b page acts) (program_from b.readonly (state_of b page) (told_acts acts))
unfolding acts_from accepted_from history_from
followed [] b page k = record { calls_told = record { told = tt; final = refl; padded = k }; accepted_told = refl }
followed (call c ∷ acts) b page k =
    let f : Feeding = call_of c.port b c.input c.room page in
    let s : Same b c f (held_step front (handle_message b.readonly) 260 reply_room kept_tests (state_of b page) (call_from c)) = step_same b page c k in
    let rest = in_profile acts _ _ (state_of f.answer.board f.page) s.profile (followed acts f.answer.board f.page s.padded) in
    let t = rest.calls_told in
    rw s.state
    (record {
      calls_told = record { told = (s.told, t.told); final = t.final; padded = t.padded };
      accepted_told = cc (s.accepted, rest.accepted_told);
    })
followed (restart profile ∷ acts) b page k =
    let x : Kept = record { settings = b.settings; page = page } in
    let f = from_start profile x acts (acts_from (start_of profile page).board page acts) (accepted_from (start_of profile page).board page acts)
    (in_profile acts _ _ (state_of (start_of profile page).board page) (start_profile profile page) (followed acts (start_of profile page).board page (start_padded profile page))) in
    let t = f.calls_told in
    record { calls_told = record { told = t.told; final = t.final; padded = t.padded }; accepted_told = f.accepted_told }

-- Answers that tell the same numbers tell alike whether the history is drained.
told_drained : (u : Undrained) (acts : List (Act Profile Call)) (fs : List Feeding) (answers : List Answer) → AllTold (calls_in acts) fs answers
    → drained_acts u (told_acts acts) (answers_of fs) ≡ drained_acts u (told_acts acts) answers
unfolding drained_acts
told_drained u [] [] answers e = refl
told_drained u [] (f ∷ fs) answers e = refl
told_drained u (restart profile ∷ acts) fs answers e = told_drained no_silence acts fs answers e
told_drained u (call c ∷ acts) [] answers e = absurd e
told_drained u (call c ∷ acts) (f ∷ fs) [] e = absurd e
told_drained u (call c ∷ acts) (f ∷ fs) (a ∷ answers) e =
    rw e.0.number
    (ap (unless_early (early c.input a.number (undrained_of c.port u)))
    (told_drained (undrained_after (call_from c) a.number u) acts fs answers e.1))

-- ---- every start is done

start_done : (profile : Profile) (page : List ℕ) → page_number page ≡ 0 → (start_of profile page).number ≡ 0
unfolding start_of
start_done profile page e = rw e

acts_passing : (b : Board) (page : List ℕ) (acts : List (Act Profile Call)) → page_number page ≡ 0 → page_number (acts_from b page acts).page ≡ 0
unfolding acts_from
acts_passing b page [] e = e
acts_passing b page (call c ∷ acts) e =
    let f : Feeding = call_of c.port b c.input c.room page in
    acts_passing f.answer.board f.page acts ((calls_keep c.port b c.input c.room page).page_sound e)
acts_passing b page (restart profile ∷ acts) e = acts_passing (start_of profile page).board page acts e

-- ---- the profile is that of the last start

pub profile_stays : ProfileStays
unfolding acts_from
profile_stays b page [] = refl
profile_stays b page (call c ∷ acts) =
    let f : Feeding = call_of c.port b c.input c.room page in
    profile_stays f.answer.board f.page acts ∙ ap (λ (p : Profile). profile_after p acts) (call_profile c.port b c.input c.room page)
profile_stays b page (restart next ∷ acts) =
    profile_stays (start_of next page).board page acts ∙ ap (λ (p : Profile). profile_after p acts) (start_profile next page)

-- ---- the whole

module _ (profile : Profile) (page : List ℕ) (acts : List (Act Profile Call)) (e : page_number page ≡ 0) where
  abbrev values : Values
  values = values_in page

  abbrev kept : Kept
  kept = record { settings = settings_of values; page = page }

  abbrev reckoned : Reckoned
  reckoned = record { settings = settings_of values; page = values }

  abbrev program : Run (State (List ℕ) Kept)
  program = program_from profile (started_on [] start_kept kept) (told_acts acts)

  stored : StoredAs reckoned kept
  stored =
      let i = sound_is_writing page (page_sound page e) in
      record { settings = refl; page = i.written; settings_usable_lem = settings_usable_lem values i.storable_values_lem; values_storable = i.storable_values_lem }

  few : (port : ℕ) → length (kept_port port program.final) ≤ port_room
  unfolding held_history
  few =
      (restarts_stay_sound front most_undecided reply_room StoredAs reckon_message kept_tests handle_message start_anew start_kept cutting_harmless handles starts_alike
      profile reckoned kept (told_acts acts) stored).few

  follows : FollowedActs acts (acts_on profile page acts) (accepted_on profile page acts) program
  follows = from_start profile kept acts (acts_on profile page acts) (accepted_on profile page acts)
      (in_profile acts _ _ (state_of (start_of profile page).board page) (start_profile profile page) (followed acts (start_of profile page).board page (start_padded profile page)))

  alike : drained_history (told_acts acts) (answers_of (acts_on profile page acts).feedings) ≡ drained_history (told_acts acts) (reckoned_acts profile values acts).answers
  unfolding held_history
  alike =
      told_drained no_silence acts (acts_on profile page acts).feedings program.answers follows.calls_told.told
      ∙ restarts_drained_alike front most_undecided reply_room StoredAs reckon_message kept_tests handle_message start_anew start_kept cutting_harmless handles starts_alike
      profile reckoned kept (told_acts acts) stored

  matched : drained_history (told_acts acts) (answers_of (acts_on profile page acts).feedings) ≡ true → Matches StoredAs (reckoned_acts profile values acts) program
  unfolding held_history
  matched d =
      restarts_match front most_undecided reply_room StoredAs reckon_message kept_tests handle_message start_anew start_kept cutting_harmless handles starts_alike
      profile reckoned kept (told_acts acts) stored (sym alike ∙ d)

  totals : drained_history (told_acts acts) (answers_of (acts_on profile page acts).feedings) ≡ true
      → (port : ℕ) → port ≤ 1 → Reckons port (acts_on profile page acts).board (reckoned_acts profile values acts).final
  unfolding reckoned_history
  totals d port h = started_reckon port h profile page reckoned kept acts refl stored (sym alike ∙ d)

pub history-drained_alike : HistoryDrainedAlike
history-drained_alike = alike

pub history_demand3 : HistoryDemand3
history_demand3 profile page acts e d =
    let i = sound_is_writing page (page_sound page e) in
    let m = matched profile page acts e d in
    let f = follows profile page acts e in
    record {
      values = values_in page;
      storable_values_lem = i.storable_values_lem;
      written = i.written;
      reckoned = followed_reckoned (calls_in acts) (acts_on profile page acts) (program profile page acts e) (reckoned_acts profile (values_in page) acts) f.calls_told m (few profile page acts e 0) (few profile page acts e 1) (totals profile page acts e d);
      profile_kept = profile_stays (start_of profile page).board page acts ∙ ap (λ (p : Profile). profile_after p acts) (start_profile profile page);
      started = λ next. start_done next (acts_on profile page acts).page (acts_passing (start_of profile page).board page acts e);
      accepted = f.accepted_told ∙ ap accepted_in m.answers;
    }

pub history-feeds_demand3 : HistoryFeedsDemand3
history-feeds_demand3 profile page acts e f = history_demand3 profile page acts e (fed_acts_drained Profile (told_acts acts) (answers_of (acts_on profile page acts).feedings) f)
