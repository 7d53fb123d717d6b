-- Demand 3: from a start on a blank or sound page, every list of calls whose silences are drained goes as the plain reckoning says.
use mathlib.Core.Bool.{Bool, true, false}
use mathlib.Core.List.{List, [], ◌∷◌}
use mathlib.Core.Path.{◌≡◌, refl, sym, ap, ◌∙◌, subst}
use Prim.Native.Nat.{ℕ, zero, suc, ◌≤◌}
use native.Mathlib.Omega.{arith}
use lib.Dec.{eqb}
use lib.ListN.{length}
use Rattle.history.specs.Calls.{Answer, Run, State, run}
use Rattle.history.specs.Calls.{Call as CallOf, port_of as kept_port}
use Rattle.history.specs.Reckoning.{Ledger, fresh, held_of, reckon_step, reckoning}
use Rattle.history.specs.Restarts.{Act, call, started_on, drained_acts}
use Rattle.history.specs.Restarts.{calls as as_acts}
use Rattle.history.specs.Program.{held_step, held_program}
use Rattle.history.specs.Ports.{PortHistory, unfed, history_after, history_of, PortSum, PortAccount}
use Rattle.history.specs.Drained.{Undrained, no_silence, undrained_of, undrained_after, early, unless_early, drained_from, drained}
use Rattle.history.specs.Premises.{Matches}
use Rattle.history.proofs.Accounts.{port_accounts}
use Rattle.history.proofs.Demand.{demand3, drained_alike}
use Rattle.history.proofs.Driven.{without_restarts, drained_without_restarts}
use Rattle.history.proofs.Silences.{feeds_drained}
use Rattle.history.proofs.Sums.{held_few, port_sums}
use Rattle.message.specs.Front.{front, most_undecided}
use Rattle.message.proofs.Framed.{cutting_harmless}
use Rattle.page.specs.declared.setting.Values.{Values}
use Rattle.page.specs.Page.{all_storable, writing}
use Rattle.page.specs.Lookup.{values_in}
use Rattle.page.proofs.Pages.{sound_is_writing}
use Rattle.command.specs.declared.settings.Settings.{Settings}
use Rattle.command.specs.Answer.{reply_room}
use Rattle.board.specs.Profile.{Profile}
use Rattle.board.specs.declared.board.Board.{Board}
use Rattle.board.specs.declared.board.Started.{Started}
use Rattle.board.specs.Port.{port_room, held_bytes, port_holding, port_of}
use Rattle.board.specs.Start.{fresh_board, start_of}
use Rattle.board.specs.Feed.{Feeding, call_of}
use Rattle.board.specs.Handling.{Reckoned, Kept, settings_of, reckon_message, handle_message, kept_tests, StoredAs}
use Rattle.board.specs.Runs.{Call, Calls, calls_from, calls_on, call_from, told_of, reckoned_on, Told, AllTold}
use Rattle.board.specs.Theorems.{AsReckoned, Demand3, FeedsDemand3, OneMore, answers_of, AnyListsAddUp, DrainedOn, DrainedAlike, history_on, held_on, PortAddsUp, SumLaw, ReportsScanned}
use Rattle.board.proofs.Follows.{call_profile, start_profile, page_sound}
use Rattle.board.specs.Histories.{acts_from}
use Rattle.board.specs.Restarts.{told_acts, start_anew}
use Rattle.board.proofs.Begins.{settings_usable_lem, started, fresh-padded}
use Rattle.board.proofs.Handles.{handles}
use Rattle.board.proofs.Histories.{no_restart}
use Rattle.board.proofs.Steps.{state_of, Padded, Same, step_same}
use Rattle.board.proofs.Tallied.{Reckons, reckoned_from, started_reckon}

-- ---- lists of calls of the board are lists of calls of the program that keeps only held bytes

abbrev program_from : Profile → State (List ℕ) Kept → List CallOf → Run (State (List ℕ) Kept)
program_from profile s fs = run (held_step front (handle_message profile) 260 reply_room kept_tests) s fs

pub record Followed (cs : List Call) (r : Calls) (q : Run (State (List ℕ) Kept)) : Type 0 where
  pub told : AllTold cs r.feedings q.answers
  pub final : q.final ≡ state_of r.board r.page
  pub padded : Padded r.board

followed : (cs : List Call) (b : Board) (page : List ℕ) → Padded b → Followed cs (calls_from b page cs) (program_from b.readonly (state_of b page) (told_of cs))
unfolding calls_from run
followed [] b page k = record { told = tt; final = refl; padded = k }
followed (c ∷ cs) b page k =
    let f : Feeding = call_of c.port b c.input c.room page in
    let s : Same b c f (held_step front (handle_message b.readonly) 260 reply_room kept_tests (state_of b page) (call_from c)) = step_same b page c k in
    let rest : Followed cs (calls_from f.answer.board f.page cs) (program_from b.readonly (state_of f.answer.board f.page) (told_of cs)) =
    subst (λ (profile : Profile). Followed cs (calls_from f.answer.board f.page cs) (program_from profile (state_of f.answer.board f.page) (told_of cs)))
    s.profile (followed cs f.answer.board f.page s.padded) in
    rw s.state (record { told = (s.told, rest.told); final = rest.final; padded = rest.padded })

-- Answers that tell the same numbers tell alike whether the list is drained.
told_drained : (u : Undrained) (cs : List Call) (fs : List Feeding) (answers : List Answer) → AllTold cs fs answers
    → drained_from u (told_of cs) (answers_of fs) ≡ drained_from u (told_of cs) answers
unfolding drained_from
told_drained u [] [] [] e = refl
told_drained u [] [] (a ∷ answers) e = absurd e
told_drained u [] (f ∷ fs) answers e = absurd e
told_drained u (c ∷ cs) [] answers e = absurd e
told_drained u (c ∷ cs) (f ∷ fs) [] e = absurd e
told_drained u (c ∷ cs) (f ∷ fs) (a ∷ answers) e =
    rw e.0.number
    (ap (unless_early (early c.input a.number (undrained_of c.port u)))
    (told_drained (undrained_after (call_from c) a.number u) cs fs answers e.1))

-- Where that program matches the reckoning, the calls go as reckoned.
pub followed_reckoned : (cs : List Call) (r : Calls) (p : Run (State (List ℕ) Kept)) (q : Run (State Ledger Reckoned)) → Followed cs r p → Matches StoredAs q p
    → length p.final.port0 ≤ port_room → length p.final.port1 ≤ port_room → ((port : ℕ) → port ≤ 1 → Reckons port r.board q.final) → AsReckoned cs r q
followed_reckoned cs r p q f m few0 few1 totals =
    let h0 : held_bytes r.board.first ≡ held_of q.final.port0 = ap (λ (s : State (List ℕ) Kept). s.port0) (sym f.final) ∙ m.held0 in
    let h1 : held_bytes r.board.second ≡ held_of q.final.port1 = ap (λ (s : State (List ℕ) Kept). s.port1) (sym f.final) ∙ m.held1 in
    record {
      told = subst (λ (answers : List Answer). AllTold cs r.feedings answers) m.answers f.told;
      settings = ap (λ (s : State (List ℕ) Kept). s.values.settings) (sym f.final) ∙ sym m.values.settings;
      first_port = f.padded.first ∙ ap port_holding h0;
      second_port = f.padded.second ∙ ap port_holding h1;
      first_few = rw m.held0 at few0;
      second_few = rw m.held1 at few1;
      page_written = ap (λ (s : State (List ℕ) Kept). s.values.page) (sym f.final) ∙ m.values.page;
      first_totals = totals 0 (omega arith);
      second_totals = totals 1 (omega arith);
    }

told_list : (cs : List Call) → told_acts (as_acts cs) ≡ as_acts {Profile = Profile} (told_of cs)
told_list [] = refl
told_list (c ∷ cs) = ap (λ (acts : List (Act Profile CallOf)). call (call_from c) ∷ acts) (told_list cs)

-- ---- the whole

module _ (profile : Profile) (v : Values) (cs : List Call) (a : all_storable v ≡ true) where
  abbrev w : Settings
  w = settings_of v

  abbrev calls : Calls
  calls = calls_from (fresh_board profile w) (writing v) cs

  abbrev reckoned : Run (State Ledger Reckoned)
  reckoned = reckoned_on profile v cs

  abbrev program : Run (State (List ℕ) Kept)
  program = program_from profile (state_of (fresh_board profile w) (writing v)) (told_of cs)

  stored : StoredAs (record { settings = w; page = v }) (record { settings = w; page = writing v })
  stored = record { settings = refl; page = refl; settings_usable_lem = settings_usable_lem v a; values_storable = a }

  follows : Followed cs calls program
  follows = followed cs (fresh_board profile w) (writing v) (fresh-padded profile w)

  few : (p : ℕ) → length (kept_port p program.final) ≤ port_room
  unfolding held_program
  few p = held_few front most_undecided reply_room kept_tests (handle_message profile) cutting_harmless p (record { settings = w; page = writing v }) (told_of cs)

  -- Whether the list is drained, the calls' own answers, the program's and the reckoning's tell alike.
  program_alike : drained (told_of cs) (answers_of calls.feedings) ≡ drained (told_of cs) program.answers
  program_alike = told_drained no_silence cs calls.feedings program.answers follows.told

  reckoned_alike : drained (told_of cs) (answers_of calls.feedings) ≡ drained (told_of cs) reckoned.answers
  unfolding held_program
  reckoned_alike =
      program_alike
      ∙ drained_alike front most_undecided reply_room StoredAs (reckon_message profile) kept_tests (handle_message profile) cutting_harmless (handles profile)
      (record { settings = w; page = v }) (record { settings = w; page = writing v }) (told_of cs) stored

  matched : drained (told_of cs) (answers_of calls.feedings) ≡ true → Matches StoredAs reckoned program
  unfolding held_program
  matched d =
      demand3 front most_undecided reply_room StoredAs (reckon_message profile) kept_tests (handle_message profile) cutting_harmless (handles profile)
      (record { settings = w; page = v }) (record { settings = w; page = writing v }) (told_of cs) stored (sym reckoned_alike ∙ d)

  -- A list is a history without restarts.
  list_totals : (port : ℕ) → port ≤ 1 → drained (told_of cs) reckoned.answers ≡ true → Reckons port calls.board reckoned.final
  unfolding reckoning
  list_totals port h d =
      let s : State Ledger Reckoned = started_on fresh start_anew (record { settings = w; page = v }) in
      let told : told_acts (as_acts cs) ≡ as_acts (told_of cs) = told_list cs in
      let same : reckoned_from profile s (told_acts (as_acts cs)) ≡ reckoned =
      ap (reckoned_from profile s) told
      ∙ without_restarts Profile (State Ledger Reckoned) (λ p. reckon_step front (reckon_message p) reply_room) (λ t. started_on fresh start_anew t.values) profile s (told_of cs) in
      let made : acts_from (start_of profile (writing v)).board (writing v) (as_acts cs) ≡ calls =
      no_restart (start_of profile (writing v)).board (writing v) cs ∙ ap (λ (t : Started). calls_from t.board (writing v) cs) (started profile v a) in
      let drains : drained_acts no_silence (told_acts (as_acts cs)) (reckoned_from profile s (told_acts (as_acts cs))).answers ≡ true =
      rw (same, told) (drained_without_restarts Profile (told_of cs) reckoned.answers ∙ d) in
      let all = started_reckon port h profile (writing v) (record { settings = w; page = v }) (record { settings = w; page = writing v }) (as_acts cs) refl stored drains in
      rw (made, same) at all

  whole : drained (told_of cs) (answers_of calls.feedings) ≡ true → AsReckoned cs calls reckoned
  whole d = followed_reckoned cs calls program reckoned follows (matched d) (few 0) (few 1) (λ port h. list_totals port h (sym reckoned_alike ∙ d))

  port_held : (port : ℕ) → kept_port port program.final ≡ held_bytes (port_of port calls.board)
  port_held port = ap (kept_port port) follows.final ∙ by_port port
    where
      by_port : (port : ℕ) → kept_port port (state_of calls.board calls.page) ≡ held_bytes (port_of port calls.board)
      by_port zero = refl
      by_port (suc p) = refl

  sums : (port : ℕ) → port ≤ 1 → PortSum most_undecided (history_of port unfed (told_of cs) program.answers) (held_bytes (port_of port calls.board))
  unfolding held_program
  sums port h =
      rw (← port_held port)
      (port_sums front most_undecided reply_room kept_tests (handle_message profile) cutting_harmless port (record { settings = w; page = writing v }) (told_of cs) h)

  account : (port : ℕ) → port ≤ 1 → drained (told_of cs) (answers_of calls.feedings) ≡ true → PortAccount front (history_of port unfed (told_of cs) program.answers)
  unfolding held_program
  account port h d =
      port_accounts front most_undecided reply_room StoredAs (reckon_message profile) kept_tests (handle_message profile) cutting_harmless (handles profile) port
      (record { settings = w; page = v }) (record { settings = w; page = writing v }) (told_of cs) h stored (sym program_alike ∙ d)

  scanned : (port : ℕ) → port ≤ 1 → drained (told_of cs) (answers_of calls.feedings) ≡ true → PortAccount front (history_of port unfed (told_of cs) reckoned.answers)
  scanned port h d = rw (← (matched d).answers) (account port h d)

  summed : (port : ℕ) → port ≤ 1 → drained (told_of cs) (answers_of calls.feedings) ≡ true
      → PortSum most_undecided (history_of port unfed (told_of cs) reckoned.answers) (held_bytes (port_of port calls.board))
  summed port h d = rw (← (matched d).answers) (sums port h)

-- A start on the page of storable values gives the fresh board.
start_board : (profile : Profile) (v : Values) → all_storable v ≡ true → (start_of profile (writing v)).board ≡ fresh_board profile (settings_of v)
start_board profile v a = ap (λ (s : Started). s.board) (started profile v a)

pub any_lists_add_up : AnyListsAddUp
unfolding held_program
any_lists_add_up profile v cs a =
    record { told = rw (start_board profile v a) (follows profile v cs a).told; sums = λ port h. rw (start_board profile v a) (sums profile v cs a port h) }

pub drained_alike_lem : DrainedAlike
drained_alike_lem profile v cs a = rw (start_board profile v a) (reckoned_alike profile v cs a)

pub reports_scanned : ReportsScanned
reports_scanned profile v cs port a h d =
    let e = rw (start_board profile v a) at d in
    (rw (start_board profile v a) (summed profile v cs a port h e), scanned profile v cs a port h e)

as_reckoned : (profile : Profile) (v : Values) (cs : List Call) → all_storable v ≡ true → DrainedOn profile v cs → AsReckoned cs (calls_on profile v cs) (reckoned_on profile v cs)
as_reckoned profile v cs a d = rw (start_board profile v a) (whole profile v cs a (rw (start_board profile v a) at d))

-- ---- every page that starting accepts

-- No list of calls changes the profile.
list_profile : (cs : List Call) (b : Board) (page : List ℕ) → (calls_from b page cs).board.readonly ≡ b.readonly
unfolding calls_from
list_profile [] b page = refl
list_profile (c ∷ cs) b page =
    let f : Feeding = call_of c.port b c.input c.room page in
    list_profile cs f.answer.board f.page ∙ call_profile c.port b c.input c.room page

pub board_demand3 : Demand3
board_demand3 profile page cs e d =
    let i = sound_is_writing page (page_sound page e) in
    record {
      values = values_in page;
      storable_values_lem = i.storable_values_lem;
      written = i.written;
      started = ap (λ (p : List ℕ). (start_of profile p).number) i.written ∙ ap (λ (s : Started). s.number) (started profile (values_in page) i.storable_values_lem);
      reckoned = as_reckoned profile (values_in page) cs i.storable_values_lem (rw i.written at d);
      profile_kept = list_profile cs (start_of profile (writing (values_in page))).board (writing (values_in page)) ∙ start_profile profile (writing (values_in page));
    }

pub feeds_demand3 : FeedsDemand3
feeds_demand3 profile page cs e f = board_demand3 profile page cs e (feeds_drained (told_of cs) (answers_of (calls_from (start_of profile page).board page cs).feedings) f)

pub one_more : OneMore
unfolding calls_from
one_more b page [] c = refl
one_more b page (d ∷ cs) c =
    let f : Feeding = call_of d.port b d.input d.room page in
    ap (λ (r : Calls). record { feedings = f ∷ r.feedings; board = r.board; page = r.page }) (one_more f.answer.board f.page cs c)

-- ---- the sum law, by the calls' own answers

-- A history but for the messages reported, which the calls' own answers do not name.
abbrev unnamed : PortHistory → PortHistory
unnamed t = record { stream = t.stream; taken = t.taken; count = t.count; skips = t.skips; reports = []; last = t.last }

after_unnamed : (m : Bool) (t : PortHistory) (c : Call) (f : Feeding) (a : Answer) → Told c f a
    → history_after m (unnamed t) c.input (record { number = f.answer.number; taken = f.answer.taken; skipped = f.answer.skipped; saved = f.answer.saved; reply = []; reports = [] })
    ≡ unnamed (history_after m t c.input a)
after_unnamed false t c f a e = refl
after_unnamed true t c f a e = rw (e.number, e.taken, e.skipped)

same-history : (port : ℕ) (t : PortHistory) (cs : List Call) (fs : List Feeding) (answers : List Answer) → AllTold cs fs answers
    → history_of port (unnamed t) (told_of cs) (answers_of fs) ≡ unnamed (history_of port t (told_of cs) answers)
unfolding history_of
same-history port t [] [] [] e = refl
same-history port t [] [] (a ∷ answers) e = absurd e
same-history port t [] (f ∷ fs) answers e = absurd e
same-history port t (c ∷ cs) [] answers e = absurd e
same-history port t (c ∷ cs) (f ∷ fs) [] e = absurd e
same-history port t (c ∷ cs) (f ∷ fs) (a ∷ answers) e =
    rw (after_unnamed (eqb c.port port) t c f a e.0)
    (same-history port (history_after (eqb c.port port) t c.input a) cs fs answers e.1)

unnamed_adds : (t : PortHistory) (held : List ℕ) → PortSum most_undecided t held → PortAccount front t → PortAddsUp (unnamed t) held
unnamed_adds t held s k =
    record {
      few = s.few;
      taken = s.taken;
      sum = rw (← k.first) s.sum;
      rest = rw (← k.first) s.rest;
      all = λ e. sym k.first ∙ k.all e;
      all_skips = k.all_skips;
    }

pub sum_law : SumLaw
sum_law profile v cs port a h d =
    let e : history_on profile v cs port ≡ unnamed (history_of port unfed (told_of cs) (reckoned_on profile v cs).answers) =
    same-history port unfed cs (calls_on profile v cs).feedings (reckoned_on profile v cs).answers (as_reckoned profile v cs a d).told in
    let t = reports_scanned profile v cs port a h d in
    rw e (unnamed_adds (history_of port unfed (told_of cs) (reckoned_on profile v cs).answers) (held_on profile v cs port) t.0 t.1)
