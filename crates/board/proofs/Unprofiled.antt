-- In the full profile every answer is as before request 12.
use mathlib.Core.Bool.{true, false}
use mathlib.Core.List.{List, [], ◌∷◌}
use mathlib.Core.Path.{◌≡◌, refl, sym, ap, ◌∙◌, fun_ext}
use Prim.Native.Nat.{ℕ, zero, suc}
use lib.Dec.{ltb}
use lib.ListN.{length}
use Rattle.stream.specs.Scan.{Message}
use Rattle.stream.proofs.Bools.{differ}
use Rattle.history.specs.Calls.{Step, Run}
use Rattle.history.specs.Calls.{Call as CallOf}
use Rattle.history.specs.Reckoning.{Outcome, fresh, reckoning, reckon_step}
use Rattle.history.specs.Restarts.{Act, call, restart, history_from, started_on, reckoned_history}
use Rattle.message.specs.Front.{front}
use Rattle.command.specs.declared.rights.Rights.{Rights}
use Rattle.command.specs.declared.settings.Settings.{Settings}
use Rattle.command.specs.Rights.{guarded_rights}
use Rattle.command.specs.Outcome.{Access, Received, received_of, reply_of}
use Rattle.command.specs.Outcome.{State as Keeping, Outcome as Handled}
use Rattle.command.specs.Handle.{message_outcome}
use Rattle.command.specs.Answer.{page_access, reply_room, answer_on, answering}
use Rattle.command.specs.Unprofiled.{message_unprofiled}
use Rattle.command.proofs.Unprofiled.{as_unprofiled}
use Rattle.board.specs.Profile.{Profile, full, rights_of}
use Rattle.board.specs.Handling.{Reckoned, handle_on, values_access, settings_of}
use Rattle.board.specs.Runs.{Call, call_from, told_of}
use Rattle.board.specs.Restarts.{told_acts, start_anew}
use Rattle.board.specs.Unprofiled.{handle_unprofiled, all_full, answering_unprofiled, FullAsBefore}

received_same : {P : Type 0} (access : Access P) (x : Keeping P) (m : Received) (port : ℕ)
    → message_outcome access (rights_of full port) x m ≡ message_unprofiled access port x m
received_same {P = P} access x m zero = (as_unprofiled P access x m).first
received_same {P = P} access x m (suc p) = (as_unprofiled P access x m).second p

answer_same : (rights : Rights) (port : ℕ) (m : Received) (w : Settings) (room page : List ℕ)
    → message_outcome page_access rights (record { settings = w; page = page }) m ≡ message_unprofiled page_access port (record { settings = w; page = page }) m
    → answering rights m w room page ≡ answering_unprofiled port m w room page
unfolding answering
answer_same rights port m w room page e = ap (λ (o : Handled (List ℕ)). answer_on (ltb (length room) reply_room) m.kind o w room page) e

module _ {P : Type 0} (access : Access P) (x : Keeping P) (m : Message) where
  handled_same : (port : ℕ) → handle_on access full port x m ≡ handle_unprofiled access port x m
  unfolding handle_on handle_unprofiled
  handled_same port =
      ap (λ (o : Handled P). record { reply = reply_of (received_of m.good m.bytes).kind o; saved = o.saved; next = o.next }) (received_same access x (received_of m.good m.bytes) port)

reckon_same : handle_on values_access full ≡ handle_unprofiled values_access
reckon_same = fun_ext (λ port. fun_ext (λ x. fun_ext (λ m. handled_same values_access x m port)))

-- Two programs that take the same steps in the full profile go the same way through a history whose starts are all in it.
module _ {S : Type 0} (step step' : Profile → S → CallOf → Step S) (restarted : S → S) (same : step full ≡ step' full) where
  history-same : (s : S) (acts : List (Act Profile Call)) → all_full acts ≡ true
      → history_from step restarted full s (told_acts acts) ≡ history_from step' restarted full s (told_acts acts)
  unfolding history_from
  history-same s [] h = refl
  history-same s (call c ∷ acts) h =
      let rest : Step S → Run S = λ one. history_from step' restarted full one.state (told_acts acts) in
      ap (λ (r : Run S). record { answers = (step full s (call_from c)).answer ∷ r.answers; final = r.final }) (history-same (step full s (call_from c)).state acts h)
      ∙ ap (λ (t : S → CallOf → Step S). record { answers = (t s (call_from c)).answer ∷ (rest (t s (call_from c))).answers; final = (rest (t s (call_from c))).final }) same
  history-same s (restart false ∷ acts) h = history-same (restarted s) acts h
  history-same s (restart true ∷ acts) h = differ (sym h)

pub full_as_before : FullAsBefore
unfolding reckoned_history
full_as_before =
    record {
      reckoned = λ v cs.
          ap (λ (handle : ℕ → Reckoned → Message → Outcome Reckoned). reckoning front handle reply_room (record { settings = settings_of v; page = v }) (told_of cs)) reckon_same;
      history = λ v acts h.
          history-same (λ p. reckon_step front (handle_on values_access p) reply_room) (λ p. reckon_step front (handle_unprofiled values_access) reply_room)
          (λ s. started_on fresh start_anew s.values) (ap (λ (handle : ℕ → Reckoned → Message → Outcome Reckoned). reckon_step front handle reply_room) reckon_same)
          (started_on fresh start_anew (record { settings = settings_of v; page = v })) acts h;
      answered = λ port m w room page. answer_same (rights_of full port) port m w room page (received_same page_access (record { settings = w; page = page }) m port);
      first = λ profile m w room page. answer_same guarded_rights 0 m w room page (as_unprofiled (List ℕ) page_access (record { settings = w; page = page }) m).first;
    }
