-- What request 12 left of the board in the full profile: every answer is as it was. The handling before it stands in crate command
-- (specs/Unprofiled).
use Rattle.std.specs.Prelude.{Bool, true, ◌&&◌, not, List, [], ◌∷◌, ◌≡◌, ℕ, ltb, length}
use Rattle.stream.specs.Scan.{Message}
use Rattle.history.specs.Calls.{Run, State}
use Rattle.history.specs.Reckoning.{Outcome, Ledger, reckoning}
use Rattle.history.specs.Restarts.{Act, call, restart, reckoned_history}
use Rattle.message.specs.Front.{front}
use Rattle.page.specs.declared.setting.Values.{Values}
use Rattle.command.specs.declared.settings.Settings.{Settings}
use Rattle.command.specs.Outcome.{Access, Received, received_of, reply_of}
use Rattle.command.specs.Outcome.{State as Keeping}
use Rattle.command.specs.Unprofiled.{message_unprofiled}
use Rattle.command.specs.Answer.{page_access, reply_room, Answering, answer_on, answering}
use Rattle.board.specs.Profile.{Profile, full, rights_of}
use Rattle.board.specs.Handling.{Reckoned, settings_of, values_access}
use Rattle.board.specs.Runs.{Call, told_of, reckoned_on}
use Rattle.board.specs.Restarts.{told_acts, start_anew, reckoned_acts}

-- A message handled as before, on a port.
unfoldable pub handle_unprofiled : {P : Type 0} → Access P → ℕ → Keeping P → Message → Outcome (Keeping P)
handle_unprofiled access port x m =
    let r : Received = received_of m.good m.bytes in
    record {
      reply = reply_of r.kind (message_unprofiled access port x r);
      saved = (message_unprofiled access port x r).saved;
      next = (message_unprofiled access port x r).next;
    }

-- The plain reckoning as it was.
abbrev pub reckoned_unprofiled : Values → List Call → Run (State Ledger Reckoned)
reckoned_unprofiled v cs = reckoning front (handle_unprofiled values_access) reply_room (record { settings = settings_of v; page = v }) (told_of cs)

-- And that of a history. (No profile is looked at.)
abbrev pub acts_unprofiled : Values → List (Act Profile Call) → Run (State Ledger Reckoned)
acts_unprofiled v acts =
    reckoned_history front (λ profile. handle_unprofiled values_access) reply_room start_anew full (record { settings = settings_of v; page = v }) (told_acts acts)

-- Is every restart of a history one in the full profile?
abbrev pub all_full : List (Act Profile Call) → Bool
all_full [] = true
all_full (call c ∷ acts) = all_full acts
all_full (restart profile ∷ acts) = not profile && all_full acts

-- What an accepted call answered, on any settings, room and page.
abbrev pub answering_unprofiled : ℕ → Received → Settings → List ℕ → List ℕ → Answering
answering_unprofiled port m w room page =
    answer_on (ltb (length room) reply_room) m.kind (message_unprofiled page_access port (record { settings = w; page = page }) m) w room page

-- The plain reckoning of a list in the full profile, to which demand 3 holds the board, is the one that was, and so is that of a history
-- whose starts are all in it. So is the answer to every message, by which the calls are defined, whatever the board and the page; and on
-- port 0 it is that in every profile. Proof: Unprofiled `full_as_before`.
pub record FullAsBefore : Type 0 where
  pub reckoned : (v : Values) (cs : List Call) → reckoned_on full v cs ≡ reckoned_unprofiled v cs
  pub history : (v : Values) (acts : List (Act Profile Call)) → all_full acts ≡ true → reckoned_acts full v acts ≡ acts_unprofiled v acts
  pub answered : (port : ℕ) (m : Received) (w : Settings) (room page : List ℕ)
      → answering (rights_of full port) m w room page ≡ answering_unprofiled port m w room page
  pub first : (profile : Profile) (m : Received) (w : Settings) (room page : List ℕ)
      → answering (rights_of profile 0) m w room page ≡ answering_unprofiled 0 m w room page
