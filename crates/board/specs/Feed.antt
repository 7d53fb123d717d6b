-- Document 01, "The scan" and "Numbers of the calls", and requests 06, 12 and 13: a feed and a silence.
use Rattle.std.specs.Prelude.{ℕ, zero, suc, ◌+◌, ◌-◌, Bool, true, false, ◌||◌, not, List, ◌++◌, ltb, length, take, drop}
use Rattle.stream.specs.declared.Sought.{Sought}
use Rattle.stream.specs.declared.Sought.TheVariants.{Starved, Found}
use Rattle.stream.specs.Seek.{seek, resume, skipped_by}
use Rattle.stream.specs.Silence.{end_of, up_to}
use Rattle.history.specs.Calls.{Input, fed, silent, chunk_of}
use Rattle.history.specs.Program.{sought_by}
use Rattle.totals.specs.declared.Tally.{Tally}
use Rattle.totals.specs.Tally.{counted_of}
use Rattle.message.specs.Front.{front}
use Rattle.message.specs.Whole.{refuse}
use Rattle.page.specs.Sound.{page_number}
use Rattle.command.specs.declared.rights.Rights.{Rights}
use Rattle.command.specs.declared.settings.Settings.{Settings}
use Rattle.command.specs.Outcome.{received_of}
use Rattle.command.specs.Answer.{reply_room, Answering, answering}
use Rattle.command.specs.Effects.{settings_usable}
use Rattle.board.specs.declared.board.Board.{Board}
use Rattle.board.specs.declared.board.Fed.{Fed}
use Rattle.board.specs.Profile.{rights_of}
use Rattle.board.specs.Port.{port_room, held_bytes, port_holding, port_of, tally_at, with_port}

-- What a call answers, and the reply room and the page afterwards.
pub record Feeding : Type 0 where
  pub answer : Fed
  pub room : List ℕ
  pub page : List ℕ

-- ---- refusals

-- A port holds over 260, or a working value is not usable. Any totals are sound.
unfoldable pub unsound : ℕ → ℕ → Settings → Bool
unsound first second w = ltb port_room first || ltb port_room second || not (settings_usable w)

-- 16: port not 0 or 1; 17: board unsound; 18: room under 166 bytes; 19, 20: the page.
unfoldable pub feed_number : ℕ → ℕ → ℕ → Settings → List ℕ → List ℕ → ℕ
feed_number port first second w room page =
    refuse (ltb 1 port) 16 (refuse (unsound first second w) 17 (refuse (ltb (length room) reply_room) 18 (page_number page)))

-- A refusal takes 0 bytes, skips 0, returns the board given and writes nothing.
abbrev pub refused_feeding : ℕ → Board → List ℕ → List ℕ → Feeding
refused_feeding n b room page = record { answer = record { number = n; taken = 0; skipped = 0; error = 0; saved = false; board = b }; room = room; page = page }

-- ---- an accepted call

-- What the code is given: has the line gone quiet? Then the chunk is not looked at.
abbrev pub input_of : Bool → List ℕ → Input
input_of true chunk = silent
input_of false chunk = fed chunk

-- What a call does to its port's held bytes, the settings, the room and the page.
pub record PortStep : Type 0 where
  pub number : ℕ
  pub taken : ℕ
  pub skipped : ℕ
  -- the first error in the reply, 0 where there is none
  pub error : ℕ
  pub saved : Bool
  pub held : List ℕ
  pub settings : Settings
  pub room : List ℕ
  pub page : List ℕ

-- What a message behind k bytes, n long, leaves of the bytes held and of those taken up to its end. (`-` gives 0 where all of it
-- was held.)
abbrev pub left_of : ℕ → ℕ → Bool → List ℕ → List ℕ → List ℕ
left_of k n good held chunk = drop (resume k n good) (held ++ take (k + n - length held) chunk)

-- A message is found behind k bytes of those held and then the chunk, n long: bytes are taken up to its end, it is handled (by
-- its own bytes: `OwnBytes` in crate command), and what is left of the bytes held and taken stays held. Nothing is found: the
-- whole chunk is taken, and what the seek left undecided stays held.
abbrev pub step_on : Rights → Sought → List ℕ → Settings → List ℕ → List ℕ → List ℕ → PortStep
step_on rights (Found k n good) held w chunk room page =
    let a : Answering = answering rights (received_of good (drop k (held ++ chunk))) w room page in
    record {
      number = 0;
      taken = k + n - length held;
      skipped = skipped_by k good;
      error = a.answer.error;
      saved = a.answer.saved;
      held = left_of k n good held chunk;
      settings = a.answer.settings;
      room = a.room;
      page = a.page;
    }
step_on rights (Starved k) held w chunk room page =
    record {
      number = 1;
      taken = length chunk;
      skipped = k;
      error = 0;
      saved = false;
      held = drop k (held ++ chunk);
      settings = w;
      room = room;
      page = page;
    }

-- An accepted call of a port that has these rights and holds some bytes: a feed seeks through them and the chunk; a silence goes on over them alone.
unfoldable pub step_by : Rights → List ℕ → Settings → Input → List ℕ → List ℕ → PortStep
step_by rights held w i room page = step_on rights (sought_by front i held) held w (chunk_of i) room page

-- The same as the code makes it: a mark ends the bytes (`quiet`) or none does.
abbrev pub step_at : Rights → Bool → List ℕ → Settings → List ℕ → List ℕ → List ℕ → PortStep
step_at rights quiet held w chunk room page = step_on rights (seek (up_to (end_of quiet) front) (held ++ chunk)) held w chunk room page

-- The totals of its port after it, updated as a driver updates its record (what they count: `CountsHistories`, and demand 3).
abbrev pub tally_after : PortStep → ℕ → Board → Tally
tally_after s port b = counted_of (tally_at port b) s.number s.taken s.skipped s.error (port_of port b).held (length s.held)

-- The board after it.
abbrev pub feed_on : PortStep → ℕ → Board → Feeding
feed_on s port b =
    record {
      answer = record {
        number = s.number;
        taken = s.taken;
        skipped = s.skipped;
        error = s.error;
        saved = s.saved;
        board = with_port port b (port_holding s.held) s.settings (tally_after s port b);
      };
      room = s.room;
      page = s.page;
    }

abbrev pub accept_on : ℕ → ℕ → Board → Input → List ℕ → List ℕ → Feeding
accept_on zero port b i room page = feed_on (step_by (rights_of b.readonly port) (held_bytes (port_of port b)) b.settings i room page) port b
accept_on (suc n) port b i room page = refused_feeding (suc n) b room page

-- A call: the tests, then the named port, with its rights in the board's profile. "Refusals: 16 to 20 as for a feed": the tests do not
-- ask which call it is.
unfoldable pub call_of : ℕ → Board → Input → List ℕ → List ℕ → Feeding
call_of port b i room page = accept_on (feed_number port b.first.held b.second.held b.settings room page) port b i room page

abbrev pub feed_of : ℕ → Board → List ℕ → List ℕ → List ℕ → Feeding
feed_of port b chunk room page = call_of port b (fed chunk) room page

abbrev pub silence_of : ℕ → Board → List ℕ → List ℕ → Feeding
silence_of port b room page = call_of port b silent room page
