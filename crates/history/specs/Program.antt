-- Document 01, "The scan", and request 06: a program that keeps of each port only the held bytes. Over any framing and any handling.
use Rattle.std.specs.Prelude.{Bool, false, ◌||◌, List, [], ◌∷◌, ◌++◌, ℕ, ◌+◌, ◌-◌, ltb, length, take, drop}
use Rattle.stream.specs.declared.Verdict.{Verdict}
use Rattle.stream.specs.declared.Sought.{Sought}
use Rattle.stream.specs.declared.Sought.TheVariants.{Starved, Found}
use Rattle.stream.specs.Scan.{Message, message_at}
use Rattle.stream.specs.Seek.{seek, resume, skipped_by}
use Rattle.stream.specs.Silence.{up_to}
use Rattle.history.specs.Calls.{Input, end_by, chunk_of, Call, Step, Run, run, refuse, State, Turn, port_of, accept}
use Rattle.history.specs.Reckoning.{Outcome}

-- What the program tests of what it has stored: its working values (17), the page's length (19), the page (20).
pub record Tests : Type 0 where
  pub unusable : Bool
  pub wrong_length : Bool
  pub unsound : Bool

-- No test refuses.
abbrev pub passing : Tests
passing = record { unusable = false; wrong_length = false; unsound = false }

-- Where the scan of a call ends. A feed's goes through the held bytes and the chunk. A silence's "goes on over the held bytes, and
-- each time it is undecided the front byte is skipped with no error; it stops at the first reported message or when nothing is
-- held".
abbrev pub sought_by : (List ℕ → Verdict) → Input → List ℕ → Sought
sought_by front i held = seek (up_to (end_by i) front) (held ++ chunk_of i)

module _ (front : List ℕ → Verdict) {Stored : Type 0} (handle : ℕ → Stored → Message → Outcome Stored) where
  -- An accepted call of port p by where its scan ends. "It takes a byte from the chunk
  -- only when the held bytes leave the scan undecided, and stops at the first reported message or at the chunk's end": of a
  -- message found behind k bytes, n long, it takes what is not held already, and holds what stands after the good message, or
  -- one byte after the start of the damaged one.
  unfoldable pub held_on : Sought → ℕ → List ℕ → Stored → List ℕ → Turn (List ℕ) Stored
  held_on (Found k n good) p held w chunk =
      let taken : ℕ = k + n - length held in
      let seen : List ℕ = held ++ take taken chunk in
      let this : Message = message_at n good (drop k seen) in
      let done : Outcome Stored = handle p w this in
      record {
        answer =
            record {
              number = 0;
              taken = taken;
              skipped = skipped_by k good;
              saved = done.saved;
              reply = done.reply;
              reports = this ∷ [];
            };
        port = drop (resume k n good) seen;
        values = done.next;
      }
  held_on (Starved k) p held w chunk =
      record {
        answer = record { number = 1; taken = length chunk; skipped = k; saved = false; reply = []; reports = [] };
        port = drop k (held ++ chunk);
        values = w;
      }

  -- An accepted call of port p.
  unfoldable pub held_call : ℕ → List ℕ → Stored → Input → Turn (List ℕ) Stored
  held_call p held w i = held_on (sought_by front i held) p held w (chunk_of i)

  -- "A feed 16 to 20 .. Order as listed": port not 0 or 1; a port holds over `most_held`, or a working value is not usable;
  -- room too small; page of a wrong length; page neither blank nor sound. "Refusals: 16 to 20 as for a feed": a silence has the
  -- same. `room` is the least length of a room.
  unfoldable pub held_step : ℕ → ℕ → (Stored → Tests) → State (List ℕ) Stored → Call → Step (State (List ℕ) Stored)
  held_step most_held room tests s c =
      refuse (ltb 1 c.port) 16 s
      (refuse (ltb most_held (length s.port0) || ltb most_held (length s.port1) || (tests s.values).unusable) 17 s
      (refuse (ltb c.room room) 18 s
      (refuse (tests s.values).wrong_length 19 s
      (refuse (tests s.values).unsound 20 s
      (accept c.port s (held_call c.port (port_of c.port s) s.values c.input))))))

  -- The program over a list of calls. "A fresh port holds nothing."
  unfoldable pub held_program : ℕ → ℕ → (Stored → Tests) → Stored → List Call → Run (State (List ℕ) Stored)
  held_program most_held room tests w = run (held_step most_held room tests) (record { port0 = []; port1 = []; values = w })
