-- What the theorems ask of the handling of a message, and what they say of two runs.
use Rattle.std.specs.Prelude.{◌≡◌, List, ℕ}
use Rattle.stream.specs.Scan.{Message}
use Rattle.history.specs.Calls.{Run, State}
use Rattle.history.specs.Reckoning.{Outcome, Ledger, held_of}
use Rattle.history.specs.Program.{Tests, passing}

-- The reckoning keeps values; the program keeps what it stores for them, its settings and its page.
-- `StoredAs v w` says that w stands for the values v: "The page is the writing of its values, blank with none."

module _ {Values Stored : Type 0} (StoredAs : Values → Stored → Type 0) where
  -- Two outcomes of handling a message: the same reply and save mark, and what is stored still stands for the values.
  pub record Handled (x : Outcome Values) (y : Outcome Stored) : Type 0 where
    pub reply : x.reply ≡ y.reply
    pub saved : x.saved ≡ y.saved
    pub next : StoredAs x.next y.next

  -- What the theorems ask of the handling: what stands for values passes the program's tests, and handling a message on both
  -- sides gives two such outcomes.
  pub record Handles (reckoned : ℕ → Values → Message → Outcome Values) (tests : Stored → Tests) (handle : ℕ → Stored → Message → Outcome Stored) : Type 0 where
    pub passes : (v : Values) (w : Stored) → StoredAs v w → tests w ≡ passing
    pub handled : (p : ℕ) (v : Values) (w : Stored) (m : Message) → StoredAs v w → Handled (reckoned p v m) (handle p w m)

  -- The program's run against the reckoning's.
  pub record Matches (q : Run (State Ledger Values)) (b : Run (State (List ℕ) Stored)) : Type 0 where
    -- Number, bytes taken, bytes skipped, save mark, reply and reported message of every call.
    pub answers : b.answers ≡ q.answers
    -- "The page is the writing of its values."
    pub values : StoredAs q.final.values b.final.values
    -- "Held are the bytes from there on."
    pub held0 : b.final.port0 ≡ held_of q.final.port0
    pub held1 : b.final.port1 ≡ held_of q.final.port1
