-- Document 01, "The scan", and request 06: the calls of a port, a feed and a silence, their answer, and lists of calls, over any
-- record of a port and any values.
use Rattle.std.specs.Prelude.{Bool, true, false, List, [], ◌∷◌, ℕ, zero, suc}
use Rattle.stream.specs.Scan.{Message}
use Rattle.stream.specs.Silence.{End, running, ended}

-- What a call brings: a feed a chunk, a silence the word that the line is silent.
pub data Input : Type 0 where
  fed : List ℕ → Input
  silent : Input

-- A silence ends the bytes of its port, and brings none.
abbrev pub end_by : Input → End
end_by (fed chunk) = running
end_by silent = ended

abbrev pub chunk_of : Input → List ℕ
chunk_of (fed chunk) = chunk
chunk_of silent = []

-- "A feed names a port (0 or 1), the board, a chunk, a reply room and the page", and a silence the same but for the chunk. The
-- board and the page are the ones that the last call left; of the room only the length counts.
pub record Call : Type 0 where
  pub port : ℕ
  pub input : Input
  pub room : ℕ

-- "It answers the number, the bytes taken, the bytes skipped, whether a save was accepted, and the new board." Beside them
-- stand the reply, and the reported message: one with number 0, otherwise none.
pub record Answer : Type 0 where
  pub number : ℕ
  pub taken : ℕ
  pub skipped : ℕ
  pub saved : Bool
  pub reply : List ℕ
  pub reports : List Message

-- One call: the answer, and the state after it.
pub record Step (S : Type 0) : Type 0 where
  pub answer : Answer
  pub state : S

-- A list of calls: the answers in order, and the state after the last.
pub record Run (S : Type 0) : Type 0 where
  pub answers : List Answer
  pub final : S

-- Each call is given the state that the last one left.
unfoldable pub run : {S : Type 0} → (S → Call → Step S) → S → List Call → Run S
run step s [] = record { answers = []; final = s }
run {S} step s (c ∷ cs) =
    let one : Step S = step s c in
    let rest : Run S = run step one.state cs in
    record { answers = one.answer ∷ rest.answers; final = rest.final }

-- "A refusal takes 0 bytes, skips 0, .. and writes nothing."
abbrev pub refused : ℕ → Answer
refused n = record { number = n; taken = 0; skipped = 0; saved = false; reply = []; reports = [] }

-- Where the test is true, a refusal with number n that changes nothing; otherwise what follows. So a row of these gives the
-- first number that applies.
abbrev pub refuse : {S : Type 0} → Bool → ℕ → S → Step S → Step S
refuse true n s next = record { answer = refused n; state = s }
refuse false n s next = next

-- ---- Two ports.

-- What is kept of two ports, and the values: working values and page.
pub record State (Port Values : Type 0) : Type 0 where
  pub port0 : Port
  pub port1 : Port
  pub values : Values

-- What an accepted call gives: the answer, the named port, and the values.
pub record Turn (Port Values : Type 0) : Type 0 where
  pub answer : Answer
  pub port : Port
  pub values : Values

module _ {Port Values : Type 0} where
  -- The named port; an accepted call names 0 or 1.
  abbrev pub port_of : ℕ → State Port Values → Port
  port_of zero s = s.port0
  port_of (suc p) s = s.port1

  -- "The other port's record is as it came."
  abbrev pub settled : ℕ → State Port Values → Turn Port Values → State Port Values
  settled zero s t = record { port0 = t.port; port1 = s.port1; values = t.values }
  settled (suc p) s t = record { port0 = s.port0; port1 = t.port; values = t.values }

  abbrev pub accept : ℕ → State Port Values → Turn Port Values → Step (State Port Values)
  accept p s t = record { answer = t.answer; state = settled p s t }
