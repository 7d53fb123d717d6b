-- Request 12: what port 0 sees of a list of calls, where handling a message of port 1 leaves the values as they were. Over any framing and
-- any handling.
use Rattle.std.specs.Prelude.{◌≡◌, Bool, true, false, List, [], ◌∷◌, ℕ, eqb}
use Rattle.stream.specs.declared.Verdict.{Verdict}
use Rattle.stream.specs.Scan.{Message}
use Rattle.stream.specs.Cutting.{Cutting}
use Rattle.history.specs.Calls.{Call, Answer, Step, State}
use Rattle.history.specs.Reckoning.{Outcome}
use Rattle.history.specs.Program.{Tests, held_step}

-- An entry in front of a list, where the test is true.
abbrev pub only_if : {A : Type 0} → Bool → A → List A → List A
only_if true x xs = x ∷ xs
only_if false x xs = xs

-- The calls of a list that name port 0, in order.
abbrev pub port_zero_calls : List Call → List Call
port_zero_calls [] = []
port_zero_calls (c ∷ cs) = only_if (eqb c.port 0) c (port_zero_calls cs)

-- What port 0 sees after one of its calls: number, bytes taken, bytes skipped, save mark and reply; its held bytes; and the values,
-- which are the working settings and the page.
pub record Seen (Values : Type 0) : Type 0 where
  pub answer : Answer
  pub held : List ℕ
  pub values : Values

-- One for each call of port 0 in a list.
unfoldable pub seen_from : {X : Type 0} → (State (List ℕ) X → Call → Step (State (List ℕ) X)) → State (List ℕ) X → List Call → List (Seen X)
seen_from step s [] = []
seen_from {X} step s (c ∷ cs) =
    let one : Step (State (List ℕ) X) = step s c in
    only_if (eqb c.port 0) (record { answer = one.answer; held = one.state.port0; values = one.state.values }) (seen_from step one.state cs)

module _ (front : List ℕ → Verdict) (most_held room : ℕ) {Stored : Type 0} (tests : Stored → Tests) (handle : ℕ → Stored → Message → Outcome Stored) where
  -- The premise: handling a message of port 1 leaves the values as they were.
  abbrev pub ReadsOnly : Type 0
  ReadsOnly = (w : Stored) (m : Message) → (handle 1 w m).next ≡ w

  -- From two ports that hold nothing.
  abbrev pub seen : Stored → List Call → List (Seen Stored)
  seen w cs = seen_from (held_step front handle most_held room tests) (record { port0 = []; port1 = []; values = w }) cs

  -- Two lists with the same calls of port 0, and anything at all on port 1 (or on no port): port 0 sees the same. The silences need not
  -- be drained, and what is stored need not pass the tests. Proof: Interference `no_interference`.
  abbrev pub NoInterference : Type 0
  NoInterference = Cutting front most_held → ReadsOnly → (w : Stored) (cs cs' : List Call) → port_zero_calls cs ≡ port_zero_calls cs' → seen w cs ≡ seen w cs'
