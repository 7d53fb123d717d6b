-- What holds of every list of calls, its silences drained or not: the statements.
use Rattle.std.specs.Prelude.{◌≡◌, Bool, true, ◌&&◌, ◌||◌, List, [], ◌∷◌, ℕ, ◌≤◌, eqb, length}
use Rattle.stream.specs.declared.Verdict.{Verdict}
use Rattle.stream.specs.Scan.{Message}
use Rattle.stream.specs.Cutting.{Cutting}
use Rattle.history.specs.Calls.{Call, Answer, Run, State, port_of}
use Rattle.history.specs.Reckoning.{Outcome}
use Rattle.history.specs.Program.{Tests, held_program}
use Rattle.history.specs.Ports.{PortHistory, unfed, history_of, PortSum}

-- The numbers of calls but 17, 19 and 20.
abbrev pub run_number : ℕ → Bool
run_number n = eqb n 0 || eqb n 1 || eqb n 16 || eqb n 18

abbrev pub run_numbers : List Answer → Bool
run_numbers [] = true
run_numbers (a ∷ answers) = run_number a.number && run_numbers answers

-- Of a run of the program, a list of calls or a history with restarts (`RestartsStaySound`): no call met 17, 19 or 20, no port holds more
-- than `most_held` bytes, and what is stored still stands for some values.
pub record Sound (most_held : ℕ) {Values Stored : Type 0} (StoredAs : Values → Stored → Type 0) (r : Run (State (List ℕ) Stored)) : Type 0 where
  pub numbers : run_numbers r.answers ≡ true
  pub few : (p : ℕ) → length (port_of p r.final) ≤ most_held
  pub values : Values
  pub stored : StoredAs values r.final.values

-- ---- Over any framing whose cutting is harmless and any handling. `room` is the least length of a room.

module _ (front : List ℕ → Verdict) (most_held room : ℕ) {Stored : Type 0} (tests : Stored → Tests) (handle : ℕ → Stored → Message → Outcome Stored) where
  -- The history of port p, by the program's answers.
  abbrev pub history : ℕ → Stored → List Call → PortHistory
  history p w cs = history_of p unfed cs (held_program front handle most_held room tests w cs).answers

  -- What port p holds at the end.
  abbrev pub held : ℕ → Stored → List Call → List ℕ
  held p w cs = port_of p (held_program front handle most_held room tests w cs).final

  -- No port ever holds more than `most_held` bytes. Proof: Sums `held_few`.
  abbrev pub HeldFew : Type 0
  HeldFew = Cutting front most_held → (p : ℕ) (w : Stored) (cs : List Call) → length (held p w cs) ≤ most_held

  -- The sum law, by the program's answers. Proof: Sums `port_sums`.
  abbrev pub PortSums : Type 0
  PortSums = Cutting front most_held → (p : ℕ) (w : Stored) (cs : List Call) → p ≤ 1 → PortSum most_held (history p w cs) (held p w cs)
