-- The program and the plain reckoning give the same answers to every list of calls whose silences are drained: the proofs of `Demand3` and
-- `DrainedAlike`. A list of calls is a history without restarts (Restarts).
use mathlib.Core.Path.{◌≡◌, refl, sym, ◌∙◌}
use mathlib.Core.Bool.{true}
use mathlib.Core.List.{List, []}
use Prim.Native.Nat.{ℕ}
use Rattle.stream.specs.declared.Verdict.{Verdict}
use Rattle.stream.specs.Scan.{Message}
use Rattle.stream.specs.Cutting.{Cutting}
use Rattle.history.specs.Calls.{Call, State}
use Rattle.history.specs.Drained.{drained}
use Rattle.history.specs.Reckoning.{Outcome, Ledger, fresh, reckon_step, reckoning}
use Rattle.history.specs.Program.{Tests, passing, held_step, held_program}
use Rattle.history.specs.Premises.{Handles}
use Rattle.history.specs.Theorems.{Demand3, FeedsDemand3, DrainedAlike}
use Rattle.history.specs.Restarts.{started_on, held_history, reckoned_history, drained_history, calls}
use Rattle.history.proofs.Driven.{Agreed, Related, without_restarts, drained_without_restarts}
use Rattle.history.proofs.Restarts.{histories_agree, restarts_match, restarts_drained_alike}
use Rattle.history.proofs.Silences.{feeds_drained}
use Rattle.history.proofs.Tracks.{Tracks}

module _ (front : List ℕ → Verdict) (most_held room : ℕ) {X W : Type 0} (L : X → W → Type 0)
    (reckoned : ℕ → X → Message → Outcome X) (tests : W → Tests) (handle : ℕ → W → Message → Outcome W) where
  -- There is no start but the first, which leaves what is kept as it is.
  list_reckoned : (v : X) (cs : List Call) → reckoned_history front (λ (u : Unit {0}). reckoned) room (λ v. v) tt v (calls cs) ≡ reckoning front reckoned room v cs
  unfolding reckoned_history reckoning
  list_reckoned v cs =
      without_restarts (Unit {0}) (State Ledger X) (λ u. reckon_step front reckoned room) (λ s. started_on fresh (λ v. v) s.values) tt
      (record { port0 = fresh; port1 = fresh; values = v }) cs

  list_held : (w : W) (cs : List Call) → held_history front (λ (u : Unit {0}). handle) most_held room tests (λ w. w) tt w (calls cs) ≡ held_program front handle most_held room tests w cs
  unfolding held_history held_program
  list_held w cs =
      without_restarts (Unit {0}) (State (List ℕ) W) (λ u. held_step front handle most_held room tests) (λ s. started_on [] (λ w. w) s.values) tt
      (record { port0 = []; port1 = []; values = w }) cs

  list_drained : (v : X) (cs : List Call)
      → drained_history {Profile = Unit {0}} (calls cs) (reckoned_history front (λ (u : Unit {0}). reckoned) room (λ v. v) tt v (calls cs)).answers ≡ drained cs (reckoning front reckoned room v cs).answers
  list_drained v cs = rw (list_reckoned v cs) (drained_without_restarts (Unit {0}) cs (reckoning front reckoned room v cs).answers)

  pub runs_agree : (C : Cutting front most_held) → Handles L reckoned tests handle → (v : X) (w : W) (cs : List Call) → L v w
      → drained cs (reckoning front reckoned room v cs).answers ≡ true
      → Agreed (Related (Tracks C) L) (reckoning front reckoned room v cs) (held_program front handle most_held room tests w cs)
  runs_agree C H v w cs lw d =
      rw (list_reckoned v cs, list_held w cs)
      at (histories_agree front most_held room L (λ (u : Unit {0}). reckoned) tests (λ u. handle) (λ v. v) (λ w. w) C (λ u. H) (λ v w r. r) tt v w (calls cs) lw (list_drained v cs ∙ d))

  pub demand3 : Demand3 front most_held room L reckoned tests handle
  demand3 C H v w cs lw d =
      rw (list_reckoned v cs, list_held w cs)
      at (restarts_match front most_held room L (λ (u : Unit {0}). reckoned) tests (λ u. handle) (λ v. v) (λ w. w) C (λ u. H) (λ v w r. r) tt v w (calls cs) lw (list_drained v cs ∙ d))

  pub feeds_demand3 : FeedsDemand3 front most_held room L reckoned tests handle
  feeds_demand3 C H v w cs lw e = demand3 C H v w cs lw (feeds_drained cs (reckoning front reckoned room v cs).answers e)

  pub drained_alike : DrainedAlike front most_held room L reckoned tests handle
  drained_alike C H v w cs lw =
      let same = restarts_drained_alike front most_held room L (λ (u : Unit {0}). reckoned) tests (λ u. handle) (λ v. v) (λ w. w) C (λ u. H) (λ v w r. r) tt v w (calls cs) lw in
      let told : drained_history {Profile = Unit {0}} (calls cs) (held_history front (λ (u : Unit {0}). handle) most_held room tests (λ w. w) tt w (calls cs)).answers
      ≡ drained cs (held_program front handle most_held room tests w cs).answers =
      rw (list_held w cs) (drained_without_restarts (Unit {0}) cs (held_program front handle most_held room tests w cs).answers) in
      sym told ∙ same ∙ list_drained v cs

-- The premises can be met: the same values on both sides, and a program that tests nothing of them.
pub handles_same : {W : Type 0} (handle : ℕ → W → Message → Outcome W) → Handles ◌≡◌ handle (λ w. passing) handle
handles_same handle =
    record {
      passes = λ v w e. refl;
      handled = λ p v w m e. record { reply = cc; saved = cc; next = cc };
    }
