-- The program and the plain reckoning give the same answers to every history of calls and restarts whose silences are drained: the proofs
-- of `RestartsMatch` and `RestartsDrainedAlike`.
use mathlib.Core.Path.{◌≡◌, sym}
use mathlib.Core.Bool.{true}
use mathlib.Core.List.{List, []}
use Prim.Native.Nat.{ℕ}
use Rattle.stream.specs.declared.Verdict.{Verdict}
use Rattle.stream.specs.Scan.{Message}
use Rattle.stream.specs.Cutting.{Cutting}
use Rattle.history.specs.Calls.{Call, Run, State}
use Rattle.history.specs.Drained.{Undrained, no_silence}
use Rattle.history.specs.Reckoning.{Outcome, Ledger, fresh, reckon_step}
use Rattle.history.specs.Program.{Tests, held_step}
use Rattle.history.specs.Restarts.{Act, started_on, held_history, reckoned_history, drained_history, HandlesIn, StartsAlike, RestartsMatch, RestartsDrainedAlike}
use Rattle.history.proofs.Driven.{Agreed, Related, history_related, history-drained}
use Rattle.history.proofs.Steps.{step_related, step_early}
use Rattle.history.proofs.Tracks.{Tracks, fresh_tracks, held_is}

module _ (front : List ℕ → Verdict) (most_held room : ℕ) {Profile X W : Type 0} (L : X → W → Type 0)
    (reckoned : Profile → ℕ → X → Message → Outcome X) (tests : W → Tests) (handle : Profile → ℕ → W → Message → Outcome W) (start_x : X → X) (start_w : W → W) where
  abbrev reckoned_from : Profile → X → List (Act Profile Call) → Run (State Ledger X)
  reckoned_from = reckoned_history front reckoned room start_x

  abbrev held_from : Profile → W → List (Act Profile Call) → Run (State (List ℕ) W)
  held_from = held_history front handle most_held room tests start_w

  module _ (C : Cutting front most_held) (H : HandlesIn front most_held room L reckoned tests handle start_x start_w) (again : StartsAlike front most_held room L reckoned tests handle start_x start_w) where
    abbrev Tied : Undrained → State Ledger X → State (List ℕ) W → Type 0
    Tied = Related (Tracks C) L

    started : (v : X) (w : W) → L v w → Tied no_silence (started_on fresh start_x v) (started_on [] start_w w)
    started v w r = record { port0 = fresh_tracks C; port1 = fresh_tracks C; values = again v w r }

    pub histories_agree : (profile : Profile) (v : X) (w : W) (acts : List (Act Profile Call)) → L v w → drained_history acts (reckoned_from profile v acts).answers ≡ true
        → Agreed Tied (reckoned_from profile v acts) (held_from profile w acts)
    unfolding held_history reckoned_history
    histories_agree profile v w acts lw d =
        history_related Tied (λ p. reckon_step front (reckoned p) room) (λ p. held_step front (handle p) most_held room tests)
        (λ s. started_on fresh start_x s.values) (λ s. started_on [] start_w s.values)
        (λ p. step_related C (H p) room) (λ u s t r. started s.values t.values r.values)
        profile no_silence (started_on fresh start_x v) (started_on [] start_w w) acts (started v w lw) d

    histories_drained : (profile : Profile) (v : X) (w : W) (acts : List (Act Profile Call)) → L v w
        → drained_history acts (held_from profile w acts).answers ≡ drained_history acts (reckoned_from profile v acts).answers
    unfolding held_history reckoned_history
    histories_drained profile v w acts lw =
        history-drained Tied (λ p. reckon_step front (reckoned p) room) (λ p. held_step front (handle p) most_held room tests)
        (λ s. started_on fresh start_x s.values) (λ s. started_on [] start_w s.values)
        (λ p. step_related C (H p) room) (λ u s t r. started s.values t.values r.values) (λ p. step_early C (H p) room)
        profile no_silence (started_on fresh start_x v) (started_on [] start_w w) acts (started v w lw)

  pub restarts_match : RestartsMatch front most_held room L reckoned tests handle start_x start_w
  restarts_match C H again profile v w acts lw d =
      let q : Run (State Ledger X) = reckoned_from profile v acts in
      let b : Run (State (List ℕ) W) = held_from profile w acts in
      let same : Agreed (Related (Tracks C) L) q b = histories_agree C H again profile v w acts lw d in
      record {
        answers = sym same.answers;
        values = same.final.values;
        held0 = sym (held_is C q.final.port0 b.final.port0 same.final.port0);
        held1 = sym (held_is C q.final.port1 b.final.port1 same.final.port1);
      }

  pub restarts_drained_alike : RestartsDrainedAlike front most_held room L reckoned tests handle start_x start_w
  restarts_drained_alike C H again profile v w acts lw = histories_drained C H again profile v w acts lw
