-- No history of calls and restarts, its silences drained or not, meets 17, 19 or 20: the proof of `RestartsStaySound`.
use mathlib.Core.Path.{◌≡◌, refl}
use mathlib.Core.Bool.{Bool, true, false, ◌||◌}
use mathlib.Core.List.{List, [], ◌∷◌, ◌++◌}
use Prim.Native.Nat.{ℕ, zero, suc, ◌+◌, ◌-◌, ◌≤◌}
use native.Mathlib.Omega.{arith}
use borrow.Author.Tests.{le-ltb}
use lib.Dec.{ltb}
use lib.ListN.{length, take, drop, length-append}
use lib.Seq.{length-take-le}
use Rattle.stream.specs.declared.Verdict.{Verdict}
use Rattle.stream.specs.declared.Sought.{Sought}
use Rattle.stream.specs.declared.Sought.TheVariants.{Starved, Found}
use Rattle.stream.specs.Scan.{Message, message_at}
use Rattle.stream.specs.Cutting.{Sized, Cutting}
use Rattle.history.specs.Calls.{Input, chunk_of, Call, Step, refuse, State, Turn, port_of, settled, accept}
use Rattle.history.specs.Reckoning.{Outcome}
use Rattle.history.specs.Program.{Tests, sought_by, held_on, held_call, held_step}
use Rattle.history.specs.Premises.{Handles}
use Rattle.history.specs.EveryList.{run_number, Sound}
use Rattle.history.specs.Restarts.{Act, call, restart, history_from, started_on, held_history, HandlesIn, RestartsStaySound}
use Rattle.history.proofs.Soughts.{call_sized, call_starved}
use Rattle.history.proofs.Tracks.{fits_after}

module _ {X W : Type 0} (most_held : ℕ) (L : X → W → Type 0) where
  record Fine (s : State (List ℕ) W) : Type 0 where
    few0 : length s.port0 ≤ most_held
    few1 : length s.port1 ≤ most_held
    values : X
    stored : L values s.values

  pub record FineTurn (t : Turn (List ℕ) W) : Type 0 where
    number : run_number t.answer.number ≡ true
    pub few : length t.port ≤ most_held
    values : X
    stored : L values t.values

  record FineStep (t : Step (State (List ℕ) W)) : Type 0 where
    number : run_number t.answer.number ≡ true
    state : Fine t.state

module _ {front : List ℕ → Verdict} {most_held : ℕ} (C : Cutting front most_held) {X W : Type 0} {L : X → W → Type 0}
    {reckoned : ℕ → X → Message → Outcome X} {tests : W → Tests} {handle : ℕ → W → Message → Outcome W}
    (H : Handles L reckoned tests handle) where
  found_fine : (p : ℕ) (h : List ℕ) (v : X) (w : W) (chunk : List ℕ) (k n : ℕ) (good : Bool) → length h ≤ most_held → L v w
      → Sized most_held (h ++ chunk) k n → FineTurn most_held L (held_on front handle (Found k n good) p h w chunk)
  unfolding held_on
  found_fine p h v w chunk k n good few lw s =
      let j : ℕ = k + n - length h in
      let part : List ℕ = take j chunk in
      let m : Message = message_at n good (drop k (h ++ part)) in
      let len : length part ≡ j = length-take-le j chunk (omega (arith, length-append h chunk)) in
      let size : Sized most_held (h ++ part) k n =
      record { some = s.some; most = s.most; inside = omega (arith, length-append h part) } in
      record {
        number = refl;
        few = (fits_after C h part k n good size len few).1;
        values = (reckoned p v m).next;
        stored = (H.handled p v w m lw).next;
      }

  starved_fine : (p : ℕ) (h : List ℕ) (v : X) (w : W) (chunk : List ℕ) (k : ℕ) → L v w → length (drop k (h ++ chunk)) ≤ most_held
      → FineTurn most_held L (held_on front handle (Starved k) p h w chunk)
  unfolding held_on
  starved_fine p h v w chunk k lw few = record { number = refl; few = few; values = v; stored = lw }

  pub call_fine : (p : ℕ) (h : List ℕ) (v : X) (w : W) (i : Input) → length h ≤ most_held → L v w → FineTurn most_held L (held_call front handle p h w i)
  unfolding held_call
  call_fine p h v w i few lw = go (sought_by front i h) refl
    where
      go : (q : Sought) → sought_by front i h ≡ q → FineTurn most_held L (held_on front handle q p h w (chunk_of i))
      go (Found k n good) e = found_fine p h v w (chunk_of i) k n good few lw (call_sized C h i k n good e)
      go (Starved k) e = starved_fine p h v w (chunk_of i) k lw (call_starved C h i k few e).few

  port_few : (p : ℕ) (s : State (List ℕ) W) → Fine most_held L s → length (port_of p s) ≤ most_held
  port_few zero s r = r.few0
  port_few (suc p) s r = r.few1

  settled_fine : (p : ℕ) (s : State (List ℕ) W) (t : Turn (List ℕ) W) → Fine most_held L s → FineTurn most_held L t → Fine most_held L (settled p s t)
  settled_fine zero s t r h = record { few0 = h.few; few1 = r.few1; values = h.values; stored = h.stored }
  settled_fine (suc p) s t r h = record { few0 = r.few0; few1 = h.few; values = h.values; stored = h.stored }

  -- Its five tests come out so.
  step_fine : (room : ℕ) (s : State (List ℕ) W) (c : Call) → Fine most_held L s → FineStep most_held L (held_step front handle most_held room tests s c)
  unfolding held_step
  step_fine room s c r =
      let fit : ltb most_held (length s.port0) || ltb most_held (length s.port1) || (tests s.values).unusable ≡ false =
      cc (
        le-ltb most_held (length s.port0) r.few0,
        le-ltb most_held (length s.port1) r.few1,
        H.passes r.values s.values r.stored,
      ) in
      rw (fit, H.passes r.values s.values r.stored) (go (ltb 1 c.port) (ltb c.room room))
    where
      p : ℕ
      p = c.port

      y : Turn (List ℕ) W
      y = held_call front handle p (port_of p s) s.values c.input

      go : (a b : Bool) → FineStep most_held L (refuse a 16 s (refuse b 18 s (accept p s y)))
      go true b = record { number = refl; state = r }
      go false true = record { number = refl; state = r }
      go false false =
          let h : FineTurn most_held L y = call_fine p (port_of p s) r.values s.values c.input (port_few p s r) r.stored in
          record { number = h.number; state = settled_fine p s y r h }

module _ (front : List ℕ → Verdict) (most_held room : ℕ) {Profile X W : Type 0} (L : X → W → Type 0)
    (reckoned : Profile → ℕ → X → Message → Outcome X) (tests : W → Tests) (handle : Profile → ℕ → W → Message → Outcome W)
    (start_x : X → X) (start_w : W → W) where
  module _ (C : Cutting front most_held) (H : HandlesIn front most_held room L reckoned tests handle start_x start_w) where
    history_fine : (restarted : State (List ℕ) W → State (List ℕ) W) → ((s : State (List ℕ) W) → Fine most_held L s → Fine most_held L (restarted s))
        → (profile : Profile) (s : State (List ℕ) W) (acts : List (Act Profile Call)) → Fine most_held L s
        → Sound most_held L (history_from (λ p. held_step front (handle p) most_held room tests) restarted profile s acts)
    unfolding history_from
    history_fine restarted again profile s [] r =
        record { numbers = refl; few = λ p. port_few C (H profile) p s r; values = r.values; stored = r.stored }
    history_fine restarted again profile s (restart next ∷ acts) r = history_fine restarted again next (restarted s) acts (again s r)
    history_fine restarted again profile s (call c ∷ acts) r =
        let one : FineStep most_held L (held_step front (handle profile) most_held room tests s c) = step_fine C (H profile) room s c r in
        let rest = history_fine restarted again profile (held_step front (handle profile) most_held room tests s c).state acts one.state in
        record { numbers = cc (one.number, rest.numbers); few = rest.few; values = rest.values; stored = rest.stored }

  pub restarts_stay_sound : RestartsStaySound front most_held room L reckoned tests handle start_x start_w
  unfolding held_history
  restarts_stay_sound C H again profile v w acts lw =
      history_fine C H (λ s. started_on [] start_w s.values) (λ s r. started r.values s.values r.stored) profile (started_on [] start_w w) acts
      (started v w lw)
    where
      started : (v : X) (w : W) → L v w → Fine most_held L (started_on [] start_w w)
      started v w r = record { few0 = omega arith; few1 = omega arith; values = start_x v; stored = again v w r }
