-- Two steps that keep their states related, and answer alike, do so over every history of calls and restarts whose silences are drained.
use mathlib.Core.Path.{◌≡◌, refl, sym, ap}
use mathlib.Core.Bool.{Bool, true, false}
use mathlib.Core.List.{List, [], ◌∷◌}
use Prim.Native.Nat.{ℕ, zero, suc}
use Rattle.stream.proofs.Bools.{differ}
use Rattle.history.specs.Calls.{Input, fed, silent, Call, Answer, Step, Run, run, State, Turn, port_of, settled}
use Rattle.history.specs.Drained.{Undrained, no_silence, undrained_of, with_undrained, undrained_by, undrained_after, early, unless_early, drained_from}
use Rattle.history.specs.Restarts.{Act, call, restart, history_from, drained_acts, calls, WithoutRestarts, DrainedWithoutRestarts}

-- A list that is drained begins with a call that is not early, and goes on drained.
pub unless_early_lem : (e rest : Bool) → unless_early e rest ≡ true → (e ≡ false) × (rest ≡ true)
unless_early_lem true rest h = differ (sym h)
unless_early_lem false rest h = (refl, h)

-- A refusal changes nothing.
pub undrained_kept : (p : ℕ) (i : Input) (n : ℕ) (u : Undrained) → with_undrained p (undrained_by i (suc (suc n)) (undrained_of p u)) u ≡ u
undrained_kept zero (fed chunk) n u = refl
undrained_kept zero silent n u = refl
undrained_kept (suc p) (fed chunk) n u = refl
undrained_kept (suc p) silent n u = refl

-- ---- A history without a restart is a list of calls.

pub without_restarts : WithoutRestarts
unfolding history_from run
without_restarts Profile S step restarted profile s [] = refl
without_restarts Profile S step restarted profile s (c ∷ cs) =
    ap (λ (r : Run S). record { answers = (step profile s c).answer ∷ r.answers; final = r.final })
    (without_restarts Profile S step restarted profile (step profile s c).state cs)

drained_acts_lem : (Profile : Type 0) (u : Undrained) (cs : List Call) (answers : List Answer) → drained_acts {Profile = Profile} u (calls cs) answers ≡ drained_from u cs answers
unfolding drained_acts drained_from
drained_acts_lem Profile u [] answers = refl
drained_acts_lem Profile u (c ∷ cs) [] = refl
drained_acts_lem Profile u (c ∷ cs) (a ∷ answers) =
    ap (unless_early (early c.input a.number (undrained_of c.port u))) (drained_acts_lem Profile (undrained_after c a.number u) cs answers)

pub drained_without_restarts : DrainedWithoutRestarts
drained_without_restarts Profile cs answers = drained_acts_lem Profile no_silence cs answers

-- ---- R relates two states after a history; what its silences left undrained counts.
module _ {S T : Type 0} (R : Undrained → S → T → Type 0) where
  pub record Stepped (u : Undrained) (s : Step S) (t : Step T) : Type 0 where
    pub answer : s.answer ≡ t.answer
    pub state : R u s.state t.state

  pub record Agreed (s : Run S) (t : Run T) : Type 0 where
    pub answers : s.answers ≡ t.answers
    pub left : Undrained
    pub final : R left s.final t.final

  module _ {Profile : Type 0} (f : Profile → S → Call → Step S) (g : Profile → T → Call → Step T) (a : S → S) (b : T → T)
      (same : (p : Profile) (u : Undrained) (s : S) (t : T) (c : Call) → R u s t → early c.input (f p s c).answer.number (undrained_of c.port u) ≡ false
      → Stepped (undrained_after c (f p s c).answer.number u) (f p s c) (g p t c))
      (again : (u : Undrained) (s : S) (t : T) → R u s t → R no_silence (a s) (b t)) where
    pub history_related : (p : Profile) (u : Undrained) (s : S) (t : T) (acts : List (Act Profile Call)) → R u s t → drained_acts u acts (history_from f a p s acts).answers ≡ true
        → Agreed (history_from f a p s acts) (history_from g b p t acts)
    unfolding history_from drained_acts
    history_related p u s t [] r d = record { answers = refl; left = u; final = r }
    history_related p u s t (restart q ∷ acts) r d = history_related q no_silence (a s) (b t) acts (again u s t r) d
    history_related p u s t (call c ∷ acts) r d =
        let n : ℕ = (f p s c).answer.number in
        let h =
        unless_early_lem (early c.input n (undrained_of c.port u)) (drained_acts (undrained_after c n u) acts (history_from f a p (f p s c).state acts).answers) d in
        let one : Stepped (undrained_after c n u) (f p s c) (g p t c) = same p u s t c r h.0 in
        let rest = history_related p (undrained_after c n u) (f p s c).state (g p t c).state acts one.state h.1 in
        record { answers = cc (one.answer, rest.answers); left = rest.left; final = rest.final }

    -- Where both also take a feed early at the same time, the answers of either tell whether a history is drained.
    pub history-drained : ((p : Profile) (u : Undrained) (s : S) (t : T) (c : Call) → R u s t
        → early c.input (g p t c).answer.number (undrained_of c.port u) ≡ early c.input (f p s c).answer.number (undrained_of c.port u))
        → (p : Profile) (u : Undrained) (s : S) (t : T) (acts : List (Act Profile Call)) → R u s t
        → drained_acts u acts (history_from g b p t acts).answers ≡ drained_acts u acts (history_from f a p s acts).answers
    unfolding history_from drained_acts
    history-drained both p u s t [] r = refl
    history-drained both p u s t (restart q ∷ acts) r = history-drained both q no_silence (a s) (b t) acts (again u s t r)
    history-drained both p u s t (call c ∷ acts) r =
        go (early c.input (f p s c).answer.number (undrained_of c.port u)) refl
        (λ (one : Stepped (undrained_after c (f p s c).answer.number u) (f p s c) (g p t c)).
        history-drained both p (undrained_after c (f p s c).answer.number u) (f p s c).state (g p t c).state acts one.state)
      where
        go : (e : Bool) → early c.input (f p s c).answer.number (undrained_of c.port u) ≡ e
            → (Stepped (undrained_after c (f p s c).answer.number u) (f p s c) (g p t c)
            → drained_acts (undrained_after c (f p s c).answer.number u) acts (history_from g b p (g p t c).state acts).answers
            ≡ drained_acts (undrained_after c (f p s c).answer.number u) acts (history_from f a p (f p s c).state acts).answers)
            → unless_early (early c.input (g p t c).answer.number (undrained_of c.port u))
            (drained_acts (undrained_after c (g p t c).answer.number u) acts (history_from g b p (g p t c).state acts).answers)
            ≡ unless_early (early c.input (f p s c).answer.number (undrained_of c.port u))
            (drained_acts (undrained_after c (f p s c).answer.number u) acts (history_from f a p (f p s c).state acts).answers)
        go true e ih = rw (both p u s t c r, e)
        go false e ih =
            let one : Stepped (undrained_after c (f p s c).answer.number u) (f p s c) (g p t c) = same p u s t c r e in
            let n : (f p s c).answer.number ≡ (g p t c).answer.number = cc one.answer in
            rw (both p u s t c r, e, ← n) (ih one)

-- ---- Two ports: R relates what is kept of a port, L the values.
module _ {A B X W : Type 0} (R : Bool → A → B → Type 0) (L : X → W → Type 0) where
  pub record Alike (undrained : Bool) (t : Turn A X) (u : Turn B W) : Type 0 where
    pub answer : t.answer ≡ u.answer
    pub port : R undrained t.port u.port
    pub values : L t.values u.values

  pub record Related (u : Undrained) (s : State A X) (t : State B W) : Type 0 where
    pub port0 : R u.port0 s.port0 t.port0
    pub port1 : R u.port1 s.port1 t.port1
    pub values : L s.values t.values

  pub port_related : (p : ℕ) (u : Undrained) (s : State A X) (t : State B W) → Related u s t → R (undrained_of p u) (port_of p s) (port_of p t)
  port_related zero u s t r = r.port0
  port_related (suc p) u s t r = r.port1

  pub settled_related : (p : ℕ) (b : Bool) (u : Undrained) (s : State A X) (t : State B W) (x : Turn A X) (y : Turn B W) → Related u s t → Alike b x y
      → Related (with_undrained p b u) (settled p s x) (settled p t y)
  settled_related zero b u s t x y r h = record { port0 = h.port; port1 = r.port1; values = h.values }
  settled_related (suc p) b u s t x y r h = record { port0 = r.port0; port1 = h.port; values = h.values }
