-- Which lists and histories of calls are drained, and which streams have no marks: the proofs of `FeedsDrained`, `FedActsDrained`,
-- `BeginningDrained`, `UnmarkedScan` and `FeedsUnmarked`.
use mathlib.Core.Path.{◌≡◌, refl, sym, ◌∙◌}
use mathlib.Core.Bool.{Bool, true, false}
use mathlib.Core.Option.{Option, none, some}
use mathlib.Core.List.{List, [], ◌∷◌, ◌++◌}
use Prim.Native.Nat.{ℕ, zero, suc}
use lib.Dec.{ltb}
use Rattle.stream.specs.declared.Verdict.{Verdict}
use Rattle.stream.specs.Scan.{Message}
use Rattle.stream.proofs.Bools.{differ, and_both}
use Rattle.history.specs.Calls.{Input, fed, silent, Call, Step, run, refuse, State, Turn, port_of, settled, accept}
use Rattle.history.specs.Reckoning.{Outcome, Ledger, fresh, shortest, handle_next, used_up, reckon_on, reckon_feed, reckon_call, reckon_step, reckoning}
use Rattle.history.specs.Program.{Tests}
use Rattle.history.specs.Drained.{Undrained, no_silence, undrained_of, with_undrained, undrained_by, undrained_after, early, drained_from}
use Rattle.history.specs.Drained.{is_feed, only_feeds, FeedsDrained, BeginningDrained}
use Rattle.history.specs.Restarts.{call, restart, drained_acts, only_fed_acts, FedActsDrained}
use Rattle.history.specs.Theorems.{UnmarkedScan, FeedsUnmarked}
use Rattle.history.proofs.Driven.{unless_early_lem}

-- ---- Lists.

-- A feed is not early, and leaves it so, where no silence waits.
feed_not_early : (i : Input) (n : ℕ) → is_feed i ≡ true → early i n false ≡ false
feed_not_early (fed chunk) zero e = refl
feed_not_early (fed chunk) (suc zero) e = refl
feed_not_early (fed chunk) (suc (suc n)) e = refl
feed_not_early silent n e = refl

none-waits : (p : ℕ) → undrained_of p no_silence ≡ false
none-waits zero = refl
none-waits (suc p) = refl

feed_leaves : (p : ℕ) (i : Input) (n : ℕ) → is_feed i ≡ true → with_undrained p (undrained_by i n false) no_silence ≡ no_silence
feed_leaves zero (fed chunk) n e = refl
feed_leaves (suc p) (fed chunk) n e = refl
feed_leaves p silent n e = differ (sym e)

pub feeds_drained : FeedsDrained
unfolding drained_from
feeds_drained [] answers e = refl
feeds_drained (c ∷ cs) [] e = refl
feeds_drained (c ∷ cs) (a ∷ answers) e =
    let b = and_both (is_feed c.input) (only_feeds cs) e in
    rw (none-waits c.port, feed_not_early c.input a.number b.0, feed_leaves c.port c.input a.number b.0)
    (feeds_drained cs answers b.1)

pub fed_acts_drained : FedActsDrained
unfolding drained_acts
fed_acts_drained Profile [] answers e = refl
fed_acts_drained Profile (restart profile ∷ acts) answers e = fed_acts_drained Profile acts answers e
fed_acts_drained Profile (call c ∷ acts) [] e = refl
fed_acts_drained Profile (call c ∷ acts) (a ∷ answers) e =
    let b = and_both (is_feed c.input) (only_fed_acts acts) e in
    rw (none-waits c.port, feed_not_early c.input a.number b.0, feed_leaves c.port c.input a.number b.0)
    (fed_acts_drained Profile acts answers b.1)

beginning : {S : Type 0} (step : S → Call → Step S) (u : Undrained) (s : S) (cs ds : List Call)
    → drained_from u (cs ++ ds) (run step s (cs ++ ds)).answers ≡ true → drained_from u cs (run step s cs).answers ≡ true
unfolding run drained_from
beginning step u s [] ds d = refl
beginning step u s (c ∷ cs) ds d =
    let n : ℕ = (step s c).answer.number in
    let b =
    unless_early_lem (early c.input n (undrained_of c.port u))
    (drained_from (undrained_after c n u) (cs ++ ds) (run step (step s c).state (cs ++ ds)).answers) d in
    rw b.0 (beginning step (undrained_after c n u) (step s c).state cs ds b.1)

pub beginning_drained : BeginningDrained
beginning_drained S step s cs ds d = beginning step no_silence s cs ds d

-- ---- Streams without marks.

pub unmarked_scan : UnmarkedScan
unmarked_scan front u = refl

module _ (front : List ℕ → Verdict) {X : Type 0} (handle : ℕ → X → Message → Outcome X) where
  abbrev Unmarked : State Ledger X → Type 0
  Unmarked s = (p : ℕ) → (port_of p s).stream.segments ≡ []

  feed_unmarked : (p : ℕ) (l : Ledger) (v : X) (i : Input) → is_feed i ≡ true → (reckon_call front handle p l v i).port.stream.segments ≡ l.stream.segments
  unfolding reckon_feed handle_next used_up
  feed_unmarked p l v silent e = differ (sym e)
  feed_unmarked p l v (fed chunk) e = go (shortest front l chunk)
    where
      go : (o : Option ℕ) → (reckon_on front handle o p l v chunk).port.stream.segments ≡ l.stream.segments
      go (some j) = refl
      go none = refl

  settled_unmarked : (q : ℕ) (s : State Ledger X) (t : Turn Ledger X) → Unmarked s → t.port.stream.segments ≡ [] → Unmarked (settled q s t)
  settled_unmarked zero s t u e zero = e
  settled_unmarked zero s t u e (suc p) = u 1
  settled_unmarked (suc q) s t u e zero = u 0
  settled_unmarked (suc q) s t u e (suc p) = e

  step_unmarked : (room : ℕ) (s : State Ledger X) (c : Call) → is_feed c.input ≡ true → Unmarked s → Unmarked (reckon_step front handle room s c).state
  unfolding reckon_step
  step_unmarked room s c e u = go (ltb 1 c.port) (ltb c.room room)
    where
      turn : Turn Ledger X
      turn = reckon_call front handle c.port (port_of c.port s) s.values c.input

      go : (a b : Bool) → Unmarked (refuse a 16 s (refuse b 18 s (accept c.port s turn))).state
      go true b = u
      go false true = u
      go false false = settled_unmarked c.port s turn u (feed_unmarked c.port (port_of c.port s) s.values c.input e ∙ u c.port)

  run_unmarked : (room : ℕ) (s : State Ledger X) (cs : List Call) → only_feeds cs ≡ true → Unmarked s → Unmarked (run (reckon_step front handle room) s cs).final
  unfolding run
  run_unmarked room s [] e u = u
  run_unmarked room s (c ∷ cs) e u =
      let b = and_both (is_feed c.input) (only_feeds cs) e in
      run_unmarked room (reckon_step front handle room s c).state cs b.1 (step_unmarked room s c b.0 u)

module _ (front : List ℕ → Verdict) (most_held room : ℕ) {X W : Type 0} (L : X → W → Type 0)
    (reckoned : ℕ → X → Message → Outcome X) (tests : W → Tests) (handle : ℕ → W → Message → Outcome W) where
  pub feeds_unmarked : FeedsUnmarked front most_held room L reckoned tests handle
  unfolding reckoning
  feeds_unmarked p v cs e = run_unmarked front reckoned room (record { port0 = fresh; port1 = fresh; values = v }) cs e unmarked p
    where
      unmarked : Unmarked front reckoned (record { port0 = fresh; port1 = fresh; values = v })
      unmarked zero = refl
      unmarked (suc p) = refl
