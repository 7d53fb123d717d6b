-- The totals in the board: they are a driver's record, the counts from the history, and those of the plain reckoning.
use mathlib.Core.Bool.{Bool, true, false}
use mathlib.Core.List.{List, [], ◌∷◌}
use mathlib.Core.Path.{◌≡◌, refl, sym, ap, subst, ◌∙◌}
use Prim.Native.Nat.{ℕ, zero, suc, ◌+◌, ◌≤◌, ◌<◌}
use native.Mathlib.Omega.{arith}
use borrow.Author.Tests.{eq-eqb, eqb-true}
use lib.Dec.{eqb}
use lib.ListN.{length}
use Rattle.history.specs.Calls.{Input, Answer, Step, Run, State}
use Rattle.history.specs.Calls.{Call as CallOf, port_of as kept_port}
use Rattle.history.specs.Drained.{Undrained, no_silence, undrained_of, undrained_after, early}
use Rattle.history.specs.Program.{held_step, sought_by}
use Rattle.history.specs.Reckoning.{Ledger, fresh, reckon_step}
use Rattle.history.specs.Restarts.{Act, call, restart, history_from, started_on, drained_acts}
use Rattle.history.proofs.Driven.{unless_early_lem, Related}
use Rattle.history.proofs.Steps.{step_related}
use Rattle.history.proofs.Tracks.{Tracks, fresh_tracks}
use Rattle.message.specs.Front.{front}
use Rattle.message.proofs.Framed.{cutting_harmless}
use Rattle.totals.specs.declared.Tally.{Tally}
use Rattle.totals.specs.Tally.{largest, stopped, zero_tally, good_bytes}
use Rattle.totals.specs.Counts.{Counts, no_counts, times, totals_of, counts_after, counts_in}
use Rattle.totals.proofs.Counted.{times_other, counted_is}
use Rattle.totals.proofs.Reckoned.{counted_if, step_counts}
use Rattle.totals.proofs.Sums.{counted_none}
use Rattle.command.specs.Outcome.{error_in}
use Rattle.command.specs.Answer.{reply_room}
use Rattle.board.specs.Profile.{Profile, rights_of}
use Rattle.board.specs.declared.board.Board.{Board}
use Rattle.board.specs.declared.port.Port.{Port}
use Rattle.board.specs.Port.{held_bytes, port_holding, port_of, tally_at}
use Rattle.board.specs.Start.{start_of}
use Rattle.board.specs.Feed.{Feeding, PortStep, feed_number, refused_feeding, step_by, feed_on, accept_on, call_of}
use Rattle.board.specs.Handling.{Reckoned, Kept, reckon_message, handle_message, kept_tests, StoredAs}
use Rattle.board.specs.Runs.{Call, call_from, Told, reply_in}
use Rattle.board.specs.AnyBoard.{good_length}
use Rattle.board.specs.Histories.{feeding_of, acts_from}
use Rattle.board.specs.Restarts.{told_acts, start_anew}
use Rattle.board.specs.Totals.{counts_by, counts_from, CountsHistories, record_by, record_from, RecordEquals, RecordFromStart}
use Rattle.board.proofs.Begins.{start_fresh, start_padded, start_state, starts_alike}
use Rattle.board.proofs.Feedings.{passed, by_number, calls_keep}
use Rattle.board.proofs.Follows.{start_profile}
use Rattle.board.proofs.Handles.{handles}
use Rattle.board.proofs.Steps.{state_of, Padded, count_is, Same, step_same}

-- ---- the driver's record

refused_record : (this : Bool) (p : ℕ) (b : Board) (n : ℕ) (room page : List ℕ) → 1 < n
    → record_by this p b (refused_feeding n b room page) (tally_at p b) ≡ tally_at p b
refused_record false p b n room page h = refl
refused_record true p b n room page h = sym (counted_none (tally_at p b) n 0 0 (good_bytes 0 0 (port_of p b).held (port_of p b).held) 0 h)

accepted_record : (p q : ℕ) (b : Board) (s : PortStep) → p ≤ 1 → q ≤ 1 → record_by (eqb q p) p b (feed_on s q b) (tally_at p b) ≡ tally_at p (feed_on s q b).answer.board
unfolding port_holding
accepted_record zero zero b s hp hq = refl
accepted_record zero (suc zero) b s hp hq = refl
accepted_record zero (suc (suc q)) b s hp hq = absurd (omega arith)
accepted_record (suc zero) zero b s hp hq = refl
accepted_record (suc zero) (suc zero) b s hp hq = refl
accepted_record (suc zero) (suc (suc q)) b s hp hq = absurd (omega arith)
accepted_record (suc (suc p)) q b s hp hq = absurd (omega arith)

pub call_record : (p q : ℕ) (b : Board) (i : Input) (room page : List ℕ) → p ≤ 1
    → record_by (eqb q p) p b (call_of q b i room page) (tally_at p b) ≡ tally_at p (call_of q b i room page).answer.board
unfolding call_of
call_record p q b i room page hp = go (feed_number q b.first.held b.second.held b.settings room page) refl
  where
    go : (n : ℕ) → feed_number q b.first.held b.second.held b.settings room page ≡ n
        → record_by (eqb q p) p b (accept_on n q b i room page) (tally_at p b) ≡ tally_at p (accept_on n q b i room page).answer.board
    go zero e = accepted_record p q b _ hp (passed q b room page e).few_ports
    go (suc n) e = refused_record (eqb q p) p b (suc n) room page (by_number q b i room page (suc n) e (λ z. (let no : ⊥ = omega (arith, z) in absurd no)))

start_zero : (p : ℕ) (profile : Profile) (page : List ℕ) → tally_at p (start_of profile page).board ≡ zero_tally
start_zero zero profile page = ap (λ (b : Board). b.tally0) (start_fresh profile page)
start_zero (suc p) profile page = ap (λ (b : Board). b.tally1) (start_fresh profile page)

pub record_equals : RecordEquals
unfolding acts_from record_from
record_equals p b page [] hp = refl
record_equals p b page (call c ∷ acts) hp =
    let f : Feeding = feeding_of b page c in
    ap (λ (t : Tally). record_from p t f.answer.board f.page acts) (call_record p c.port b c.input c.room page hp)
    ∙ record_equals p f.answer.board f.page acts hp
record_equals p b page (restart profile ∷ acts) hp =
    ap (λ (t : Tally). record_from p t (start_of profile page).board page acts) (sym (start_zero p profile page))
    ∙ record_equals p (start_of profile page).board page acts hp

pub record_from_start : RecordFromStart
record_from_start p profile page acts hp =
    ap (λ (t : Tally). record_from p t (start_of profile page).board page acts) (sym (start_zero p profile page)) ∙ record_equals p (start_of profile page).board page acts hp

-- ---- the counts from the history

-- A port that a call does not name is left alone.
accepted_other : (p q : ℕ) (b : Board) (s : PortStep) → p ≤ 1 → q ≤ 1 → eqb q p ≡ false → port_of p (feed_on s q b).answer.board ≡ port_of p b
accepted_other zero zero b s hp hq e = absurd (let z : ◌≡◌ {A = ℕ} 0 1 = cc in omega (arith, z))
accepted_other zero (suc zero) b s hp hq e = refl
accepted_other zero (suc (suc q)) b s hp hq e = absurd (omega arith)
accepted_other (suc zero) zero b s hp hq e = refl
accepted_other (suc zero) (suc zero) b s hp hq e = absurd (let z : ◌≡◌ {A = ℕ} 0 1 = cc in omega (arith, z))
accepted_other (suc zero) (suc (suc q)) b s hp hq e = absurd (omega arith)
accepted_other (suc (suc p)) q b s hp hq e = absurd (omega arith)

pub call_other : (p q : ℕ) (b : Board) (i : Input) (room page : List ℕ) → p ≤ 1 → eqb q p ≡ false → port_of p (call_of q b i room page).answer.board ≡ port_of p b
unfolding call_of
call_other p q b i room page hp e = go (feed_number q b.first.held b.second.held b.settings room page) refl
  where
    go : (n : ℕ) → feed_number q b.first.held b.second.held b.settings room page ≡ n → port_of p (accept_on n q b i room page).answer.board ≡ port_of p b
    go zero z = accepted_other p q b (step_by (rights_of b.readonly q) (held_bytes (port_of q b)) b.settings i room page) hp (passed q b room page z).few_ports e
    go (suc n) z = refl

pub held_count : (p : ℕ) (b : Board) → Padded b → (port_of p b).held ≡ length (held_bytes (port_of p b))
held_count zero b k = count_is b.first k.first
held_count (suc p) b k = count_is b.second k.second

-- How the counts go on adding up with a call, and that its error is known.
adds_after : (k taken skipped good error before after : ℕ) (n : Counts) → n.taken ≡ n.good + n.skipped + before
    → (k ≤ 1 → before + taken ≡ good + skipped + after) → (1 < k → after ≡ before)
    → (counts_after k taken skipped good error n).taken ≡ (counts_after k taken skipped good error n).good + (counts_after k taken skipped good error n).skipped + after
adds_after zero taken skipped good error before after n s a r = omega (arith, a (omega arith))
adds_after (suc zero) taken skipped good error before after n s a r = omega (arith, a (omega arith))
adds_after (suc (suc k)) taken skipped good error before after n s a r = omega (arith, r (omega arith))

known_after : (k taken skipped good error : ℕ) (n : Counts) (e : ℕ) → 7 < e → times e n.errors ≡ 0 → (k ≡ 0 → error ≤ 7)
    → times e (counts_after k taken skipped good error n).errors ≡ 0
known_after zero taken skipped good error n e h z l = times_other e error n.errors (λ q. absurd (omega (arith, l refl, q))) ∙ z
known_after (suc zero) taken skipped good error n e h z l = z
known_after (suc (suc k)) taken skipped good error n e h z l = z

-- The totals of port p of a board against its counts.
record Counting (p : ℕ) (b : Board) (n : Counts) : Type 0 where
  totals : tally_at p b ≡ totals_of n
  sum : n.taken ≡ n.good + n.skipped + length (held_bytes (port_of p b))
  known : (e : ℕ) → 7 < e → times e n.errors ≡ 0

start_counts : (p : ℕ) (profile : Profile) (page : List ℕ) → Counting p (start_of profile page).board no_counts
unfolding totals_of
start_counts p profile page =
    record { totals = start_zero p profile page; sum = go p; known = λ e h. refl }
  where
    go : (p : ℕ) → 0 ≡ 0 + 0 + length (held_bytes (port_of p (start_of profile page).board))
    go zero = omega (arith, ap (λ (b : Board). length (held_bytes b.first)) (start_fresh profile page))
    go (suc q) = omega (arith, ap (λ (b : Board). length (held_bytes b.second)) (start_fresh profile page))

module _ (p : ℕ) (hp : p ≤ 1) (b : Board) (page : List ℕ) (c : Call) (k : Padded b) (n : Counts) (r : Counting p b n) where
  abbrev f : Feeding
  f = feeding_of b page c

  same : Same b c f (held_step front (handle_message b.readonly) 260 reply_room kept_tests (state_of b page) (call_from c))
  same = step_same b page c k

  -- What the call answers as its error is the first one in its reply.
  error_is : f.answer.error ≡ error_in (reply_in f.answer.number f.room)
  error_is = same.told.error ∙ ap error_in (sym same.reply)

  named : c.port ≡ p → Counting p f.answer.board (counts_by true b c f n)
  named e =
      let keeps = calls_keep c.port b c.input c.room page in
      let good : ℕ = good_length (sought_by front c.input (held_bytes (port_of c.port b))) in
      let error : ℕ = error_in (reply_in f.answer.number f.room) in
      let sum : f.answer.number ≤ 1 → length (held_bytes (port_of p b)) + f.answer.taken ≡ good + f.answer.skipped + length (held_bytes (port_of p f.answer.board)) =
      λ l. subst (λ (q : ℕ). length (held_bytes (port_of q b)) + f.answer.taken ≡ good + f.answer.skipped + length (held_bytes (port_of q f.answer.board))) e (keeps.sum l) in
      let this : eqb c.port p ≡ true = eq-eqb c.port p e in
      let counted : record_by true p b f (tally_at p b) ≡ tally_at p f.answer.board =
      subst (λ (t : Bool). record_by t p b f (tally_at p b) ≡ tally_at p f.answer.board) this (call_record p c.port b c.input c.room page hp) in
      record {
        totals =
            sym counted ∙ rw (r.totals, error_is)
            (counted_is n f.answer.number f.answer.taken f.answer.skipped good error (port_of p b).held (port_of p f.answer.board).held
            (λ l. omega (arith, sum l, held_count p b k, held_count p f.answer.board same.padded)));
        sum =
            adds_after f.answer.number f.answer.taken f.answer.skipped good error (length (held_bytes (port_of p b)))
            (length (held_bytes (port_of p f.answer.board))) n r.sum sum
            (λ l. ap (λ (g : Feeding). length (held_bytes (port_of p g.answer.board))) (keeps.refused l));
        known = λ x h. known_after f.answer.number f.answer.taken f.answer.skipped good error n x h (r.known x h) (λ z. omega (arith, sym error_is, (keeps.reported z).known_error));
      }

  other : eqb c.port p ≡ false → Counting p f.answer.board n
  other e =
      let counted : record_by false p b f (tally_at p b) ≡ tally_at p f.answer.board =
      subst (λ (t : Bool). record_by t p b f (tally_at p b) ≡ tally_at p f.answer.board) e (call_record p c.port b c.input c.room page hp) in
      record {
        totals = sym counted ∙ r.totals;
        sum = r.sum ∙ ap (λ (i : ℕ). n.good + n.skipped + i) (ap (λ (q : Port). length (held_bytes q)) (sym (call_other p c.port b c.input c.room page hp e)));
        known = r.known;
      }

  one_call : Counting p f.answer.board (counts_by (eqb c.port p) b c f n)
  one_call = go (eqb c.port p) refl
    where
      go : (t : Bool) → eqb c.port p ≡ t → Counting p f.answer.board (counts_by t b c f n)
      go true e = named (eqb-true c.port p e)
      go false e = other e

acts_count : (p : ℕ) → p ≤ 1 → (acts : List (Act Profile Call)) (b : Board) (page : List ℕ) (n : Counts) → Padded b → Counting p b n
    → Counting p (acts_from b page acts).board (counts_from p n b page acts)
unfolding acts_from counts_from
acts_count p hp [] b page n k r = r
acts_count p hp (call c ∷ acts) b page n k r =
    let f : Feeding = feeding_of b page c in
    acts_count p hp acts f.answer.board f.page (counts_by (eqb c.port p) b c f n) (step_same b page c k).padded (one_call p hp b page c k n r)
acts_count p hp (restart profile ∷ acts) b page n k r =
    acts_count p hp acts (start_of profile page).board page no_counts (start_padded profile page) (start_counts p profile page)

-- The sum law between totals, while that of the bytes taken has not stopped.
sum_holds : (y : Tally) (n : Counts) (held : ℕ) → y ≡ totals_of n → n.taken ≡ n.good + n.skipped + held → y.taken < largest → y.taken ≡ y.good + y.skipped + held
unfolding totals_of
sum_holds y n held e s h =
    let a : y.taken ≡ stopped n.taken = ap (λ (t : Tally). t.taken) e in
    let b : y.skipped ≡ stopped n.skipped = ap (λ (t : Tally). t.skipped) e in
    let c : y.good ≡ stopped n.good = ap (λ (t : Tally). t.good) e in
    omega arith

pub counts_histories : CountsHistories
counts_histories profile page acts p hp =
    let r = acts_count p hp acts (start_of profile page).board page no_counts (start_padded profile page) (start_counts p profile page) in
    record { totals = r.totals; counts_sum = r.sum; sum = sum_holds _ _ _ r.totals r.sum; known_errors = r.known }

-- ---- the plain reckoning

abbrev Tied : Undrained → State Ledger Reckoned → State (List ℕ) Kept → Type 0
Tied = Related (Tracks cutting_harmless) StoredAs

abbrev pub reckoned_from : Profile → State Ledger Reckoned → List (Act Profile CallOf) → Run (State Ledger Reckoned)
reckoned_from profile s acts =
    history_from (λ p. reckon_step front (reckon_message p) reply_room) (λ s. started_on fresh start_anew s.values) profile s acts

-- The totals of port p of a board are those that the reckoning's ledger gives.
abbrev pub Reckons : ℕ → Board → State Ledger Reckoned → Type 0
Reckons p b s = tally_at p b ≡ totals_of (counts_in error_in (kept_port p s))

fresh_reckons : (p : ℕ) (profile : Profile) (page : List ℕ) (v : Reckoned) → Reckons p (start_of profile page).board (started_on fresh start_anew v)
unfolding totals_of
fresh_reckons zero profile page v = start_zero 0 profile page
fresh_reckons (suc p) profile page v = start_zero 1 profile page

fresh_tied : (profile : Profile) (page : List ℕ) (v : Reckoned) (w : Kept) → w.page ≡ page → StoredAs v w → Tied no_silence (started_on fresh start_anew v) (state_of (start_of profile page).board page)
fresh_tied profile page v w e r =
    subst (λ (s : State (List ℕ) Kept). Tied no_silence (started_on fresh start_anew v) s) (start_state profile w ∙ ap (λ (q : List ℕ). state_of (start_of profile q).board q) e)
    (record { port0 = fresh_tracks cutting_harmless; port1 = fresh_tracks cutting_harmless; values = starts_alike v w r })

kept-held : (p : ℕ) (b : Board) (page : List ℕ) → kept_port p (state_of b page) ≡ held_bytes (port_of p b)
kept-held zero b page = refl
kept-held (suc p) b page = refl

-- What a driver counts of a call, by an answer that tells the same.
record_is : (this : Bool) (p : ℕ) (b : Board) (f : Feeding) (y : Tally) (a : Answer) (before after : ℕ) {c : Call} → Told c f a
    → (port_of p b).held ≡ before → (port_of p f.answer.board).held ≡ after
    → record_by this p b f y ≡ counted_if this y a.number a.taken a.skipped (error_in a.reply) before after
record_is true p b f y a before after t e h = rw (t.number, t.taken, t.skipped, t.error, e, h)
record_is false p b f y a before after t e h = refl

-- One call, of a board that is tied to the reckoning's state.
call_reckons : (p : ℕ) → p ≤ 1 → (u : Undrained) (b : Board) (page : List ℕ) (s : State Ledger Reckoned) (c : Call) → Padded b → Tied u s (state_of b page) → Reckons p b s
    → early c.input (reckon_step front (reckon_message b.readonly) reply_room s (call_from c)).answer.number (undrained_of c.port u) ≡ false
    → Reckons p (feeding_of b page c).answer.board (reckon_step front (reckon_message b.readonly) reply_room s (call_from c)).state
call_reckons p hp u b page s c k t r e =
    let f : Feeding = feeding_of b page c in
    let one : Step (State (List ℕ) Kept) = held_step front (handle_message b.readonly) 260 reply_room kept_tests (state_of b page) (call_from c) in
    let two : Step (State Ledger Reckoned) = reckon_step front (reckon_message b.readonly) reply_room s (call_from c) in
    let same : Same b c f one = step_same b page c k in
    let alike : two.answer ≡ one.answer = (step_related cutting_harmless (handles b.readonly) reply_room u s (state_of b page) (call_from c) t e).answer in
    let told : Told c f two.answer = subst (λ (a : Answer). Told c f a) (sym alike) same.told in
    let before : (port_of p b).held ≡ length (kept_port p (state_of b page)) = held_count p b k ∙ ap length (sym (kept-held p b page)) in
    let after : (port_of p f.answer.board).held ≡ length (kept_port p one.state) =
    held_count p f.answer.board same.padded ∙ ap length (sym (kept-held p f.answer.board f.page)) ∙ ap (λ (x : State (List ℕ) Kept). length (kept_port p x)) (sym same.state) in
    sym (call_record p c.port b c.input c.room page hp)
    ∙ record_is (eqb c.port p) p b f (tally_at p b) two.answer _ _ told before after
    ∙ ap (λ (y : Tally). counted_if (eqb c.port p) y two.answer.number two.answer.taken two.answer.skipped (error_in two.answer.reply) (length (kept_port p (state_of b page))) (length (kept_port p one.state))) r
    ∙ step_counts error_in cutting_harmless (handles b.readonly) reply_room u s (state_of b page) (call_from c) p hp t e

-- The totals of a board after a history whose silences are drained are the reckoning's.
pub acts_reckon : (p : ℕ) → p ≤ 1 → (acts : List (Act Profile Call)) (u : Undrained) (b : Board) (page : List ℕ) (s : State Ledger Reckoned) → Padded b → Tied u s (state_of b page)
    → Reckons p b s → drained_acts u (told_acts acts) (reckoned_from b.readonly s (told_acts acts)).answers ≡ true
    → Reckons p (acts_from b page acts).board (reckoned_from b.readonly s (told_acts acts)).final
unfolding acts_from history_from drained_acts
acts_reckon p hp [] u b page s k t r d = r
acts_reckon p hp (call c ∷ acts) u b page s k t r d =
    let f : Feeding = feeding_of b page c in
    let one : Step (State (List ℕ) Kept) = held_step front (handle_message b.readonly) 260 reply_room kept_tests (state_of b page) (call_from c) in
    let two : Step (State Ledger Reckoned) = reckon_step front (reckon_message b.readonly) reply_room s (call_from c) in
    let n : ℕ = two.answer.number in
    let h = unless_early_lem (early c.input n (undrained_of c.port u)) (drained_acts (undrained_after (call_from c) n u) (told_acts acts) (reckoned_from b.readonly two.state (told_acts acts)).answers) d in
    let same : Same b c f one = step_same b page c k in
    let tied : Tied (undrained_after (call_from c) n u) two.state (state_of f.answer.board f.page) =
    subst (λ (x : State (List ℕ) Kept). Tied (undrained_after (call_from c) n u) two.state x) same.state
    (step_related cutting_harmless (handles b.readonly) reply_room u s (state_of b page) (call_from c) t h.0).state in
    subst (λ (q : Profile). Reckons p (acts_from f.answer.board f.page acts).board (reckoned_from q two.state (told_acts acts)).final) same.profile
    (acts_reckon p hp acts (undrained_after (call_from c) n u) f.answer.board f.page two.state same.padded tied
    (call_reckons p hp u b page s c k t r h.0)
    (subst (λ (q : Profile). drained_acts (undrained_after (call_from c) n u) (told_acts acts) (reckoned_from q two.state (told_acts acts)).answers ≡ true) (sym same.profile) h.1))
acts_reckon p hp (restart profile ∷ acts) u b page s k t r d =
    let next : Board = (start_of profile page).board in
    let w : Kept = record { settings = b.settings; page = page } in
    subst (λ (q : Profile). Reckons p (acts_from next page acts).board (reckoned_from q (started_on fresh start_anew s.values) (told_acts acts)).final) (start_profile profile page)
    (acts_reckon p hp acts no_silence next page (started_on fresh start_anew s.values) (start_padded profile page) (fresh_tied profile page s.values w refl t.values)
    (fresh_reckons p profile page s.values)
    (subst (λ (q : Profile). drained_acts no_silence (told_acts acts) (reckoned_from q (started_on fresh start_anew s.values) (told_acts acts)).answers ≡ true) (sym (start_profile profile page)) d))

-- From a start.
pub started_reckon : (p : ℕ) → p ≤ 1 → (profile : Profile) (page : List ℕ) (v : Reckoned) (w : Kept) (acts : List (Act Profile Call)) → w.page ≡ page → StoredAs v w
    → drained_acts no_silence (told_acts acts) (reckoned_from profile (started_on fresh start_anew v) (told_acts acts)).answers ≡ true
    → Reckons p (acts_from (start_of profile page).board page acts).board (reckoned_from profile (started_on fresh start_anew v) (told_acts acts)).final
started_reckon p hp profile page v w acts e r d =
    subst (λ (q : Profile). Reckons p (acts_from (start_of profile page).board page acts).board (reckoned_from q (started_on fresh start_anew v) (told_acts acts)).final) (start_profile profile page)
    (acts_reckon p hp acts no_silence (start_of profile page).board page (started_on fresh start_anew v) (start_padded profile page) (fresh_tied profile page v w e r)
    (fresh_reckons p profile page v)
    (subst (λ (q : Profile). drained_acts no_silence (told_acts acts) (reckoned_from q (started_on fresh start_anew v) (told_acts acts)).answers ≡ true) (sym (start_profile profile page)) d))
