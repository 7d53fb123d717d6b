-- The messages reported are those of the scan, and cutting a stream is harmless: the proofs of `PortAccounts` and `CutsHarmless`.
use mathlib.Core.Path.{◌≡◌, refl, sym, ap, ◌∙◌, subst}
use mathlib.Core.Bool.{Bool, true, false}
use mathlib.Core.List.{List, [], ◌∷◌, ◌++◌, append-nil}
use Prim.Native.Nat.{ℕ, zero, suc, ◌+◌, ◌-◌, ◌≤◌}
use native.Mathlib.Omega.{arith}
use borrow.Author.Tests.{ltb-false}
use lib.Dec.{ltb, eqb}
use lib.ListN.{length, take, drop}
use lib.Seq.{take_at, take-length}
use Rattle.stream.specs.declared.Verdict.{Verdict}
use Rattle.stream.specs.declared.Sought.{Sought}
use Rattle.stream.specs.declared.Sought.TheVariants.{Starved, Found}
use Rattle.stream.specs.Scan.{Message, message_at, messages, skipped_in}
use Rattle.stream.specs.Seek.{seek}
use Rattle.stream.specs.Silence.{Stream, extend, bytes_in, scan}
use Rattle.stream.specs.Cutting.{skips, skips_then, Cutting}
use Rattle.stream.proofs.Bools.{differ}
use Rattle.stream.proofs.Drains.{drain}
use Rattle.stream.proofs.Events.{messages-append, skipped_in-append, messages-skips_then, messages-skips}
use Rattle.stream.proofs.Streams.{scan-filled, joined-filled}
use Rattle.history.specs.Calls.{Input, fed, silent, Call, Answer, Step, Run, run, refused, refuse, State, Turn, port_of, settled, accept}
use Rattle.history.specs.Reckoning.{Outcome, Ledger, fresh, marked, handle_next, used_up, reckon_feed, reckon_call, reckon_step, reckoning}
use Rattle.history.specs.Program.{Tests, held_step, held_program}
use Rattle.history.specs.Ports.{PortHistory, unfed, history_after, history_of, PortSum, PortAccount}
use Rattle.history.specs.Drained.{Undrained, no_silence, undrained_of, undrained_after, early, drained_from, drained}
use Rattle.history.specs.Premises.{Handles}
use Rattle.history.specs.EveryList.{history, held}
use Rattle.history.specs.Theorems.{SameCut, SameStream, PortAccounts, CutsHarmless}
use Rattle.history.proofs.Driven.{unless_early_lem, Related, Agreed, port_related}
use Rattle.history.proofs.Tracks.{Tracks, fresh_tracks, shortest_found, shortest-none, Reporting, reporting, starved_read, Draining, draining, Quiet, quieting}
use Rattle.history.proofs.Demand.{runs_agree, drained_alike}
use Rattle.history.proofs.Steps.{early_reckoned, step_related}
use Rattle.history.proofs.Sums.{port_sums}

module _ {front : List ℕ → Verdict} {most_held : ℕ} (C : Cutting front most_held) where
  -- What the answers say of a port is what the reckoning keeps of it.
  record Says (l : Ledger) (t : PortHistory) : Type 0 where
    stream : l.stream ≡ t.stream
    count : l.count ≡ t.count
    skips : skipped_in l.read ≡ t.skips
    reports : messages l.read ≡ t.reports
    finished : t.last ≡ 1 → l.read ≡ scan front l.stream

  fresh_says : Says fresh unfed
  fresh_says = record { stream = refl; count = refl; skips = refl; reports = refl; finished = λ e. absurd (omega arith) }

  -- A refusal takes nothing and marks nothing.
  refused_stream : (n : ℕ) (t : PortHistory) (i : Input) → (history_after true t i (refused (suc (suc n)))).stream ≡ t.stream
  refused_stream n t (fed chunk) = ap (λ (bs : List ℕ). record { segments = t.stream.segments; current = bs }) (append-nil t.stream.current)
  refused_stream n t silent = refl

  refused_says : (this : Bool) (n : ℕ) (l : Ledger) (t : PortHistory) (i : Input) → Says l t
      → Says l (history_after this t i (refused (suc (suc n))))
  refused_says false n l t i r = r
  refused_says true n l t i r =
      record {
        stream = r.stream ∙ sym (refused_stream n t i);
        count = r.count;
        skips = omega arith;
        reports = cc (r.reports, append-nil t.reports);
        finished = r.finished;
      }

  -- ---- One call of the reckoning.

  module _ {X : Type 0} (handle : ℕ → X → Message → Outcome X) where
    feed_says : (p : ℕ) (l : Ledger) (h : List ℕ) (v : X) (chunk : List ℕ) (t : PortHistory) → Tracks C false l h → Says l t
        → Says (reckon_feed front handle p l v chunk).port (history_after true t (fed chunk) (reckon_feed front handle p l v chunk).answer)
    unfolding reckon_feed handle_next used_up
    feed_says p l h v chunk t r a = go (seek front (h ++ chunk)) refl
      where
        go : (s : Sought) → seek front (h ++ chunk) ≡ s
            → Says (reckon_feed front handle p l v chunk).port (history_after true t (fed chunk) (reckon_feed front handle p l v chunk).answer)
        go (Found k n good) e =
            let part : List ℕ = take (k + n - length h) chunk in
            let m : Message = message_at n good (drop k (h ++ part)) in
            let i : Reporting C l h part (k + n - length h) k n good = reporting C l h chunk k n good r e in
            rw (shortest_found C l h chunk k n good r e)
            (record {
              stream = cc (a.stream, i.len);
              count = cc a.count;
              skips = rw i.read (omega (arith, skipped_in-append l.read (skips_then k m), a.skips));
              reports = cc (i.read, i.this, messages-append l.read (skips_then k m), messages-skips_then k m, a.reports);
              finished = λ z. absurd (omega arith);
            })
        go (Starved k) e =
            let read : scan front (extend l.stream chunk) ≡ l.read ++ skips k = starved_read C l h chunk k r e in
            rw (shortest-none C l h chunk k r e)
            (record {
              stream = cc (a.stream, take-length chunk);
              count = a.count;
              skips = rw read (omega (arith, skipped_in-append l.read (skips k), a.skips));
              reports = cc (read, messages-append l.read (skips k), messages-skips k, a.reports);
              finished = λ z. refl;
            })

    silence_says : {b : Bool} (p : ℕ) (l : Ledger) (h : List ℕ) (v : X) (t : PortHistory) → Tracks C b l h → Says l t
        → Says (reckon_feed front handle p (marked l) v []).port (history_after true t silent (reckon_feed front handle p (marked l) v []).answer)
    unfolding reckon_feed handle_next used_up
    silence_says p l h v t r a = go (drain front h) refl
      where
        go : (s : Sought) → drain front h ≡ s
            → Says (reckon_feed front handle p (marked l) v []).port (history_after true t silent (reckon_feed front handle p (marked l) v []).answer)
        go (Found k n good) e =
            let m : Message = message_at n good (drop k h) in
            let i : Draining C l h k n good = draining C l h k n good r e in
            rw i.found
            (record {
              stream = cc a.stream;
              count = cc a.count;
              skips = rw i.read (omega (arith, skipped_in-append l.read (skips_then k m), a.skips));
              reports = cc (i.read, i.this, messages-append l.read (skips_then k m), messages-skips_then k m, a.reports);
              finished = λ z. absurd (omega arith);
            })
        go (Starved k) e =
            let i : Quiet C l h k = quieting C l h k r e in
            rw i.none_found
            (record {
              stream = cc a.stream;
              count = a.count;
              skips = rw i.read (omega (arith, skipped_in-append l.read (skips k), a.skips));
              reports = cc (i.read, messages-append l.read (skips k), messages-skips k, a.reports);
              finished = λ z. refl;
            })

    call_says : (b : Bool) (p : ℕ) (l : Ledger) (h : List ℕ) (v : X) (i : Input) (t : PortHistory) → Tracks C b l h → Says l t
        → early i (reckon_call front handle p l v i).answer.number b ≡ false
        → Says (reckon_call front handle p l v i).port (history_after true t i (reckon_call front handle p l v i).answer)
    call_says b p l h v silent t r a e = silence_says p l h v t r a
    call_says true p l h v (fed chunk) t r a e = differ (sym (early_reckoned front handle p l v chunk true) ∙ e)
    call_says false p l h v (fed chunk) t r a e = feed_says p l h v chunk t r a

    -- An accepted call of port q, seen from port p.
    accepted_says : (b : Bool) (p q : ℕ) (s : State Ledger X) (h : List ℕ) (i : Input) (t : PortHistory) → p ≤ 1 → q ≤ 1
        → Tracks C b (port_of q s) h → Says (port_of p s) t
        → early i (reckon_call front handle q (port_of q s) s.values i).answer.number b ≡ false
        → Says (port_of p (settled q s (reckon_call front handle q (port_of q s) s.values i)))
        (history_after (eqb q p) t i (reckon_call front handle q (port_of q s) s.values i).answer)
    accepted_says b zero zero s h i t hp hq r a e = call_says b 0 s.port0 h s.values i t r a e
    accepted_says b zero (suc zero) s h i t hp hq r a e = a
    accepted_says b zero (suc (suc q)) s h i t hp hq r a e = absurd (omega arith)
    accepted_says b (suc zero) zero s h i t hp hq r a e = a
    accepted_says b (suc zero) (suc zero) s h i t hp hq r a e = call_says b 1 s.port1 h s.values i t r a e
    accepted_says b (suc zero) (suc (suc q)) s h i t hp hq r a e = absurd (omega arith)
    accepted_says b (suc (suc p)) q s h i t hp hq r a e = absurd (omega arith)

    step_says : (room p : ℕ) (b : Bool) (s : State Ledger X) (c : Call) (h : List ℕ) (t : PortHistory) → p ≤ 1
        → Tracks C b (port_of c.port s) h → Says (port_of p s) t
        → early c.input (reckon_step front handle room s c).answer.number b ≡ false
        → Says (port_of p (reckon_step front handle room s c).state)
        (history_after (eqb c.port p) t c.input (reckon_step front handle room s c).answer)
    unfolding reckon_step
    step_says room p b s c h t hp r a = go (ltb 1 c.port) refl (ltb c.room room)
      where
        turn : Turn Ledger X
        turn = reckon_call front handle c.port (port_of c.port s) s.values c.input

        done : Bool → Bool → Step (State Ledger X)
        done x y = refuse x 16 s (refuse y 18 s (accept c.port s turn))

        go : (x : Bool) → ltb 1 c.port ≡ x → (y : Bool) → early c.input (done x y).answer.number b ≡ false
            → Says (port_of p (done x y).state) (history_after (eqb c.port p) t c.input (done x y).answer)
        go true e y d = refused_says (eqb c.port p) 14 (port_of p s) t c.input a
        go false e true d = refused_says (eqb c.port p) 16 (port_of p s) t c.input a
        go false e false d = accepted_says b p c.port s h c.input t hp (ltb-false 1 c.port e) r a d

  -- ---- What the history has of the scan.

  account_of : {b : Bool} (l : Ledger) (h : List ℕ) (t : PortHistory) → Tracks C b l h → Says l t → PortAccount front t
  account_of l h t r a =
      let whole : messages (scan front l.stream) ≡ messages l.read ++ messages r.later = cc (r.reads, messages-append l.read r.later) in
      let first : take l.count (messages (scan front l.stream)) ≡ messages l.read =
      rw whole (take_at (messages l.read) (messages r.later) l.count r.counted) in
      record {
        first = cc (first, a.reports, a.count, a.stream);
        all = λ e. cc (a.finished e, a.reports, a.stream);
        all_skips = λ e. cc (a.finished e, a.skips, a.stream);
      }

  -- ---- A list of calls.

  module _ {X W : Type 0} {L : X → W → Type 0}
      {reckoned : ℕ → X → Message → Outcome X} {tests : W → Tests} {handle : ℕ → W → Message → Outcome W}
      (H : Handles L reckoned tests handle) (room : ℕ) where
    run_says : (p : ℕ) (u : Undrained) (s : State Ledger X) (b : State (List ℕ) W) (cs : List Call) (t : PortHistory) → p ≤ 1
        → Related (Tracks C) L u s b → Says (port_of p s) t → drained_from u cs (run (reckon_step front reckoned room) s cs).answers ≡ true
        → Says (port_of p (run (reckon_step front reckoned room) s cs).final) (history_of p t cs (run (reckon_step front reckoned room) s cs).answers)
    unfolding run history_of drained_from
    run_says p u s b [] t hp r a d = a
    run_says p u s b (c ∷ cs) t hp r a d =
        let one : Step (State Ledger X) = reckon_step front reckoned room s c in
        let n : ℕ = one.answer.number in
        let e =
        unless_early_lem (early c.input n (undrained_of c.port u))
        (drained_from (undrained_after c n u) cs (run (reckon_step front reckoned room) one.state cs).answers) d in
        run_says p (undrained_after c n u) one.state (held_step front handle most_held room tests b c).state cs
        (history_after (eqb c.port p) t c.input one.answer) hp
        (step_related C H room u s b c r e.0).state
        (step_says reckoned room p (undrained_of c.port u) s c (port_of c.port b) t hp (port_related (Tracks C) L c.port u s b r) a e.0)
        e.1

    fresh_port_lem : (p : ℕ) (v : X) → Says (port_of p (record { port0 = fresh; port1 = fresh; values = v })) unfed
    fresh_port_lem zero v = fresh_says
    fresh_port_lem (suc p) v = fresh_says

    account : (p : ℕ) (v : X) (w : W) (cs : List Call) → p ≤ 1 → L v w → drained cs (held_program front handle most_held room tests w cs).answers ≡ true
        → PortAccount front (history_of p unfed cs (held_program front handle most_held room tests w cs).answers)
    unfolding reckoning held_program
    account p v w cs hp lw d =
        let q : Run (State Ledger X) = reckoning front reckoned room v cs in
        let b : Run (State (List ℕ) W) = held_program front handle most_held room tests w cs in
        let e : drained cs q.answers ≡ true = sym (drained_alike front most_held room L reckoned tests handle C H v w cs lw) ∙ d in
        let same : Agreed (Related (Tracks C) L) q b = runs_agree front most_held room L reckoned tests handle C H v w cs lw e in
        let a : Says (port_of p q.final) (history_of p unfed cs q.answers) =
        run_says p no_silence (record { port0 = fresh; port1 = fresh; values = v }) (record { port0 = []; port1 = []; values = w }) cs unfed hp
        (record { port0 = fresh_tracks C; port1 = fresh_tracks C; values = lw }) (fresh_port_lem p v) e in
        subst (λ (answers : List Answer). PortAccount front (history_of p unfed cs answers)) same.answers
        (account_of (port_of p q.final) (port_of p b.final) (history_of p unfed cs q.answers)
        (port_related (Tracks C) L p same.left q.final b.final same.final) a)

-- ---- Two streams with the same bytes, and marks at the same places.

same-scan : (front : List ℕ → Verdict) (s s' : Stream) → SameStream s s' → scan front s ≡ scan front s'
same-scan front s s' e = cc (scan-filled front s.segments, scan-filled front s'.segments, e.segments, e.current)

same_bytes : (s s' : Stream) → SameStream s s' → bytes_in s ≡ bytes_in s'
same_bytes s s' e = cc (joined-filled s.segments, joined-filled s'.segments, e.segments, e.current)

-- Two such histories, each called on to answer 1.
same_cut : {front : List ℕ → Verdict} {most_held : ℕ} (t t' : PortHistory) (h h' : List ℕ) → PortSum most_held t h → PortSum most_held t' h'
    → PortAccount front t → PortAccount front t' → SameStream t.stream t'.stream → t.last ≡ 1 → t'.last ≡ 1 → SameCut t t' h h'
same_cut {front} t t' h h' s s' a a' same one one' =
    let scans : scan front t.stream ≡ scan front t'.stream = same-scan front t.stream t'.stream same in
    let bytes : bytes_in t.stream ≡ bytes_in t'.stream = same_bytes t.stream t'.stream same in
    let reports : t.reports ≡ t'.reports = cc (a.all one, a'.all one') in
    let skips : t.skips ≡ t'.skips = cc (a.all_skips one, a'.all_skips one') in
    record { reports = reports; skips = skips; held = cc (s.rest, s'.rest) }

module _ (front : List ℕ → Verdict) (most_held room : ℕ) {X W : Type 0} (L : X → W → Type 0)
    (reckoned : ℕ → X → Message → Outcome X) (tests : W → Tests) (handle : ℕ → W → Message → Outcome W) where
  pub port_accounts : PortAccounts front most_held room L reckoned tests handle
  port_accounts C H p v w cs hp lw d = account C H room p v w cs hp lw d

  pub cuts_harmless : CutsHarmless front most_held room L reckoned tests handle
  cuts_harmless C H p p' v v' w w' cs cs' hp hp' lw lw' d d' same one one' =
      same_cut (history front most_held room tests handle p w cs) (history front most_held room tests handle p' w' cs')
      (held front most_held room tests handle p w cs) (held front most_held room tests handle p' w' cs')
      (port_sums front most_held room tests handle C p w cs hp) (port_sums front most_held room tests handle C p' w' cs' hp')
      (account C H room p v w cs hp lw d) (account C H room p' v' w' cs' hp' lw' d') same one one'
