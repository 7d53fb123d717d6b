-- One call, accepted or refused: the program and the plain reckoning answer alike, and what they keep stays tied. A feed must not come
-- before a silence of its port is drained.
use mathlib.Core.Path.{◌≡◌, refl, sym, ap, ◌∙◌}
use mathlib.Core.Bool.{Bool, true, false, ◌||◌}
use mathlib.Core.Option.{Option, none, some}
use mathlib.Core.List.{List, [], ◌++◌, append-nil}
use Prim.Native.Nat.{ℕ, suc, ◌+◌, ◌-◌, ◌≤◌}
use native.Mathlib.Omega.{arith}
use borrow.Author.Tests.{le-ltb}
use lib.Dec.{ltb}
use lib.ListN.{length, take, drop, length-append, length-drop}
use lib.Seq.{length-take-le, take-nil, drop-length}
use Rattle.stream.specs.declared.Verdict.{Verdict}
use Rattle.stream.specs.declared.Sought.{Sought}
use Rattle.stream.specs.declared.Sought.TheVariants.{Starved, Found}
use Rattle.stream.specs.Scan.{Message, message_at, messages, through, skipped_in, standing}
use Rattle.stream.specs.Seek.{seek, resume, skipped_by}
use Rattle.stream.specs.Silence.{running, extend, mark, bytes_in, scan}
use Rattle.stream.specs.Cutting.{skips, skips_then, StarvedAt, Sized, Cutting}
use Rattle.stream.proofs.Bools.{differ}
use Rattle.stream.proofs.Cuts.{found_goes, starved_goes}
use Rattle.stream.proofs.Drains.{drain}
use Rattle.stream.proofs.Events.{messages-append, skipped_in-append, messages-skips_then, skipped_in-skips_then, standing-skips_then}
use Rattle.stream.proofs.Events.{messages-skips, skipped_in-skips, good_in-skips}
use Rattle.stream.proofs.Scans.{starved_is}
use Rattle.history.specs.Calls.{Input, fed, silent, Call, Step, refuse, State, Turn, port_of, accept}
use Rattle.history.specs.Reckoning.{Outcome, Ledger, marked, shortest, handle_next, used_up, reckon_on, reckon_feed, reckon_call, reckon_step}
use Rattle.history.specs.Program.{Tests, held_on, held_call, held_step}
use Rattle.history.specs.Drained.{Undrained, undrained_of, undrained_by, undrained_after, early}
use Rattle.history.specs.Premises.{Handled, Handles}
use Rattle.history.proofs.Driven.{undrained_kept, Alike, Related, Stepped, port_related, settled_related}
use Rattle.history.proofs.Tracks.{standing-append, Tracks, grow, shortest_found, shortest-none, fits_after}
use Rattle.history.proofs.Tracks.{Reporting, reporting, starved_read, Draining, draining, resume_inside, Quiet, quieting, drained_tracks, quiet_tracks}

-- A feed that is accepted where a silence waits is early, by either answer.
module _ (front : List ℕ → Verdict) {X : Type 0} (handle : ℕ → X → Message → Outcome X) where
  pub early_reckoned : (p : ℕ) (l : Ledger) (v : X) (chunk : List ℕ) (b : Bool) → early (fed chunk) (reckon_feed front handle p l v chunk).answer.number b ≡ b
  unfolding reckon_feed handle_next used_up
  early_reckoned p l v chunk b = go (shortest front l chunk)
    where
      go : (o : Option ℕ) → early (fed chunk) (reckon_on front handle o p l v chunk).answer.number b ≡ b
      go (some j) = refl
      go none = refl

  early-held : (p : ℕ) (h : List ℕ) (w : X) (chunk : List ℕ) (b : Bool) → early (fed chunk) (held_call front handle p h w (fed chunk)).answer.number b ≡ b
  unfolding held_call held_on
  early-held p h w chunk b = go (seek front (h ++ chunk))
    where
      go : (q : Sought) → early (fed chunk) (held_on front handle q p h w chunk).answer.number b ≡ b
      go (Found k n good) = refl
      go (Starved k) = refl

module _ {front : List ℕ → Verdict} {most_held : ℕ} (C : Cutting front most_held) {X W : Type 0} {L : X → W → Type 0}
    {reckoned : ℕ → X → Message → Outcome X} {tests : W → Tests} {handle : ℕ → W → Message → Outcome W}
    (H : Handles L reckoned tests handle) where
  -- Messages reported, where k bytes were skipped and one message more was found, or none.
  one_more : {b : Bool} (l : Ledger) (h : List ℕ) (k : ℕ) (m : Message) → Tracks C b l h → length (messages (l.read ++ skips_then k m)) ≡ suc l.count
  one_more l h k m r =
      omega (
        arith,
        ap length (messages-append l.read (skips_then k m)),
        length-append (messages l.read) (messages (skips_then k m)),
        ap length (messages-skips_then k m),
        r.counted,
      )

  no_more : {b : Bool} (l : Ledger) (h : List ℕ) (k : ℕ) → Tracks C b l h → length (messages (l.read ++ skips k)) ≡ l.count
  no_more l h k r =
      omega (
        arith,
        ap length (messages-append l.read (skips k)),
        length-append (messages l.read) (messages (skips k)),
        ap length (messages-skips k),
        r.counted,
      )

  -- ---- One accepted feed.

  found_alike : (p : ℕ) (l : Ledger) (h chunk : List ℕ) (v : X) (w : W) (k n : ℕ) (good : Bool) → Tracks C false l h → L v w
      → seek front (h ++ chunk) ≡ Found k n good
      → Alike (Tracks C) L false (handle_next front reckoned p l v (take (k + n - length h) chunk)) (held_on front handle (Found k n good) p h w chunk)
  unfolding handle_next held_on
  found_alike p l h chunk v w k n good r lw e =
      let j : ℕ = k + n - length h in
      let t : List ℕ = take j chunk in
      let u : List ℕ = h ++ t in
      let m : Message = message_at n good (drop k u) in
      let i : Reporting C l h t j k n good = reporting C l h chunk k n good r e in
      let o : Handled L (reckoned p v m) (handle p w m) = H.handled p v w m lw in
      let s : Sized most_held u k n = i.size in
      let skip : skipped_in (through (suc l.count) (scan front (extend l.stream t))) - skipped_in l.read ≡ skipped_by k good =
      rw i.read (omega (arith, skipped_in-append l.read (skips_then k m), skipped_in-skips_then k m)) in
      let size : length (take n (drop k u)) ≡ n = length-take-le n (drop k u) (omega (arith, length-drop k u)) in
      let fit = fits_after C h t k n good s i.len r.few in
      record {
        answer = cc (i.this, i.len, skip, o.reply, o.saved);
        port =
            rw i.read
            (grow C l h t (skips_then k m) (resume k n good) (suc l.count) _ r (standing-skips_then k n m size) fit.0
            (found_goes C u k n good i.here) fit.1 (one_more l h k m r));
        values = rw i.this o.next;
      }

  starved_alike : (p : ℕ) (l : Ledger) (h chunk : List ℕ) (v : X) (w : W) (k : ℕ) → Tracks C false l h → L v w
      → seek front (h ++ chunk) ≡ Starved k
      → Alike (Tracks C) L false (used_up front reckoned l v chunk) (held_on front handle (Starved k) p h w chunk)
  unfolding used_up held_on
  starved_alike p l h chunk v w k r lw e =
      let s : StarvedAt front most_held (h ++ chunk) k = starved_goes C (h ++ chunk) k e in
      let inside : k ≤ length (h ++ chunk) = (starved_is (C.scanning running) (h ++ chunk) k e).inside in
      let read : scan front (extend l.stream chunk) ≡ l.read ++ skips k = starved_read C l h chunk k r e in
      let skip : skipped_in (scan front (extend l.stream chunk)) - skipped_in l.read ≡ k =
      rw read (omega (arith, skipped_in-append l.read (skips k), skipped_in-skips k)) in
      record {
        answer = cc skip;
        port =
            rw read
            (grow C l h chunk (skips k) k l.count _ r (omega (arith, skipped_in-skips k, good_in-skips k)) inside s.goes
            s.few (no_more l h k r));
        values = lw;
      }

  feed_alike : (p : ℕ) (l : Ledger) (h : List ℕ) (v : X) (w : W) (chunk : List ℕ) → Tracks C false l h → L v w
      → Alike (Tracks C) L false (reckon_feed front reckoned p l v chunk) (held_call front handle p h w (fed chunk))
  unfolding reckon_feed held_call
  feed_alike p l h v w chunk r lw = go (seek front (h ++ chunk)) refl
    where
      go : (s : Sought) → seek front (h ++ chunk) ≡ s
          → Alike (Tracks C) L false (reckon_feed front reckoned p l v chunk) (held_on front handle s p h w chunk)
      go (Found k n good) e = rw (shortest_found C l h chunk k n good r e) (found_alike p l h chunk v w k n good r lw e)
      go (Starved k) e = rw (shortest-none C l h chunk k r e) (starved_alike p l h chunk v w k r lw e)

  -- ---- One accepted silence.

  -- No byte is taken of an empty chunk.
  nothing_taken : (h : List ℕ) (j : ℕ) → h ++ take j [] ≡ h
  nothing_taken h j = cc (take-nil {A = ℕ} j, append-nil h)

  silent_found : {b : Bool} (p : ℕ) (l : Ledger) (h : List ℕ) (v : X) (w : W) (k n : ℕ) (good : Bool) → Tracks C b l h → L v w
      → drain front h ≡ Found k n good
      → Alike (Tracks C) L true (handle_next front reckoned p (marked l) v []) (held_on front handle (Found k n good) p h w [])
  unfolding handle_next held_on
  silent_found p l h v w k n good r lw e =
      let m : Message = message_at n good (drop k h) in
      let i : Draining C l h k n good = draining C l h k n good r e in
      let o : Handled L (reckoned p v m) (handle p w m) = H.handled p v w m lw in
      let s : Sized most_held h k n = i.size in
      let none_taken : 0 ≡ k + n - length h = omega arith in
      let skip : skipped_in (through (suc l.count) (scan front (mark l.stream))) - skipped_in l.read ≡ skipped_by k good =
      rw i.read (omega (arith, skipped_in-append l.read (skips_then k m), skipped_in-skips_then k m)) in
      let size : length (take n (drop k h)) ≡ n = length-take-le n (drop k h) (omega (arith, length-drop k h)) in
      rw (nothing_taken h (k + n - length h))
      (record {
        answer = cc (i.this, none_taken, skip, o.reply, o.saved);
        port =
            rw i.read
            (drained_tracks C l h (skips_then k m) (resume k n good) (suc l.count) _ r (standing-skips_then k n m size)
            (resume_inside k n (length h) good s.some s.inside) i.rest (one_more l h k m r));
        values = rw i.this o.next;
      })

  silent_starved : {b : Bool} (p : ℕ) (l : Ledger) (h : List ℕ) (v : X) (w : W) (k : ℕ) → Tracks C b l h → L v w
      → drain front h ≡ Starved k
      → Alike (Tracks C) L false (used_up front reckoned (marked l) v []) (held_on front handle (Starved k) p h w [])
  unfolding used_up held_on
  silent_starved p l h v w k r lw e =
      let i : Quiet C l h k = quieting C l h k r e in
      let skip : skipped_in (scan front (mark l.stream)) - skipped_in l.read ≡ k =
      rw i.read (omega (arith, skipped_in-append l.read (skips k), skipped_in-skips k)) in
      let count : length (messages (scan front (mark l.stream))) ≡ l.count = rw i.read (no_more l h k r) in
      let all : standing (scan front (mark l.stream)) ≡ length (bytes_in l.stream) =
      rw i.read
      (omega (
        arith,
        standing-append l.read (skips k),
        skipped_in-skips k,
        good_in-skips k,
        i.all,
        r.place,
        ap length r.split,
        length-append r.before h,
      )) in
      let left : drop k (h ++ []) ≡ [] = rw (append-nil h, i.all) (drop-length h) in
      record { answer = cc skip; port = rw left (quiet_tracks C l h l.count _ r all count); values = lw }

  silence_alike : {b : Bool} (p : ℕ) (l : Ledger) (h : List ℕ) (v : X) (w : W) → Tracks C b l h → L v w
      → Alike (Tracks C) L (undrained_by silent (reckon_feed front reckoned p (marked l) v []).answer.number b)
      (reckon_feed front reckoned p (marked l) v []) (held_call front handle p h w silent)
  unfolding reckon_feed handle_next used_up held_call
  silence_alike {b} p l h v w r lw = rw (append-nil h) (go (drain front h) refl)
    where
      go : (s : Sought) → drain front h ≡ s
          → Alike (Tracks C) L (undrained_by silent (reckon_feed front reckoned p (marked l) v []).answer.number b)
          (reckon_feed front reckoned p (marked l) v []) (held_on front handle s p h w [])
      go (Found k n good) e = rw (draining C l h k n good r e).found (silent_found p l h v w k n good r lw e)
      go (Starved k) e = rw (quieting C l h k r e).none_found (silent_starved p l h v w k r lw e)

  -- ---- One accepted call.

  early_alike : (p : ℕ) (l : Ledger) (h : List ℕ) (v : X) (w : W) (i : Input) (b : Bool)
      → early i (held_call front handle p h w i).answer.number b ≡ early i (reckon_call front reckoned p l v i).answer.number b
  early_alike p l h v w (fed chunk) b = early-held front handle p h w chunk b ∙ sym (early_reckoned front reckoned p l v chunk b)
  early_alike p l h v w silent b = refl

  call_alike : (b : Bool) (p : ℕ) (l : Ledger) (h : List ℕ) (v : X) (w : W) (i : Input) → Tracks C b l h → L v w
      → early i (reckon_call front reckoned p l v i).answer.number b ≡ false
      → Alike (Tracks C) L (undrained_by i (reckon_call front reckoned p l v i).answer.number b)
      (reckon_call front reckoned p l v i) (held_call front handle p h w i)
  call_alike b p l h v w silent r lw e = silence_alike p l h v w r lw
  call_alike true p l h v w (fed chunk) r lw e = differ (sym (early_reckoned front reckoned p l v chunk true) ∙ e)
  call_alike false p l h v w (fed chunk) r lw e = feed_alike p l h v w chunk r lw

  -- ---- One call, accepted or refused.

  -- A state that is related to the reckoning's passes the program's test 17.
  fit : (u : Undrained) (s : State Ledger X) (t : State (List ℕ) W) → Related (Tracks C) L u s t
      → ltb most_held (length t.port0) || ltb most_held (length t.port1) || (tests t.values).unusable ≡ false
  fit u s t r =
      cc (
        le-ltb most_held (length t.port0) r.port0.few,
        le-ltb most_held (length t.port1) r.port1.few,
        H.passes s.values t.values r.values,
      )

  -- A call with its two tests that can refuse, a wrong port and a room that is too small, on both sides.
  module _ (s : State Ledger X) (t : State (List ℕ) W) (c : Call) where
    abbrev reckoned_turn : Turn Ledger X
    reckoned_turn = reckon_call front reckoned c.port (port_of c.port s) s.values c.input

    abbrev held_turn : Turn (List ℕ) W
    held_turn = held_call front handle c.port (port_of c.port t) t.values c.input

    abbrev reckoned_by : Bool → Bool → Step (State Ledger X)
    reckoned_by a b = refuse a 16 s (refuse b 18 s (accept c.port s reckoned_turn))

    abbrev held_by : Bool → Bool → Step (State (List ℕ) W)
    held_by a b = refuse a 16 t (refuse b 18 t (accept c.port t held_turn))

    tested_related : (u : Undrained) → Related (Tracks C) L u s t → (a b : Bool)
        → early c.input (reckoned_by a b).answer.number (undrained_of c.port u) ≡ false
        → Stepped (Related (Tracks C) L) (undrained_after c (reckoned_by a b).answer.number u) (reckoned_by a b) (held_by a b)
    tested_related u r true b e = record { answer = refl; state = rw (undrained_kept c.port c.input 14 u) r }
    tested_related u r false true e = record { answer = refl; state = rw (undrained_kept c.port c.input 16 u) r }
    tested_related u r false false e =
        let h : Alike (Tracks C) L (undrained_by c.input reckoned_turn.answer.number (undrained_of c.port u)) reckoned_turn held_turn =
        call_alike (undrained_of c.port u) c.port (port_of c.port s) (port_of c.port t) s.values t.values c.input
        (port_related (Tracks C) L c.port u s t r) r.values e in
        record { answer = h.answer; state = settled_related (Tracks C) L c.port _ u s t reckoned_turn held_turn r h }

    tested_early : (u : Undrained) (a b : Bool)
        → early c.input (held_by a b).answer.number (undrained_of c.port u) ≡ early c.input (reckoned_by a b).answer.number (undrained_of c.port u)
    tested_early u true b = refl
    tested_early u false true = refl
    tested_early u false false = early_alike c.port (port_of c.port s) (port_of c.port t) s.values t.values c.input (undrained_of c.port u)

  pub step_related : (room : ℕ) (u : Undrained) (s : State Ledger X) (t : State (List ℕ) W) (c : Call) → Related (Tracks C) L u s t
      → early c.input (reckon_step front reckoned room s c).answer.number (undrained_of c.port u) ≡ false
      → Stepped (Related (Tracks C) L) (undrained_after c (reckon_step front reckoned room s c).answer.number u)
      (reckon_step front reckoned room s c) (held_step front handle most_held room tests t c)
  unfolding reckon_step held_step
  step_related room u s t c r =
      rw (fit u s t r, H.passes s.values t.values r.values) (tested_related s t c u r (ltb 1 c.port) (ltb c.room room))

  pub step_early : (room : ℕ) (u : Undrained) (s : State Ledger X) (t : State (List ℕ) W) (c : Call) → Related (Tracks C) L u s t
      → early c.input (held_step front handle most_held room tests t c).answer.number (undrained_of c.port u)
      ≡ early c.input (reckon_step front reckoned room s c).answer.number (undrained_of c.port u)
  unfolding reckon_step held_step
  step_early room u s t c r =
      rw (fit u s t r, H.passes s.values t.values r.values) (tested_early s t c u (ltb 1 c.port) (ltb c.room room))
