-- What holds of every list of calls, its silences drained or not: the proofs of `HeldFew` and `PortSums`.
use mathlib.Core.Path.{◌≡◌, refl, ap, ◌∙◌}
use mathlib.Core.Bool.{Bool, true, false, ◌||◌}
use mathlib.Core.List.{List, [], ◌∷◌, ◌++◌, append_assoc, append-nil}
use Prim.Native.Nat.{ℕ, zero, suc, ◌+◌, ◌-◌, ◌≤◌}
use native.Mathlib.Omega.{arith}
use borrow.Author.Tests.{ltb-false}
use lib.Dec.{ltb, eqb}
use lib.ListN.{length, take, drop, length-append, length-drop, take-append-drop}
use lib.Seq.{length-take-le, take-length, take-nil, drop_at}
use Rattle.stream.specs.declared.Verdict.{Verdict}
use Rattle.stream.specs.declared.Sought.{Sought}
use Rattle.stream.specs.declared.Sought.TheVariants.{Starved, Found}
use Rattle.stream.specs.Scan.{Message, message_at, good_at}
use Rattle.stream.specs.Seek.{resume, skipped_by}
use Rattle.stream.specs.Silence.{Stream, extend, bytes_in}
use Rattle.stream.specs.Cutting.{Sized, Cutting}
use Rattle.stream.proofs.Streams.{bytes_extend, bytes_mark}
use Rattle.history.specs.Calls.{Input, fed, silent, chunk_of, Call, Step, run, refused, refuse, State, Turn, port_of, settled, accept}
use Rattle.history.specs.Reckoning.{Outcome}
use Rattle.history.specs.Program.{Tests, sought_by, held_on, held_call, held_step, held_program}
use Rattle.history.specs.Ports.{PortHistory, unfed, stream_after, history_after, history_of, good_bytes, PortSum}
use Rattle.history.specs.EveryList.{HeldFew, PortSums}
use Rattle.history.proofs.Soughts.{call_sized, Starving, call_starved}
use Rattle.history.proofs.Tracks.{fits_after}

good_bytes-append : (ms ns : List Message) → good_bytes (ms ++ ns) ≡ good_bytes ms + good_bytes ns
good_bytes-append [] ns = omega arith
good_bytes-append (m ∷ ms) ns = omega (arith, good_bytes-append ms ns)

-- Reading goes on behind a message's skipped bytes and, where it is good, its own.
resume_is : (k n : ℕ) (good : Bool) → good_at good n + skipped_by k good ≡ resume k n good
resume_is k n true = omega arith
resume_is k n false = omega arith

module _ {front : List ℕ → Verdict} {most_held : ℕ} (C : Cutting front most_held) where
  -- The held bytes are the end of the bytes that the history has, behind its good messages and skipped bytes.
  record Adds (h : List ℕ) (t : PortHistory) : Type 0 where
    before : List ℕ
    split : bytes_in t.stream ≡ before ++ h
    place : length before ≡ good_bytes t.reports + t.skips
    taken : length (bytes_in t.stream) ≡ t.taken
    counted : length t.reports ≡ t.count
    few : length h ≤ most_held

  unfed_adds : Adds [] unfed
  unfed_adds = record { before = []; split = refl; place = refl; taken = refl; counted = refl; few = omega arith }

  -- A call takes `part`, and a bytes of what is held and taken are behind it afterwards.
  grows : (h part : List ℕ) (a : ℕ) (t u : PortHistory) → Adds h t → bytes_in u.stream ≡ bytes_in t.stream ++ part
      → u.taken ≡ t.taken + length part → good_bytes u.reports + u.skips ≡ good_bytes t.reports + t.skips + a
      → length u.reports ≡ u.count → a ≤ length (h ++ part) → length (drop a (h ++ part)) ≤ most_held → Adds (drop a (h ++ part)) u
  grows h part a t u r bytes taken places counted inside few =
      record {
        before = r.before ++ take a (h ++ part);
        split = bytes ∙ rw r.split (simp (append_assoc, take-append-drop));
        place = omega (arith, length-append r.before (take a (h ++ part)), length-take-le a (h ++ part) inside, r.place, places);
        taken = omega (arith, ap length bytes, length-append (bytes_in t.stream) part, r.taken, taken);
        counted = counted;
        few = few;
      }

  sum_of : (h : List ℕ) (t : PortHistory) → Adds h t → PortSum most_held t h
  sum_of h t r =
      record {
        few = r.few;
        taken = r.taken;
        sum = omega (arith, ap length r.split, length-append r.before h, r.place, r.taken);
        rest = rw (r.split, drop_at r.before h (good_bytes t.reports + t.skips) r.place);
        counted = r.counted;
      }

  refused_adds : (this : Bool) (n : ℕ) (h : List ℕ) (t : PortHistory) (i : Input) → Adds h t → Adds h (history_after this t i (refused (suc (suc n))))
  refused_adds false n h t i r = r
  refused_adds true n h t (fed chunk) r =
      let same : bytes_in (extend t.stream []) ≡ bytes_in t.stream = bytes_extend t.stream [] ∙ append-nil (bytes_in t.stream) in
      record {
        before = r.before;
        split = same ∙ r.split;
        place = rw (append-nil t.reports) (omega (arith, r.place));
        taken = omega (arith, ap length same, r.taken);
        counted = rw (append-nil t.reports) r.counted;
        few = r.few;
      }
  refused_adds true n h t silent r =
      record {
        before = r.before;
        split = r.split;
        place = rw (append-nil t.reports) (omega (arith, r.place));
        taken = omega (arith, r.taken);
        counted = rw (append-nil t.reports) r.counted;
        few = r.few;
      }

  -- ---- One accepted call.

  module _ {W : Type 0} (handle : ℕ → W → Message → Outcome W) where
    -- A message is found in what is held and the part that is taken.
    found_adds : (p : ℕ) (h : List ℕ) (w : W) (chunk : List ℕ) (k n : ℕ) (good : Bool) (t u : PortHistory) → Adds h t
        → Sized most_held (h ++ chunk) k n
        → u ≡ record {
          stream = u.stream;
          taken = t.taken + (k + n - length h);
          count = suc t.count;
          skips = t.skips + skipped_by k good;
          reports = t.reports ++ (message_at n good (drop k (h ++ take (k + n - length h) chunk)) ∷ []);
          last = 0;
        }
        → bytes_in u.stream ≡ bytes_in t.stream ++ take (k + n - length h) chunk
        → Adds (held_on front handle (Found k n good) p h w chunk).port u
    unfolding held_on
    found_adds p h w chunk k n good t u r s is bytes =
        let j : ℕ = k + n - length h in
        let part : List ℕ = take j chunk in
        let m : Message = message_at n good (drop k (h ++ part)) in
        let len : length part ≡ j = length-take-le j chunk (omega (arith, length-append h chunk)) in
        let size : Sized most_held (h ++ part) k n =
        record { some = s.some; most = s.most; inside = omega (arith, length-append h part) } in
        let own : length (take n (drop k (h ++ part))) ≡ n = length-take-le n (drop k (h ++ part)) (omega (arith, length-drop k (h ++ part))) in
        let fit = fits_after C h part k n good size len r.few in
        let places : good_bytes u.reports + u.skips ≡ good_bytes t.reports + t.skips + resume k n good =
        rw is (omega (arith, good_bytes-append t.reports (m ∷ []), ap (good_at good) own, resume_is k n good)) in
        grows h part (resume k n good) t u r bytes (rw is (omega arith)) places
        (rw is (omega (arith, length-append t.reports (m ∷ []), r.counted))) fit.0 fit.1

    -- Nothing is found, and k bytes are skipped.
    starved_adds : (p : ℕ) (h : List ℕ) (w : W) (chunk : List ℕ) (k : ℕ) (t u : PortHistory) → Adds h t
        → k ≤ length (h ++ chunk) → length (drop k (h ++ chunk)) ≤ most_held
        → u ≡ record {
          stream = u.stream;
          taken = t.taken + length chunk;
          count = t.count;
          skips = t.skips + k;
          reports = t.reports ++ [];
          last = 1;
        }
        → bytes_in u.stream ≡ bytes_in t.stream ++ chunk
        → Adds (held_on front handle (Starved k) p h w chunk).port u
    unfolding held_on
    starved_adds p h w chunk k t u r inside few is bytes =
        grows h chunk k t u r bytes (rw is) (rw (is, append-nil t.reports) (omega arith)) (rw (is, append-nil t.reports) r.counted) inside few

    -- The bytes that a call takes are at the end of the stream.
    bytes_after : (i : Input) (n j : ℕ) (s : Stream) → n ≤ 1 → bytes_in (stream_after i n j s) ≡ bytes_in s ++ take j (chunk_of i)
    bytes_after (fed chunk) n j s h = bytes_extend s (take j chunk)
    bytes_after silent zero j s h = cc (bytes_mark s, take-nil {A = ℕ} j, append-nil (bytes_in s))
    bytes_after silent (suc zero) j s h = cc (bytes_mark s, take-nil {A = ℕ} j, append-nil (bytes_in s))
    bytes_after silent (suc (suc n)) j s h = absurd (omega arith)

    call_adds : (p : ℕ) (h : List ℕ) (w : W) (i : Input) (t : PortHistory) → Adds h t
        → Adds (held_call front handle p h w i).port (history_after true t i (held_call front handle p h w i).answer)
    unfolding held_call held_on
    call_adds p h w i t r = go (sought_by front i h) refl
      where
        go : (q : Sought) → sought_by front i h ≡ q
            → Adds (held_on front handle q p h w (chunk_of i)).port (history_after true t i (held_on front handle q p h w (chunk_of i)).answer)
        go (Found k n good) e =
            found_adds p h w (chunk_of i) k n good t _ r (call_sized C h i k n good e) refl (bytes_after i 0 (k + n - length h) t.stream (omega arith))
        go (Starved k) e =
            let s : Starving C h i k = call_starved C h i k r.few e in
            starved_adds p h w (chunk_of i) k t _ r s.inside s.few refl
            (bytes_after i 1 (length (chunk_of i)) t.stream (omega arith) ∙ rw (take-length (chunk_of i)))

    -- An accepted call of port q, seen from port p.
    accepted_adds : (p q : ℕ) (s : State (List ℕ) W) (i : Input) (t : PortHistory) → p ≤ 1 → q ≤ 1 → Adds (port_of p s) t
        → Adds (port_of p (settled q s (held_call front handle q (port_of q s) s.values i)))
        (history_after (eqb q p) t i (held_call front handle q (port_of q s) s.values i).answer)
    accepted_adds zero zero s i t hp hq a = call_adds 0 s.port0 s.values i t a
    accepted_adds zero (suc zero) s i t hp hq a = a
    accepted_adds zero (suc (suc q)) s i t hp hq a = absurd (omega arith)
    accepted_adds (suc zero) zero s i t hp hq a = a
    accepted_adds (suc zero) (suc zero) s i t hp hq a = call_adds 1 s.port1 s.values i t a
    accepted_adds (suc zero) (suc (suc q)) s i t hp hq a = absurd (omega arith)
    accepted_adds (suc (suc p)) q s i t hp hq a = absurd (omega arith)

    -- ---- One call, and a list of calls.

    module _ (tests : W → Tests) (room : ℕ) where
      step_adds : (p : ℕ) (s : State (List ℕ) W) (c : Call) (t : PortHistory) → p ≤ 1 → Adds (port_of p s) t
          → Adds (port_of p (held_step front handle most_held room tests s c).state)
          (history_after (eqb c.port p) t c.input (held_step front handle most_held room tests s c).answer)
      unfolding held_step
      step_adds p s c t hp a =
          go (ltb 1 c.port) refl (ltb most_held (length s.port0) || ltb most_held (length s.port1) || (tests s.values).unusable)
          (ltb c.room room) (tests s.values).wrong_length (tests s.values).unsound
        where
          turn : Turn (List ℕ) W
          turn = held_call front handle c.port (port_of c.port s) s.values c.input

          done : Bool → Bool → Bool → Bool → Bool → Step (State (List ℕ) W)
          done x y z l k = refuse x 16 s (refuse y 17 s (refuse z 18 s (refuse l 19 s (refuse k 20 s (accept c.port s turn)))))

          go : (x : Bool) → ltb 1 c.port ≡ x → (y z l k : Bool)
              → Adds (port_of p (done x y z l k).state) (history_after (eqb c.port p) t c.input (done x y z l k).answer)
          go true e y z l k = refused_adds (eqb c.port p) 14 (port_of p s) t c.input a
          go false e true z l k = refused_adds (eqb c.port p) 15 (port_of p s) t c.input a
          go false e false true l k = refused_adds (eqb c.port p) 16 (port_of p s) t c.input a
          go false e false false true k = refused_adds (eqb c.port p) 17 (port_of p s) t c.input a
          go false e false false false true = refused_adds (eqb c.port p) 18 (port_of p s) t c.input a
          go false e false false false false = accepted_adds p c.port s c.input t hp (ltb-false 1 c.port e) a

      run_adds : (p : ℕ) (s : State (List ℕ) W) (cs : List Call) (t : PortHistory) → p ≤ 1 → Adds (port_of p s) t
          → Adds (port_of p (run (held_step front handle most_held room tests) s cs).final)
          (history_of p t cs (run (held_step front handle most_held room tests) s cs).answers)
      unfolding run history_of
      run_adds p s [] t hp a = a
      run_adds p s (c ∷ cs) t hp a =
          run_adds p (held_step front handle most_held room tests s c).state cs
          (history_after (eqb c.port p) t c.input (held_step front handle most_held room tests s c).answer) hp
          (step_adds p s c t hp a)

      fresh_adds : (p : ℕ) (w : W) → Adds (port_of p (record { port0 = []; port1 = []; values = w })) unfed
      fresh_adds zero w = unfed_adds
      fresh_adds (suc p) w = unfed_adds

      pub sums : (p : ℕ) (w : W) (cs : List Call) → p ≤ 1
          → PortSum most_held (history_of p unfed cs (held_program front handle most_held room tests w cs).answers)
          (port_of p (held_program front handle most_held room tests w cs).final)
      unfolding held_program
      sums p w cs hp =
          sum_of _ _ (run_adds p (record { port0 = []; port1 = []; values = w }) cs unfed hp (fresh_adds p w))

module _ (front : List ℕ → Verdict) (most_held room : ℕ) {W : Type 0} (tests : W → Tests) (handle : ℕ → W → Message → Outcome W) where
  pub port_sums : PortSums front most_held room tests handle
  port_sums C p w cs hp = sums C handle tests room p w cs hp

  -- An accepted call names port 0 or 1.
  pub held_few : HeldFew front most_held room tests handle
  held_few C zero w cs = (port_sums C 0 w cs (omega arith)).few
  held_few C (suc p) w cs = (port_sums C 1 w cs (omega arith)).few
