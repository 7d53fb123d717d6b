-- What ties the bytes held for a port to the reckoning's ledger, and what the reckoning therefore finds in a chunk.
use mathlib.Core.Path.{◌≡◌, refl, sym, ap, ◌∙◌}
use mathlib.Core.Bool.{Bool, true, false}
use mathlib.Core.Option.{none, some}
use mathlib.Core.List.{List, [], ◌∷◌, ◌++◌, append_assoc, append-nil}
use Prim.Native.Nat.{ℕ, suc, ◌+◌, ◌-◌, ◌≤◌, ◌<◌}
use native.Mathlib.Omega.{arith}
use borrow.Author.Tests.{lt-ltb, le-ltb}
use lib.ListN.{length, take, drop, get_or, length-append, length-take, length-drop, take-append-drop}
use lib.Seq.{length-take-le, drop_at, get_or_at}
use Rattle.stream.specs.declared.Verdict.{Verdict}
use Rattle.stream.specs.declared.Sought.{Sought}
use Rattle.stream.specs.declared.Sought.TheVariants.{Starved, Found}
use Rattle.stream.specs.Scan.{Message, message_at, Event, events, messages, through, standing}
use Rattle.stream.specs.Seek.{seek, resume}
use Rattle.stream.specs.Silence.{End, running, ended, up_to, empty, extend, mark, bytes_in, scan}
use Rattle.stream.specs.Cutting.{skips, skips_then, Sized, Finding, Cutting}
use Rattle.stream.proofs.Bools.{differ}
use Rattle.stream.proofs.Cuts.{found_sized}
use Rattle.stream.proofs.Drains.{drain, drain_all}
use Rattle.stream.proofs.Events.{messages-append, skipped_in-append, good_in-append, through_past, through-skips_then, messages-skips_then, messages-skips}
use Rattle.stream.proofs.Scans.{found_is, starved_is}
use Rattle.stream.proofs.Streams.{ended_by, bytes_extend, bytes_mark, scan_ended, scan_past_mark, scan-mark_twice}
use Rattle.history.specs.Reckoning.{Ledger, fresh, held_of, no_message, marked, finds, shortest}
use Rattle.history.proofs.Shortest.{least_at, least-none}

pub standing-append : (r es : List Event) → standing (r ++ es) ≡ standing r + standing es
standing-append r es = omega (arith, skipped_in-append r es, good_in-append r es)

pub resume_inside : (k n len : ℕ) (good : Bool) → 1 ≤ n → k + n ≤ len → resume k n good ≤ len
resume_inside k n len true a b = b
resume_inside k n len false a b = omega arith

-- The chunk is a beginning and the rest.
rejoin : (h chunk : List ℕ) (i : ℕ) → h ++ take i chunk ++ drop i chunk ≡ h ++ chunk
rejoin h chunk i = simp (append_assoc, take-append-drop)

module _ {front : List ℕ → Verdict} {most_held : ℕ} (C : Cutting front most_held) where
  -- For every continuation, however it ends, the scan of all bytes and marks is what was read, then the scan of the held bytes.
  abbrev pub Flows : Ledger → List ℕ → Type 0
  Flows l h = (e : End) (v : List ℕ) → scan front (ended_by e (extend l.stream v)) ≡ l.read ++ events (up_to e front) (h ++ v)

  -- The held bytes h are the end of all bytes, from where the scan stands. What was read is a beginning of the scan. At a mark,
  -- now or later, the scan goes on through the held bytes; and where no silence waits to be drained, more bytes may come first.
  pub record Tracks (undrained : Bool) (l : Ledger) (h : List ℕ) : Type 0 where
    pub before : List ℕ
    pub split : bytes_in l.stream ≡ before ++ h
    pub place : length before ≡ standing l.read
    pub later : List Event
    pub reads : scan front l.stream ≡ l.read ++ later
    pub quiet : scan front (mark l.stream) ≡ l.read ++ events (up_to ended front) h
    pub flows : undrained ≡ false → Flows l h
    pub counted : length (messages l.read) ≡ l.count
    pub few : length h ≤ most_held

  pub fresh_tracks : Tracks false fresh []
  fresh_tracks =
      record {
        before = [];
        split = refl;
        place = refl;
        later = events front [];
        reads = refl;
        quiet = fresh_flows ended [];
        flows = λ e. fresh_flows;
        counted = refl;
        few = omega arith;
      }
    where
      fresh_flows : Flows fresh []
      fresh_flows e v = scan_ended front e (extend empty v)

  pub held_is : {b : Bool} (l : Ledger) (h : List ℕ) → Tracks b l h → held_of l ≡ h
  held_is l h r = rw r.split (drop_at r.before h (standing l.read) r.place)

  -- A feed takes t, and the scan goes on by the events `new`, over a bytes.
  pub grow : (l : Ledger) (h t : List ℕ) (new : List Event) (a c : ℕ) (rs : List (List ℕ)) → Tracks false l h → standing new ≡ a → a ≤ length (h ++ t)
      → ((e : End) (v : List ℕ) → events (up_to e front) (h ++ t ++ v) ≡ new ++ events (up_to e front) (drop a (h ++ t) ++ v))
      → length (drop a (h ++ t)) ≤ most_held
      → length (messages (l.read ++ new)) ≡ c
      → Tracks false (record { stream = extend l.stream t; count = c; read = l.read ++ new; replies = rs }) (drop a (h ++ t))
  grow l h t new a c rs r s inside goes few counted =
      record {
        before = r.before ++ take a (h ++ t);
        split = bytes_extend l.stream t ∙ rw r.split (simp (append_assoc, take-append-drop));
        place =
            omega (arith, length-append r.before (take a (h ++ t)), length-take-le a (h ++ t) inside, standing-append l.read new, r.place);
        later = events front (drop a (h ++ t));
        reads = cc (after running [], append-nil (l.stream.current ++ t), append-nil (drop a (h ++ t)));
        quiet = cc (after ended [], append-nil (l.stream.current ++ t), append-nil (drop a (h ++ t)));
        flows = λ e. after;
        counted = counted;
        few = few;
      }
    where
      before : Flows l h
      before = r.flows refl

      after : Flows (record { stream = extend l.stream t; count = c; read = l.read ++ new; replies = rs }) (drop a (h ++ t))
      after e v =
          cc (
            append_assoc l.stream.current t v,
            before e (t ++ v),
            append_assoc h t v,
            goes e v,
            append_assoc l.read new (events (up_to e front) (drop a (h ++ t) ++ v)),
          )

  -- ---- Does the scan of all bytes, with t of the chunk, find one message more? By the seek through held bytes and t.

  starved_finds-none : (l : Ledger) (h t : List ℕ) (k : ℕ) → Tracks false l h → seek front (h ++ t) ≡ Starved k
      → finds front l.count (extend l.stream t) ≡ false
  starved_finds-none l h t k r e =
      let same : length (messages (scan front (extend l.stream t))) ≡ l.count =
      cc (
        r.flows refl running t,
        (starved_is (C.scanning running) (h ++ t) k e).scans,
        messages-append l.read (skips k),
        messages-skips k,
        append-nil (messages l.read),
        r.counted,
      ) in
      le-ltb l.count (length (messages (scan front (extend l.stream t)))) (omega arith)

  -- All messages of the scan where one more is found.
  messages_found : (l : Ledger) (h t : List ℕ) (k n : ℕ) (good : Bool) → Tracks false l h → seek front (h ++ t) ≡ Found k n good
      → messages (scan front (extend l.stream t))
      ≡ messages l.read ++ message_at n good (drop k (h ++ t)) ∷ messages (events front (drop (resume k n good) (h ++ t)))
  messages_found l h t k n good r e =
      let m : Message = message_at n good (drop k (h ++ t)) in
      let rest : List Event = events front (drop (resume k n good) (h ++ t)) in
      cc (
        r.flows refl running t,
        (found_is (C.scanning running) (h ++ t) k n good e).scans,
        messages-append l.read (skips_then k m ++ rest),
        messages-append (skips_then k m) rest,
        messages-skips_then k m,
      )

  found_finds : (l : Ledger) (h t : List ℕ) (k n : ℕ) (good : Bool) → Tracks false l h → seek front (h ++ t) ≡ Found k n good
      → finds front l.count (extend l.stream t) ≡ true
  found_finds l h t k n good r e =
      let m : Message = message_at n good (drop k (h ++ t)) in
      let rest : List Event = events front (drop (resume k n good) (h ++ t)) in
      lt-ltb l.count (length (messages (scan front (extend l.stream t))))
      (omega (arith, ap length (messages_found l h t k n good r e), length-append (messages l.read) (m ∷ messages rest), r.counted))

  -- A beginning of the chunk that ends before the message finds none.
  before_finds-none : (l : Ledger) (h chunk : List ℕ) (k n : ℕ) (good : Bool) (i : ℕ) → Tracks false l h → seek front (h ++ chunk) ≡ Found k n good
      → i < k + n - length h → finds front l.count (extend l.stream (take i chunk)) ≡ false
  before_finds-none l h chunk k n good i r e lt = go (seek front (h ++ take i chunk)) refl
    where
      go : (s : Sought) → seek front (h ++ take i chunk) ≡ s → finds front l.count (extend l.stream (take i chunk)) ≡ false
      go (Found k' n' good') e' =
          let later : seek front (h ++ take i chunk ++ drop i chunk) ≡ Found k' n' good' =
          C.found_stays (h ++ take i chunk) (drop i chunk) k' n' good' e' in
          let p : k ≡ k' = cc (rejoin h chunk i) in
          let q : n ≡ n' = cc (rejoin h chunk i) in
          let s : Sized most_held (h ++ take i chunk) k' n' = found_sized C (h ++ take i chunk) k' n' good' e' in
          absurd (omega (arith, length-append h (take i chunk), length-take i chunk))
      go (Starved k') e' = starved_finds-none l h (take i chunk) k' r e'

  -- Where the whole chunk is starved, each beginning is.
  part_finds-none : (l : Ledger) (h chunk : List ℕ) (k i : ℕ) → Tracks false l h → seek front (h ++ chunk) ≡ Starved k
      → finds front l.count (extend l.stream (take i chunk)) ≡ false
  part_finds-none l h chunk k i r e = go (seek front (h ++ take i chunk)) refl
    where
      go : (s : Sought) → seek front (h ++ take i chunk) ≡ s → finds front l.count (extend l.stream (take i chunk)) ≡ false
      go (Found k' n' good') e' =
          let later : seek front (h ++ take i chunk ++ drop i chunk) ≡ Found k' n' good' =
          C.found_stays (h ++ take i chunk) (drop i chunk) k' n' good' e' in
          cc (rejoin h chunk i)
      go (Starved k') e' = starved_finds-none l h (take i chunk) k' r e'

  -- ---- The shortest beginning ends with the message.

  -- The message is found in the bytes that are taken.
  found_taken : (h chunk : List ℕ) (k n : ℕ) (good : Bool) → seek front (h ++ chunk) ≡ Found k n good
      → seek front (h ++ take (k + n - length h) chunk) ≡ Found k n good
  found_taken h chunk k n good e =
      let j : ℕ = k + n - length h in
      let s : Sized most_held (h ++ chunk) k n = found_sized C (h ++ chunk) k n good e in
      let whole : seek front (h ++ take j chunk ++ drop j chunk) ≡ Found k n good = cc (rejoin h chunk j) in
      C.found_alone (h ++ take j chunk) (drop j chunk) k n good whole
      (omega (arith, length-append h (take j chunk), length-take j chunk, length-append h chunk))

  pub shortest_found : (l : Ledger) (h chunk : List ℕ) (k n : ℕ) (good : Bool) → Tracks false l h → seek front (h ++ chunk) ≡ Found k n good
      → shortest front l chunk ≡ some (k + n - length h)
  unfolding shortest
  shortest_found l h chunk k n good r e =
      let j : ℕ = k + n - length h in
      let s : Sized most_held (h ++ chunk) k n = found_sized C (h ++ chunk) k n good e in
      least_at (λ i. finds front l.count (extend l.stream (take i chunk))) (length chunk) 0 j
      (λ i _ lt. before_finds-none l h chunk k n good i r e lt)
      (found_finds l h (take j chunk) k n good r (found_taken h chunk k n good e))
      (omega arith)
      (omega (arith, length-append h chunk))

  pub shortest-none : (l : Ledger) (h chunk : List ℕ) (k : ℕ) → Tracks false l h → seek front (h ++ chunk) ≡ Starved k → shortest front l chunk ≡ none
  unfolding shortest
  shortest-none l h chunk k r e =
      least-none (λ i. finds front l.count (extend l.stream (take i chunk))) (length chunk) 0 (λ i _ _. part_finds-none l h chunk k i r e)

  -- ---- What the reckoning reads.

  -- What is held after a message fits.
  pub fits_after : (h t : List ℕ) (k n : ℕ) (good : Bool) → Sized most_held (h ++ t) k n → length t ≡ k + n - length h → length h ≤ most_held
      → (resume k n good ≤ length (h ++ t)) × (length (drop (resume k n good) (h ++ t)) ≤ most_held)
  fits_after h t k n true s e few = (omega arith, omega (arith, length-drop (k + n) (h ++ t), length-append h t))
  fits_after h t k n false s e few = (omega arith, omega (arith, length-drop (suc k) (h ++ t), length-append h t))

  -- Where the program reports a message after taking t, j bytes.
  pub record Reporting (l : Ledger) (h t : List ℕ) (j k n : ℕ) (good : Bool) : Type 0 where
    pub here : seek front (h ++ t) ≡ Found k n good
    pub size : Sized most_held (h ++ t) k n
    pub len : length t ≡ j
    pub read : through (suc l.count) (scan front (extend l.stream t)) ≡ l.read ++ skips_then k (message_at n good (drop k (h ++ t)))
    pub this : get_or (messages (scan front (extend l.stream t))) l.count no_message ≡ message_at n good (drop k (h ++ t))

  pub reporting : (l : Ledger) (h chunk : List ℕ) (k n : ℕ) (good : Bool) → Tracks false l h → seek front (h ++ chunk) ≡ Found k n good
      → Reporting l h (take (k + n - length h) chunk) (k + n - length h) k n good
  reporting l h chunk k n good r e =
      let j : ℕ = k + n - length h in
      let t : List ℕ = take j chunk in
      let u : List ℕ = h ++ t in
      let m : Message = message_at n good (drop k u) in
      let rest : List Event = events front (drop (resume k n good) u) in
      let size : Sized most_held (h ++ chunk) k n = found_sized C (h ++ chunk) k n good e in
      let here : seek front u ≡ Found k n good = found_taken h chunk k n good e in
      let scan : scan front (extend l.stream t) ≡ l.read ++ (skips_then k m ++ rest) = cc (r.flows refl running t, (found_is (C.scanning running) u k n good here).scans) in
      record {
        here = here;
        size = found_sized C u k n good here;
        len = length-take-le j chunk (omega (arith, length-append h chunk));
        read = cc (scan, through_past l.read (skips_then k m ++ rest), through-skips_then k m rest, r.counted);
        this =
            rw (messages_found l h t k n good r here)
            (get_or_at (messages l.read) m (messages rest) no_message l.count r.counted);
      }

  -- Where the chunk is used up.
  pub starved_read : (l : Ledger) (h chunk : List ℕ) (k : ℕ) → Tracks false l h → seek front (h ++ chunk) ≡ Starved k
      → scan front (extend l.stream chunk) ≡ l.read ++ skips k
  starved_read l h chunk k r e = cc (r.flows refl running chunk, (starved_is (C.scanning running) (h ++ chunk) k e).scans)

  -- ---- A silence: the scan goes on through the held bytes, which a mark ends.

  -- Where it reports a message.
  pub record Draining (l : Ledger) (h : List ℕ) (k n : ℕ) (good : Bool) : Type 0 where
    pub size : Sized most_held h k n
    pub found : shortest front (marked l) [] ≡ some 0
    pub read : through (suc l.count) (scan front (mark l.stream)) ≡ l.read ++ skips_then k (message_at n good (drop k h))
    pub this : get_or (messages (scan front (mark l.stream))) l.count no_message ≡ message_at n good (drop k h)
    pub rest : scan front (mark l.stream) ≡ l.read ++ skips_then k (message_at n good (drop k h)) ++ events (up_to ended front) (drop (resume k n good) h)

  pub draining : {b : Bool} (l : Ledger) (h : List ℕ) (k n : ℕ) (good : Bool) → Tracks b l h → drain front h ≡ Found k n good → Draining l h k n good
  unfolding shortest
  draining l h k n good r e =
      let d : Finding (up_to ended front) most_held h k n good = found_is (C.scanning ended) h k n good e in
      let m : Message = message_at n good (drop k h) in
      let rest : List Event = events (up_to ended front) (drop (resume k n good) h) in
      let all : scan front (mark l.stream) ≡ l.read ++ (skips_then k m ++ rest) = cc (r.quiet, d.scans) in
      let found : messages (scan front (mark l.stream)) ≡ messages l.read ++ m ∷ messages rest =
      cc (
        all,
        messages-append l.read (skips_then k m ++ rest),
        messages-append (skips_then k m) rest,
        messages-skips_then k m,
      ) in
      let more : finds front l.count (mark l.stream) ≡ true =
      lt-ltb l.count (length (messages (scan front (mark l.stream))))
      (omega (arith, ap length found, length-append (messages l.read) (m ∷ messages rest), r.counted)) in
      record {
        size = d.sized;
        found = rw more;
        read = cc (all, through_past l.read (skips_then k m ++ rest), through-skips_then k m rest, r.counted);
        this = rw found (get_or_at (messages l.read) m (messages rest) no_message l.count r.counted);
        rest = cc (all, append_assoc l.read (skips_then k m) rest);
      }

  -- Where nothing is held any more.
  pub record Quiet (l : Ledger) (h : List ℕ) (k : ℕ) : Type 0 where
    pub all : k ≡ length h
    pub none_found : shortest front (marked l) [] ≡ none
    pub read : scan front (mark l.stream) ≡ l.read ++ skips k

  pub quieting : {b : Bool} (l : Ledger) (h : List ℕ) (k : ℕ) → Tracks b l h → drain front h ≡ Starved k → Quiet l h k
  unfolding shortest
  quieting l h k r e =
      let all : scan front (mark l.stream) ≡ l.read ++ skips k = cc (r.quiet, (starved_is (C.scanning ended) h k e).scans) in
      let same : length (messages (scan front (mark l.stream))) ≡ l.count =
      cc (
        all,
        messages-append l.read (skips k),
        messages-skips k,
        append-nil (messages l.read),
        r.counted,
      ) in
      let no_more : finds front l.count (mark l.stream) ≡ false =
      le-ltb l.count (length (messages (scan front (mark l.stream)))) (omega arith) in
      record { all = drain_all C h k e; none_found = rw no_more; read = all }

  -- The port after a silence that reported a message: the held bytes go on behind it, up to the mark.
  pub drained_tracks : {b : Bool} (l : Ledger) (h : List ℕ) (new : List Event) (a c : ℕ) (rs : List (List ℕ)) → Tracks b l h → standing new ≡ a → a ≤ length h
      → scan front (mark l.stream) ≡ l.read ++ new ++ events (up_to ended front) (drop a h)
      → length (messages (l.read ++ new)) ≡ c
      → Tracks true (record { stream = mark l.stream; count = c; read = l.read ++ new; replies = rs }) (drop a h)
  drained_tracks l h new a c rs r s inside goes counted =
      record {
        before = r.before ++ take a h;
        split = bytes_mark l.stream ∙ rw r.split (simp (append_assoc, take-append-drop));
        place = omega (arith, length-append r.before (take a h), length-take-le a h inside, standing-append l.read new, r.place);
        later = events (up_to ended front) (drop a h);
        reads = goes;
        quiet = scan-mark_twice front l.stream ∙ goes;
        flows = λ e. differ e;
        counted = counted;
        few = omega (arith, length-drop a h, r.few);
      }

  -- The port after a silence that left nothing: the scan starts anew behind the mark.
  pub quiet_tracks : {b : Bool} (l : Ledger) (h : List ℕ) (c : ℕ) (rs : List (List ℕ)) → Tracks b l h → standing (scan front (mark l.stream)) ≡ length (bytes_in l.stream)
      → length (messages (scan front (mark l.stream))) ≡ c
      → Tracks false (record { stream = mark l.stream; count = c; read = scan front (mark l.stream); replies = rs }) []
  quiet_tracks l h c rs r all counted =
      record {
        before = bytes_in l.stream;
        split = cc (bytes_mark l.stream, append-nil (bytes_in l.stream));
        place = cc all;
        later = [];
        reads = sym (append-nil (scan front (mark l.stream)));
        quiet = flows ended [];
        flows = λ e. flows;
        counted = counted;
        few = omega arith;
      }
    where
      flows : Flows (record { stream = mark l.stream; count = c; read = scan front (mark l.stream); replies = rs }) []
      flows e v = scan_past_mark front e l.stream v
