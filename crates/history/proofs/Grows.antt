-- What one call adds to the reckoning's ledger of its port: the bytes that it takes, the events that the scan goes on by, and the reply.
use mathlib.Core.Path.{◌≡◌, refl, sym, ap, ◌∙◌}
use mathlib.Core.Bool.{Bool, true, false}
use mathlib.Core.List.{List, [], ◌∷◌, ◌++◌, append-nil}
use Prim.Native.Nat.{ℕ, zero, suc, ◌+◌, ◌-◌}
use native.Mathlib.Omega.{arith}
use lib.ListN.{length, take, drop, length-append}
use Rattle.stream.specs.declared.Verdict.{Verdict}
use Rattle.stream.specs.declared.Sought.{Sought}
use Rattle.stream.specs.declared.Sought.TheVariants.{Starved, Found}
use Rattle.stream.specs.Scan.{Message, message_at, Event, skipped_in}
use Rattle.stream.specs.Seek.{seek}
use Rattle.stream.specs.Silence.{extend, bytes_in, scan}
use Rattle.stream.specs.Cutting.{skips, skips_then, Cutting}
use Rattle.stream.proofs.Bools.{differ}
use Rattle.stream.proofs.Drains.{drain}
use Rattle.stream.proofs.Events.{skipped_in-append}
use Rattle.stream.proofs.Streams.{bytes_extend, bytes_mark}
use Rattle.history.specs.Calls.{Input, fed, silent, Answer}
use Rattle.history.specs.Reckoning.{Outcome, Ledger, marked, handle_next, used_up, reckon_feed, reckon_call}
use Rattle.history.specs.Drained.{early}
use Rattle.history.proofs.Tracks.{Tracks, shortest_found, shortest-none, Reporting, reporting, starved_read, Draining, draining, Quiet, quieting}
use Rattle.history.proofs.Steps.{early_reckoned}

-- The reply of a call with this number, where it reported a message.
abbrev pub replies_by : ℕ → List ℕ → List (List ℕ)
replies_by zero reply = reply ∷ []
replies_by (suc n) reply = []

pub record Grows (l l' : Ledger) (a : Answer) : Type 0 where
  pub more : List Event
  pub read : l'.read ≡ l.read ++ more
  pub skips : a.skipped ≡ skipped_in more
  pub bytes : length (bytes_in l'.stream) ≡ length (bytes_in l.stream) + a.taken
  pub replies : l'.replies ≡ l.replies ++ replies_by a.number a.reply

module _ {front : List ℕ → Verdict} {most_held : ℕ} (C : Cutting front most_held) {X : Type 0} (handle : ℕ → X → Message → Outcome X) where
  extended : (l : Ledger) (part : List ℕ) → length (bytes_in (extend l.stream part)) ≡ length (bytes_in l.stream) + length part
  extended l part = ap length (bytes_extend l.stream part) ∙ length-append (bytes_in l.stream) part

  -- A silence takes nothing.
  none_taken : (l : Ledger) → length (bytes_in (marked l).stream) ≡ length (bytes_in l.stream) + 0
  none_taken l = ap length (bytes_mark l.stream) ∙ omega arith

  feed_grows : (p : ℕ) (l : Ledger) (h : List ℕ) (v : X) (chunk : List ℕ) → Tracks C false l h
      → Grows l (reckon_feed front handle p l v chunk).port (reckon_feed front handle p l v chunk).answer
  unfolding reckon_feed handle_next used_up
  feed_grows p l h v chunk r = go (seek front (h ++ chunk)) refl
    where
      go : (s : Sought) → seek front (h ++ chunk) ≡ s → Grows l (reckon_feed front handle p l v chunk).port (reckon_feed front handle p l v chunk).answer
      go (Found k n good) e =
          let part : List ℕ = take (k + n - length h) chunk in
          let m : Message = message_at n good (drop k (h ++ part)) in
          let i : Reporting C l h part (k + n - length h) k n good = reporting C l h chunk k n good r e in
          rw (shortest_found C l h chunk k n good r e)
          (record {
            more = skips_then k m;
            read = i.read;
            skips = rw i.read (omega (arith, skipped_in-append l.read (skips_then k m)));
            bytes = extended l part;
            replies = refl;
          })
      go (Starved k) e =
          let read : scan front (extend l.stream chunk) ≡ l.read ++ skips k = starved_read C l h chunk k r e in
          rw (shortest-none C l h chunk k r e)
          (record {
            more = skips k;
            read = read;
            skips = rw read (omega (arith, skipped_in-append l.read (skips k)));
            bytes = extended l chunk;
            replies = sym (append-nil l.replies);
          })

  silence_grows : {b : Bool} (p : ℕ) (l : Ledger) (h : List ℕ) (v : X) → Tracks C b l h
      → Grows l (reckon_feed front handle p (marked l) v []).port (reckon_feed front handle p (marked l) v []).answer
  unfolding reckon_feed handle_next used_up
  silence_grows p l h v r = go (drain front h) refl
    where
      go : (s : Sought) → drain front h ≡ s
          → Grows l (reckon_feed front handle p (marked l) v []).port (reckon_feed front handle p (marked l) v []).answer
      go (Found k n good) e =
          let m : Message = message_at n good (drop k h) in
          let i : Draining C l h k n good = draining C l h k n good r e in
          rw i.found
          (record {
            more = skips_then k m;
            read = i.read;
            skips = rw i.read (omega (arith, skipped_in-append l.read (skips_then k m)));
            bytes = none_taken l;
            replies = refl;
          })
      go (Starved k) e =
          let i : Quiet C l h k = quieting C l h k r e in
          rw i.none_found
          (record {
            more = skips k;
            read = i.read;
            skips = rw i.read (omega (arith, skipped_in-append l.read (skips k)));
            bytes = none_taken l;
            replies = sym (append-nil l.replies);
          })

  -- A feed must not come before a silence of its port is drained.
  pub call_grows : (b : Bool) (p : ℕ) (l : Ledger) (h : List ℕ) (v : X) (i : Input) → Tracks C b l h
      → early i (reckon_call front handle p l v i).answer.number b ≡ false
      → Grows l (reckon_call front handle p l v i).port (reckon_call front handle p l v i).answer
  call_grows b p l h v silent r e = silence_grows p l h v r
  call_grows true p l h v (fed chunk) r e = differ (sym (early_reckoned front handle p l v chunk true) ∙ e)
  call_grows false p l h v (fed chunk) r e = feed_grows p l h v chunk r
