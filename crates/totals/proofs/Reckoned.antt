-- The totals of a port, updated from a call that goes as reckoned, stand for the counts in what the reckoning then keeps of the port.
use mathlib.Core.Path.{◌≡◌, refl, sym, ap, ◌∙◌}
use mathlib.Core.Bool.{Bool, true, false}
use mathlib.Core.Option.{Option, none, some}
use mathlib.Core.List.{List, [], ◌∷◌, ◌++◌, append-nil}
use Prim.Native.Nat.{ℕ, zero, suc, ◌+◌, ◌≤◌}
use native.Mathlib.Omega.{arith}
use borrow.Author.Tests.{ltb-false}
use lib.Dec.{eqb, ltb}
use lib.ListN.{length, length-append}
use Rattle.stream.specs.declared.Verdict.{Verdict}
use Rattle.stream.specs.Scan.{Message, good_in, skipped_in}
use Rattle.stream.specs.Silence.{bytes_in}
use Rattle.stream.specs.Cutting.{Cutting}
use Rattle.stream.proofs.Events.{skipped_in-append, good_in-append}
use Rattle.history.specs.Calls.{Input, fed, silent, Call, Answer, Step, refused, refuse, State, Turn, port_of, settled, accept}
use Rattle.history.specs.Reckoning.{Outcome, Ledger, marked, shortest, handle_next, used_up, reckon_on, reckon_feed, reckon_call, reckon_step}
use Rattle.history.specs.Program.{Tests, held_step}
use Rattle.history.specs.Drained.{Undrained, undrained_of, early}
use Rattle.history.specs.Premises.{Handles}
use Rattle.history.proofs.Driven.{Related, port_related}
use Rattle.history.proofs.Grows.{replies_by, Grows, call_grows}
use Rattle.history.proofs.Steps.{step_related}
use Rattle.history.proofs.Tracks.{Tracks}
use Rattle.totals.specs.declared.Tally.{Tally}
use Rattle.totals.specs.Tally.{good_bytes, counted_of}
use Rattle.totals.specs.Counts.{totals_of, counts_after, errors_in, counts_in}
use Rattle.totals.proofs.Counted.{counted_is}
use Rattle.totals.proofs.Sums.{counted_none}

-- What a call is to the totals of a port: nothing where it named another.
abbrev pub counted_if : Bool → Tally → ℕ → ℕ → ℕ → ℕ → ℕ → ℕ → Tally
counted_if true y number taken skipped error before after = counted_of y number taken skipped error before after
counted_if false y number taken skipped error before after = y

module _ (error_in : List ℕ → ℕ) where
  errors_append : (rs ss : List (List ℕ)) → errors_in error_in (rs ++ ss) ≡ errors_in error_in rs ++ errors_in error_in ss
  errors_append [] ss = refl
  errors_append (r ∷ rs) ss = ap (λ (es : List ℕ). error_in r ∷ es) (errors_append rs ss)

  -- What a call adds to the ledger it adds to the counts.
  grown : (l l' : Ledger) (a : Answer) (g : Grows l l' a) → a.number ≤ 1
      → counts_after a.number a.taken a.skipped (good_in g.more) (error_in a.reply) (counts_in error_in l) ≡ counts_in error_in l'
  grown l l' a g few = go a.number few g.replies
    where
      skips : skipped_in l.read + a.skipped ≡ skipped_in l'.read
      skips = rw g.read (omega (arith, skipped_in-append l.read g.more, g.skips))

      goods : good_in l.read + good_in g.more ≡ good_in l'.read
      goods = rw g.read (omega (arith, good_in-append l.read g.more))

      go : (k : ℕ) → k ≤ 1 → l'.replies ≡ l.replies ++ replies_by k a.reply
          → counts_after k a.taken a.skipped (good_in g.more) (error_in a.reply) (counts_in error_in l) ≡ counts_in error_in l'
      go zero h e = rw (e, errors_append l.replies (a.reply ∷ []), g.bytes, skips, goods)
      go (suc zero) h e = rw (e, append-nil l.replies, g.bytes, skips, goods)
      go (suc (suc k)) h e = absurd (omega arith)

  module _ {front : List ℕ → Verdict} {most_held : ℕ} (C : Cutting front most_held) where
    -- All bytes of a port are those of its good messages, those skipped and those held.
    held_sum : {b : Bool} (l : Ledger) (h : List ℕ) → Tracks C b l h → length (bytes_in l.stream) ≡ good_in l.read + skipped_in l.read + length h
    held_sum l h r = omega (arith, ap length r.split, length-append r.before h, r.place)

    grown_counted : {b b' : Bool} (l l' : Ledger) (h h' : List ℕ) (a : Answer) → Tracks C b l h → Tracks C b' l' h' → Grows l l' a → a.number ≤ 1
        → counted_of (totals_of (counts_in error_in l)) a.number a.taken a.skipped (error_in a.reply) (length h) (length h') ≡ totals_of (counts_in error_in l')
    grown_counted l l' h h' a r r' g few =
        counted_is (counts_in error_in l) a.number a.taken a.skipped (good_in g.more) (error_in a.reply) (length h) (length h') (λ k. sum)
        ∙ ap totals_of (grown l l' a g few)
      where
        sum : a.taken + length h ≡ good_in g.more + a.skipped + length h'
        sum =
            omega (
              arith,
              held_sum l h r,
              held_sum l' h' r',
              g.bytes,
              g.skips,
              ap good_in g.read,
              ap skipped_in g.read,
              good_in-append l.read g.more,
              skipped_in-append l.read g.more,
            )

    module _ {X : Type 0} (reckoned : ℕ → X → Message → Outcome X) where
      -- An accepted call answers 0 or 1.
      feed_number_lem : (p : ℕ) (l : Ledger) (v : X) (chunk : List ℕ) → (reckon_feed front reckoned p l v chunk).answer.number ≤ 1
      unfolding reckon_feed handle_next used_up
      feed_number_lem p l v chunk = go (shortest front l chunk)
        where
          go : (o : Option ℕ) → (reckon_on front reckoned o p l v chunk).answer.number ≤ 1
          go (some j) = omega arith
          go none = omega arith

      call_number : (p : ℕ) (l : Ledger) (v : X) (i : Input) → (reckon_call front reckoned p l v i).answer.number ≤ 1
      call_number p l v (fed chunk) = feed_number_lem p l v chunk
      call_number p l v silent = feed_number_lem p (marked l) v []

    module _ {X W : Type 0} {L : X → W → Type 0} {reckoned : ℕ → X → Message → Outcome X} {tests : W → Tests} {handle : ℕ → W → Message → Outcome W}
        (H : Handles L reckoned tests handle) (room : ℕ) (u : Undrained) (s : State Ledger X) (t : State (List ℕ) W) (c : Call) where
      abbrev turn : Turn Ledger X
      turn = reckon_call front reckoned c.port (port_of c.port s) s.values c.input

      abbrev tested : Bool → Bool → Step (State Ledger X)
      tested a b = refuse a 16 s (refuse b 18 s (accept c.port s turn))

      abbrev next : State (List ℕ) W
      next = (held_step front handle most_held room tests t c).state

      abbrev totals : ℕ → State Ledger X → Tally
      totals p s = totals_of (counts_in error_in (port_of p s))

      abbrev updated : ℕ → Step (State Ledger X) → Tally
      updated p one =
          counted_if (eqb c.port p) (totals p s) one.answer.number one.answer.taken one.answer.skipped (error_in one.answer.reply)
          (length (port_of p t)) (length (port_of p next))

      refused_counts : (p n : ℕ) → 1 ≤ n → updated p (record { answer = refused (suc n); state = s }) ≡ totals p s
      refused_counts p n h = go (eqb c.port p)
        where
          go : (b : Bool) → counted_if b (totals p s) (suc n) 0 0 (error_in []) (length (port_of p t)) (length (port_of p next)) ≡ totals p s
          go true = sym (counted_none (totals p s) (suc n) 0 0 (good_bytes 0 0 (length (port_of p t)) (length (port_of p next))) (error_in []) (omega arith))
          go false = refl

      -- An accepted call of port q, seen from port p.
      accepted_counts : (p q : ℕ) → p ≤ 1 → q ≤ 1 → (x : Turn Ledger X) {u' : Undrained} → Related (Tracks C) L u s t → Related (Tracks C) L u' (settled q s x) next
          → Grows (port_of q s) x.port x.answer → x.answer.number ≤ 1
          → counted_if (eqb q p) (totals p s) x.answer.number x.answer.taken x.answer.skipped (error_in x.answer.reply) (length (port_of p t)) (length (port_of p next))
          ≡ totals p (settled q s x)
      accepted_counts zero zero hp hq x r r' g few = grown_counted s.port0 x.port t.port0 next.port0 x.answer r.port0 r'.port0 g few
      accepted_counts zero (suc zero) hp hq x r r' g few = refl
      accepted_counts zero (suc (suc q)) hp hq x r r' g few = absurd (omega arith)
      accepted_counts (suc zero) zero hp hq x r r' g few = refl
      accepted_counts (suc zero) (suc zero) hp hq x r r' g few = grown_counted s.port1 x.port t.port1 next.port1 x.answer r.port1 r'.port1 g few
      accepted_counts (suc zero) (suc (suc q)) hp hq x r r' g few = absurd (omega arith)
      accepted_counts (suc (suc p)) q hp hq x r r' g few = absurd (omega arith)

      pub step_counts : (p : ℕ) → p ≤ 1 → Related (Tracks C) L u s t
          → early c.input (reckon_step front reckoned room s c).answer.number (undrained_of c.port u) ≡ false
          → updated p (reckon_step front reckoned room s c) ≡ totals p (reckon_step front reckoned room s c).state
      unfolding reckon_step
      step_counts p hp r e = go (ltb 1 c.port) refl (ltb c.room room) e (step_related C H room u s t c r e).state
        where
          go : (a : Bool) → ltb 1 c.port ≡ a → (b : Bool) → early c.input (tested a b).answer.number (undrained_of c.port u) ≡ false
              → {u' : Undrained} → Related (Tracks C) L u' (tested a b).state next → updated p (tested a b) ≡ totals p (tested a b).state
          go true x b e r' = refused_counts p 15 (omega arith)
          go false x true e r' = refused_counts p 17 (omega arith)
          go false x false e r' =
              accepted_counts p c.port hp (ltb-false 1 c.port x) turn r r'
              (call_grows C reckoned (undrained_of c.port u) c.port (port_of c.port s) (port_of c.port t) s.values c.input
              (port_related (Tracks C) L c.port u s t r) e)
              (call_number reckoned c.port (port_of c.port s) s.values c.input)
