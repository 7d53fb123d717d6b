-- Where handling a message of port 1 leaves the values as they were, port 0 sees nothing of the calls of port 1: the proof of
-- `NoInterference`.
use mathlib.Core.Path.{◌≡◌, refl, sym, ap, ◌∙◌}
use mathlib.Core.Bool.{Bool, true, false, ◌||◌}
use mathlib.Core.List.{List, [], ◌∷◌, ◌++◌}
use Prim.Native.Nat.{ℕ, zero, suc, ◌+◌, ◌-◌, ◌≤◌}
use native.Mathlib.Omega.{arith}
use borrow.Author.Tests.{le-ltb, lt-ltb, ne_eqb}
use lib.Dec.{ltb}
use lib.ListN.{length, take, drop}
use Rattle.stream.specs.declared.Verdict.{Verdict}
use Rattle.stream.specs.declared.Sought.{Sought}
use Rattle.stream.specs.declared.Sought.TheVariants.{Starved, Found}
use Rattle.stream.specs.Scan.{Message, message_at}
use Rattle.stream.specs.Cutting.{Cutting}
use Rattle.history.specs.Calls.{Input, chunk_of, Call, Step, refuse, State, accept}
use Rattle.history.specs.Reckoning.{Outcome}
use Rattle.history.specs.Program.{Tests, sought_by, held_on, held_call, held_step}
use Rattle.history.specs.Interference.{Seen, port_zero_calls, seen_from, ReadsOnly, NoInterference}
use Rattle.history.proofs.Demand.{handles_same}
use Rattle.history.proofs.Sound.{call_fine}

module _ {front : List ℕ → Verdict} {most_held : ℕ} (C : Cutting front most_held) {W : Type 0} (handle : ℕ → W → Message → Outcome W) where
  -- A port holds few bytes after a call, if it did before.
  call_few : (p : ℕ) (h : List ℕ) (w : W) (i : Input) → length h ≤ most_held → length (held_call front handle p h w i).port ≤ most_held
  call_few p h w i few = (call_fine C (handles_same handle) p h w w i few refl).few

  module _ (room : ℕ) (tests : W → Tests) (L : ReadsOnly front most_held room tests handle) where
    -- A call of port 1 leaves the values as they were.
    call_keeps : (h : List ℕ) (w : W) (i : Input) → (held_call front handle 1 h w i).values ≡ w
    unfolding held_call held_on
    call_keeps h w i = go (sought_by front i h)
      where
        go : (q : Sought) → (held_on front handle q 1 h w (chunk_of i)).values ≡ w
        go (Found k n good) = L w (message_at n good (drop k (h ++ take (k + n - length h) (chunk_of i))))
        go (Starved k) = refl

    abbrev step : State (List ℕ) W → Call → Step (State (List ℕ) W)
    step = held_step front handle most_held room tests

    abbrev state : List ℕ → List ℕ → W → State (List ℕ) W
    state h x w = record { port0 = h; port1 = x; values = w }

    -- What port 0 sees of a first step and the rest of a list.
    abbrev seen_then : Call → Step (State (List ℕ) W) → List (Seen W) → List (Seen W)
    seen_then c one rest = record { answer = one.answer; held = one.state.port0; values = one.state.values } ∷ rest

    -- What is proved of the rest of a list: port 0 sees what it would without the calls of port 1, whatever port 1 holds.
    abbrev Same : List Call → Type 0
    Same cs = (h x y : List ℕ) (w : W) → length x ≤ most_held → length y ≤ most_held
        → seen_from step (state h x w) cs ≡ seen_from step (state h y w) (port_zero_calls cs)

    -- A call of port 0.
    first_same : (h x y : List ℕ) (w : W) (i : Input) (n : ℕ) (cs : List Call) → length x ≤ most_held → length y ≤ most_held → Same cs
        → seen_from step (state h x w) (record { port = 0; input = i; room = n } ∷ cs)
        ≡ seen_from step (state h y w) (record { port = 0; input = i; room = n } ∷ port_zero_calls cs)
    unfolding seen_from held_step
    first_same h x y w i n cs few few' rest =
        rw (le-ltb most_held (length x) few, le-ltb most_held (length y) few')
        (go (ltb 1 0) (ltb most_held (length h) || false || (tests w).unusable) (ltb n room) (tests w).wrong_length (tests w).unsound)
      where
        c : Call
        c = record { port = 0; input = i; room = n }

        done : List ℕ → Bool → Bool → Bool → Bool → Bool → Step (State (List ℕ) W)
        done z a u r l k =
            refuse a 16 (state h z w)
            (refuse u 17 (state h z w)
            (refuse r 18 (state h z w)
            (refuse l 19 (state h z w)
            (refuse k 20 (state h z w)
            (accept 0 (state h z w) (held_call front handle 0 h w i))))))

        go : (a u r l k : Bool)
            → seen_then c (done x a u r l k) (seen_from step (done x a u r l k).state cs)
            ≡ seen_then c (done y a u r l k) (seen_from step (done y a u r l k).state (port_zero_calls cs))
        go true u r l k = cc (rest h x y w few few')
        go false true r l k = cc (rest h x y w few few')
        go false false true l k = cc (rest h x y w few few')
        go false false false true k = cc (rest h x y w few few')
        go false false false false true = cc (rest h x y w few few')
        go false false false false false =
            cc (rest (held_call front handle 0 h w i).port x y (held_call front handle 0 h w i).values few few')

    -- A call of port 1.
    second_same : (h x y : List ℕ) (w : W) (i : Input) (n : ℕ) (cs : List Call) → length x ≤ most_held → length y ≤ most_held → Same cs
        → seen_from step (step (state h x w) (record { port = 1; input = i; room = n })).state cs ≡ seen_from step (state h y w) (port_zero_calls cs)
    unfolding held_step
    second_same h x y w i n cs few few' rest =
        go (ltb 1 1) (ltb most_held (length h) || ltb most_held (length x) || (tests w).unusable) (ltb n room) (tests w).wrong_length (tests w).unsound
      where
        done : Bool → Bool → Bool → Bool → Bool → Step (State (List ℕ) W)
        done a u r l k =
            refuse a 16 (state h x w)
            (refuse u 17 (state h x w)
            (refuse r 18 (state h x w)
            (refuse l 19 (state h x w)
            (refuse k 20 (state h x w)
            (accept 1 (state h x w) (held_call front handle 1 x w i))))))

        go : (a u r l k : Bool) → seen_from step (done a u r l k).state cs ≡ seen_from step (state h y w) (port_zero_calls cs)
        go true u r l k = rest h x y w few few'
        go false true r l k = rest h x y w few few'
        go false false true l k = rest h x y w few few'
        go false false false true k = rest h x y w few few'
        go false false false false true = rest h x y w few few'
        go false false false false false =
            rw (call_keeps x w i) (rest h (held_call front handle 1 x w i).port y w (call_few 1 x w i few) few')

    -- A call of no port is refused.
    other_same : (p : ℕ) (s : State (List ℕ) W) (i : Input) (n : ℕ) → (step s (record { port = suc (suc p); input = i; room = n })).state ≡ s
    unfolding held_step
    other_same p s i n = rw (lt-ltb 1 (suc (suc p)) (omega arith))

    same : (cs : List Call) → Same cs
    unfolding seen_from
    same [] h x y w few few' = refl
    same (c ∷ cs) h x y w few few' = by_port c.port c.input c.room (same cs)
      where
        by_port : (p : ℕ) (i : Input) (n : ℕ) → Same cs
            → seen_from step (state h x w) (record { port = p; input = i; room = n } ∷ cs)
            ≡ seen_from step (state h y w) (port_zero_calls (record { port = p; input = i; room = n } ∷ cs))
        by_port zero i n rest = first_same h x y w i n cs few few' rest
        by_port (suc zero) i n rest = second_same h x y w i n cs few few' rest
        by_port (suc (suc p)) i n rest =
            rw (other_same p (state h x w) i n, ne_eqb (suc (suc p)) 0 (λ e. absurd (omega (arith, e)))) (rest h x y w few few')

    -- The row is that of the list without the calls of port 1.
    alone : (w : W) (cs : List Call) → seen_from step (state [] [] w) cs ≡ seen_from step (state [] [] w) (port_zero_calls cs)
    alone w cs = same cs [] [] [] w (omega arith) (omega arith)

module _ (front : List ℕ → Verdict) (most_held room : ℕ) {W : Type 0} (tests : W → Tests) (handle : ℕ → W → Message → Outcome W) where
  pub no_interference : NoInterference front most_held room tests handle
  no_interference C L w cs cs' e =
      alone C handle room tests L w cs
      ∙ ap (seen_from (held_step front handle most_held room tests) (record { port0 = []; port1 = []; values = w })) e
      ∙ sym (alone C handle room tests L w cs')
