-- Lists of calls, by the reckoning and by the program: on a small framing, in which a message is 5, a number n, n bytes, and
-- a last byte that is 1 where the message is good.
use mathlib.Core.Path.{◌≡◌, refl}
use mathlib.Core.Bool.{true, false}
use mathlib.Core.List.{List, [], ◌∷◌}
use Prim.Native.Nat.{ℕ, suc, ◌+◌, ◌-◌}
use lib.Dec.{eqb}
use lib.ListN.{length, get_or}
use Rattle.stream.specs.declared.Verdict.{Verdict}
use Rattle.stream.specs.Framing.{front_by}
use Rattle.stream.specs.Scan.{Message, events_past}
use Rattle.stream.specs.Seek.{seek}
use Rattle.history.specs.Calls.{fed, silent, Call, Answer, run}
use Rattle.history.specs.Reckoning.{Outcome, shortest, handle_next, used_up, reckon_feed, reckon_step, reckoning}
use Rattle.history.specs.Program.{passing, held_on, held_call, held_step, held_program}
use Rattle.history.specs.Ports.{unfed, history_of}
use Rattle.history.specs.Drained.{drained_from, drained}
use Rattle.history.specs.Interference.{port_zero_calls}
use Rattle.history.specs.Restarts.{Act, call, restart, history_from, held_history, reckoned_history}

front : List ℕ → Verdict
front = front_by (λ u. eqb (get_or u 0 0) 5) (λ u. get_or u 1 0 + 3) (λ m. eqb (get_or m (length m - 1) 0) 1)

-- A handling that counts the messages, and replies with the message itself.
count : ℕ → ℕ → Message → Outcome ℕ
count p w m = record { reply = m.bytes; saved = m.good; next = suc w }

-- A damaged message that holds a good one, with a byte before it; then the good one, of which nothing is taken any more; then
-- the rest. Between them a port that is none, and a room that is too small.
feeds : List Call
feeds =
    record { port = 0; input = fed (9 ∷ 5 ∷ 3 ∷ 5 ∷ 0 ∷ 1 ∷ 0 ∷ 8 ∷ []); room = 1 }
    ∷ record { port = 2; input = fed (8 ∷ []); room = 0 }
    ∷ record { port = 0; input = fed (8 ∷ []); room = 1 }
    ∷ record { port = 1; input = fed (8 ∷ []); room = 0 }
    ∷ record { port = 0; input = fed (8 ∷ 5 ∷ []); room = 1 }
    ∷ []

damaged : Message
damaged = record { good = false; bytes = 5 ∷ 3 ∷ 5 ∷ 0 ∷ 1 ∷ 0 ∷ [] }

good : Message
good = record { good = true; bytes = 5 ∷ 0 ∷ 1 ∷ [] }

answers : List Answer
answers =
    record { number = 0; taken = 7; skipped = 2; saved = false; reply = damaged.bytes; reports = damaged ∷ [] }
    ∷ record { number = 16; taken = 0; skipped = 0; saved = false; reply = []; reports = [] }
    ∷ record { number = 0; taken = 0; skipped = 1; saved = true; reply = good.bytes; reports = good ∷ [] }
    ∷ record { number = 18; taken = 0; skipped = 0; saved = false; reply = []; reports = [] }
    ∷ record { number = 1; taken = 2; skipped = 2; saved = false; reply = []; reports = [] }
    ∷ []

reckoned : (reckoning front count 1 0 feeds).answers ≡ answers
unfolding front count feeds damaged good answers events_past run shortest handle_next used_up reckon_feed reckon_step reckoning
reckoned = refl

programmed : (held_program front count 258 1 (λ w. passing) 0 feeds).answers ≡ answers
unfolding front count feeds damaged good answers seek run held_on held_call held_step held_program
programmed = refl

held : (held_program front count 258 1 (λ w. passing) 0 feeds).final ≡ record { port0 = 5 ∷ []; port1 = []; values = 2 }
unfolding front count feeds seek run held_on held_call held_step held_program
held = refl

-- 9 bytes taken are 3 of a good message, 5 skipped and 1 held.
told : history_of 0 unfed feeds answers
    ≡ record { stream = record { segments = []; current = 9 ∷ 5 ∷ 3 ∷ 5 ∷ 0 ∷ 1 ∷ 0 ∷ 8 ∷ 5 ∷ [] }; taken = 9; count = 2; skips = 5; reports = damaged ∷ good ∷ []; last = 1 }
unfolding feeds damaged good answers history_of
told = refl

-- ---- The calls of port 0 in a list.
first_only : port_zero_calls feeds
    ≡ record { port = 0; input = fed (9 ∷ 5 ∷ 3 ∷ 5 ∷ 0 ∷ 1 ∷ 0 ∷ 8 ∷ []); room = 1 }
    ∷ record { port = 0; input = fed (8 ∷ []); room = 1 }
    ∷ record { port = 0; input = fed (8 ∷ 5 ∷ []); room = 1 }
    ∷ []
unfolding feeds
first_only = refl

-- ---- With a restart: what was held of a message is lost, so that its end is nothing; then a whole one. A start adds ten to the count, and
-- a profile is what its messages add beside one.
counting : ℕ → ℕ → ℕ → Message → Outcome ℕ
counting profile p w m = record { reply = m.bytes; saved = m.good; next = suc (w + profile) }

acts : List (Act ℕ Call)
acts =
    call (record { port = 0; input = fed (5 ∷ 0 ∷ []); room = 1 })
    ∷ restart 100
    ∷ call (record { port = 0; input = fed (1 ∷ []); room = 1 })
    ∷ call (record { port = 0; input = fed (5 ∷ 0 ∷ 1 ∷ []); room = 1 })
    ∷ []

restarted : List Answer
restarted =
    record { number = 1; taken = 2; skipped = 0; saved = false; reply = []; reports = [] }
    ∷ record { number = 1; taken = 1; skipped = 1; saved = false; reply = []; reports = [] }
    ∷ record { number = 0; taken = 3; skipped = 0; saved = true; reply = good.bytes; reports = good ∷ [] }
    ∷ []

reckoned_acts_lem : (reckoned_history front counting 1 (λ w. w + 10) 0 0 acts).answers ≡ restarted
unfolding front counting good acts restarted events_past shortest handle_next used_up reckon_feed reckon_step history_from reckoned_history
reckoned_acts_lem = refl

programmed_acts : (held_history front counting 258 1 (λ w. passing) (λ w. w + 10) 0 0 acts).answers ≡ restarted
unfolding front counting good acts restarted seek held_on held_call held_step history_from held_history
programmed_acts = refl

kept_acts : (held_history front counting 258 1 (λ w. passing) (λ w. w + 10) 0 0 acts).final ≡ record { port0 = []; port1 = []; values = 121 }
unfolding front counting acts seek held_on held_call held_step history_from held_history
kept_acts = refl

-- ---- A false header that claims 9 bytes more, with a message behind it and the beginning of another; then the line goes quiet. The
-- silence finds the message, a second one drains the rest, a third has nothing to do; and a message whose bytes lie on both sides
-- of the marks is none. Between them calls that do not count: refused ones, and a feed of the other port while this one is not drained.

quiet : List Call
quiet =
    record { port = 0; input = fed (5 ∷ 9 ∷ 5 ∷ 0 ∷ 1 ∷ 5 ∷ []); room = 1 }
    ∷ record { port = 0; input = silent; room = 0 }
    ∷ record { port = 0; input = silent; room = 1 }
    ∷ record { port = 0; input = fed (8 ∷ []); room = 0 }
    ∷ record { port = 1; input = fed (8 ∷ []); room = 1 }
    ∷ record { port = 0; input = silent; room = 1 }
    ∷ record { port = 0; input = silent; room = 1 }
    ∷ record { port = 0; input = silent; room = 0 }
    ∷ record { port = 0; input = fed (0 ∷ 1 ∷ 5 ∷ 0 ∷ 1 ∷ []); room = 1 }
    ∷ []

quiet_answers : List Answer
quiet_answers =
    record { number = 1; taken = 6; skipped = 0; saved = false; reply = []; reports = [] }
    ∷ record { number = 18; taken = 0; skipped = 0; saved = false; reply = []; reports = [] }
    ∷ record { number = 0; taken = 0; skipped = 2; saved = true; reply = good.bytes; reports = good ∷ [] }
    ∷ record { number = 18; taken = 0; skipped = 0; saved = false; reply = []; reports = [] }
    ∷ record { number = 1; taken = 1; skipped = 1; saved = false; reply = []; reports = [] }
    ∷ record { number = 1; taken = 0; skipped = 1; saved = false; reply = []; reports = [] }
    ∷ record { number = 1; taken = 0; skipped = 0; saved = false; reply = []; reports = [] }
    ∷ record { number = 18; taken = 0; skipped = 0; saved = false; reply = []; reports = [] }
    ∷ record { number = 0; taken = 5; skipped = 2; saved = true; reply = good.bytes; reports = good ∷ [] }
    ∷ []

quiet_reckoned : (reckoning front count 1 0 quiet).answers ≡ quiet_answers
unfolding front count quiet good quiet_answers events_past run shortest handle_next used_up reckon_feed reckon_step reckoning
quiet_reckoned = refl

quiet_programmed : (held_program front count 258 1 (λ w. passing) 0 quiet).answers ≡ quiet_answers
unfolding front count quiet good quiet_answers seek run held_on held_call held_step held_program
quiet_programmed = refl

quiet_drained : drained quiet quiet_answers ≡ true
unfolding quiet quiet_answers drained_from
quiet_drained = refl

-- The marks stand behind the six bytes. 11 bytes taken are 6 of good messages and 5 skipped.
quiet_told : history_of 0 unfed quiet quiet_answers
    ≡ record {
      stream = record { segments = (5 ∷ 9 ∷ 5 ∷ 0 ∷ 1 ∷ 5 ∷ []) ∷ [] ∷ [] ∷ []; current = 0 ∷ 1 ∷ 5 ∷ 0 ∷ 1 ∷ [] };
      taken = 11;
      count = 2;
      skips = 5;
      reports = good ∷ good ∷ [];
      last = 0;
    }
unfolding quiet good quiet_answers history_of
quiet_told = refl

-- ---- A feed that comes before the silence is drained: the program takes it, over the bytes 5 9 that are left; the reckoning skips
-- those up to the mark, and finds the message behind it.

early_feed : List Call
early_feed =
    record { port = 0; input = fed (5 ∷ 9 ∷ 5 ∷ 0 ∷ 1 ∷ 5 ∷ 9 ∷ []); room = 1 }
    ∷ record { port = 0; input = silent; room = 1 }
    ∷ record { port = 0; input = fed (5 ∷ 0 ∷ 1 ∷ []); room = 1 }
    ∷ []

early_feed_answers : Answer → List Answer
early_feed_answers last =
    record { number = 1; taken = 7; skipped = 0; saved = false; reply = []; reports = [] }
    ∷ record { number = 0; taken = 0; skipped = 2; saved = true; reply = good.bytes; reports = good ∷ [] }
    ∷ last
    ∷ []

early_feed_reckoned : (reckoning front count 1 0 early_feed).answers
    ≡ early_feed_answers (record { number = 0; taken = 3; skipped = 2; saved = true; reply = good.bytes; reports = good ∷ [] })
unfolding front count early_feed good early_feed_answers events_past run shortest handle_next used_up reckon_feed reckon_step reckoning
early_feed_reckoned = refl

early_feed_programmed : (held_program front count 258 1 (λ w. passing) 0 early_feed).answers
    ≡ early_feed_answers (record { number = 1; taken = 3; skipped = 0; saved = false; reply = []; reports = [] })
unfolding front count early_feed good early_feed_answers seek run held_on held_call held_step held_program
early_feed_programmed = refl

-- It is no list of demand 3, whichever answers tell.
early_feed_early : (a : Answer) → a.number ≡ 0 → drained early_feed (early_feed_answers a) ≡ false
unfolding early_feed early_feed_answers drained_from
early_feed_early a e = rw e

early_feed_early_too : (a : Answer) → a.number ≡ 1 → drained early_feed (early_feed_answers a) ≡ false
unfolding early_feed early_feed_answers drained_from
early_feed_early_too a e = rw e
