-- Request 06: "lists in which each accepted silence is drained to answer 1 before a feed of that port is accepted again", told by
-- the calls and the numbers of the answers.
use Rattle.std.specs.Prelude.{◌≡◌, Bool, true, false, ◌&&◌, List, [], ◌∷◌, ◌++◌, ℕ, zero, suc}
use Rattle.history.specs.Calls.{Input, fed, silent, Call, Answer, Step, run}

-- For each port: was a silence accepted that is not drained to answer 1 yet?
pub record Undrained : Type 0 where
  pub port0 : Bool
  pub port1 : Bool

-- At first no silence was.
abbrev pub no_silence : Undrained
no_silence = record { port0 = false; port1 = false }

abbrev pub undrained_of : ℕ → Undrained → Bool
undrained_of zero u = u.port0
undrained_of (suc p) u = u.port1

abbrev pub with_undrained : ℕ → Bool → Undrained → Undrained
with_undrained zero b u = record { port0 = b; port1 = u.port1 }
with_undrained (suc p) b u = record { port0 = u.port0; port1 = b }

-- After a call with this number. A silence that answers 0 reported a message, and bytes may be left; one that answers 1 left
-- none; a refusal changes nothing, and neither does a feed.
abbrev pub undrained_by : Input → ℕ → Bool → Bool
undrained_by (fed chunk) n b = b
undrained_by silent zero b = true
undrained_by silent (suc zero) b = false
undrained_by silent (suc (suc n)) b = b

abbrev pub undrained_after : Call → ℕ → Undrained → Undrained
undrained_after c n u = with_undrained c.port (undrained_by c.input n (undrained_of c.port u)) u

-- A feed that is accepted, so with number 0 or 1, where a silence of its port is not drained.
abbrev pub early : Input → ℕ → Bool → Bool
early (fed chunk) zero b = b
early (fed chunk) (suc zero) b = b
early (fed chunk) (suc (suc n)) b = false
early silent n b = false

-- No call of the list is such a feed.
abbrev pub unless_early : Bool → Bool → Bool
unless_early true rest = false
unless_early false rest = rest

unfoldable pub drained_from : Undrained → List Call → List Answer → Bool
drained_from u [] answers = true
drained_from u (c ∷ cs) [] = true
drained_from u (c ∷ cs) (a ∷ answers) =
    unless_early (early c.input a.number (undrained_of c.port u)) (drained_from (undrained_after c a.number u) cs answers)

abbrev pub drained : List Call → List Answer → Bool
drained = drained_from no_silence

-- ---- What it says of each port: the statement, proved in proofs/Ports.antt.

-- An accepted call of a port: a feed, a silence that answered 0, a silence that answered 1.
pub data Accepted : Type 0 where
  feeding : Accepted
  reporting : Accepted
  emptying : Accepted

abbrev pub accepted_by : Input → ℕ → List Accepted → List Accepted
accepted_by (fed chunk) zero rest = feeding ∷ rest
accepted_by (fed chunk) (suc zero) rest = feeding ∷ rest
accepted_by silent zero rest = reporting ∷ rest
accepted_by silent (suc zero) rest = emptying ∷ rest
accepted_by i (suc (suc n)) rest = rest

abbrev pub first_on : ℕ → Input → ℕ → List Accepted → List Accepted
first_on zero i n rest = accepted_by i n rest
first_on (suc p) i n rest = rest

abbrev pub second_on : ℕ → Input → ℕ → List Accepted → List Accepted
second_on zero i n rest = rest
second_on (suc p) i n rest = accepted_by i n rest

-- The accepted calls of the first port, and of the second, in order. (An accepted call names 0 or 1.)
abbrev pub first_calls : List Call → List Answer → List Accepted
first_calls [] answers = []
first_calls (c ∷ cs) [] = []
first_calls (c ∷ cs) (a ∷ answers) = first_on c.port c.input a.number (first_calls cs answers)

abbrev pub second_calls : List Call → List Answer → List Accepted
second_calls [] answers = []
second_calls (c ∷ cs) [] = []
second_calls (c ∷ cs) (a ∷ answers) = second_on c.port c.input a.number (second_calls cs answers)

-- After a silence that reported a message, the next call is no feed; so a silence that answered 1 comes before one.
abbrev pub no_feed_next : List Accepted → Bool
no_feed_next (feeding ∷ as') = false
no_feed_next (reporting ∷ as') = true
no_feed_next (emptying ∷ as') = true
no_feed_next [] = true

abbrev pub port_drained : List Accepted → Bool
port_drained [] = true
port_drained (feeding ∷ as') = port_drained as'
port_drained (reporting ∷ as') = no_feed_next as' && port_drained as'
port_drained (emptying ∷ as') = port_drained as'

-- A list is drained where each port's accepted calls are, whatever stands between them: refused calls, and those of the other port.
abbrev pub DrainedByPort : Type 0
DrainedByPort = (cs : List Call) (answers : List Answer) → drained cs answers ≡ port_drained (first_calls cs answers) && port_drained (second_calls cs answers)

-- ---- Which lists are: the statements, proved in proofs/Silences.antt.

abbrev pub is_feed : Input → Bool
is_feed (fed chunk) = true
is_feed silent = false

abbrev pub only_feeds : List Call → Bool
only_feeds [] = true
only_feeds (c ∷ cs) = is_feed c.input && only_feeds cs

-- A list without silences is.
abbrev pub FeedsDrained : Type 0
FeedsDrained = (cs : List Call) (answers : List Answer) → only_feeds cs ≡ true → drained cs answers ≡ true

-- The beginning of such a list is one. So what demand 3 says of the end of a list it says of the end of every call in it.
abbrev pub BeginningDrained : Type 1
BeginningDrained = (S : Type 0) (step : S → Call → Step S) (s : S) (cs ds : List Call)
    → drained (cs ++ ds) (run step s (cs ++ ds)).answers ≡ true → drained cs (run step s cs).answers ≡ true
