-- A list is drained where the accepted calls of each port are: the proof of `DrainedByPort`.
use mathlib.Core.Path.{◌≡◌, refl, sym, ap, ◌∙◌}
use mathlib.Core.Bool.{Bool, true, false, ◌&&◌}
use mathlib.Core.List.{List, [], ◌∷◌}
use Prim.Native.Nat.{ℕ, zero, suc}
use Rattle.history.specs.Calls.{Input, fed, silent, Call, Answer}
use Rattle.history.specs.Drained.{Undrained, no_silence, undrained_of, with_undrained, undrained_by, early, unless_early, drained_from}
use Rattle.history.specs.Drained.{Accepted, reporting, accepted_by, first_on, second_on, first_calls, second_calls, port_drained, DrainedByPort}

-- Where a silence waits, its `reporting` stands before the calls.
abbrev drained_with : Bool → List Accepted → Bool
drained_with true calls = port_drained (reporting ∷ calls)
drained_with false calls = port_drained calls

and-false : (b : Bool) → b && false ≡ false
and-false true = refl
and-false false = refl

-- One call of a port.
one : (i : Input) (n : ℕ) (b : Bool) (calls : List Accepted)
    → drained_with b (accepted_by i n calls) ≡ unless_early (early i n b) (drained_with (undrained_by i n b) calls)
one (fed chunk) zero true calls = refl
one (fed chunk) zero false calls = refl
one (fed chunk) (suc zero) true calls = refl
one (fed chunk) (suc zero) false calls = refl
one (fed chunk) (suc (suc n)) b calls = refl
one silent zero true calls = refl
one silent zero false calls = refl
one silent (suc zero) true calls = refl
one silent (suc zero) false calls = refl
one silent (suc (suc n)) b calls = refl

unless_first : (e x y : Bool) → unless_early e (x && y) ≡ unless_early e x && y
unless_first true x y = refl
unless_first false x y = refl

unless_second : (e x y : Bool) → unless_early e (x && y) ≡ x && unless_early e y
unless_second true x y = sym (and-false x)
unless_second false x y = refl

none_left : (a b : Bool) → true ≡ drained_with a [] && drained_with b []
none_left true true = refl
none_left true false = refl
none_left false true = refl
none_left false false = refl

by_port : (u : Undrained) (cs : List Call) (answers : List Answer)
    → drained_from u cs answers ≡ drained_with u.port0 (first_calls cs answers) && drained_with u.port1 (second_calls cs answers)
unfolding drained_from
by_port u [] answers = none_left u.port0 u.port1
by_port u (c ∷ cs) [] = none_left u.port0 u.port1
by_port u (c ∷ cs) (a ∷ answers) = go c.port (λ v. by_port v cs answers)
  where
    i : Input
    i = c.input

    n : ℕ
    n = a.number

    after : ℕ → Undrained
    after p = with_undrained p (undrained_by i n (undrained_of p u)) u

    go : (p : ℕ) → ((v : Undrained) → drained_from v cs answers ≡ drained_with v.port0 (first_calls cs answers) && drained_with v.port1 (second_calls cs answers))
        → unless_early (early i n (undrained_of p u)) (drained_from (after p) cs answers)
        ≡ drained_with u.port0 (first_on p i n (first_calls cs answers)) && drained_with u.port1 (second_on p i n (second_calls cs answers))
    go zero ih =
        ap (unless_early (early i n u.port0)) (ih (after 0))
        ∙ unless_first (early i n u.port0) (drained_with (undrained_by i n u.port0) (first_calls cs answers)) (drained_with u.port1 (second_calls cs answers))
        ∙ ap (λ (x : Bool). x && drained_with u.port1 (second_calls cs answers)) (sym (one i n u.port0 (first_calls cs answers)))
    go (suc p) ih =
        ap (unless_early (early i n u.port1)) (ih (after (suc p)))
        ∙ unless_second (early i n u.port1) (drained_with u.port0 (first_calls cs answers)) (drained_with (undrained_by i n u.port1) (second_calls cs answers))
        ∙ ap (λ (y : Bool). drained_with u.port0 (first_calls cs answers) && y) (sym (one i n u.port1 (second_calls cs answers)))

pub drained_by_port : DrainedByPort
drained_by_port cs answers = by_port no_silence cs answers
