-- Document 01, "Numbers of the calls": the number of each refusal, and of an answer.
use Rattle.std.specs.Prelude.{ℕ, zero, suc, cond, eqb, Result, Ok, Err}
use Rattle.refusal.specs.declared.Refusal.{Refusal}
use Rattle.refusal.specs.declared.Refusal.TheVariants.{Port, Board, Room, PageSize, Page, NotWhole, Sums, Kind, Fields, FieldSize, Payload, NoField, Command}

abbrev pub refusal_number : Refusal → ℕ
refusal_number Port = 16
refusal_number Board = 17
refusal_number Room = 18
refusal_number PageSize = 19
refusal_number Page = 20
refusal_number NotWhole = 21
refusal_number Sums = 22
refusal_number Kind = 23
refusal_number Fields = 24
refusal_number FieldSize = 25
refusal_number Payload = 26
refusal_number NoField = 27
refusal_number Command = 28

-- 0: done.
abbrev pub number_of : {X : Type 0} → Result X Refusal → ℕ
number_of (Ok x) = 0
number_of (Err r) = refusal_number r

-- ---- back: what a number says

-- The refusal of a number: 16 to 28 as above. Any other number is no refusal's, and is not looked at (`Command`).
unfoldable pub refusal_from : ℕ → Refusal
refusal_from n =
    cond (eqb n 16) Port
    (cond (eqb n 17) Board
    (cond (eqb n 18) Room
    (cond (eqb n 19) PageSize
    (cond (eqb n 20) Page
    (cond (eqb n 21) NotWhole
    (cond (eqb n 22) Sums
    (cond (eqb n 23) Kind
    (cond (eqb n 24) Fields
    (cond (eqb n 25) FieldSize
    (cond (eqb n 26) Payload
    (cond (eqb n 27) NoField Command)))))))))))

-- The answer of a number and of what stands beside it: done with number 0, and else refused, whatever stands there.
abbrev pub answer_from : {X : Type 0} → ℕ → X → Result X Refusal
answer_from zero x = Ok x
answer_from (suc n) x = Err (refusal_from (suc n))
