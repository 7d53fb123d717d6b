-- No refusal has the number of an answer that is done, and each comes back from its number: no two refusals have one.
use Rattle.std.proofs.Common.{◌<◌, ◌≡◌, refl, arith}
use Rattle.std.specs.Prelude.{Result, Ok, Err}
use Rattle.refusal.specs.declared.Refusal.{Refusal}
use Rattle.refusal.specs.declared.Refusal.TheVariants.{Port, Board, Room, PageSize, Page, NotWhole, Sums, Kind, Fields, FieldSize, Payload, NoField, Command}
use Rattle.refusal.specs.Refusal.{refusal_number, number_of, refusal_from, answer_from}

pub number_above : (r : Refusal) → 0 < refusal_number r
number_above Port = omega arith
number_above Board = omega arith
number_above Room = omega arith
number_above PageSize = omega arith
number_above Page = omega arith
number_above NotWhole = omega arith
number_above Sums = omega arith
number_above Kind = omega arith
number_above Fields = omega arith
number_above FieldSize = omega arith
number_above Payload = omega arith
number_above NoField = omega arith
number_above Command = omega arith

pub refusal_back : (r : Refusal) → refusal_from (refusal_number r) ≡ r
unfolding refusal_from
refusal_back Port = refl
refusal_back Board = refl
refusal_back Room = refl
refusal_back PageSize = refl
refusal_back Page = refl
refusal_back NotWhole = refl
refusal_back Sums = refl
refusal_back Kind = refl
refusal_back Fields = refl
refusal_back FieldSize = refl
refusal_back Payload = refl
refusal_back NoField = refl
refusal_back Command = refl

-- So does a refused answer, whatever stands beside its number.
pub refused_back : {X : Type 0} (r : Refusal) (x : X) → answer_from (refusal_number r) x ≡ Err r
unfolding refusal_from
refused_back Port x = refl
refused_back Board x = refl
refused_back Room x = refl
refused_back PageSize x = refl
refused_back Page x = refl
refused_back NotWhole x = refl
refused_back Sums x = refl
refused_back Kind x = refl
refused_back Fields x = refl
refused_back FieldSize x = refl
refused_back Payload x = refl
refused_back NoField x = refl
refused_back Command x = refl

-- And an answer that has its number alone.
pub number_back : (r : Result (Unit {0}) Refusal) → answer_from (number_of r) tt ≡ r
number_back (Ok x) = refl
number_back (Err r) = refused_back r tt
