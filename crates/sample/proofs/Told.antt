-- What the data reader tells, a number and values, gives back what the code answers.
use Rattle.std.proofs.Common.{◌≡◌, refl}
use Rattle.std.specs.Prelude.{Result, Ok, Err}
use Rattle.refusal.specs.declared.Refusal.{Refusal}
use Rattle.refusal.proofs.Numbers.{refused_back}
use Rattle.sample.specs.declared.reader.FieldRead.{FieldRead}
use Rattle.sample.specs.declared.reader.Sample.TheVariants.{Unknown}
use Rattle.sample.specs.Reader.{answer_of, field_told}

pub answer_back : (r : Result FieldRead Refusal) → field_told (answer_of r) ≡ r
answer_back (Ok f) = refl
answer_back (Err r) = refused_back r (record { field = Unknown 0 0; place = 0; size = 0 })
