-- What the reply reader tells, a number and a row, gives back what the code answers.
use Rattle.std.proofs.Common.{◌≡◌, refl}
use Rattle.std.specs.Prelude.{None, Result, Ok, Err}
use Rattle.refusal.specs.declared.Refusal.{Refusal}
use Rattle.refusal.proofs.Numbers.{refused_back}
use Rattle.client.specs.declared.reader.Reply.{Reply}
use Rattle.client.specs.Reader.{reply_of, reply_told}

pub reply_back : (r : Result Reply Refusal) → reply_told (reply_of r) ≡ r
reply_back (Ok r) = refl
reply_back (Err e) = refused_back e (record { kind = 0; echo = 0; error = 0; value = None })
