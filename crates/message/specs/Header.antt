-- Internal, for the contracts of the code: what the first bytes tell, before any byte is summed.
use Rattle.std.specs.Prelude.{ℕ, Bool, true, false, List, length, nat_le}
use Rattle.message.specs.declared.header.Opening.{Opening}
use Rattle.message.specs.declared.header.Opening.TheVariants.{NoMessage, Incomplete, Complete}
use Rattle.message.specs.Front.{opens, size_of}

-- Does the front open a message, are all n bytes of it there?
abbrev pub opening_on : Bool → Bool → ℕ → Opening
opening_on false there n = NoMessage
opening_on true false n = Incomplete
opening_on true true n = Complete n

unfoldable pub opening_of : List ℕ → Opening
opening_of u = opening_on (opens u) (nat_le (size_of u) (length u)) (size_of u)
