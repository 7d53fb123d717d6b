-- `command::fields::fields_fit` meets its contract. Invariant: with n fields passed, what remains is refused where the whole is.
use Prim.Native.Nat.{◌+◌, ◌-◌, ◌≤◌, ◌<◌}
use mathlib.Core.Path.{◌≡◌}
use lib.ListN.{take}
use Rattle.message.specs.Fields.{fields_of}
use Rattle.message.specs.Unread.{bytes_of}
use Rattle.command.specs.Payload.{bytes_in}
use Rattle.command.specs.Errors.{fields_refused}
use Rattle.command.proofs.Rests.{rest_of, refused_from}
use Rattle.command.proofs.fields.fields_fit.Given as goal

abbrev pub invariant-loop-at : goal.invariant-loop-at
invariant-loop-at l = (l.n ≤ 16) × (l.at < l.payload.to + 258) × (refused_from l.n (rest_of (take l.payload.to (bytes_of l.payload.unread)) l.at) ≡ fields_refused (fields_of (bytes_in l.payload)))

abbrev pub decreases-loop-at : goal.decreases-loop-at
decreases-loop-at l = l.payload.to - l.at
