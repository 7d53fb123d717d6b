-- `command::answer::answer_fields` meets its contract. Invariant: what is placed, with the fields that remain, is the whole.
use Prim.Native.Nat.{◌-◌}
use mathlib.Core.Path.{◌≡◌}
use lib.ListN.{length}
use Rattle.message.specs.Fields.{fields_of}
use Rattle.message.specs.Unread.{bytes_of}
use Rattle.command.specs.Payload.{bytes_in}
use Rattle.command.specs.Handle.{fields_in}
use Rattle.command.proofs.Turns.{placed_fields, Turn}
use Rattle.command.proofs.answer.answer_fields.Given as goal

abbrev pub invariant-loop-at : goal.invariant-loop-at
invariant-loop-at l = (length l.room ≡ length l.initial.room) × (length l.page ≡ length l.initial.page)
    × Turn (bytes_of l.payload.unread) l.denial l.kind l.payload.to (placed_fields l.denial l.kind (fields_in (fields_of (bytes_in l.payload))) (record { done = l.initial.p; room = l.initial.room; page = l.initial.page })) l.at
    (record { done = l.p; room = l.room; page = l.page })

abbrev pub decreases-loop-at : goal.decreases-loop-at
decreases-loop-at l = l.payload.to - l.at
