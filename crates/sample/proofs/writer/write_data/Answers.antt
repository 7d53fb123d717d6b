-- `sample::writer::write_data` meets its contract: the payload is that of the data message.
use Rattle.std.proofs.Common.{◌≡◌, ◌∙◌, ℕ, List}
use Rattle.message.specs.Write.{Writing, plain_writing}
use Rattle.sample.specs.declared.axes.Axes.{Axes}
use Rattle.sample.specs.Axes.{axes_bytes}
use Rattle.sample.specs.Writer.{data_payload, data_message, data_writing}
use Rattle.sample.proofs.writer.write_data.Goals as goal

data_written : (a r : Axes) (room payload : List ℕ) (w : Writing) → payload ≡ data_payload a r → w ≡ plain_writing 0xA2 payload room → w ≡ data_writing a r room
unfolding axes_bytes data_message data_writing plain_writing
data_written a r room payload w e h = h ∙ rw e

pub slice_bounds-write_message-end : goal.slice_bounds-write_message-end
unfolding axes_bytes
slice_bounds-write_message-end c = rw (c.put_axes.ensures, c.put_axes-2.ensures)

pub returns : goal.returns
unfolding axes_bytes
returns c = data_written c.args.acceleration c.args.rate c.args.room.now _ _ (rw (c.put_axes.ensures, c.put_axes-2.ensures)) c.write_message.ensures
