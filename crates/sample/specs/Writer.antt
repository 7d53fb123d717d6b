-- Document 01, "Data messages": the writer makes 81 then 82, 34 bytes.
use Rattle.std.specs.Prelude.{ℕ, List, ◌∷◌, ◌++◌}
use Rattle.message.specs.Message.{message_of}
use Rattle.message.specs.Write.{Writing, writing_of}
use Rattle.sample.specs.declared.axes.Axes.{Axes}
use Rattle.sample.specs.Axes.{axes_bytes}

abbrev pub data_payload : Axes → Axes → List ℕ
data_payload acceleration rate = 0x81 ∷ 12 ∷ (axes_bytes acceleration ++ 0x82 ∷ 12 ∷ axes_bytes rate)

unfoldable pub data_message : Axes → Axes → List ℕ
data_message acceleration rate = message_of 0xA2 (data_payload acceleration rate)

-- 18 alone is tested.
unfoldable pub data_writing : Axes → Axes → List ℕ → Writing
data_writing acceleration rate room = writing_of (data_message acceleration rate) room
