-- Request 06: what a silence gives, of any board, also one that no run reaches. The proofs stand in proofs/.
use Rattle.std.specs.Prelude.{List, [], ◌≡◌, ℕ, ◌<◌, length}
use Rattle.board.specs.declared.board.Board.{Board}
use Rattle.board.specs.Port.{held_bytes, port_holding, port_of}
use Rattle.board.specs.Feed.{Feeding, silence_of}

-- It takes no byte; where it reports a message fewer bytes are held than before, and where it answers 1
-- none is held, and all that were are skipped. So a driver that repeats it comes to answer 1, after one more silence than bytes are held
-- at most. Proof: Silences `silences_drain`.
pub record SilenceDrains (port : ℕ) (b : Board) (f : Feeding) : Type 0 where
  pub none_taken : f.answer.taken ≡ 0
  pub fewer : f.answer.number ≡ 0 → length (held_bytes (port_of port f.answer.board)) < length (held_bytes (port_of port b))
  pub emptied : f.answer.number ≡ 1 → port_of port f.answer.board ≡ port_holding []
  pub all_skipped : f.answer.number ≡ 1 → f.answer.skipped ≡ length (held_bytes (port_of port b))

abbrev pub SilencesDrain : Type 0
SilencesDrain = (port : ℕ) (b : Board) (room page : List ℕ) → SilenceDrains port b (silence_of port b room page)
