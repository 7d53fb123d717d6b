-- A good message fed alone to a port that holds nothing. The proofs stand in proofs/.
use Rattle.std.specs.Prelude.{true, List, [], ◌≡◌, ℕ, ◌≤◌, length}
use Rattle.message.specs.Message.{message_of}
use Rattle.page.specs.Sound.{page_number}
use Rattle.command.specs.Outcome.{received_of}
use Rattle.command.specs.Answer.{reply_room, Answering, answering}
use Rattle.board.specs.declared.board.Board.{Board}
use Rattle.board.specs.Profile.{rights_of}
use Rattle.board.specs.Port.{held_bytes, port_of}
use Rattle.board.specs.Feed.{PortStep, feed_on, feed_of}
use Rattle.board.specs.AnyBoard.{is_sound}

-- No test refuses a feed, and the port holds nothing.
pub record Ready (port : ℕ) (b : Board) (room page : List ℕ) : Type 0 where
  pub right_port : port ≤ 1
  pub sound_board : is_sound b ≡ true
  pub large_room : reply_room ≤ length room
  pub right_page : page_number page ≡ 0
  pub nothing_held : held_bytes (port_of port b) ≡ []

-- The message is taken whole and answered so, and nothing stays held.
abbrev pub answered_step : List ℕ → Answering → PortStep
answered_step m a =
    record {
      number = 0;
      taken = length m;
      skipped = 0;
      error = a.answer.error;
      saved = a.answer.saved;
      held = [];
      settings = a.answer.settings;
      room = a.room;
      page = a.page;
    }

-- Of every type but A5, which the scan does not report (request 01). Proof: Alone `fed_alone`.
abbrev pub FedAlone : Type 0
FedAlone =
    (port : ℕ) (b : Board) (room page : List ℕ) (kind : ℕ) (payload : List ℕ) → Ready port b room page → (kind ≡ 0xA5 → ⊥) → length payload ≤ 255
    → feed_of port b (message_of kind payload) room page ≡ feed_on (answered_step (message_of kind payload) (answering (rights_of b.readonly port) (received_of true (message_of kind payload)) b.settings room page)) port b
