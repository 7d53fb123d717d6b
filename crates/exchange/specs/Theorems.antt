-- What is proved of the command writer and the board together. Each statement names its proof, a term of that type in a file of
-- proofs/.
use Rattle.std.specs.Prelude.{true, false, ◌||◌, List, ◌≡◌, ℕ, ◌≤◌, ◌<◌, eqb, length}
use Rattle.message.specs.Message.{message_of}
use Rattle.command.specs.Errors.{most_fields}
use Rattle.command.specs.Numbers.{numbered_kind, is_fresh}
use Rattle.command.specs.Outcome.{State, Outcome, row_outcome, effect_outcome, denial_of}
use Rattle.command.specs.Handle.{marked, spent}
use Rattle.command.specs.Answer.{loaded_from, saved_on, number_on, page_access, answer_with}
use Rattle.client.specs.Writer.{code_subject, kind_for, acceptable, command_message, numbered_payload, numbered_message, Asked}
use Rattle.client.specs.Commands.{error_for, effect_for, asked_outcomes, asked_fields, all_right, asks_to_read, all_read}
use Rattle.board.specs.declared.board.Board.{Board}
use Rattle.board.specs.Profile.{rights_of}
use Rattle.board.specs.Feed.{Feeding, feed_on, feed_of}
use Rattle.board.specs.Alone.{Ready, answered_step}

-- The board's settings, with the page.
abbrev pub state_of : Board → List ℕ → State (List ℕ)
state_of b page = record { settings = b.settings; page = page }

-- A message taken whole, and answered with this outcome.
abbrev pub answered_with : ℕ → Board → List ℕ → ℕ → List ℕ → Outcome (List ℕ) → Feeding
answered_with port b room kind m o = feed_on (answered_step m (answer_with kind o room)) port b

-- What functions 1, 3, 4 and 5 are denied with on a port of a board.
abbrev pub denial_on : ℕ → Board → List ℕ → ℕ
denial_on port b page = denial_of page_access (rights_of b.readonly port) page

-- A message of 1 to 16 fields, each written for what the board accepts, and fed to a port that holds nothing, is answered at once: without
-- error, but for function 4 on a page that holds a value that is not usable on this board (6), and with exactly the effects that are
-- asked for, in order. On port 0 as long as the page has no number, on port 1 in the full profile; Ping and function 2 everywhere.
-- Proof: Calls `call_obeys`.
abbrev pub CallObeys : Type 0
CallObeys =
    (port : ℕ) (b : Board) (room page : List ℕ) (kind : ℕ) (asks : List Asked) → Ready port b room page
    → eqb (denial_on port b page) 0 || all_read kind asks ≡ true → all_right kind asks ≡ true → 1 ≤ length asks → length asks ≤ most_fields
    → feed_of port b (message_of kind (asked_fields kind asks)) room page
    ≡ answered_with port b room kind (message_of kind (asked_fields kind asks)) (asked_outcomes page_access kind (state_of b page) asks)

-- So is what the command writer writes, with exactly the effect of its code, function and value. Proof: Calls `writer_obeyed`.
abbrev pub written_outcome : State (List ℕ) → ℕ → ℕ → ℕ → Outcome (List ℕ)
written_outcome x code function value =
    row_outcome code (error_for (code_subject code) (loaded_from x.page) function)
    (effect_outcome saved_on (effect_for (code_subject code) (loaded_from x.page) x.settings function value) x)

abbrev pub WriterObeyed : Type 0
WriterObeyed =
    (port : ℕ) (b : Board) (room page : List ℕ) (code function value : ℕ) → Ready port b room page
    → eqb (denial_on port b page) 0 || asks_to_read (code_subject code) function ≡ true → acceptable (code_subject code) function value ≡ true
    → feed_of port b (command_message code function value) room page
    ≡ answered_with port b room (kind_for (code_subject code)) (command_message code function value) (written_outcome (state_of b page) code function value)

-- Behind a fresh number they are wherever a number is allowed, whatever the page: the number is on the page then, the mark of a save is set, and the
-- effects are those that are asked for. Proofs: Calls `numbered_call_obeys`, `numbered_writer_obeyed`.
abbrev pub NumberedCallObeys : Type 0
NumberedCallObeys =
    (port : ℕ) (b : Board) (room page : List ℕ) (number kind : ℕ) (asks : List Asked) → Ready port b room page
    → number < 4294967296 → (rights_of b.readonly port).readonly ≡ false → is_fresh (number_on page) number ≡ true → all_right kind asks ≡ true → 1 ≤ length asks → length asks ≤ most_fields
    → feed_of port b (message_of numbered_kind (numbered_payload number kind (asked_fields kind asks))) room page
    ≡ answered_with port b room numbered_kind (message_of numbered_kind (numbered_payload number kind (asked_fields kind asks)))
    (marked (asked_outcomes page_access kind (spent page_access (state_of b page) number) asks))

abbrev pub NumberedWriterObeyed : Type 0
NumberedWriterObeyed =
    (port : ℕ) (b : Board) (room page : List ℕ) (number code function value : ℕ) → Ready port b room page
    → number < 4294967296 → (rights_of b.readonly port).readonly ≡ false → is_fresh (number_on page) number ≡ true → acceptable (code_subject code) function value ≡ true
    → feed_of port b (numbered_message number code function value) room page
    ≡ answered_with port b room numbered_kind (numbered_message number code function value)
    (marked (written_outcome (spent page_access (state_of b page) number) code function value))
