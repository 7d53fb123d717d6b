-- Request 06: feeds, silences and restarts as a single table, with a single statement about what the rules give for it.
use Rattle.std.specs.Prelude.{Bool, true, false, List, [], ◌∷◌, ◌++◌, ◌≡◌, ℕ, length, take, drop}
use Rattle.history.specs.Calls.{fed, silent}
use Rattle.history.specs.Restarts.{Act, call, restart, drained_history}
use Rattle.message.specs.Message.{message_of}
use Rattle.page.specs.Page.{filled, blank_page}
use Rattle.command.specs.Outcome.{error_in}
use Rattle.board.specs.Profile.{Profile, full}
use Rattle.board.specs.Samples.{ends, refused}
use Rattle.board.specs.Histories.{acts_on}
use Rattle.board.specs.Restarts.{told_acts}
use Rattle.board.specs.Theorems.{answers_of}
use Rattle.board.specs.Lines.{Sent, Line, plain, numbered, spoiled, ping, sets, does, row, working, number_page, acts_for, lines_for}

-- The first four bytes of a message of 261 bytes that does not come.
abbrev false_header : List ℕ
false_header = 0xA5 ∷ 0xA5 ∷ 0x01 ∷ 0xFF ∷ []

-- A feed that is used up, and holds all of it. A silence that finds a message behind so many bytes, without the mark of a save or with
-- it. One that finds nothing and skips so many.
abbrev waits : ℕ → List ℕ → Act Profile Sent
waits port m = call (record { port = port; input = fed m; out = ends (length m) 0 })

abbrev finds : ℕ → ℕ → Bool → List ℕ → Act Profile Sent
finds port skipped saved reply =
    call (record { port = port; input = silent; out = record { number = 0; taken = 0; skipped = skipped; error = error_in reply; saved = saved; reply = reply } })

abbrev drains : ℕ → ℕ → Act Profile Sent
drains port skipped = call (record { port = port; input = silent; out = ends 0 skipped })

abbrev ping_message : List ℕ
ping_message = message_of 0x01 ping

abbrev pub quiet_examples : List Line
quiet_examples =
    -- Nothing is held. "A false header can claim 255 bytes, and a true command then waits behind it": the silence finds it, and a second one
    -- has nothing left.
    record {
      page = blank_page;
      acts =
          drains 0 0
          ∷ waits 0 (false_header ++ ping_message)
          ∷ finds 0 4 false (message_of 0x01 (row 0x02 0))
          ∷ drains 0 0
          ∷ plain 0 ping_message (message_of 0x01 (row 0x02 0))
          ∷ [];
      accepted = [];
      settings = working 0x02 0x03;
      left = blank_page;
    }
    -- One false header in another, a command that saves, and bytes of a third: on port 1, and port 0's are left alone.
    ∷ record {
      page = blank_page;
      acts =
          waits 0 false_header
          ∷ waits 1 (false_header ++ (false_header ++ (message_of 0x02 (sets 0x08 0x05 ++ does 0x03 0x08) ++ false_header)))
          ∷ finds 1 8 true (message_of 0x02 (row 0x08 0 ++ row 0x08 0))
          ∷ drains 1 4
          ∷ drains 0 4
          ∷ [];
      accepted = [];
      settings = working 0x02 0x05;
      left = filled (0x01 ∷ 0x08 ∷ 0x04 ∷ 0x01 ∷ 0x05 ∷ []);
    }
    -- No message crosses a mark: both halves of a Ping are skipped.
    ∷ record {
      page = blank_page;
      acts =
          waits 0 (take 5 ping_message)
          ∷ drains 0 5
          ∷ call (record { port = 0; input = fed (drop 5 ping_message); out = ends 3 3 })
          ∷ [];
      accepted = [];
      settings = working 0x02 0x03;
      left = blank_page;
    }
    -- A damaged message is reported, and the scan goes on one byte after its start.
    ∷ record {
      page = blank_page;
      acts = waits 0 (false_header ++ spoiled ping_message) ∷ finds 0 5 false (message_of 0x01 (row 0x02 1)) ∷ drains 0 7 ∷ [];
      accepted = [];
      settings = working 0x02 0x03;
      left = blank_page;
    }
    -- A number that a silence accepts is stale after a restart. What was held is lost with the board.
    ∷ record {
      page = blank_page;
      acts =
          waits 0 (false_header ++ (numbered 5 0x01 ping ++ false_header))
          ∷ finds 0 4 true (message_of 0x7C (row 0x02 0))
          ∷ restart full
          ∷ plain 0 (numbered 5 0x01 ping) (message_of 0x7C (row 0x02 5))
          ∷ waits 1 (false_header ++ numbered 5 0x01 ping)
          ∷ finds 1 4 false (message_of 0x7C (row 0x02 5))
          ∷ drains 1 0
          ∷ [];
      accepted = 5 ∷ [];
      settings = working 0x02 0x03;
      left = number_page 5;
    }
    -- While port 1 is not drained, port 0 is fed; and refused calls change nothing.
    ∷ record {
      page = blank_page;
      acts =
          waits 1 (false_header ++ (ping_message ++ false_header))
          ∷ finds 1 4 false (message_of 0x01 (row 0x02 0))
          ∷ plain 0 ping_message (message_of 0x01 (row 0x02 0))
          ∷ call (record { port = 2; input = fed ping_message; out = refused 16 })
          ∷ call (record { port = 2; input = silent; out = refused 16 })
          ∷ drains 1 4
          ∷ plain 1 ping_message (message_of 0x01 (row 0x02 0))
          ∷ [];
      accepted = [];
      settings = working 0x02 0x03;
      left = blank_page;
    }
    -- "An earlier feed is still taken, over the bytes left": the second false header takes the Ping for its own, until the line is
    -- quiet again.
    ∷ record {
      page = blank_page;
      acts =
          waits 0 (false_header ++ (ping_message ++ false_header))
          ∷ finds 0 4 false (message_of 0x01 (row 0x02 0))
          ∷ waits 0 ping_message
          ∷ finds 0 4 false (message_of 0x01 (row 0x02 0))
          ∷ drains 0 0
          ∷ [];
      accepted = [];
      settings = working 0x02 0x03;
      left = blank_page;
    }
    ∷ []

-- ---- what the rules give

-- Is each silence of a line drained before a feed of its port?
abbrev drained_in : List Line → List Bool
drained_in [] = []
drained_in (l ∷ ls) = drained_history (told_acts (acts_for l.acts)) (answers_of (acts_on full l.page (acts_for l.acts)).feedings) ∷ drained_in ls

-- For each line's page and calls what the line says; and all lines but the last are drained. Proof: Sampled `quiet_lines`.
pub record QuietLines : Type 0 where
  pub lines : lines_for full quiet_examples ≡ quiet_examples
  pub drained : drained_in quiet_examples ≡ true ∷ true ∷ true ∷ true ∷ true ∷ true ∷ false ∷ []
