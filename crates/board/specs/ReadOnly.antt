-- Request 12: feeds and restarts of a read-only board as a single table, and what port 0 sees of a list, with a single statement about what
-- the rules give for them. (Messages one by one: `ReadOnlyLines` in crate command.)
use Rattle.std.specs.Prelude.{true, List, [], ◌∷◌, ◌++◌, ◌≡◌, ℕ, replicate}
use Rattle.history.specs.Calls.{fed, silent}
use Rattle.history.specs.Interference.{port_zero_calls}
use Rattle.history.specs.Restarts.{restart}
use Rattle.message.specs.Message.{message_of}
use Rattle.page.specs.Page.{filled, blank_page}
use Rattle.board.specs.Profile.{full, read_only}
use Rattle.board.specs.Runs.{Call, told_of}
use Rattle.board.specs.Samples.{ends, refused}
use Rattle.board.specs.Lines.{Line, plain, marks, numbered, ping, sets, does, row, row_with, working, number_page, lines_for}
use Rattle.board.specs.Interference.{Seen, seen_on}

-- A page with accelerometer range 02 and the number 5.
abbrev range_page : List ℕ
range_page = filled (0x02 ∷ 0x07 ∷ 0x07 ∷ 0x01 ∷ 0x70 ∷ 0x08 ∷ 0x04 ∷ 0x02 ∷ 0x00 ∷ 0x00 ∷ 0x00 ∷ 0x05 ∷ [])

abbrev pub read_only_examples : List Line
read_only_examples =
    -- On port 1 a range is not used and not saved, and reported; a number is not spent there, and port 0 takes it. Then 7 and 5 for the same
    -- command on either port.
    record {
      page = blank_page;
      acts =
          plain 1 (message_of 0x02 (sets 0x08 0x05 ++ (does 3 0x08 ++ does 2 0x08))) (message_of 0x02 (row 0x08 7 ++ (row 0x08 7 ++ row_with 0x08 0x03)))
          ∷ plain 1 (numbered 5 0x01 ping) (message_of 0x7C (row 0x02 7))
          ∷ marks 0 (numbered 5 0x01 ping) (message_of 0x7C (row 0x02 0))
          ∷ plain 1 (numbered 6 0x01 ping) (message_of 0x7C (row 0x02 7))
          ∷ plain 1 (message_of 0x01 ping) (message_of 0x01 (row 0x02 0))
          ∷ plain 1 (message_of 0x02 (does 3 0x07)) (message_of 0x02 (row 0x07 7))
          ∷ plain 0 (message_of 0x02 (does 3 0x07)) (message_of 0x02 (row 0x07 5))
          ∷ [];
      accepted = 5 ∷ [];
      settings = working 0x02 0x03;
      left = number_page 5;
    }
    -- Started again in the full profile, port 1 saves; and no more in this one.
    ∷ record {
      page = number_page 5;
      acts =
          plain 1 (message_of 0x02 (does 3 0x07)) (message_of 0x02 (row 0x07 7))
          ∷ restart full
          ∷ marks 1 (message_of 0x02 (does 3 0x07)) (message_of 0x02 (row 0x07 0))
          ∷ restart read_only
          ∷ plain 1 (message_of 0x02 (does 5 0x07)) (message_of 0x02 (row 0x07 7))
          ∷ [];
      accepted = [];
      settings = working 0x02 0x03;
      left = range_page;
    }
    ∷ []

-- Port 0 skips a byte, spends a number and saves a range; a byte waits; a silence is refused for its room.
abbrev saves : Call
saves = record { port = 0; input = fed (0x00 ∷ numbered 3 0x02 (sets 0x08 0x05 ++ does 3 0x08)); room = replicate 166 0 }

abbrev waits : Call
waits = record { port = 0; input = fed (0xA5 ∷ []); room = replicate 166 0 }

abbrev refuses : Call
refuses = record { port = 0; input = silent; room = replicate 20 0 }

-- A list in which port 1 would save and spend a number, and goes silent over a false header; and one in which it does nothing but ask.
abbrev hostile : List Call
hostile =
    record { port = 1; input = fed (message_of 0x02 (sets 0x07 0x04 ++ does 3 0x07)); room = replicate 166 0 }
    ∷ saves
    ∷ record { port = 1; input = fed (numbered 9 0x02 (does 5 0x08)); room = replicate 166 0 }
    ∷ record { port = 1; input = fed (0xA5 ∷ 0xA5 ∷ 0x01 ∷ 0xFF ∷ []); room = replicate 166 0 }
    ∷ waits
    ∷ record { port = 1; input = silent; room = replicate 166 0 }
    ∷ refuses
    ∷ []

abbrev harmless : List Call
harmless = saves ∷ waits ∷ record { port = 1; input = fed (message_of 0x01 ping); room = replicate 166 0 } ∷ refuses ∷ []

-- What port 0 sees after each of its three calls.
abbrev numbered_page : List ℕ
numbered_page = filled (0x02 ∷ 0x08 ∷ 0x07 ∷ 0x01 ∷ 0x70 ∷ 0x08 ∷ 0x04 ∷ 0x05 ∷ 0x00 ∷ 0x00 ∷ 0x00 ∷ 0x03 ∷ [])

abbrev seen_there : List Seen
seen_there =
    record {
      out = record { number = 0; taken = 19; skipped = 1; error = 0; saved = true; reply = message_of 0x7C (row 0x08 0 ++ row 0x08 0) };
      held = [];
      settings = working 0x02 0x05;
      page = numbered_page;
    }
    ∷ record { out = ends 1 0; held = 0xA5 ∷ []; settings = working 0x02 0x05; page = numbered_page }
    ∷ record { out = refused 18; held = 0xA5 ∷ []; settings = working 0x02 0x05; page = numbered_page }
    ∷ []

-- For each line's page and calls what the line says; and of both lists, whose calls of port 0 are the same, port 0 sees these rows. Proof:
-- Sampled `read_only_lines`.
pub record ReadOnlyLines : Type 0 where
  pub lines : lines_for read_only read_only_examples ≡ read_only_examples
  pub same_calls : port_zero_calls (told_of hostile) ≡ port_zero_calls (told_of harmless)
  pub seen : seen_on blank_page hostile ≡ seen_there
  pub seen_alike : seen_on blank_page harmless ≡ seen_there
