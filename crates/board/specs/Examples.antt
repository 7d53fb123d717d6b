-- Requests 02 and 03: feeds and restarts as a single table, with a single statement about what the rules give for it. (Messages one by
-- one, with all their errors, are in command/specs/Examples.)
use Rattle.std.specs.Prelude.{true, List, [], ◌∷◌, ◌++◌, ◌≡◌}
use Rattle.history.specs.Calls.{fed}
use Rattle.history.specs.Restarts.{call, restart}
use Rattle.message.specs.Message.{message_of}
use Rattle.page.specs.Page.{filled, blank_page}
use Rattle.command.specs.Several.{times}
use Rattle.board.specs.Profile.{full}
use Rattle.board.specs.Samples.{done}
use Rattle.board.specs.Lines.{Line, plain, marks, numbered, spoiled, ping, sets, does, row, row_with, number_page, kept_page, working, lines_for}

abbrev pub examples : List Line
examples =
    -- Several fields, each on what those before it left: the range 05 is used and saved, 01 is used, and loading gives 05 again. An error
    -- in the middle (a range that no board has, a Ping in type 02) does not stop the later ones.
    record {
      page = blank_page;
      acts =
          marks 0 (message_of 0x02 (sets 0x08 0x05 ++ does 0x03 0x08 ++ sets 0x08 0x01 ++ sets 0x07 0x09 ++ ping ++ does 0x04 0x08 ++ does 0x02 0x08))
          (message_of 0x02 (row 0x08 0 ++ row 0x08 0 ++ row 0x08 0 ++ row 0x07 4 ++ row 0x02 3 ++ row 0x08 0 ++ row_with 0x08 0x05))
          ∷ [];
      accepted = [];
      settings = working 0x02 0x05;
      left = filled (0x01 ∷ 0x08 ∷ 0x04 ∷ 0x01 ∷ 0x05 ∷ []);
    }
    -- At most 16 fields, and they fill the payload: otherwise 4, also where the first code is unknown.
    ∷ record {
      page = blank_page;
      acts =
          plain 0 (message_of 0x01 (times 16 ping)) (message_of 0x01 (times 16 (row 0x02 0)))
          ∷ plain 0 (message_of 0x01 (times 17 ping)) (message_of 0x01 (row 0x02 4))
          ∷ plain 0 (message_of 0x01 (0x02 ∷ [])) (message_of 0x01 (row 0x02 4))
          ∷ plain 1 (message_of 0x02 (0x55 ∷ 0x02 ∷ 0x00 ∷ [])) (message_of 0x02 (row 0x55 4))
          ∷ [];
      accepted = [];
      settings = working 0x02 0x03;
      left = blank_page;
    }
    -- A Ping numbered 5. After a restart 5 is stale, on either port, and 6 is fresh.
    ∷ record {
      page = blank_page;
      acts =
          marks 0 (numbered 5 0x01 ping) (message_of 0x7C (row 0x02 0))
          ∷ restart full
          ∷ plain 0 (numbered 5 0x01 ping) (message_of 0x7C (row 0x02 5))
          ∷ plain 1 (numbered 5 0x01 ping) (message_of 0x7C (row 0x02 5))
          ∷ marks 1 (numbered 6 0x01 ping) (message_of 0x7C (row 0x02 0))
          ∷ plain 0 (numbered 6 0x01 ping) (message_of 0x7C (row 0x02 5))
          ∷ [];
      accepted = 5 ∷ 6 ∷ [];
      settings = working 0x02 0x03;
      left = number_page 6;
    }
    -- Yesterday's commands, sent again after a restart: a range is used and saved; then both are stale, and without a number port 0 takes
    -- neither. The settings are those of the page.
    ∷ record {
      page = blank_page;
      acts =
          marks 0 (numbered 1 0x02 (sets 0x08 0x05 ++ does 0x03 0x08)) (message_of 0x7C (row 0x08 0 ++ row 0x08 0))
          ∷ marks 0 (numbered 2 0x02 (sets 0x08 0x01)) (message_of 0x7C (row 0x08 0))
          ∷ restart full
          ∷ plain 0 (numbered 1 0x02 (sets 0x08 0x05 ++ does 0x03 0x08)) (message_of 0x7C (row 0x08 5))
          ∷ plain 0 (numbered 2 0x02 (sets 0x08 0x01)) (message_of 0x7C (row 0x08 5))
          ∷ plain 0 (message_of 0x02 (sets 0x08 0x01)) (message_of 0x02 (row 0x08 5))
          ∷ [];
      accepted = 1 ∷ 2 ∷ [];
      settings = working 0x02 0x05;
      left = filled (0x02 ∷ 0x08 ∷ 0x07 ∷ 0x01 ∷ 0x70 ∷ 0x08 ∷ 0x04 ∷ 0x05 ∷ 0x00 ∷ 0x00 ∷ 0x00 ∷ 0x02 ∷ []);
    }
    -- Saves behind a number: four entries, the number last.
    ∷ record {
      page = kept_page;
      acts =
          marks 0 (numbered 8 0x02 (does 0x03 0x08 ++ does 0x03 0x01 ++ sets 0x08 0x01)) (message_of 0x7C (row 0x08 0 ++ row 0x01 0 ++ row 0x08 0))
          ∷ [];
      accepted = 8 ∷ [];
      settings = working 0x04 0x01;
      left =
          filled
          ((0x04 ∷ 0x01 ∷ 0x0D ∷ 0x04 ∷ 0x07 ∷ 0x11 ∷ 0x01 ∷ 0x08 ∷ 0x12 ∷ 0x01 ∷ 0x70 ∷ 0x13 ∷ 0x04 ∷ [])
          ++ (0x00 ∷ 0x01 ∷ 0xC2 ∷ 0x00 ∷ 0x04 ∷ 0x03 ∷ 0x00 ∷ 0x00 ∷ 0x00 ∷ 0x08 ∷ []));
    }
    -- After 4294967295 nothing is fresh.
    ∷ record {
      page = number_page 4294967294;
      acts =
          marks 0 (numbered 4294967295 0x01 ping) (message_of 0x7C (row 0x02 0))
          ∷ plain 0 (numbered 0 0x01 ping) (message_of 0x7C (row 0x02 5))
          ∷ restart full
          ∷ plain 1 (numbered 4294967295 0x01 ping) (message_of 0x7C (row 0x02 5))
          ∷ [];
      accepted = 4294967295 ∷ [];
      settings = working 0x02 0x03;
      left = number_page 4294967295;
    }
    -- A damaged message of type 7C echoes the first byte of its number, 09, and spends nothing: the same number is fresh afterwards. Twelve
    -- bytes of the damaged message are still held then, and skipped.
    ∷ record {
      page = blank_page;
      acts =
          call (record { port = 0; input = fed (spoiled (numbered 0x09000005 0x01 ping)); out = done 13 1 (message_of 0x7C (row 0x09 1)) })
          ∷ call
          (record {
            port = 0;
            input = fed (numbered 0x09000005 0x01 ping);
            out = record { number = 0; taken = 13; skipped = 12; error = 0; saved = true; reply = message_of 0x7C (row 0x02 0) };
          })
          ∷ [];
      accepted = 0x09000005 ∷ [];
      settings = working 0x02 0x03;
      left = number_page 0x09000005;
    }
    ∷ []

-- The rules give for each line's page and calls what the line says. Proof: Sampled `example_lines`.
abbrev pub ExampleLines : Type 0
ExampleLines = lines_for full examples ≡ examples
