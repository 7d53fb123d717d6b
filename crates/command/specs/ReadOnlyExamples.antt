-- Request 12: messages one after the other from a blank page, those of port 0 and those of port 1 in the profile where it is read-only, as
-- a single table, with a single statement about what the rules give for it.
use Rattle.std.specs.Prelude.{◌≡◌, true, false, List, [], ◌∷◌, None}
use Rattle.word.specs.Word.{word_bytes}
use Rattle.page.specs.Page.{blank_page}
use Rattle.command.specs.Rights.{guarded_rights, read_only_rights}
use Rattle.command.specs.Answer.{settings_from}
use Rattle.command.specs.Examples.{Line, good, damaged, numbered, row, field, use1, baud, kept, blank, unnumbered, lines_from}

abbrev pub read_only_examples : List Line
read_only_examples =
    -- functions 1, 3, 4 and 5, also of a wrong size, field by field; a report is answered; an unknown code is 3; size 0 and functions 0 and 6
    -- are 4
    record {
      rights = read_only_rights;
      message = unnumbered;
      rows = row 0x08 7 (row 0x08 7 (row 0x08 7 (row 0x08 7 (row 0x07 7 (row 0x08 0 (0x08 ∷ 0x01 ∷ 0x03 ∷ row 0x63 3 (row 0x07 4 (row 0x07 4 (row 0x07 4 [])))))))));
      saved = false;
      settings = baud 115200;
      values = blank;
    }
    -- a range that is not on this board, a value that is on none, a size that is wrong: 7 before 6 and 4; with function 2 a wrong size is 4
    ∷ record {
      rights = read_only_rights;
      message = good 0x02 (use1 0x08 0x06 (use1 0x08 0x09 (0x01 ∷ 0x02 ∷ 0x01 ∷ 0x00 ∷ (0x01 ∷ 0x03 ∷ 0x05 ∷ 0x00 ∷ 0x00 ∷ (0x07 ∷ 0x03 ∷ 0x02 ∷ 0x00 ∷ 0x00 ∷ [])))));
      rows = row 0x08 7 (row 0x08 7 (row 0x01 7 (row 0x01 7 (row 0x07 4 []))));
      saved = false;
      settings = baud 115200;
      values = blank;
    }
    -- Ping, and one of a wrong size
    ∷ record { rights = read_only_rights; message = good 0x01 (0x02 ∷ 0x00 ∷ (0x02 ∷ 0x01 ∷ 0x03 ∷ [])); rows = row 0x02 0 (row 0x02 4 []); saved = false; settings = baud 115200; values = blank }
    -- the errors of a message as a whole come first
    ∷ record { rights = read_only_rights; message = good 0x03 (field 0x01 0x03 []); rows = row 0x01 2 []; saved = false; settings = baud 115200; values = blank }
    ∷ record { rights = read_only_rights; message = good 0x02 []; rows = row 0x00 3 []; saved = false; settings = baud 115200; values = blank }
    ∷ record { rights = read_only_rights; message = good 0x02 (0x01 ∷ 0x01 ∷ []); rows = row 0x01 4 []; saved = false; settings = baud 115200; values = blank }
    -- any 7C with right sums: a Ping inside, no field, no type, another type; a damaged one is 1
    ∷ record { rights = read_only_rights; message = numbered 9 0x01 (0x02 ∷ 0x00 ∷ []); rows = row 0x02 7 []; saved = false; settings = baud 115200; values = blank }
    ∷ record { rights = read_only_rights; message = numbered 9 0x02 []; rows = row 0x00 7 []; saved = false; settings = baud 115200; values = blank }
    ∷ record { rights = read_only_rights; message = good 0x7C (word_bytes 9); rows = row 0x00 7 []; saved = false; settings = baud 115200; values = blank }
    ∷ record { rights = read_only_rights; message = numbered 9 0x03 (0x55 ∷ []); rows = row 0x55 7 []; saved = false; settings = baud 115200; values = blank }
    ∷ record { rights = read_only_rights; message = damaged 0x7C (0x31 ∷ 0x00 ∷ 0x00 ∷ 0x01 ∷ 0x02 ∷ field 0x01 0x03 []); rows = row 0x31 1 []; saved = false; settings = baud 115200; values = blank }
    -- the number was not spent: port 0 takes it; then it is 7 as well, and so is a larger one, which port 0 takes again
    ∷ record { rights = guarded_rights; message = numbered 9 0x01 (0x02 ∷ 0x00 ∷ []); rows = row 0x02 0 []; saved = true; settings = baud 115200; values = kept None 9 }
    ∷ record { rights = read_only_rights; message = numbered 9 0x01 (0x02 ∷ 0x00 ∷ []); rows = row 0x02 7 []; saved = false; settings = baud 115200; values = kept None 9 }
    ∷ record { rights = read_only_rights; message = numbered 10 0x02 (field 0x01 0x03 []); rows = row 0x01 7 []; saved = false; settings = baud 115200; values = kept None 9 }
    ∷ record { rights = guarded_rights; message = numbered 10 0x01 (0x02 ∷ 0x00 ∷ []); rows = row 0x02 0 []; saved = true; settings = baud 115200; values = kept None 10 }
    -- without a number port 0 has 5, and not 7
    ∷ record { rights = guarded_rights; message = good 0x02 (field 0x01 0x03 []); rows = row 0x01 5 []; saved = false; settings = baud 115200; values = kept None 10 }
    ∷ record { rights = read_only_rights; message = good 0x02 (field 0x01 0x03 []); rows = row 0x01 7 []; saved = false; settings = baud 115200; values = kept None 10 }
    ∷ []

-- From a start on a blank page the rules give for each line's message what the line says. Proof: Exampled `read_only_lines`.
abbrev pub ReadOnlyLines : Type 0
ReadOnlyLines = lines_from (record { settings = settings_from blank_page; page = blank_page }) read_only_examples ≡ read_only_examples
