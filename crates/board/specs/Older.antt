-- Request 05: feeds and restarts from the pages of older boards, as a single table, and boards that hold what is not on this one, with a
-- single statement about what the rules give for them. (Messages one by one are in command/specs/Older.)
use Rattle.std.specs.Prelude.{◌&&◌, List, [], ◌∷◌, ◌++◌, ◌≡◌, ℕ, leb, replicate}
use Rattle.history.specs.Restarts.{restart}
use Rattle.message.specs.Message.{message_of}
use Rattle.page.specs.Page.{filled, blank_page}
use Rattle.board.specs.Profile.{Profile, full}
use Rattle.board.specs.Start.{fresh_board}
use Rattle.board.specs.Feed.{feed_of}
use Rattle.board.specs.AnyBoard.{is_sound}
use Rattle.board.specs.Lines.{Line, plain, marks, numbered, sets, does, row, row_with, working, lines_for}

-- ---- pages

-- A page with gyroscope range 07, and one with 06 and a number.
abbrev seven_page : List ℕ
seven_page = filled (0x01 ∷ 0x08 ∷ 0x04 ∷ 0x01 ∷ 0x07 ∷ [])

abbrev six_page : ℕ → List ℕ
six_page n = filled (0x02 ∷ 0x08 ∷ 0x07 ∷ 0x01 ∷ 0x70 ∷ 0x08 ∷ 0x04 ∷ 0x06 ∷ 0x00 ∷ 0x00 ∷ 0x00 ∷ n ∷ [])

abbrev pub older_examples : List Line
older_examples =
    -- The page is sound; starting has used the factory value 03. Function 4 leaves the working value, whatever it is, and the page. A restart
    -- uses the factory value again. A save of a usable value goes over the 07, and from then on that is loaded.
    record {
      page = seven_page;
      acts =
          plain 0 (message_of 0x02 (does 0x02 0x08)) (message_of 0x02 (row_with 0x08 0x03))
          ∷ plain 0 (message_of 0x02 (sets 0x08 0x05 ++ does 0x04 0x08 ++ does 0x02 0x08)) (message_of 0x02 (row 0x08 0 ++ row 0x08 6 ++ row_with 0x08 0x05))
          ∷ restart full
          ∷ plain 1 (message_of 0x02 (does 0x02 0x08)) (message_of 0x02 (row_with 0x08 0x03))
          ∷ marks 0 (message_of 0x02 (sets 0x08 0x06 ++ sets 0x08 0x01 ++ does 0x03 0x08)) (message_of 0x02 (row 0x08 6 ++ row 0x08 0 ++ row 0x08 0))
          ∷ restart full
          ∷ plain 0 (message_of 0x02 (does 0x04 0x08 ++ does 0x02 0x08)) (message_of 0x02 (row 0x08 0 ++ row_with 0x08 0x01))
          ∷ [];
      accepted = [];
      settings = working 0x02 0x01;
      left = filled (0x01 ∷ 0x08 ∷ 0x04 ∷ 0x01 ∷ 0x01 ∷ []);
    }
    -- With a number on the page, port 0 needs one; then 6 as on port 1. The number is put in beside the 06, which stays.
    ∷ record {
      page = six_page 7;
      acts =
          plain 0 (message_of 0x02 (does 0x04 0x08)) (message_of 0x02 (row 0x08 5))
          ∷ marks 0 (numbered 8 0x02 (does 0x04 0x08)) (message_of 0x7C (row 0x08 6))
          ∷ restart full
          ∷ plain 1 (message_of 0x02 (does 0x04 0x08)) (message_of 0x02 (row 0x08 6))
          ∷ [];
      accepted = 8 ∷ [];
      settings = working 0x02 0x03;
      left = six_page 8;
    }
    ∷ []

-- ---- what the rules give

-- The number of an empty feed of a board with this gyroscope range.
abbrev fed_with : Profile → ℕ → ℕ
fed_with profile range = (feed_of 0 (fresh_board profile (working 0x02 range)) [] (replicate 166 0) blank_page).answer.number

-- For each line's page and feeds what the line says; and a board that holds 05 is fed, one that holds 06 or 07 refused. Proof: Sampled
-- `older_lines`.
pub record OlderLines : Type 0 where
  pub lines : lines_for full older_examples ≡ older_examples
  pub numbers : (profile : Profile) → fed_with profile 0x05 ∷ fed_with profile 0x06 ∷ fed_with profile 0x07 ∷ [] ≡ 1 ∷ 17 ∷ 17 ∷ []

-- "A board record holding them is unsound (17)": whatever the range, a board is sound where it is 01 to 05. Proof: Feedings `range_sound`.
abbrev pub RangeSound : Type 0
RangeSound = (profile : Profile) (range : ℕ) → is_sound (fresh_board profile (working 0x02 range)) ≡ leb 0x01 range && leb range 0x05
