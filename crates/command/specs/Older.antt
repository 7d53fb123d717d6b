-- Request 05: messages one after the other from the page of an older board, as a single table, with a single statement about what the
-- rules give for it.
use Rattle.std.specs.Prelude.{◌≡◌, true, false, List, [], ◌∷◌, ℕ, Option, Some, None}
use Rattle.page.specs.declared.setting.Values.{Values}
use Rattle.page.specs.Page.{filled}
use Rattle.page.specs.Sound.{sound}
use Rattle.command.specs.declared.settings.Settings.{Settings}
use Rattle.command.specs.Rights.{all_rights, guarded_rights}
use Rattle.command.specs.Answer.{settings_from}
use Rattle.command.specs.Examples.{Line, good, numbered, row, field, use1, lines_from}

-- A page with baud rate 9600, accelerometer range 04 and gyroscope range 06.
abbrev pub older_page : List ℕ
older_page = filled (0x03 ∷ 0x01 ∷ 0x0A ∷ 0x04 ∷ 0x07 ∷ 0x0E ∷ 0x01 ∷ 0x08 ∷ 0x0F ∷ 0x01 ∷ 0x00 ∷ 0x00 ∷ 0x25 ∷ 0x80 ∷ 0x04 ∷ 0x06 ∷ [])

abbrev gyroscope : ℕ → Settings
gyroscope x = record { baud = 9600; accelerometer = 0x04; gyroscope = x }

abbrev holding : ℕ → Option ℕ → Values
holding x number = record { baud = Some 9600; accelerometer = Some 0x04; gyroscope = Some x; number = number }

abbrev pub older_examples : List Line
older_examples =
    -- starting has used the factory value, and the page's values of the other settings
    record { rights = guarded_rights; message = good 0x02 (field 0x08 0x02 []); rows = row 0x08 0 (0x08 ∷ 0x01 ∷ 0x03 ∷ []); saved = false; settings = gyroscope 0x03; values = holding 0x06 None }
    -- function 1: 06 and 07 are not on this board; 00 and 08 are on none; 05 is used
    ∷ record {
      rights = guarded_rights;
      message = good 0x02 (use1 0x08 0x06 (use1 0x08 0x07 (use1 0x08 0x00 (use1 0x08 0x08 (use1 0x08 0x05 [])))));
      rows = row 0x08 6 (row 0x08 6 (row 0x08 4 (row 0x08 4 (row 0x08 0 []))));
      saved = false;
      settings = gyroscope 0x05;
      values = holding 0x06 None;
    }
    -- the size is tested before: 06 with a byte more, and with no byte; the functions 0 and 6 with it; an accelerometer range 06 is on no board
    ∷ record {
      rights = guarded_rights;
      message = good 0x02
          (0x08 ∷ 0x03 ∷ 0x01 ∷ 0x06 ∷ 0x00 ∷ (0x08 ∷ 0x01 ∷ 0x01 ∷ (0x08 ∷ 0x02 ∷ 0x00 ∷ 0x06 ∷ (0x08 ∷ 0x02 ∷ 0x06 ∷ 0x06 ∷ use1 0x07 0x06 []))));
      rows = row 0x08 4 (row 0x08 4 (row 0x08 4 (row 0x08 4 (row 0x07 4 []))));
      saved = false;
      settings = gyroscope 0x05;
      values = holding 0x06 None;
    }
    -- function 4: the working value is left, and a value byte that comes with it is not looked at; a wrong size is 4; the other settings are
    -- loaded
    ∷ record {
      rights = guarded_rights;
      message = good 0x02 (field 0x08 0x04 (0x08 ∷ 0x02 ∷ 0x04 ∷ 0x01 ∷ (0x08 ∷ 0x03 ∷ 0x04 ∷ 0x01 ∷ 0x01 ∷ field 0x07 0x04 (field 0x01 0x04 []))));
      rows = row 0x08 6 (row 0x08 6 (row 0x08 4 (row 0x07 0 (row 0x01 0 []))));
      saved = false;
      settings = gyroscope 0x05;
      values = holding 0x06 None;
    }
    -- function 5 takes the factory value, whatever the page holds
    ∷ record {
      rights = guarded_rights;
      message = good 0x02 (field 0x08 0x05 (field 0x08 0x02 (use1 0x08 0x05 [])));
      rows = row 0x08 0 (row 0x08 0 (0x08 ∷ 0x01 ∷ 0x03 ∷ row 0x08 0 []));
      saved = false;
      settings = gyroscope 0x05;
      values = holding 0x06 None;
    }
    -- behind a number it is the same, and the number is spent
    ∷ record {
      rights = guarded_rights;
      message = numbered 1 0x02 (field 0x08 0x04 (use1 0x08 0x07 []));
      rows = row 0x08 6 (row 0x08 6 []);
      saved = true;
      settings = gyroscope 0x05;
      values = holding 0x06 (Some 1);
    }
    -- without one, 5 comes first on port 0
    ∷ record { rights = guarded_rights; message = good 0x02 (field 0x08 0x04 (use1 0x08 0x06 [])); rows = row 0x08 5 (row 0x08 5 []); saved = false; settings = gyroscope 0x05; values = holding 0x06 (Some 1) }
    ∷ record { rights = all_rights; message = good 0x02 (field 0x08 0x04 (use1 0x08 0x06 [])); rows = row 0x08 6 (row 0x08 6 []); saved = false; settings = gyroscope 0x05; values = holding 0x06 (Some 1) }
    -- function 3 saves the working value over it, and then function 4 loads that
    ∷ record {
      rights = all_rights;
      message = good 0x02 (field 0x08 0x03 (field 0x08 0x05 (field 0x08 0x04 (field 0x08 0x02 []))));
      rows = row 0x08 0 (row 0x08 0 (row 0x08 0 (row 0x08 0 (0x08 ∷ 0x01 ∷ 0x05 ∷ []))));
      saved = true;
      settings = gyroscope 0x05;
      values = holding 0x05 (Some 1);
    }
    ∷ []

-- The page is sound, and from a start on it the rules give for each line's message what the line says. Proof: Exampled `older_lines`.
pub record OlderLines : Type 0 where
  pub sound_page : sound older_page ≡ true
  pub lines : lines_from (record { settings = settings_from older_page; page = older_page }) older_examples ≡ older_examples
