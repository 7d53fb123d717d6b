-- Requests 02 and 03: messages one after the other from a blank page, as a single table, with a single statement about what the rules
-- give for it.
use Rattle.std.specs.Prelude.{◌≡◌, Bool, true, false, List, [], ◌∷◌, ◌++◌, ℕ, Option, Some, None}
use Rattle.word.specs.Word.{word_bytes}
use Rattle.page.specs.declared.setting.Values.{Values}
use Rattle.page.specs.Page.{blank_page}
use Rattle.page.specs.Lookup.{values_in}
use Rattle.command.specs.declared.rights.Rights.{Rights}
use Rattle.command.specs.declared.settings.Settings.{Settings}
use Rattle.command.specs.Rights.{all_rights, guarded_rights}
use Rattle.command.specs.Outcome.{State, Outcome, Received}
use Rattle.command.specs.Handle.{message_outcome}
use Rattle.command.specs.Answer.{settings_from, page_access}

-- A message and its rights; the rows of its reply and the mark of a save; the settings and the values of the page after it.
pub record Line : Type 0 where
  pub rights : Rights
  pub message : Received
  pub rows : List ℕ
  pub saved : Bool
  pub settings : Settings
  pub values : Values

-- ---- the table

abbrev pub good : ℕ → List ℕ → Received
good kind payload = record { good = true; kind = kind; payload = payload }

abbrev pub damaged : ℕ → List ℕ → Received
damaged kind payload = record { good = false; kind = kind; payload = payload }

abbrev pub numbered : ℕ → ℕ → List ℕ → Received
numbered n kind fields = good 0x7C (word_bytes n ++ (kind ∷ fields))

abbrev pub row : ℕ → ℕ → List ℕ → List ℕ
row echo error rest = 0x80 ∷ 0x02 ∷ echo ∷ error ∷ rest

-- Fields of a setting's code: functions 2 to 5, and function 1 with a value of one byte.
abbrev pub field : ℕ → ℕ → List ℕ → List ℕ
field code function rest = code ∷ 0x01 ∷ function ∷ rest

abbrev pub use1 : ℕ → ℕ → List ℕ → List ℕ
use1 code value rest = code ∷ 0x02 ∷ 0x01 ∷ value ∷ rest

abbrev pub baud : ℕ → Settings
baud x = record { baud = x; accelerometer = 0x02; gyroscope = 0x03 }

abbrev pub kept : Option ℕ → ℕ → Values
kept b n = record { baud = b; accelerometer = None; gyroscope = None; number = Some n }

abbrev pub blank : Values
blank = record { baud = None; accelerometer = None; gyroscope = None; number = None }

-- Unnumbered: use, save, load and the factory's value, also of a wrong size; report; unknown code; size 0; functions 0 and 6.
abbrev pub unnumbered : Received
unnumbered =
    good 0x02
    (use1 0x08 0x01 (field 0x08 0x03 (field 0x08 0x04 (field 0x08 0x05 (field 0x07 0x01
    (field 0x08 0x02 (0x63 ∷ 0x01 ∷ 0x01 ∷ 0x07 ∷ 0x00 ∷ field 0x07 0x00 (field 0x07 0x06 []))))))))

abbrev pub examples : List Line
examples =
    -- damaged: the first payload byte is echoed, and nothing is spent
    record { rights = guarded_rights; message = damaged 0x7C (0x31 ∷ 0x00 ∷ 0x00 ∷ 0x01 ∷ 0x02 ∷ field 0x01 0x03 []); rows = row 0x31 1 []; saved = false; settings = baud 115200; values = blank }
    -- L under 5
    ∷ record { rights = guarded_rights; message = good 0x7C (word_bytes 9); rows = row 0x00 4 []; saved = false; settings = baud 115200; values = blank }
    -- the first number is fresh, also 0; then it is stale
    ∷ record { rights = guarded_rights; message = numbered 0 0x01 (0x02 ∷ 0x00 ∷ []); rows = row 0x02 0 []; saved = true; settings = baud 115200; values = kept None 0 }
    ∷ record { rights = all_rights; message = numbered 0 0x01 (0x02 ∷ 0x00 ∷ []); rows = row 0x02 5 []; saved = false; settings = baud 115200; values = kept None 0 }
    -- several fields, each on what those before it left: 9600 is used and saved, the factory's value taken, the saved one loaded and
    -- reported; the errors between them, of a value and of a Ping in type 02, stop nothing
    ∷ record {
      rights = guarded_rights;
      message = numbered 6 0x02
          (0x01 ∷ 0x05 ∷ 0x01 ∷ word_bytes 9600 ++ field 0x01 0x03 (use1 0x07 0x09 (field 0x01 0x05 (0x02 ∷ 0x00 ∷ field 0x01 0x04 (field 0x01 0x02 [])))));
      rows = row 0x01 0 (row 0x01 0 (row 0x07 4 (row 0x01 0 (row 0x02 3 (row 0x01 0 (row 0x01 0 (0x01 ∷ 0x04 ∷ word_bytes 9600)))))));
      saved = true;
      settings = baud 9600;
      values = kept (Some 9600) 6;
    }
    -- stale, before the inner type: the echo is the first code, 0 if there is none
    ∷ record { rights = guarded_rights; message = numbered 6 0x03 (0x55 ∷ []); rows = row 0x55 5 []; saved = false; settings = baud 9600; values = kept (Some 9600) 6 }
    ∷ record { rights = guarded_rights; message = numbered 5 0x02 []; rows = row 0x00 5 []; saved = false; settings = baud 9600; values = kept (Some 9600) 6 }
    -- the number is spent, and then the command inside is refused as a whole: type, no field, not filled
    ∷ record { rights = all_rights; message = numbered 7 0x03 (0x02 ∷ 0x00 ∷ []); rows = row 0x02 2 []; saved = true; settings = baud 9600; values = kept (Some 9600) 7 }
    ∷ record { rights = all_rights; message = numbered 8 0x7C (word_bytes 9 ++ (0x01 ∷ [])); rows = row 0x00 2 []; saved = true; settings = baud 9600; values = kept (Some 9600) 8 }
    ∷ record { rights = guarded_rights; message = numbered 9 0x01 []; rows = row 0x00 3 []; saved = true; settings = baud 9600; values = kept (Some 9600) 9 }
    ∷ record { rights = guarded_rights; message = numbered 10 0x02 (0x07 ∷ []); rows = row 0x07 4 []; saved = true; settings = baud 9600; values = kept (Some 9600) 10 }
    -- without a number on port 0, field by field: 5 after 3 and before a field's own 4
    ∷ record {
      rights = guarded_rights;
      message = unnumbered;
      rows = row 0x08 5 (row 0x08 5 (row 0x08 5 (row 0x08 5 (row 0x07 5 (row 0x08 0 (0x08 ∷ 0x01 ∷ 0x03 ∷ row 0x63 3 (row 0x07 4 (row 0x07 4 (row 0x07 4 [])))))))));
      saved = false;
      settings = baud 9600;
      values = kept (Some 9600) 10;
    }
    -- and with all rights
    ∷ record {
      rights = all_rights;
      message = unnumbered;
      rows = row 0x08 0 (row 0x08 0 (row 0x08 0 (row 0x08 0 (row 0x07 4 (row 0x08 0 (0x08 ∷ 0x01 ∷ 0x03 ∷ row 0x63 3 (row 0x07 4 (row 0x07 4 (row 0x07 4 [])))))))));
      saved = true;
      settings = baud 9600;
      values = record { baud = Some 9600; accelerometer = None; gyroscope = Some 0x01; number = Some 10 };
    }
    -- behind the largest number nothing is fresh
    ∷ record { rights = guarded_rights; message = numbered 4294967295 0x01 (0x02 ∷ 0x00 ∷ []); rows = row 0x02 0 []; saved = true; settings = baud 9600; values = record { baud = Some 9600; accelerometer = None; gyroscope = Some 0x01; number = Some 4294967295 } }
    ∷ record { rights = guarded_rights; message = numbered 0 0x01 (0x02 ∷ 0x00 ∷ []); rows = row 0x02 5 []; saved = false; settings = baud 9600; values = record { baud = Some 9600; accelerometer = None; gyroscope = Some 0x01; number = Some 4294967295 } }
    ∷ []

-- ---- what the rules give

abbrev pub lines_from : State (List ℕ) → List Line → List Line
lines_from x [] = []
lines_from x (l ∷ ls) =
    let o : Outcome (List ℕ) = message_outcome page_access l.rights x l.message in
    record {
      rights = l.rights;
      message = l.message;
      rows = o.rows;
      saved = o.saved;
      settings = o.next.settings;
      values = values_in o.next.page;
    } ∷ lines_from o.next ls

-- From a start on a blank page the rules give for each line's message what the line says. Proof: Exampled `example_lines`.
abbrev pub ExampleLines : Type 0
ExampleLines = lines_from (record { settings = settings_from blank_page; page = blank_page }) examples ≡ examples
