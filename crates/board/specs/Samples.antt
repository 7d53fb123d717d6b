-- Document 01, "Sample lines": the P rows as a single table, with a single statement about what the rules give for it. Each
-- starts on a fresh board with a blank page, port 0, and a room of 166 bytes.
use Rattle.std.specs.Prelude.{true, false, List, [], ◌∷◌, ◌++◌, ◌≡◌, ℕ, length, replicate}
use Rattle.history.specs.Calls.{fed}
use Rattle.message.specs.Message.{message_of}
use Rattle.page.specs.Page.{no_values, blank_page}
use Rattle.command.specs.Outcome.{error_in}
use Rattle.board.specs.Profile.{Profile}
use Rattle.board.specs.Port.{held_bytes}
use Rattle.board.specs.Feed.{Feeding}
use Rattle.board.specs.Runs.{Call, Calls, calls_on, Out, out_of}

-- A line: the chunks fed; what each feed gives; the bytes held and the page at the end.
pub record Line : Type 0 where
  pub chunks : List (List ℕ)
  pub outs : List Out
  pub held : List ℕ
  pub page : List ℕ

-- ---- the table

abbrev pub done : ℕ → ℕ → List ℕ → Out
done taken skipped reply = record { number = 0; taken = taken; skipped = skipped; error = error_in reply; saved = false; reply = reply }

abbrev pub saves : ℕ → List ℕ → Out
saves taken reply = record { number = 0; taken = taken; skipped = 0; error = error_in reply; saved = true; reply = reply }

abbrev pub ends : ℕ → ℕ → Out
ends taken skipped = record { number = 1; taken = taken; skipped = skipped; error = 0; saved = false; reply = [] }

abbrev pub refused : ℕ → Out
refused number = record { number = number; taken = 0; skipped = 0; error = 0; saved = false; reply = [] }

-- A line of one feed that takes its chunk whole and leaves nothing held and the page blank.
abbrev line : List ℕ → List ℕ → Line
line chunk reply = record { chunks = chunk ∷ []; outs = done (length chunk) 0 reply ∷ []; held = []; page = blank_page }

abbrev ping : List ℕ
ping = 0xA5 ∷ 0xA5 ∷ 0x01 ∷ 0x02 ∷ 0x02 ∷ 0x00 ∷ 0x4F ∷ 0x25 ∷ []

abbrev pinged : List ℕ
pinged = 0xA5 ∷ 0xA5 ∷ 0x01 ∷ 0x04 ∷ 0x80 ∷ 0x02 ∷ 0x02 ∷ 0x00 ∷ 0xD3 ∷ 0xCF ∷ []

-- A reply of type 02 without a value.
abbrev answered : ℕ → ℕ → ℕ → ℕ → List ℕ
answered echo error f1 f2 = 0xA5 ∷ 0xA5 ∷ 0x02 ∷ 0x04 ∷ 0x80 ∷ 0x02 ∷ echo ∷ error ∷ f1 ∷ f2 ∷ []

abbrev p6 : List ℕ
p6 = 0xA5 ∷ 0xA5 ∷ 0x01 ∷ 0x02 ∷ 0x02 ∷ 0x00 ∷ 0x4F ∷ 0x24 ∷ []

abbrev pinged6 : List ℕ
pinged6 = 0xA5 ∷ 0xA5 ∷ 0x01 ∷ 0x04 ∷ 0x80 ∷ 0x02 ∷ 0x02 ∷ 0x01 ∷ 0xD4 ∷ 0xD0 ∷ []

-- Function 3 for a code.
abbrev save_of : ℕ → List ℕ
save_of code = message_of 0x02 (code ∷ 0x01 ∷ 0x03 ∷ [])

abbrev pub samples : List Line
samples =
    -- P1
    line ping pinged
    -- P2
    ∷ line (0xA5 ∷ 0xA5 ∷ 0x02 ∷ 0x04 ∷ 0x07 ∷ 0x02 ∷ 0x01 ∷ 0x02 ∷ 0x5C ∷ 0xF1 ∷ []) (answered 0x07 0x00 0xD9 0xDF)
    -- P3
    ∷ line (0xA5 ∷ 0xA5 ∷ 0x02 ∷ 0x07 ∷ 0x01 ∷ 0x05 ∷ 0x01 ∷ 0x00 ∷ 0x01 ∷ 0xC2 ∷ 0x00 ∷ 0x1D ∷ 0x84 ∷ []) (answered 0x01 0x00 0xD3 0xD3)
    -- P4
    ∷ line (0xA5 ∷ 0xA5 ∷ 0x02 ∷ 0x03 ∷ 0x08 ∷ 0x01 ∷ 0x02 ∷ 0x5A ∷ 0x93 ∷ [])
    (0xA5 ∷ 0xA5 ∷ 0x02 ∷ 0x07 ∷ 0x80 ∷ 0x02 ∷ 0x08 ∷ 0x00 ∷ 0x08 ∷ 0x01 ∷ 0x03 ∷ 0xE9 ∷ 0xA4 ∷ [])
    -- P5
    ∷ line (0xA5 ∷ 0xA5 ∷ 0x01 ∷ 0x00 ∷ 0x4B ∷ 0x85 ∷ []) (0xA5 ∷ 0xA5 ∷ 0x01 ∷ 0x04 ∷ 0x80 ∷ 0x02 ∷ 0x00 ∷ 0x03 ∷ 0xD4 ∷ 0xCE ∷ [])
    -- P6
    ∷ record { chunks = p6 ∷ []; outs = done 8 1 pinged6 ∷ []; held = 0xA5 ∷ 0x01 ∷ 0x02 ∷ 0x02 ∷ 0x00 ∷ 0x4F ∷ 0x24 ∷ []; page = blank_page }
    -- P6 and an empty feed
    ∷ record { chunks = p6 ∷ [] ∷ []; outs = done 8 1 pinged6 ∷ ends 0 7 ∷ []; held = []; page = blank_page }
    -- P7, as request 01 has it
    ∷ record { chunks = (0xA5 ∷ ping) ∷ []; outs = done 9 1 pinged ∷ []; held = []; page = blank_page }
    -- P8
    ∷ record {
      chunks = (0xA5 ∷ 0xA5 ∷ 0x02 ∷ 0x03 ∷ 0x01 ∷ 0x01 ∷ 0x03 ∷ 0x54 ∷ 0x7F ∷ []) ∷ [];
      outs = saves 9 (answered 0x01 0x00 0xD3 0xD3) ∷ [];
      held = [];
      page = (0x01 ∷ 0x01 ∷ 0x04 ∷ 0x04 ∷ 0x00 ∷ 0x01 ∷ 0xC2 ∷ 0x00 ∷ []) ++ replicate 56 0xFF;
    }
    -- P9
    ∷ line (0xA5 ∷ 0xA5 ∷ 0x02 ∷ 0x04 ∷ 0x08 ∷ 0x02 ∷ 0x01 ∷ 0x08 ∷ 0x63 ∷ 0xFB ∷ []) (answered 0x08 0x04 0xDE 0xE5)
    -- P10
    ∷ line (0xA5 ∷ 0xA5 ∷ 0x03 ∷ 0x02 ∷ 0x02 ∷ 0x00 ∷ 0x51 ∷ 0x2D ∷ []) (0xA5 ∷ 0xA5 ∷ 0x03 ∷ 0x04 ∷ 0x80 ∷ 0x02 ∷ 0x02 ∷ 0x02 ∷ 0xD7 ∷ 0xDD ∷ [])
    -- P11
    ∷ record { chunks = [] ∷ []; outs = ends 0 0 ∷ []; held = []; page = blank_page }
    -- P12
    ∷ record {
      chunks = save_of 0x08 ∷ save_of 0x07 ∷ save_of 0x01 ∷ [];
      outs = saves 9 (answered 0x08 0x00 0xDA 0xE1) ∷ saves 9 (answered 0x07 0x00 0xD9 0xDF) ∷ saves 9 (answered 0x01 0x00 0xD3 0xD3) ∷ [];
      held = [];
      page = (0x03 ∷ 0x01 ∷ 0x0A ∷ 0x04 ∷ 0x07 ∷ 0x0E ∷ 0x01 ∷ 0x08 ∷ 0x0F ∷ 0x01 ∷ 0x00 ∷ 0x01 ∷ 0xC2 ∷ 0x00 ∷ 0x02 ∷ 0x03 ∷ []) ++ replicate 48 0xFF;
    }
    ∷ []

-- ---- what the rules give

abbrev calls_with : List (List ℕ) → List Call
calls_with [] = []
calls_with (c ∷ cs) = record { port = 0; input = fed c; room = replicate 166 0 } ∷ calls_with cs

abbrev pub outs_of : List Feeding → List Out
outs_of [] = []
outs_of (f ∷ fs) = out_of f ∷ outs_of fs

abbrev line_for : Profile → List (List ℕ) → Line
line_for profile chunks =
    let r : Calls = calls_on profile no_values (calls_with chunks) in
    record { chunks = chunks; outs = outs_of r.feedings; held = held_bytes r.board.first; page = r.page }

abbrev pub lines_for : Profile → List Line → List Line
lines_for profile [] = []
lines_for profile (l ∷ ls) = line_for profile l.chunks ∷ lines_for profile ls

-- The rules give for each line's chunks what the line says, in either profile.
abbrev pub SampleLines : Type 0
SampleLines = (profile : Profile) → lines_for profile samples ≡ samples
