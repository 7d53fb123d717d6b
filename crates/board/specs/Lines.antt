-- Tables of calls and restarts: a line, its messages, and what the rules give for it. Each line begins with a start on its page, in the
-- profile of its table, and each room has 166 bytes.
use Rattle.std.specs.Prelude.{List, [], ◌∷◌, ◌++◌, ℕ, ◌-◌, length, take, replicate}
use Rattle.word.specs.Word.{word_bytes}
use Rattle.history.specs.Calls.{Input, fed}
use Rattle.history.specs.Restarts.{Act, call, restart}
use Rattle.message.specs.Message.{message_of}
use Rattle.page.specs.Page.{filled}
use Rattle.command.specs.declared.settings.Settings.{Settings}
use Rattle.board.specs.Profile.{Profile}
use Rattle.board.specs.Feed.{Feeding}
use Rattle.board.specs.Runs.{Call, Calls, Out, out_of}
use Rattle.board.specs.Histories.{acts_on, accepted_on}
use Rattle.board.specs.Samples.{done, saves}

-- A call: the port, the chunk or a silence, and what it gives.
pub record Sent : Type 0 where
  pub port : ℕ
  pub input : Input
  pub out : Out

-- A line: the page at the beginning; calls and restarts; the numbers accepted; the settings and the page at the end.
pub record Line : Type 0 where
  pub page : List ℕ
  pub acts : List (Act Profile Sent)
  pub accepted : List ℕ
  pub settings : Settings
  pub left : List ℕ

-- ---- messages and replies

-- A message that is taken whole and answered: without the mark of a save, or with it.
abbrev pub plain : ℕ → List ℕ → List ℕ → Act Profile Sent
plain port m reply = call (record { port = port; input = fed m; out = done (length m) 0 reply })

abbrev pub marks : ℕ → List ℕ → List ℕ → Act Profile Sent
marks port m reply = call (record { port = port; input = fed m; out = saves (length m) reply })

-- Type 7C: a number, then a command's type and its fields.
abbrev pub numbered : ℕ → ℕ → List ℕ → List ℕ
numbered n kind fields = message_of 0x7C (word_bytes n ++ (kind ∷ fields))

-- With a wrong last byte.
abbrev pub spoiled : List ℕ → List ℕ
spoiled m = take (length m - 1) m ++ (0x00 ∷ [])

-- Fields: Ping; of a setting function 1 with a value of one byte; and a function without a value.
abbrev pub ping : List ℕ
ping = 0x02 ∷ 0x00 ∷ []

abbrev pub sets : ℕ → ℕ → List ℕ
sets code value = code ∷ 0x02 ∷ 0x01 ∷ value ∷ []

abbrev pub does : ℕ → ℕ → List ℕ
does function code = code ∷ 0x01 ∷ function ∷ []

-- A row of a reply; and one with the value of one byte that function 2 adds.
abbrev pub row : ℕ → ℕ → List ℕ
row echo error = 0x80 ∷ 0x02 ∷ echo ∷ error ∷ []

abbrev pub row_with : ℕ → ℕ → List ℕ
row_with code value = row code 0 ++ (code ∷ 0x01 ∷ value ∷ [])

-- ---- pages and settings

-- A page with a number alone.
abbrev pub number_page : ℕ → List ℕ
number_page n = filled (0x01 ∷ 0x70 ∷ 0x04 ∷ 0x04 ∷ word_bytes n)

-- A page with accelerometer range 04 and the number 7.
abbrev pub kept_page : List ℕ
kept_page = filled (0x02 ∷ 0x07 ∷ 0x07 ∷ 0x01 ∷ 0x70 ∷ 0x08 ∷ 0x04 ∷ 0x04 ∷ 0x00 ∷ 0x00 ∷ 0x00 ∷ 0x07 ∷ [])

abbrev pub working : ℕ → ℕ → Settings
working accelerometer gyroscope = record { baud = 115200; accelerometer = accelerometer; gyroscope = gyroscope }

-- ---- what the rules give

abbrev pub acts_for : List (Act Profile Sent) → List (Act Profile Call)
acts_for [] = []
acts_for (call s ∷ acts) = call (record { port = s.port; input = s.input; room = replicate 166 0 }) ∷ acts_for acts
acts_for (restart profile ∷ acts) = restart profile ∷ acts_for acts

abbrev given : List (Act Profile Sent) → List Feeding → List (Act Profile Sent)
given [] fs = []
given (call s ∷ acts) [] = []
given (call s ∷ acts) (f ∷ fs) = call (record { port = s.port; input = s.input; out = out_of f }) ∷ given acts fs
given (restart profile ∷ acts) fs = restart profile ∷ given acts fs

abbrev line_for : Profile → List ℕ → List (Act Profile Sent) → Line
line_for profile page acts =
    let r : Calls = acts_on profile page (acts_for acts) in
    record {
      page = page;
      acts = given acts r.feedings;
      accepted = accepted_on profile page (acts_for acts);
      settings = r.board.settings;
      left = r.page;
    }

abbrev pub lines_for : Profile → List Line → List Line
lines_for profile [] = []
lines_for profile (l ∷ ls) = line_for profile l.page l.acts ∷ lines_for profile ls
