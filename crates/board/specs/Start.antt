-- Document 01, "The start-up page" and "Numbers of the calls", and requests 12 and 13: starting.
use Rattle.std.specs.Prelude.{ℕ, zero, suc, Bool, true, false, ◌&&◌, List, eqb, length}
use Rattle.page.specs.declared.setting.Setting.TheVariants.{Baud, Accelerometer, Gyroscope}
use Rattle.page.specs.Settings.{factory_value}
use Rattle.page.specs.Sound.{page_number}
use Rattle.totals.specs.Tally.{zero_tally}
use Rattle.command.specs.declared.settings.Settings.{Settings}
use Rattle.command.specs.Answer.{settings_from}
use Rattle.board.specs.declared.board.Board.{Board}
use Rattle.board.specs.declared.board.Started.{Started}
use Rattle.board.specs.declared.starting.StartedInPlace.{StartedInPlace}
use Rattle.board.specs.Profile.{Profile}
use Rattle.board.specs.Port.{port_room, fresh_port}

-- Factory: 115200, 02, 03.
abbrev pub factory_settings : Settings
factory_settings = record { baud = factory_value Baud; accelerometer = factory_value Accelerometer; gyroscope = factory_value Gyroscope }

-- Two fresh ports, the working values, the profile, and totals that are zero.
abbrev pub fresh_board : Profile → Settings → Board
fresh_board profile w = record { first = fresh_port; second = fresh_port; settings = w; readonly = profile; tally0 = zero_tally; tally1 = zero_tally }

-- Starting tests 19, 20. A refusal returns the factory settings and two fresh ports, and totals of zero. "A refused start keeps the profile
-- asked for."
abbrev pub start_on : ℕ → Profile → List ℕ → Started
start_on zero profile page = record { number = 0; board = fresh_board profile (settings_from page) }
start_on (suc n) profile page = record { number = suc n; board = fresh_board profile factory_settings }

unfoldable pub start_of : Profile → List ℕ → Started
start_of profile page = start_on (page_number page) profile page

-- ---- a start in place, for a caller that keeps the board: the arrays of both ports are lent

-- What it answers, and both arrays afterwards.
pub record StartingInPlace : Type 0 where
  pub answer : StartedInPlace
  pub first : List ℕ
  pub second : List ℕ

-- The board of a start, in its parts: both ports hold nothing, and their totals are zero.
abbrev pub start_in_place : Started → StartingInPlace
start_in_place s =
    record {
      answer = record { settings = s.board.settings; number = s.number; readonly = s.board.readonly };
      first = s.board.first.bytes;
      second = s.board.second.bytes;
    }

-- An array that is not 260 bytes is that of no sound board, so it is 17. Nothing is written then.
abbrev pub start_place_on : Bool → Profile → List ℕ → List ℕ → List ℕ → StartingInPlace
start_place_on true profile first second page = start_in_place (start_of profile page)
start_place_on false profile first second page =
    record { answer = record { settings = factory_settings; number = 17; readonly = profile }; first = first; second = second }

unfoldable pub start_place_of : Profile → List ℕ → List ℕ → List ℕ → StartingInPlace
start_place_of profile first second page = start_place_on (eqb (length first) port_room && eqb (length second) port_room) profile first second page
