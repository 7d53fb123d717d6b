-- A feed and a silence in place, as the code makes them, for a caller that keeps the board: the named port's array is lent, the rest goes
-- by value, the profile with it, which no call changes. The named port's totals are lent as a row of numbers.
use Rattle.std.specs.Prelude.{ℕ, zero, suc, false, not, List, eqb, ltb, length, take}
use Rattle.history.specs.Calls.{Input, fed, silent}
use Rattle.totals.specs.Tally.{counted_of, row_size, row_of, tally_in}
use Rattle.message.specs.Whole.{refuse}
use Rattle.command.specs.declared.rights.Rights.{Rights}
use Rattle.command.specs.declared.settings.Settings.{Settings}
use Rattle.board.specs.declared.feeding.Stepped.{Stepped}
use Rattle.board.specs.Profile.{Profile, rights_of}
use Rattle.board.specs.Port.{port_room, padded}
use Rattle.board.specs.Feed.{PortStep, feed_number, step_by}

-- What a step answers, and the port's array, the room and the page afterwards.
pub record Stepping : Type 0 where
  pub step : Stepped
  pub bytes : List ℕ
  pub room : List ℕ
  pub page : List ℕ

abbrev pub in_place : PortStep → Stepping
in_place s =
    record {
      step = record { number = s.number; taken = s.taken; skipped = s.skipped; error = s.error; saved = s.saved; held = length s.held; settings = s.settings };
      bytes = padded s.held;
      room = s.room;
      page = s.page;
    }

-- What a call in place answers, and the port's array and totals, the room and the page afterwards.
pub record Placing : Type 0 where
  pub step : Stepped
  pub bytes : List ℕ
  pub totals : List ℕ
  pub room : List ℕ
  pub page : List ℕ

-- A step of a port that held so many bytes, with its totals.
abbrev pub counting : PortStep → ℕ → List ℕ → Placing
counting s held totals =
    record {
      step = (in_place s).step;
      bytes = (in_place s).bytes;
      totals = row_of (counted_of (tally_in totals) s.number s.taken s.skipped s.error held (length s.held));
      room = s.room;
      page = s.page;
    }

-- The held count of the named port.
abbrev pub named_held : ℕ → ℕ → ℕ → ℕ
named_held zero first second = first
named_held (suc p) first second = second

-- A refusal gives the held count and the settings back as they came, and changes no total.
abbrev pub refused_placing : ℕ → ℕ → Settings → List ℕ → List ℕ → List ℕ → List ℕ → Placing
refused_placing n held w bytes totals room page =
    record {
      step = record { number = n; taken = 0; skipped = 0; error = 0; saved = false; held = held; settings = w };
      bytes = bytes;
      totals = totals;
      room = room;
      page = page;
    }

-- The numbers of a feed; an array that is not 260 bytes, and a row that is not 11 totals, are those of no sound board, so they are 17 too.
-- Any totals are sound.
unfoldable pub place_number : ℕ → List ℕ → ℕ → ℕ → Settings → List ℕ → List ℕ → List ℕ → ℕ
place_number port bytes first second w totals room page =
    refuse (ltb 1 port) 16
    (refuse (not (eqb (length bytes) port_room)) 17
    (refuse (not (eqb (length totals) row_size)) 17
    (feed_number port first second w room page)))

abbrev pub place_on : ℕ → Rights → List ℕ → ℕ → Settings → List ℕ → Input → List ℕ → List ℕ → Placing
place_on zero rights bytes held w totals i room page = counting (step_by rights (take held bytes) w i room page) held totals
place_on (suc n) rights bytes held w totals i room page = refused_placing (suc n) held w bytes totals room page

unfoldable pub place_by : ℕ → List ℕ → ℕ → ℕ → Settings → Profile → List ℕ → Input → List ℕ → List ℕ → Placing
place_by port bytes first second w profile totals i room page =
    place_on (place_number port bytes first second w totals room page) (rights_of profile port) bytes (named_held port first second) w totals i room page

abbrev pub place_of : ℕ → List ℕ → ℕ → ℕ → Settings → Profile → List ℕ → List ℕ → List ℕ → List ℕ → Placing
place_of port bytes first second w profile totals chunk room page = place_by port bytes first second w profile totals (fed chunk) room page

abbrev pub silence_place_of : ℕ → List ℕ → ℕ → ℕ → Settings → Profile → List ℕ → List ℕ → List ℕ → Placing
silence_place_of port bytes first second w profile totals room page = place_by port bytes first second w profile totals silent room page
