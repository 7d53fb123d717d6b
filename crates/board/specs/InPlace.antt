-- What is proved of the calls in place, for a caller that keeps the board: put back, their answers are those of the calls by value. Proofs:
-- proofs/InPlace `in_place_is_call`, `in_place_is_start`.
use Rattle.std.specs.Prelude.{List, ◌≡◌, ℕ, length}
use Rattle.totals.specs.Tally.{zero_tally, row_of, tally_in}
use Rattle.board.specs.declared.board.Board.{Board}
use Rattle.board.specs.declared.board.Started.{Started}
use Rattle.board.specs.Profile.{Profile}
use Rattle.board.specs.Port.{port_room, port_of, tally_at, with_port}
use Rattle.board.specs.Start.{StartingInPlace, start_of, start_place_of}
use Rattle.history.specs.Calls.{Input}
use Rattle.board.specs.Feed.{Feeding, call_of}
use Rattle.board.specs.Place.{Placing, place_by}

-- ---- a feed and a silence in place

-- What a caller does who keeps the board: it puts the held count and the settings back; the array and the totals were written in place.
abbrev pub put_back : ℕ → Board → Placing → Feeding
put_back port b t =
    record {
      answer = record {
        number = t.step.number;
        taken = t.step.taken;
        skipped = t.step.skipped;
        error = t.step.error;
        saved = t.step.saved;
        board = with_port port b (record { bytes = t.bytes; held = t.step.held }) t.step.settings (tally_in t.totals);
      };
      room = t.room;
      page = t.page;
    }

-- Then a call in place is a call of the board, refused or not.
abbrev pub InPlaceIsCall : Type 0
InPlaceIsCall =
    (port : ℕ) (b : Board) (i : Input) (room page : List ℕ) → length (port_of port b).bytes ≡ port_room → length (tally_at port b).errors ≡ 8
    → put_back port b (place_by port (port_of port b).bytes b.first.held b.second.held b.settings b.readonly (row_of (tally_at port b)) i room page)
    ≡ call_of port b i room page

-- ---- a start in place

-- What such a caller does: both held counts and all totals are 0, and the settings and the profile are put in; the arrays were written in
-- place.
abbrev pub put_in : StartingInPlace → Started
put_in t =
    record {
      number = t.answer.number;
      board = record { first = record { bytes = t.first; held = 0 }; second = record { bytes = t.second; held = 0 }; settings = t.answer.settings; readonly = t.answer.readonly; tally0 = zero_tally; tally1 = zero_tally };
    }

-- Then a start in place is a start, refused or not, whatever the arrays held.
abbrev pub InPlaceIsStart : Type 0
InPlaceIsStart =
    (profile : Profile) (first second page : List ℕ) → length first ≡ port_room → length second ≡ port_room
    → put_in (start_place_of profile first second page) ≡ start_of profile page
