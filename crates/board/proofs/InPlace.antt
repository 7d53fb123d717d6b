-- A call in place: its tests, and that it is the call of the board; and that a start in place is the start.
use mathlib.Core.Bool.{Bool, true, false, not}
use mathlib.Core.List.{List}
use mathlib.Core.Path.{◌≡◌, refl, sym, ap, ◌∙◌}
use Prim.Native.Nat.{ℕ, zero, suc, ◌+◌, ◌-◌, ◌≤◌, ◌<◌}
use native.Mathlib.Omega.{arith}
use lib.Dec.{eqb, ltb}
use lib.ListN.{length, take, drop}
use lib.Seq.{length-take-le}
use borrow.Author.Tests.{lt-ltb, le-ltb, eq-eqb, ne_eqb, eqb-true}
use Rattle.command.specs.declared.rights.Rights.{Rights}
use Rattle.command.specs.declared.settings.Settings.{Settings}
use Rattle.board.specs.Profile.{Profile, rights_of}
use Rattle.board.specs.declared.board.Board.{Board}
use Rattle.board.specs.declared.feeding.Stepped.{Stepped}
use Rattle.board.specs.Port.{port_room, held_bytes, port_holding, port_of, tally_at}
use Rattle.message.specs.Front.{front}
use Rattle.message.specs.Whole.{refuse}
use Rattle.history.specs.Calls.{Input, chunk_of}
use Rattle.history.specs.Program.{sought_by}
use Rattle.totals.specs.Tally.{counted_of, row_size, row_of, tally_in}
use Rattle.page.specs.Sound.{page_number}
use Rattle.board.specs.Start.{start_on, start_of, start_in_place, start_place_of}
use Rattle.board.specs.Feed.{input_of, PortStep, feed_number, refused_feeding, step_by, step_at, feed_on, accept_on, call_of}
use Rattle.board.specs.Place.{Stepping, Placing, in_place, counting, refused_placing, named_held, place_number, place_on, place_by}
use Rattle.board.specs.InPlace.{put_back, InPlaceIsCall, put_in, InPlaceIsStart}
use Rattle.board.proofs.Places.{passes, step_brings}
use Rattle.board.proofs.Feedings.{SoundParts, passed_parts, StepAdds, step_adds}

pub held_second : (port first second : ℕ) → (port ≡ 0 → ⊥) → second ≡ named_held port first second
held_second zero first second h = absurd (h refl)
held_second (suc p) first second h = refl

module _ (port : ℕ) (bytes : List ℕ) (first second : ℕ) (w : Settings) (totals room page : List ℕ) where
  pub place_16 : 1 < port → 16 ≡ place_number port bytes first second w totals room page
  unfolding place_number
  place_16 h = rw (lt-ltb 1 port h)

  pub place_17 : port ≤ 1 → (length bytes ≡ 260 → ⊥) → 17 ≡ place_number port bytes first second w totals room page
  unfolding place_number
  place_17 p h = rw (le-ltb 1 port p, ne_eqb (length bytes) 260 h)

  pub place_row : port ≤ 1 → length bytes ≡ 260 → (length totals ≡ 11 → ⊥) → 17 ≡ place_number port bytes first second w totals room page
  unfolding place_number
  place_row p h l = rw (le-ltb 1 port p, eq-eqb (length bytes) 260 h, ne_eqb (length totals) 11 l)

  pub place_rest : port ≤ 1 → length bytes ≡ 260 → length totals ≡ 11 → (n : ℕ) → n ≡ feed_number port first second w room page → n ≡ place_number port bytes first second w totals room page
  unfolding place_number
  place_rest p h l n e = rw (le-ltb 1 port p, eq-eqb (length bytes) 260 h, eq-eqb (length totals) 11 l) e

  module _ (n : ℕ) (ns : n ≡ place_number port bytes first second w totals room page) (h : ℕ) (hs : h ≡ named_held port first second) where
    pub place_refused : (profile : Profile) (i : Input) → (n ≡ 0 → ⊥)
        → record { step = record { number = n; taken = 0; skipped = 0; error = 0; saved = false; held = h; settings = w }; bytes = bytes; totals = totals; room = room; page = page }
        ≡ place_by port bytes first second w profile totals i room page
    unfolding place_by
    place_refused profile i z = rw (hs, ← ns) (go n z)
      where
        go : (n : ℕ) → (n ≡ 0 → ⊥) → refused_placing n (named_held port first second) w bytes totals room page ≡ place_on n (rights_of profile port) bytes (named_held port first second) w totals i room page
        go zero z = absurd (z refl)
        go (suc n) z = refl

    passed_all : n ≡ 0 → (length bytes ≡ 260) × (length totals ≡ 11) × (feed_number port first second w room page ≡ 0)
    unfolding place_number
    passed_all z =
        let t : (ltb 1 port ≡ false) × _ = passes (ltb 1 port) 15 _ (sym ns ∙ z) in
        let u : (not (eqb (length bytes) port_room) ≡ false) × _ = passes (not (eqb (length bytes) port_room)) 16 _ t.1 in
        let v : (not (eqb (length totals) row_size) ≡ false) × _ = passes (not (eqb (length totals) row_size)) 16 _ u.1 in
        (is_long (length bytes) port_room (eqb (length bytes) port_room) refl u.0, is_long (length totals) row_size (eqb (length totals) row_size) refl v.0, v.1)
      where
        is_long : (x y : ℕ) (b : Bool) → eqb x y ≡ b → not b ≡ false → x ≡ y
        is_long x y true e f = eqb-true x y e
        is_long x y false e f = let z : ◌≡◌ {A = ℕ} 0 1 = cc in absurd (omega arith)

    pub place_long : n ≡ 0 → length bytes ≡ 260
    place_long z = (passed_all z).0

    pub place_eleven : n ≡ 0 → length totals ≡ 11
    place_eleven z = (passed_all z).1

    pub place_few : n ≡ 0 → h ≤ 260
    place_few z = rw hs (go port)
      where
        p : SoundParts first second w
        p = passed_parts port first second w room page (passed_all z).2

        go : (port : ℕ) → named_held port first second ≤ 260
        go zero = p.first_few
        go (suc q) = p.second_few

    pub place_done : n ≡ 0 → (quiet : Bool) (chunk : List ℕ) (brings : ℕ) → brings ≡ length (chunk_of (input_of quiet chunk))
        → (profile : Profile) (r : Stepped) (bytes_after room_after page_after : List ℕ)
        → record { step = r; bytes = bytes_after; room = room_after; page = page_after } ≡ in_place (step_at (rights_of profile port) quiet (take h bytes) w (take (brings - 0) (drop 0 chunk)) room page)
        → (row : List ℕ) → row ≡ row_of (counted_of (tally_in totals) r.number r.taken r.skipped r.error h r.held)
        → record { step = r; bytes = bytes_after; totals = row; room = room_after; page = page_after } ≡ place_by port bytes first second w profile totals (input_of quiet chunk) room page
    unfolding place_by
    place_done z quiet chunk brings bs profile r bytes_after room_after page_after e row rs =
        let d : record { step = r; bytes = bytes_after; totals = row; room = room_after; page = page_after }
        ≡ counted (in_place (step_at (rights_of profile port) quiet (take h bytes) w (take (brings - 0) (drop 0 chunk)) room page)) = rw rs (ap counted e) in
        d ∙ rw (step_brings quiet chunk brings bs (rights_of profile port) (take h bytes) w room page, ← ns, z, hs)
      where
        -- The totals by what the step answers.
        counted : Stepping → Placing
        counted t =
            record {
              step = t.step;
              bytes = t.bytes;
              totals = row_of (counted_of (tally_in totals) t.step.number t.step.taken t.step.skipped t.step.error h t.step.held);
              room = t.room;
              page = t.page;
            }

    -- The array that is lent has the bytes, and the rights are those of the port.
    pub row_step : (rights : Rights) (profile : Profile) → rights ≡ rights_of profile port → (row : List ℕ) → row ≡ bytes → (quiet : Bool) (chunk : List ℕ) (x : Stepping)
        → x ≡ in_place (step_at rights quiet (take h row) w chunk room page) → x ≡ in_place (step_at (rights_of profile port) quiet (take h bytes) w chunk room page)
    row_step rights profile rs row es quiet chunk x e = rw (← rs, ← es) e

    -- What the totals are told of the step adds up.
    module _ (z : n ≡ 0) (quiet : Bool) (chunk : List ℕ) (brings : ℕ) (bs : brings ≡ length (chunk_of (input_of quiet chunk))) (profile : Profile)
        (r : Stepped) (bytes_after room_after page_after : List ℕ)
        (e : record { step = r; bytes = bytes_after; room = room_after; page = page_after } ≡ in_place (step_at (rights_of profile port) quiet (take h bytes) w (take (brings - 0) (drop 0 chunk)) room page)) where
      abbrev step : PortStep
      step = step_by (rights_of profile port) (take h bytes) w (input_of quiet chunk) room page

      held_long : length (take h bytes) ≡ h
      held_long = length-take-le h bytes (omega (arith, place_few z, place_long z))

      adds : StepAdds (rights_of profile port) (take h bytes) w (input_of quiet chunk) room page (sought_by front (input_of quiet chunk) (take h bytes)) step
      adds = step_adds (rights_of profile port) (take h bytes) w (input_of quiet chunk) room page (omega (arith, held_long, place_few z))

      answers : r ≡ (in_place step).step
      answers = ap (λ (t : Stepping). t.step) (e ∙ ap in_place (step_brings quiet chunk brings bs (rights_of profile port) (take h bytes) w room page))

      pub step_adds_up : brings + 260 < 18446744073709551616 → (r.number ≤ 1) × (r.skipped + r.held ≤ r.taken + h) × (r.taken + h < 18446744073709551616)
      step_adds_up l = rw answers (adds.few, omega (arith, adds.sum, held_long), omega (arith, adds.most, bs, place_few z, l))

-- ---- the call of the board

same_number : (port : ℕ) (bytes : List ℕ) (first second : ℕ) (w : Settings) (totals room page : List ℕ) → length bytes ≡ port_room → length totals ≡ row_size
    → place_number port bytes first second w totals room page ≡ feed_number port first second w room page
unfolding place_number feed_number
same_number port bytes first second w totals room page l m = rw (eq-eqb (length bytes) port_room l, eq-eqb (length totals) row_size m) (go (ltb 1 port) _)
  where
    go : (a : Bool) (next : ℕ) → refuse a 16 (refuse a 16 next) ≡ refuse a 16 next
    go true next = refl
    go false next = refl

held_is : (port : ℕ) (b : Board) → named_held port b.first.held b.second.held ≡ (port_of port b).held
held_is zero b = refl
held_is (suc p) b = refl

put_refused : (port : ℕ) (b : Board) (n : ℕ) (room page : List ℕ)
    → put_back port b (refused_placing n (port_of port b).held b.settings (port_of port b).bytes (row_of (tally_at port b)) room page) ≡ refused_feeding n b room page
put_refused zero b n room page = refl
put_refused (suc p) b n room page = refl

put_done : (port : ℕ) (b : Board) (s : PortStep) → put_back port b (counting s (port_of port b).held (row_of (tally_at port b))) ≡ feed_on s port b
unfolding port_holding
put_done port b s = refl

pub in_place_is_call : InPlaceIsCall
unfolding place_by call_of
in_place_is_call port b i room page l m =
    rw (same_number port (port_of port b).bytes b.first.held b.second.held b.settings (row_of (tally_at port b)) room page l (omega (arith, m)), held_is port b)
    (go (feed_number port b.first.held b.second.held b.settings room page))
  where
    go : (n : ℕ) → put_back port b (place_on n (rights_of b.readonly port) (port_of port b).bytes (port_of port b).held b.settings (row_of (tally_at port b)) i room page) ≡ accept_on n port b i room page
    go zero = put_done port b (step_by (rights_of b.readonly port) (held_bytes (port_of port b)) b.settings i room page)
    go (suc n) = put_refused port b (suc n) room page

pub in_place_is_start : InPlaceIsStart
unfolding start_place_of start_of
in_place_is_start profile first second page l m = rw (eq-eqb (length first) port_room l, eq-eqb (length second) port_room m) (go (page_number page))
  where
    go : (n : ℕ) → put_in (start_in_place (start_on n profile page)) ≡ start_on n profile page
    go zero = refl
    go (suc n) = refl
