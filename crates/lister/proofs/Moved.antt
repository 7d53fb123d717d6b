-- A feed that finds a message leaves fewer bytes to be looked at.
use Prim.Native.Nat.{ℕ, zero, suc, ◌+◌, ◌-◌, ◌≤◌}
use native.Mathlib.Omega.{arith}
use mathlib.Core.Path.{◌≡◌, refl, ap}
use mathlib.Core.Bool.{Bool}
use mathlib.Core.List.{List, ◌++◌}
use lib.ListN.{length, take, length-append, length-take, length-drop}
use Rattle.stream.specs.declared.Sought.{Sought}
use Rattle.stream.specs.declared.Sought.TheVariants.{Starved, Found}
use Rattle.stream.specs.Seek.{seek, resume}
use Rattle.stream.proofs.Cuts.{found_sized}
use Rattle.history.specs.Calls.{fed}
use Rattle.message.specs.Front.{front}
use Rattle.message.proofs.Framed.{cutting_harmless}
use Rattle.command.specs.declared.settings.Settings.{Settings}
use Rattle.command.specs.Rights.{guarded_rights}
use Rattle.board.specs.Profile.{Profile}
use Rattle.board.specs.declared.feeding.Stepped.{Stepped}
use Rattle.board.specs.Feed.{left_of, step_on, step_by}
use Rattle.board.specs.Place.{Placing, in_place, place_number, place_on, place_by, place_of}
use Rattle.board.proofs.Places.{resume_in, resume_past}
use Rattle.lister.specs.Moves.{Moves}

module _ (bytes : List ℕ) (old : ℕ) (w : Settings) (totals chunk room page : List ℕ) where
  abbrev held : List ℕ
  held = take old bytes

  abbrev Fine : Stepped → Type 0
  Fine s = Moves old chunk s.number s.taken s.held

  held_few_lem : length held ≤ old
  held_few_lem = omega (arith, length-take old bytes)

  found_moves : (k n : ℕ) (good : Bool) → seek front (held ++ chunk) ≡ Found k n good
      → Moves old chunk 0 (k + n - length held) (length (left_of k n good held chunk))
  found_moves k n good e =
      let s = found_sized cutting_harmless (held ++ chunk) k n good e in
      let l = length-append held chunk in
      let p = resume_past k n s.some good in
      let q = resume_in k n s.some good in
      let t = length-take (k + n - length held) chunk in
      let a = length-append held (take (k + n - length held) chunk) in
      let d = length-drop (resume k n good) (held ++ take (k + n - length held) chunk) in
      record { inside = omega (arith, s.inside); fewer = λ _. omega (arith, s.inside, held_few_lem) }

  step_moves : (s : Sought) → seek front (held ++ chunk) ≡ s → Fine (in_place (step_on guarded_rights s held w chunk room page)).step
  step_moves (Found k n good) e = found_moves k n good e
  step_moves (Starved k) e = record { inside = omega arith; fewer = λ z. let w : ⊥ = omega arith in absurd w }

  place_moves : (m : ℕ) → Fine (place_on m guarded_rights bytes old w totals (fed chunk) room page).step
  unfolding step_by
  place_moves zero = step_moves (seek front (held ++ chunk)) refl
  place_moves (suc m) = record { inside = omega arith; fewer = λ z. let w : ⊥ = omega arith in absurd w }

  feed_moves : (profile : Profile) → Fine (place_of 0 bytes old 0 w profile totals chunk room page).step
  unfolding place_by
  feed_moves profile = place_moves (place_number 0 bytes old 0 w totals room page)

pub fed_moves : (bytes : List ℕ) (old : ℕ) (w : Settings) (profile : Profile) (totals chunk room page bytes_after totals_after room_after page_after : List ℕ) (s : Stepped)
    → record { step = s; bytes = bytes_after; totals = totals_after; room = room_after; page = page_after } ≡ place_of 0 bytes old 0 w profile totals chunk room page
    → Moves old chunk s.number s.taken s.held
fed_moves bytes old w profile totals chunk room page bytes_after totals_after room_after page_after s e =
    let g : s ≡ (place_of 0 bytes old 0 w profile totals chunk room page).step = ap (λ (x : Placing). x.step) e in
    rw g (feed_moves bytes old w totals chunk room page profile)
