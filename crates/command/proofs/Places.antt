-- Rows placed in the room one after the other.
use Prim.Native.Nat.{ℕ, ◌+◌, ◌%◌, ◌≤◌}
use native.Mathlib.Omega.{arith}
use native.Mathlib.Numerals.{add-one, add-two, add-three, add-four, add_five}
use mathlib.Core.Path.{◌≡◌, sym, ap, ◌∙◌}
use mathlib.Core.Bool.{◌||◌, or_assoc, or-false}
use mathlib.Core.List.{List, [], ◌∷◌, ◌++◌, append_assoc, append-nil}
use lib.ListN.{length, take, drop, set, length-append, length-drop, take-append-drop}
use lib.Seq.{sets-eq, length-take-le, take_at, drop-append-add, drop-drop}
use Rattle.word.specs.Word.{word_bytes}
use Rattle.page.specs.declared.setting.Setting.{Setting}
use Rattle.page.specs.declared.setting.Setting.TheVariants.{Baud, Accelerometer, Gyroscope}
use Rattle.page.specs.Settings.{code_of}
use Rattle.message.specs.Write.{put_at}
use Rattle.command.specs.declared.place.Progress.{Progress}
use Rattle.command.specs.Effects.{value_field}
use Rattle.command.specs.Outcome.{Outcome, idle, then_outcome}
use Rattle.command.specs.Place.{state_of, placed}

-- ---- stores, one after the other

module _ (room : List ℕ) (at : ℕ) where
  pub row_put : (a b d e : ℕ) → at + 4 ≤ length room
      → set (set (set (set room at a) (at + 1) b) (at + 2) d) (at + 3) e ≡ put_at at (a ∷ b ∷ d ∷ e ∷ []) room
  row_put a b d e h = rw (add-one, add-two, add-three) (sets-eq (a ∷ b ∷ d ∷ e ∷ []) room at h)

  pub byte_put : (a b d : ℕ) → at + 6 ≤ length room → set (set (set room at a) (at + 1) b) (at + 2) d ≡ put_at at (a ∷ b ∷ d ∷ []) room
  byte_put a b d h = rw (add-one, add-two) (sets-eq (a ∷ b ∷ d ∷ []) room at (omega arith))

  pub word_put : (a b d e f g : ℕ) → at + 6 ≤ length room
      → set (set (set (set (set (set room at a) (at + 1) b) (at + 2) d) (at + 3) e) (at + 4) f) (at + 5) g ≡ put_at at (a ∷ b ∷ d ∷ e ∷ f ∷ g ∷ []) room
  word_put a b d e f g h = rw (add-one, add-two, add-three, add-four, add_five) (sets-eq (a ∷ b ∷ d ∷ e ∷ f ∷ g ∷ []) room at h)

-- A setting's value, of four bytes or of one: where it ends, and the room.
module _ (s : Setting) (x at : ℕ) where
  pub end_word : (r : ℕ) → s ≡ Baud → r ≡ at + 6 → r ≡ at + length (value_field s x)
  end_word r e h = rw e h

  pub end_accelerometer : (r : ℕ) → s ≡ Accelerometer → r ≡ at + 3 → r ≡ at + length (value_field s x)
  end_accelerometer r e h = rw e h

  pub end_gyroscope : (r : ℕ) → s ≡ Gyroscope → r ≡ at + 3 → r ≡ at + length (value_field s x)
  end_gyroscope r e h = rw e h

  module _ (code : ℕ) (room after : List ℕ) (cs : code ≡ code_of s) where
    pub value_word : s ≡ Baud → after ≡ put_at at (code ∷ 4 ∷ word_bytes x) room → after ≡ put_at at (value_field s x) room
    value_word e h = h ∙ rw (cs, e)

    pub value_accelerometer : s ≡ Accelerometer → after ≡ put_at at (code ∷ 1 ∷ x % 256 ∷ []) room → after ≡ put_at at (value_field s x) room
    value_accelerometer e h = h ∙ rw (cs, e)

    pub value_gyroscope : s ≡ Gyroscope → after ≡ put_at at (code ∷ 1 ∷ x % 256 ∷ []) room → after ≡ put_at at (value_field s x) room
    value_gyroscope e h = h ∙ rw (cs, e)

-- ---- bytes behind bytes

module _ (at : ℕ) (xs room : List ℕ) (h : at + length xs ≤ length room) where
  pub front_length : length (take at room ++ xs) ≡ at + length xs
  front_length = length-append (take at room) xs ∙ ap (λ (n : ℕ). n + length xs) (length-take-le at room (omega arith))

  pub put_length : length (put_at at xs room) ≡ length room
  put_length =
      length-append (take at room ++ xs) (drop (at + length xs) room)
      ∙ ap (λ (n : ℕ). n + length (drop (at + length xs) room)) front_length
      ∙ ap (λ (n : ℕ). at + length xs + n) (length-drop (at + length xs) room)
      ∙ omega arith

  -- What stands before and behind the bytes that were put.
  pub put_front : take (at + length xs) (put_at at xs room) ≡ take at room ++ xs
  put_front = take_at (take at room ++ xs) (drop (at + length xs) room) (at + length xs) front_length

  pub put_behind : (n : ℕ) → drop (at + length xs + n) (put_at at xs room) ≡ drop (at + length xs + n) room
  put_behind n =
      ap (λ (i : ℕ). drop (i + n) (put_at at xs room)) (sym front_length)
      ∙ drop-append-add (take at room ++ xs) (drop (at + length xs) room) n
      ∙ drop-drop n (at + length xs) room

pub put_then : (at : ℕ) (xs ys room : List ℕ) → at + length xs + length ys ≤ length room
    → put_at (at + length xs) ys (put_at at xs room) ≡ put_at at (xs ++ ys) room
put_then at xs ys room h =
    let k : at + length xs ≤ length room = omega arith in
    let n : at + length (xs ++ ys) ≡ at + length xs + length ys = rw length-append (omega arith) in
    rw (put_front at xs room k, put_behind at xs room k (length ys), n) (ap (λ (l : List ℕ). l ++ drop (at + length xs + length ys) room) (append_assoc (take at room) xs ys))

pub put_nothing : (at : ℕ) (room : List ℕ) → put_at at [] room ≡ room
put_nothing at room =
    let z : at + 0 ≡ at = omega arith in
    rw (z, append-nil (take at room)) (take-append-drop at room)

-- ---- outcomes behind outcomes

pub placed_then : (p : Progress) (a b : Outcome (List ℕ)) (room : List ℕ) → p.end + length a.rows + length b.rows ≤ length room
    → placed (placed p a room).done b (placed p a room).room ≡ placed p (then_outcome a b) room
placed_then p a b room h =
    let e : p.end + length a.rows + length b.rows ≡ p.end + length (a.rows ++ b.rows) = rw length-append (omega arith) in
    let s : p.saved || a.saved || b.saved ≡ p.saved || (a.saved || b.saved) = or_assoc p.saved a.saved b.saved in
    let r : put_at (p.end + length a.rows) b.rows (put_at p.end a.rows room) ≡ put_at p.end (a.rows ++ b.rows) room =
    put_then p.end a.rows b.rows room h in
    cc

pub placed-idle : (p : Progress) (room page : List ℕ) → placed p (idle (state_of p page)) room ≡ record { done = p; room = room; page = page }
placed-idle p room page =
    let z : p.end + 0 ≡ p.end = omega arith in
    let d : (placed p (idle (state_of p page)) room).done ≡ p = rw (z, or-false p.saved) in
    ap (λ (d : Progress). record { done = d; room = put_at p.end [] room; page = page }) d
    ∙ ap (λ (l : List ℕ). record { done = p; room = l; page = page }) (put_nothing p.end room)
