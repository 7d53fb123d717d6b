-- What stands at a place of a row of bytes w.
use Rattle.std.proofs.Common.{◌≡◌, ℕ, ◌+◌, ◌-◌, ◌<◌, ◌≤◌, Bool, List, length, take, drop, sym, ap, ◌∙◌, arith, length-drop, drop_of_length-le, take_all}
use native.Mathlib.Decide.{dec_lt}
use Rattle.stream.specs.declared.Verdict.{Verdict}
use Rattle.stream.specs.declared.Verdict.TheVariants.{Skip, Undecided, Whole}
use Rattle.message.specs.declared.header.Opening.{Opening}
use Rattle.message.specs.declared.header.Opening.TheVariants.{Complete}
use Rattle.message.specs.Front.{front}
use Rattle.message.specs.Header.{opening_of}
use Rattle.message.proofs.Openings.{complete_sized}

pub front-none : (w : List ℕ) (at : ℕ) → length w ≤ at → Undecided ≡ front (drop at w)
unfolding front
front-none w at h = rw (drop_of_length-le w h)

-- The part of w from `at` on is what w has from there.
pub opening_here : (w : List ℕ) (at : ℕ) (u : List ℕ) (o : Opening) → u ≡ take (length w - at) (drop at w) → o ≡ opening_of u → o ≡ opening_of (drop at w)
opening_here w at u o e is = is ∙ ap opening_of (e ∙ take_all (length w - at) (drop at w) (rw length-drop (omega arith)))

-- A complete message is within w.
pub complete_within : (w : List ℕ) (at : ℕ) (o : Opening) → o ≡ opening_of (drop at w) → (n : ℕ) → o ≡ Complete n → at < length w → (2 ≤ n) × (at + n ≤ length w)
complete_within w at o is n e h =
    let s = complete_sized (drop at w) o is n e in
    let l : length (drop at w) ≡ length w - at = length-drop at w in
    omega arith

-- ---- where something stands there is a byte

not_there : (w : List ℕ) (at : ℕ) → length w ≤ at → (d : Verdict) → d ≡ front (drop at w) → d ≡ Undecided
not_there w at h d e = e ∙ sym (front-none w at h)

module _ (w : List ℕ) (at : ℕ) (d : Verdict) (is : d ≡ front (drop at w)) where
  pub skip_there : d ≡ Skip → at < length w
  skip_there e = go (dec_lt at (length w))
    where
      go : Dec (at < length w) → at < length w
      go (yes h) = h
      go (no h) = let u = not_there w at (omega arith) d is in let z : ◌≡◌ {A = ℕ} 0 1 = cc in absurd (omega arith)

  pub whole_there : {n : ℕ} {good : Bool} → d ≡ Whole n good → at < length w
  whole_there e = go (dec_lt at (length w))
    where
      go : Dec (at < length w) → at < length w
      go (yes h) = h
      go (no h) = let u = not_there w at (omega arith) d is in let z : ◌≡◌ {A = ℕ} 0 1 = cc in absurd (omega arith)
