-- The laws of keeping bytes in place.
use Prim.Native.Nat.{ℕ, suc, ◌≤◌, ◌<◌, ◌-◌, ◌+◌}
use native.Mathlib.Omega.{arith}
use native.Mathlib.Numerals.{add-one}
use native.Mathlib.Nat.{zero-add}
use mathlib.Core.Path.{◌≡◌, ap, ◌∙◌, sym}
use mathlib.Core.List.{List, ◌++◌, append_assoc}
use lib.ListN.{length, take, drop, get_or, set, replicate, length-drop, length-append}
use borrow.Rule.Slice.PartMut.{put_mid}
use Rattle.std.proofs.lemmas.Slice.{drop-append-drop}
use lib.Seq.{paste-suc, get_or-drop, length-take-le, take-append-le, take-append-add, take-take, take_at, drop-append-le, drop-drop}
use Rattle.message.proofs.Windows.{byte_chunk, drop_chunk}
use Rattle.board.specs.Port.{padded}
use Rattle.command.proofs.Rests.{drop-take}

-- a turn of a copy to the front of an array
pub fill_suc : (p z : List ℕ) (i x : ℕ) → i < length p → i < length z → x ≡ get_or p i 0 → set (take i p ++ drop i z) i x ≡ take (i + 1) p ++ drop (i + 1) z
fill_suc p z i x h k e =
    let t : set (take i p ++ drop (0 + i) z) (0 + i) (get_or p i 0) ≡ take (suc i) p ++ drop (0 + suc i) z = paste-suc z 0 p i 0 (rw zero-add k) h in
    rw (e, add-one) (simp zero-add at t)

-- a part of a row: its length and its elements
pub length_part : (w : List ℕ) (from to : ℕ) → to ≤ length w → length (take (to - from) (drop from w)) ≡ to - from
length_part w from to h = length-take-le (to - from) (drop from w) (rw length-drop (omega arith))

module _ (b c : List ℕ) (held : ℕ) (few : held ≤ 260) (long : length b ≡ 260) where
  hl : length (take held b) ≡ held
  hl = length-take-le held b (omega arith)

  pub window_length : length (take held b ++ c) ≡ held + length c
  window_length = rw (length-append, hl)

-- a byte that a move to the front has not written yet
pub moved_at : (b s : List ℕ) (i j : ℕ) → i ≤ length s → i ≤ j → get_or (take i s ++ drop i b) j 0 ≡ get_or b j 0
moved_at b s i j h k =
    let t : length (take i s) ≡ i = length-take-le i s h in
    let e : i + (j - i) ≡ j = omega arith in
    sym (byte_chunk (take i s) (drop i b) j (rw t k)) ∙ rw (t, get_or-drop, e)

-- bringing n bytes of the window to the front: of the chunk alone, of those held alone, of both
module _ (b c : List ℕ) (held from n : ℕ) (few : held ≤ 260) (long : length b ≡ 260) where
  first_long : length (take held b) ≡ held
  first_long = length-take-le held b (omega arith)

  pub shift_chunk : held ≤ from → (y : List ℕ) → y ≡ take 0 b ++ take n (drop (from - held) c) ++ drop (0 + n) b → y ≡ take n (drop from (take held b ++ c)) ++ drop n b
  shift_chunk h y e =
      let d : drop (from - held) c ≡ drop from (take held b ++ c) = rw first_long at (drop_chunk (take held b) c from (rw first_long h)) in
      e ∙ rw (zero-add, d)

  -- the window from a held byte on
  window_from : from ≤ held → drop from (take held b ++ c) ≡ take (held - from) (drop from b) ++ c
  window_from h = drop-append-le from (take held b) c (rw first_long h) ∙ ap (λ (l : List ℕ). l ++ c) (drop-take from held b)

  kept_long : from ≤ held → length (take (held - from) (drop from b)) ≡ held - from
  kept_long h = length-take-le (held - from) (drop from b) (rw length-drop (omega arith))

  pub shift_held : from < held → (k : ℕ) → k ≡ held - from → n ≤ k → (y : List ℕ) → y ≡ take n (drop from b) ++ drop n b → y ≡ take n (drop from (take held b ++ c)) ++ drop n b
  shift_held h k ks s y e =
      let f : from ≤ held = omega arith in
      let t : take n (take (held - from) (drop from b) ++ c) ≡ take n (drop from b) =
      take-append-le n (take (held - from) (drop from b)) c (rw (kept_long f) (omega (arith, ks, s))) ∙ take-take n (held - from) (drop from b) (omega (arith, ks, s)) in
      e ∙ rw (window_from f, t)

  pub shift_both : from < held → (k : ℕ) → k ≡ held - from → k < n → (x z : List ℕ) → x ≡ take k (drop from b) ++ drop k b → z ≡ take (n - k) c
      → put_mid k (n - k) x z ≡ take n (drop from (take held b ++ c)) ++ drop n b
  shift_both h k ks s x z ex ez =
      let f : from ≤ held = omega arith in
      let l : length (take k (drop from b)) ≡ k = ap (λ (i : ℕ). length (take i (drop from b))) ks ∙ kept_long f ∙ sym ks in
      let t : take k x ≡ take k (drop from b) = ap (take k) ex ∙ take_at (take k (drop from b)) (drop k b) k l in
      let m : k + (n - k) ≡ n = omega arith in
      let d : drop n x ≡ drop n b = rw ex (drop-append-drop k b (take k (drop from b)) n (omega arith) l) in
      let w : take n (take (held - from) (drop from b) ++ c) ≡ take k (drop from b) ++ take (n - k) c =
      ap (λ (i : ℕ). take n (take i (drop from b) ++ c)) (sym ks) ∙ ap (λ (i : ℕ). take i (take k (drop from b) ++ c)) (sym m ∙ ap (λ (i : ℕ). i + (n - k)) (sym l)) ∙ take-append-add (take k (drop from b)) c (n - k) in
      rw (ez, drop-drop, m, t, d, window_from f, w, append_assoc)

-- the whole of keeping the bytes from..to of the window
module _ (b c : List ℕ) (held from to : ℕ) (few : held ≤ 260) (long : length b ≡ 260) (h : from ≤ to) (k : to ≤ held + length c) (s : to - from ≤ 260) where
  pl : length (take (to - from) (drop from (take held b ++ c))) ≡ to - from
  pl = length_part (take held b ++ c) from to (rw (window_length b c held few long) k)

  pub keep_length : (x : List ℕ) → x ≡ take (to - from) (drop from (take held b ++ c)) ++ drop (to - from) b → length x ≡ 260
  keep_length x e = rw (e, length-append, pl, length-drop) (omega arith)

  pub keep_whole : (x y : List ℕ) → x ≡ take (to - from) (drop from (take held b ++ c)) ++ drop (to - from) b → y ≡ take (to - from) x ++ replicate (260 - (to - from)) 0
      → y ≡ padded (take (to - from) (drop from (take held b ++ c)))
  keep_whole x y e f = f ∙ rw (e, take_at (take (to - from) (drop from (take held b ++ c))) (drop (to - from) b) (to - from) pl, pl)
