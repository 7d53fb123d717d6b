-- Three axes and their twelve bytes: both ways.
use Prim.Native.Nat.{ℕ, zero, suc, ◌+◌, ◌-◌, ◌<◌}
use native.Mathlib.Omega.{arith}
use mathlib.Core.Path.{◌≡◌, ap, ◌∙◌, sym}
use mathlib.Core.List.{List, [], ◌∷◌, ◌++◌}
use lib.Dec.{lit<}
use lib.ListN.{length, get_or, take, drop, length-drop, take-append-drop}
use lib.Seq.{length-take-le, get_or-drop, drop-drop, take_all}
use Rattle.word.specs.Word.{number, word, word_bytes}
use Rattle.word.proofs.Numbers.{word_back, bytes_back}
use Rattle.sample.specs.declared.axes.Axes.{Axes}
use Rattle.sample.specs.Axes.{float_of, kept_of, bits_of, axes_from, axes_of, axes_bytes, restored}
use Rattle.sample.specs.Theorems.{Kept32, Single}
use Rattle.sample.proofs.Patterns.{bits_back, bits_below}

-- ---- the axes of twelve bytes

pub axes_read : (b : List ℕ) → length b ≡ 12 → (x y z : ℕ) → x ≡ number (take 4 b) → y ≡ number (take 4 (take (length b - 4) (drop 4 b)))
    → z ≡ number (take 4 (take (length b - 8) (drop 8 b))) → (a : Axes) → a ≡ axes_from x y z → a ≡ axes_of b
unfolding axes_of
axes_read b e x y z ex ey ez a h =
    let ay : take (length b - 4) (drop 4 b) ≡ drop 4 b = take_all (length b - 4) (drop 4 b) (rw length-drop (omega arith)) in
    let az : take (length b - 8) (drop 8 b) ≡ drop 8 b = take_all (length b - 8) (drop 8 b) (rw length-drop (omega arith)) in
    let by : y ≡ number (take 4 (drop 4 b)) = ey ∙ ap (λ (l : List ℕ). number (take 4 l)) ay in
    let bz : z ≡ number (take 4 (drop 8 b)) = ez ∙ ap (λ (l : List ℕ). number (take 4 l)) az in
    h ∙ rw (← ex, ← by, ← bz)

-- ---- from axes

pub axes_again : (a : Axes) → Single a → Kept32 a → axes_of (axes_bytes a) ≡ restored a
unfolding axes_of axes_bytes
axes_again a s k =
    let x : ℕ = bits_of a.x a.x_nan in
    let y : ℕ = bits_of a.y a.y_nan in
    let z : ℕ = bits_of a.z a.z_nan in
    ap (λ (n : ℕ). axes_from n (number (word_bytes y)) (number (word_bytes z))) (word_back x (bits_below a.x a.x_nan s.0 k.0))
    ∙ ap (λ (n : ℕ). axes_from x n (number (word_bytes z))) (word_back y (bits_below a.y a.y_nan s.1 k.1))
    ∙ ap (λ (n : ℕ). axes_from x y n) (word_back z (bits_below a.z a.z_nan s.2 k.2))

-- ---- from bytes

abbrev pub Bytes : List ℕ → Type 0
Bytes bs = (i : ℕ) → get_or bs i 0 < 256

pub take_bytes : (n : ℕ) (l : List ℕ) → Bytes l → Bytes (take n l)
take_bytes zero l h i = lit< tt
take_bytes (suc n) [] h i = lit< tt
take_bytes (suc n) (x ∷ l) h zero = h 0
take_bytes (suc n) (x ∷ l) h (suc i) = take_bytes n l (λ j. h (suc j)) i

pub drop_bytes : (n : ℕ) (l : List ℕ) → Bytes l → Bytes (drop n l)
drop_bytes n l h i = rw (get_or-drop n l i 0) (h (n + i))

pub front_bytes : (xs ys : List ℕ) → Bytes (xs ++ ys) → Bytes xs
front_bytes [] ys h i = lit< tt
front_bytes (x ∷ xs) ys h zero = h 0
front_bytes (x ∷ xs) ys h (suc i) = front_bytes xs ys (λ j. h (suc j)) i

pub rest_bytes : (xs ys : List ℕ) → Bytes (xs ++ ys) → Bytes ys
rest_bytes [] ys h = h
rest_bytes (x ∷ xs) ys h = rest_bytes xs ys (λ j. h (suc j))

-- The bits of an axis that was read of four bytes are these.
four : (l : List ℕ) → length l ≡ 4 → Bytes l → word_bytes (bits_of (float_of (number l)) (kept_of (number l))) ≡ l
four [] e h = absurd (omega arith)
four (a ∷ []) e h = absurd (omega arith)
four (a ∷ b ∷ []) e h = absurd (omega arith)
four (a ∷ b ∷ c ∷ []) e h = absurd (omega arith)
four (a ∷ b ∷ c ∷ d ∷ []) e h =
    let n : ℕ = number (a ∷ b ∷ c ∷ d ∷ []) in
    let w : n ≡ word a b c d = omega arith in
    let l : n < 4294967296 = omega (arith, h 0, h 1, h 2, h 3) in
    ap word_bytes (bits_back n l ∙ w) ∙ bytes_back a b c d (h 0) (h 1) (h 2) (h 3)
four (a ∷ b ∷ c ∷ d ∷ x ∷ l) e h = absurd (omega arith)

joined : {a b c u v w : List ℕ} → a ≡ u → b ≡ v → c ≡ w → a ++ (b ++ c) ≡ u ++ (v ++ w)
joined p q r = cc

pub bytes_again : (bs : List ℕ) → length bs ≡ 12 → Bytes bs → axes_bytes (axes_of bs) ≡ bs
unfolding axes_of axes_bytes
bytes_again bs e h =
    let l1 : length (take 4 bs) ≡ 4 = length-take-le 4 bs (omega arith) in
    let l2 : length (take 4 (drop 4 bs)) ≡ 4 = length-take-le 4 (drop 4 bs) (rw length-drop (omega arith)) in
    let l3 : length (take 4 (drop 8 bs)) ≡ 4 = length-take-le 4 (drop 8 bs) (rw length-drop (omega arith)) in
    let x = four (take 4 bs) l1 (take_bytes 4 bs h) in
    let y = four (take 4 (drop 4 bs)) l2 (take_bytes 4 (drop 4 bs) (drop_bytes 4 bs h)) in
    let z = four (take 4 (drop 8 bs)) l3 (take_bytes 4 (drop 8 bs) (drop_bytes 8 bs h)) in
    let t : take 4 (drop 8 bs) ≡ drop 4 (drop 4 bs) = take_all 4 (drop 8 bs) (rw length-drop (omega arith)) ∙ sym (drop-drop 4 4 bs) in
    joined x y (z ∙ t) ∙ rw (take-append-drop 4 (drop 4 bs), take-append-drop 4 bs)
