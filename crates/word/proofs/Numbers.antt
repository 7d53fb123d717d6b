-- Big-endian numbers: both round trips, and std's words for the same bytes.
use Prim.Native.Nat.{ℕ, ◌/◌, ◌%◌, ◌<◌}
use native.Mathlib.Omega.{arith}
use mathlib.Core.Path.{◌≡◌, refl}
use mathlib.Core.List.{[], ◌∷◌}
use Rattle.std.specs.Int.{w32, to_be_bytes}
use Rattle.word.specs.Word.{number, word, word_bytes}

-- ---- both round trips

pub word_back : (w : ℕ) → w < 4294967296 → number (word_bytes w) ≡ w
word_back w h = let e : w / 16777216 % 256 ≡ w / 16777216 = omega arith in rw e (omega arith)

pub bytes_back : (a b c d : ℕ) → a < 256 → b < 256 → c < 256 → d < 256 → word_bytes (word a b c d) ≡ a ∷ b ∷ c ∷ d ∷ []
bytes_back a b c d ha hb hc hd =
    let w = word a b c d in
    let e3 : w / 16777216 % 256 ≡ a = omega arith in
    let e2 : w / 65536 % 256 ≡ b = omega arith in
    let e1 : w / 256 % 256 ≡ c = omega arith in
    let e0 : w % 256 ≡ d = omega arith in
    rw (e3, e2, e1, e0)

-- ---- std's to_be_bytes of a u32

pub be_bytes : (w : ℕ) → to_be_bytes w32 w ≡ word_bytes w
be_bytes w = refl
