-- A list of numbers that grows has none twice.
use mathlib.Core.List.{List, [], ◌∷◌}
use Prim.Native.Nat.{ℕ, zero, suc, ◌<◌}
use native.Mathlib.Omega.{arith}
use lib.ListN.{length, get_or}
use Rattle.history.specs.Numbers.{Growing, GrowingNoneTwice}

growing_rest : (n : ℕ) (ns : List ℕ) → Growing (n ∷ ns) → Growing ns
growing_rest n [] g = tt
growing_rest n (m ∷ ns) g = g.1

larger_than : (n : ℕ) (ns : List ℕ) → Growing (n ∷ ns) → (j : ℕ) → j < length ns → n < get_or ns j 0
larger_than n [] g j h = absurd (omega arith)
larger_than n (m ∷ ns) g zero h = g.0
larger_than n (m ∷ ns) g (suc j) h =
    let l : n < m = g.0 in
    let k : m < get_or ns j 0 = larger_than m ns g.1 j (omega arith) in
    omega arith

pub growing_none_twice : GrowingNoneTwice
growing_none_twice [] g i j l h e = omega arith
growing_none_twice (n ∷ ns) g i zero l h e = omega arith
growing_none_twice (n ∷ ns) g zero (suc j) l h e =
    let k : n < get_or ns j 0 = larger_than n ns g j (omega arith) in
    omega arith
growing_none_twice (n ∷ ns) g (suc i) (suc j) l h e = growing_none_twice ns (growing_rest n ns g) i j (omega arith) (omega arith) e
