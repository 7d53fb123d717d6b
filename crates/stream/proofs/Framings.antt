-- The laws of a framing, for every opening test and size that the first bytes decide, and every test of a message's own bytes.
use mathlib.Core.Path.{◌≡◌, refl}
use mathlib.Core.Bool.{Bool, true, false}
use mathlib.Core.List.{List, ◌++◌}
use Prim.Native.Nat.{ℕ, suc, ◌≤◌}
use native.Mathlib.Omega.{arith}
use borrow.Author.Tests.{leb-true, leb-false, le-leb}
use lib.Dec.{leb}
use lib.ListN.{length, take, length-append}
use lib.Seq.{take-append-le}
use Rattle.stream.specs.declared.Verdict.{Verdict}
use Rattle.stream.specs.declared.Verdict.TheVariants.{Skip, Undecided, Whole}
use Rattle.stream.specs.Framing.{verdict_on, front_by, Framing}

-- `peek` bytes decide the opening, and `head` bytes the size.
pub record Header (opens : List ℕ → Bool) (size : List ℕ → ℕ) (most_held peek head : ℕ) : Type 0 where
  pub opens-append : (u v : List ℕ) → peek ≤ length u → opens (u ++ v) ≡ opens u
  pub opens_false : (u v : List ℕ) → opens u ≡ false → opens (u ++ v) ≡ false
  pub size_append : (u v : List ℕ) → head ≤ length u → size (u ++ v) ≡ size u
  pub bounds : (u : List ℕ) → (1 ≤ size u) × (peek ≤ size u) × (head ≤ size u) × (size u ≤ suc most_held)

module _ {opens : List ℕ → Bool} {size : List ℕ → ℕ} {most_held peek head : ℕ} (H : Header opens size most_held peek head) (valid : List ℕ → Bool) where
  abbrev front : List ℕ → Verdict
  front = front_by opens size valid

  -- The verdict behind an opening.
  abbrev opened : List ℕ → Verdict
  opened u = verdict_on (leb (size u) (length u)) (size u) (valid (take (size u) u))

  skip_opens : (u : List ℕ) → front u ≡ Skip → opens u ≡ false
  skip_opens u e = go (opens u) refl (leb (size u) (length u)) refl
    where
      go : (b : Bool) → opens u ≡ b → (c : Bool) → leb (size u) (length u) ≡ c → b ≡ false
      go true p true q = cc
      go true p false q = cc
      go false p c q = refl

  -- What a verdict of a whole message tells of the bytes.
  pub record IsWhole (u : List ℕ) (n : ℕ) (good : Bool) : Type 0 where
    pub opening : opens u ≡ true
    pub verdict : opened u ≡ Whole n good
    pub sized : n ≡ size u
    pub inside : size u ≤ length u
    pub valid_is : good ≡ valid (take n u)

  pub is_whole : (u : List ℕ) (n : ℕ) (good : Bool) → front u ≡ Whole n good → IsWhole u n good
  is_whole u n good e = go (opens u) refl (leb (size u) (length u)) refl
    where
      told : opens u ≡ true → leb (size u) (length u) ≡ true → good ≡ valid (take n u)
      told p q = let k : n ≡ size u = cc in rw k (cc)

      go : (b : Bool) → opens u ≡ b → (c : Bool) → leb (size u) (length u) ≡ c → IsWhole u n good
      go true p true q = record { opening = p; verdict = cc; sized = cc; inside = leb-true (size u) (length u) q; valid_is = told p q }
      go true p false q = let z : ◌≡◌ {A = ℕ} 0 1 = cc in absurd (omega arith)
      go false p c q = let z : ◌≡◌ {A = ℕ} 0 1 = cc in absurd (omega arith)

  opened_append : (u v : List ℕ) → size u ≤ length u → opened (u ++ v) ≡ opened u
  opened_append u v h =
      let b = H.bounds u in
      cc (
        H.size_append u v (omega arith),
        take-append-le (size u) u v h,
        le-leb (size u) (length (u ++ v)) (omega (arith, length-append u v)),
        le-leb (size u) (length u) h,
      )

  short : (u : List ℕ) → front u ≡ Undecided → length u ≤ most_held
  short u e = go (opens u) refl (leb (size u) (length u)) refl
    where
      go : (b : Bool) → opens u ≡ b → (c : Bool) → leb (size u) (length u) ≡ c → length u ≤ most_held
      go true p true q = let z : ◌≡◌ {A = ℕ} 0 1 = cc in absurd (omega arith)
      go true p false q = omega (arith, leb-false (size u) (length u) q, H.bounds u)
      go false p c q = let z : ◌≡◌ {A = ℕ} 0 1 = cc in absurd (omega arith)

  pub framing : Framing front most_held peek
  framing =
      record {
        skip_stays = λ u v e. cc (H.opens_false u v (skip_opens u e));
        whole_stays = λ u v n good e.
            let t : IsWhole u n good = is_whole u n good e in
            let b = H.bounds u in
            cc (H.opens-append u v (omega arith), opened_append u v t.inside);
        skip_alone = λ u v e h. cc (H.opens-append u v h, skip_opens (u ++ v) e);
        whole_alone = λ u v n good e h.
            let t : IsWhole (u ++ v) n good = is_whole (u ++ v) n good e in
            let b = H.bounds (u ++ v) in
            let l : size (u ++ v) ≡ size u = H.size_append u v (omega arith) in
            cc (H.opens-append u v (omega arith), opened_append u v (omega arith));
        size = λ u n good e. let t : IsWhole u n good = is_whole u n good e in let b = H.bounds u in omega arith;
        short = short;
      }
