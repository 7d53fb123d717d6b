-- `message::skips::any` meets its contract. The invariant: what it says, of the bytes so far.
use Rattle.std.proofs.Common.{◌≡◌, ◌<◌, ◌+◌, ℕ, Bool, true, false, ◌||◌, List, length, get_or, refl}
use borrow.Author.Count.{below_more}
use Rattle.message.proofs.skips.any.Goals as goal

module _ (P : ℕ → Bool → Type 0) (b : List ℕ) (i : ℕ) (h : i < length b) where
  byte_more : (found passes : Bool) → P (get_or b i 0) passes
      → (found ≡ true → (k : ℕ) × (k < length b) × P (get_or b k 0) true) × (found ≡ false → (k : ℕ) → k < i → P (get_or b k 0) false)
      → (found || passes ≡ true → (k : ℕ) × (k < length b) × P (get_or b k 0) true) × (found || passes ≡ false → (k : ℕ) → k < i + 1 → P (get_or b k 0) false)
  byte_more true passes p (some, none) = (λ e. some refl, λ e. absurd cc)
  byte_more false true p (some, none) = (λ e. (i, h, p), λ e. absurd cc)
  byte_more false false p (some, none) = (λ e. absurd cc, λ e. below_more (λ k. P (get_or b k 0) false) i (none refl) p)

pub loop-b-preserved : goal.loop-b-preserved
loop-b-preserved g c =
    byte_more (λ x r. goal.F-post g c.args.test x r) c.args.block.now c.loop-b.b-index c.loop-b-test.true c.loop-b.found c.test-found.result c.test-found.ensures c.loop-b.invariant
