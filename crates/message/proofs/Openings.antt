-- What the first bytes tell, case by case from the bytes that were read; and what stands at a front of which that is known.
use Rattle.std.proofs.Common.{◌≡◌, ℕ, ◌+◌, ◌%◌, ◌<◌, ◌≤◌, Bool, true, false, not, ◌&&◌, eqb, leb, List, [], ◌∷◌, ◌++◌, length, get_or, take, sym, refl, ◌∙◌, arith, length-append, eq-eqb, ne_eqb, eqb-true, le-leb, leb-true}
use borrow.Author.Tests.{lt-leb}
use Rattle.stream.proofs.Bools.{and_both, differ}
use Rattle.stream.specs.declared.Verdict.TheVariants.{Skip, Undecided, Whole}
use Rattle.message.specs.declared.header.Opening.{Opening}
use Rattle.message.specs.declared.header.Opening.TheVariants.{NoMessage, Incomplete, Complete}
use Rattle.message.specs.Message.{sums_right}
use Rattle.message.specs.Front.{opens, size_of, front}
use Rattle.message.specs.Header.{opening_of}

-- ---- the opening test by the bytes, 0 for one that is not there

opens_one : (u : List ℕ) → 1 ≤ length u → length u < 2 → get_or u 0 0 ≡ 0xA5 → opens u ≡ true
opens_one [] h k e = absurd (omega arith)
opens_one (x ∷ []) h k e = rw (eq-eqb x 0xA5 e)
opens_one (x ∷ y ∷ u) h k e = absurd (omega arith)

pub opens_first : (u : List ℕ) → 1 ≤ length u → (get_or u 0 0 ≡ 0xA5 → ⊥) → opens u ≡ false
opens_first [] h n = absurd (omega arith)
opens_first (x ∷ u) h n = rw (ne_eqb x 0xA5 n)

pub opens_bytes : (u : List ℕ) → 2 ≤ length u → opens u ≡ eqb (get_or u 0 0) 0xA5 && eqb (get_or u 1 0) 0xA5 && not (eqb (get_or u 2 0) 0xA5)
opens_bytes [] h = absurd (omega arith)
opens_bytes (x ∷ []) h = absurd (omega arith)
opens_bytes (x ∷ y ∷ []) h = refl
opens_bytes (x ∷ y ∷ t ∷ u) h = refl

-- What an opening tells of its first bytes.
pub record OpensTold (u : List ℕ) : Type 0 where
  pub first : get_or u 0 0 ≡ 0xA5
  pub second : get_or u 1 0 ≡ 0xA5
  pub third : get_or u 2 0 ≡ 0xA5 → ⊥

pub opens_told : (u : List ℕ) → 2 ≤ length u → opens u ≡ true → OpensTold u
opens_told u l e =
    let b = and_both (eqb (get_or u 0 0) 0xA5 && eqb (get_or u 1 0) 0xA5) (not (eqb (get_or u 2 0) 0xA5)) (sym (opens_bytes u l) ∙ e) in
    let c = and_both (eqb (get_or u 0 0) 0xA5) (eqb (get_or u 1 0) 0xA5) b.0 in
    record {
      first = eqb-true (get_or u 0 0) 0xA5 c.0;
      second = eqb-true (get_or u 1 0) 0xA5 c.1;
      third = λ s. differ (sym b.1 ∙ rw (eq-eqb (get_or u 2 0) 0xA5 s));
    }

-- ---- the opening

module _ (u : List ℕ) where
  opening-none : opens u ≡ false → NoMessage ≡ opening_of u
  unfolding opening_of
  opening-none e = rw e

  opening_incomplete : opens u ≡ true → length u < size_of u → Incomplete ≡ opening_of u
  unfolding opening_of
  opening_incomplete e h = rw (e, lt-leb (size_of u) (length u) h)

  opening_complete : opens u ≡ true → size_of u ≤ length u → Complete (size_of u) ≡ opening_of u
  unfolding opening_of
  opening_complete e h = rw (e, le-leb (size_of u) (length u) h)

-- The first four bytes open a message of n bytes.
pub record SizeTold (held chunk : List ℕ) (n : ℕ) : Type 0 where
  pub opening : opens (held ++ chunk) ≡ true
  pub sized : size_of (held ++ chunk) ≡ n

-- By the bytes x, y, s and z that were read as the first four of held bytes and then a chunk.
module _ (held chunk : List ℕ) where
  long : length (held ++ chunk) ≡ length held + length chunk
  long = length-append held chunk

  pub told_none : length held + length chunk ≡ 0 → Incomplete ≡ opening_of (held ++ chunk)
  told_none h = none (held ++ chunk) (long ∙ h)
    where
      none : (u : List ℕ) → length u ≡ 0 → Incomplete ≡ opening_of u
      none [] l = opening_incomplete [] refl (omega arith)
      none (x ∷ u) l = absurd (omega arith)

  module _ (some : length held + length chunk ≡ 0 → ⊥) (x : ℕ) (p : x ≡ get_or (held ++ chunk) 0 0) where
    there : 1 ≤ length (held ++ chunk)
    there = rw long (omega arith)

    pub told_first : (x ≡ 0xA5 → ⊥) → NoMessage ≡ opening_of (held ++ chunk)
    told_first n = opening-none (held ++ chunk) (opens_first (held ++ chunk) there (rw p at n))

    module _ (e : x ≡ 0xA5) where
      pub told_one : length held + length chunk < 2 → Incomplete ≡ opening_of (held ++ chunk)
      told_one k = opening_incomplete (held ++ chunk) (opens_one (held ++ chunk) there (rw long k) (sym p ∙ e)) (rw long (omega arith))

      module _ (two : 2 ≤ length held + length chunk) (y : ℕ) (q : y ≡ get_or (held ++ chunk) 1 0) where
        pub told_second : (y ≡ 0xA5 → ⊥) → NoMessage ≡ opening_of (held ++ chunk)
        told_second n =
            opening-none (held ++ chunk) (opens_bytes (held ++ chunk) (rw long two) ∙ rw (← p, ← q, eq-eqb _ _ e, ne_eqb _ _ n))

        module _ (f : y ≡ 0xA5) (s : ℕ) (a : s ≡ get_or (held ++ chunk) 2 0) where
          opens_on : (b : Bool) → eqb s 0xA5 ≡ b → opens (held ++ chunk) ≡ not b
          opens_on b g = opens_bytes (held ++ chunk) (rw long two) ∙ rw (← p, ← q, ← a, eq-eqb _ _ e, eq-eqb _ _ f, g)

          pub told_third : s ≡ 0xA5 → NoMessage ≡ opening_of (held ++ chunk)
          told_third g = opening-none (held ++ chunk) (opens_on true (eq-eqb _ _ g))

          pub told_size : (s ≡ 0xA5 → ⊥) → (z : ℕ) → z ≡ get_or (held ++ chunk) 3 0 → (n : ℕ) → n ≡ z % 256 + 6 → SizeTold held chunk n
          told_size g z r n t = record { opening = opens_on false (ne_eqb _ _ g); sized = rw (t, r) }

-- By the size, where the four bytes open a message.
module _ (held chunk : List ℕ) (n : ℕ) (told : SizeTold held chunk n) where
  pub told_incomplete : length held + length chunk < n → Incomplete ≡ opening_of (held ++ chunk)
  told_incomplete k = opening_incomplete (held ++ chunk) told.opening (rw (told.sized, long held chunk) k)

  pub told_complete : n ≤ length held + length chunk → Complete n ≡ opening_of (held ++ chunk)
  told_complete k = rw told.sized at (opening_complete (held ++ chunk) told.opening (rw (told.sized, long held chunk) k))

-- ---- the front by the opening

pub front_skip : (u : List ℕ) → opens u ≡ false → Skip ≡ front u
unfolding front
front_skip u e = rw e

pub front_whole : (u : List ℕ) → opens u ≡ true → size_of u ≤ length u → Whole (size_of u) (sums_right (take (size_of u) u)) ≡ front u
unfolding front
front_whole u e h = rw (e, le-leb (size_of u) (length u) h)

module _ (u : List ℕ) (o : Opening) (is : o ≡ opening_of u) where
  pub front_no_message : o ≡ NoMessage → Skip ≡ front u
  unfolding front opening_of
  front_no_message e = go (opens u) refl (leb (size_of u) (length u)) refl
    where
      go : (b : Bool) → opens u ≡ b → (c : Bool) → leb (size_of u) (length u) ≡ c → Skip ≡ front u
      go false p c q = rw p
      go true p true q = cc
      go true p false q = cc

  pub front_incomplete : o ≡ Incomplete → Undecided ≡ front u
  unfolding front opening_of
  front_incomplete e = go (opens u) refl (leb (size_of u) (length u)) refl
    where
      go : (b : Bool) → opens u ≡ b → (c : Bool) → leb (size_of u) (length u) ≡ c → Undecided ≡ front u
      go false p c q = cc
      go true p true q = cc
      go true p false q = cc

  -- A message whose bytes are all there.
  pub record IsComplete (n : ℕ) : Type 0 where
    pub opening : opens u ≡ true
    pub sized : n ≡ size_of u
    pub inside : size_of u ≤ length u

  complete : (n : ℕ) → o ≡ Complete n → IsComplete n
  unfolding opening_of
  complete n e = go (opens u) refl (leb (size_of u) (length u)) refl
    where
      go : (b : Bool) → opens u ≡ b → (c : Bool) → leb (size_of u) (length u) ≡ c → IsComplete n
      go true p true q = record { opening = p; sized = cc; inside = leb-true (size_of u) (length u) q }
      go true p false q = let z : ◌≡◌ {A = ℕ} 0 1 = cc in absurd (omega arith)
      go false p c q = let z : ◌≡◌ {A = ℕ} 0 1 = cc in absurd (omega arith)

  pub complete_sized : (n : ℕ) → o ≡ Complete n → (2 ≤ n) × (n ≤ length u)
  complete_sized n e = let c = complete n e in omega arith

  pub front_complete : (n : ℕ) → o ≡ Complete n → (good : Bool) → good ≡ sums_right (take n u) → Whole n good ≡ front u
  front_complete n e good g =
      let c = complete n e in
      rw (g, c.sized) (front_whole u c.opening c.inside)
