-- The laws of held bytes and a chunk, as one row of bytes.
use Rattle.std.proofs.Common.{◌≡◌, ℕ, ◌+◌, ◌-◌, ◌<◌, ◌≤◌, Bool, List, ◌++◌, length, get_or, take, drop, sym, ap, ◌∙◌, arith, length-append, length-drop, take_all, get_or-append-add}
use lib.ListN.{get_or-append, get_or-eq_default}
use lib.Seq.{drop-append-add, drop-append-le, take-append-le, take-append-add, drop-append_seam}
use Rattle.stream.specs.declared.Sought.{Sought}
use Rattle.stream.specs.declared.Sought.TheVariants.{Starved, Found}
use Rattle.stream.specs.declared.Verdict.{Verdict}
use Rattle.stream.specs.Seek.{beyond, seek}
use Rattle.stream.specs.Silence.{End, up_to}
use Rattle.message.specs.declared.header.Opening.{Opening}
use Rattle.message.specs.declared.header.Opening.TheVariants.{Complete}
use Rattle.message.specs.Front.{front}
use Rattle.message.specs.Header.{opening_of}
use Rattle.message.specs.declared.fletcher.Sums.{Sums}
use Rattle.message.specs.Fletcher.{no_sums, sums_from, sums}
use Rattle.message.proofs.Fronts.{complete_within}
use Rattle.message.proofs.SumLaws.{sums-append}

module _ (held chunk : List ℕ) where
  pub byte_held : (i : ℕ) → i < length held → get_or held i 0 ≡ get_or (held ++ chunk) i 0
  byte_held i h = sym (get_or-append held chunk 0 i h)

  pub byte_chunk : (i : ℕ) → length held ≤ i → get_or chunk (i - length held) 0 ≡ get_or (held ++ chunk) i 0
  byte_chunk i h =
      let k : length held + (i - length held) ≡ i = omega arith in
      rw k at (sym (get_or-append-add held chunk (i - length held) 0))

  pub byte_none : (i : ℕ) → length held ≤ i → length chunk ≤ i - length held → 0 ≡ get_or (held ++ chunk) i 0
  byte_none i h k = sym (get_or-eq_default chunk 0 k) ∙ byte_chunk i h

  pub drop_chunk : (i : ℕ) → length held ≤ i → drop (i - length held) chunk ≡ drop i (held ++ chunk)
  drop_chunk i h =
      let k : length held + (i - length held) ≡ i = omega arith in
      rw k at (sym (drop-append-add held chunk (i - length held)))

  -- A part of the row that is all held, and one that straddles the end of what is held.
  part_held : (i e : ℕ) → i ≤ e → e ≤ length held → take (e - i) (drop i held) ≡ take (e - i) (drop i (held ++ chunk))
  part_held i e h k =
      let l : e - i ≤ length (drop i held) = rw length-drop (omega arith) in
      sym (rw (drop-append-le i held chunk (omega arith)) (take-append-le (e - i) (drop i held) chunk l))

  part_straddling : (i e : ℕ) → i ≤ length held → length held ≤ e
      → take (length held - i) (drop i held) ++ take (e - length held - 0) (drop 0 chunk) ≡ take (e - i) (drop i (held ++ chunk))
  part_straddling i e h k =
      let m : length (drop i held) ≤ length held - i = rw length-drop (omega arith) in
      let q : e - i ≡ length (drop i held) + (e - length held - 0) = rw length-drop (omega arith) in
      rw (take_all (length held - i) (drop i held) m, q, drop-append-le i held chunk h) (sym (take-append-add (drop i held) chunk (e - length held - 0)))

  -- Their sums, begun at z and, for one that straddles, continued from t.
  pub sums-held : (i e : ℕ) (z r : Sums) → i ≤ e → e ≤ length held → z ≡ no_sums → r ≡ sums_from z (take (e - i) (drop i held)) → r ≡ sums (take (e - i) (drop i (held ++ chunk)))
  sums-held i e z r h k y x = x ∙ rw (y, part_held i e h k)

  pub sums_straddling : (i e : ℕ) (z t r : Sums) → i ≤ length held → length held < e → z ≡ no_sums → t ≡ sums_from z (take (length held - i) (drop i held))
      → r ≡ sums_from t (take (e - length held - 0) (drop 0 chunk)) → r ≡ sums (take (e - i) (drop i (held ++ chunk)))
  sums_straddling i e z t r h k y p x =
      x ∙ rw (p, y) (sums-append no_sums (take (length held - i) (drop i held)) (take (e - length held - 0) (drop 0 chunk)))
      ∙ ap sums (part_straddling i e h (omega arith))

  pub front_chunk : (at : ℕ) (d : Verdict) → length held ≤ at → d ≡ front (drop (at - length held) chunk) → d ≡ front (drop at (held ++ chunk))
  front_chunk at d h e = e ∙ ap front (drop_chunk at h)

  -- From a place on: what is left behind it.
  pub opening_after : (at : ℕ) (u : List ℕ) (o : Opening) → u ≡ drop at (held ++ chunk) → o ≡ opening_of u → o ≡ opening_of (drop at (held ++ chunk))
  opening_after at u o e is = is ∙ ap opening_of e

  pub complete_over : (at : ℕ) (o : Opening) → at < length held → o ≡ opening_of (drop at (held ++ chunk)) → (n : ℕ) → o ≡ Complete n
      → (2 ≤ n) × (at ≤ length held) × (at + n ≤ length held + length chunk)
  complete_over at o h is n e =
      let s = complete_within (held ++ chunk) at o is n e (rw length-append (omega arith)) in
      let l : length (held ++ chunk) ≡ length held + length chunk = length-append held chunk in
      omega arith

  pub held_within : (at : ℕ) → at < length held → at < length (held ++ chunk)
  held_within at h = rw length-append (omega arith)

  -- The seek that goes on in the chunk.
  pub seek_chunk : (e : End) (at : ℕ) (r : Sought) → at ≤ length held → length held ≤ at
      → seek (up_to e front) (held ++ chunk) ≡ beyond at (seek (up_to e front) (drop at (held ++ chunk)))
      → r ≡ beyond (length held) (seek (up_to e front) chunk) → r ≡ seek (up_to e front) (held ++ chunk)
  seek_chunk end at r h k inv e =
      let q : at ≡ length held = omega arith in
      e ∙ sym (rw (q, drop-append_seam held chunk) at inv)

-- ---- the seek of a chunk, seen from the bytes before it

module _ (before : ℕ) (end : End) (chunk : List ℕ) (s : Sought) (is : s ≡ seek (up_to end front) chunk) where
  pub beyond_starved : (k : ℕ) → s ≡ Starved k → Starved (before + k) ≡ beyond before (seek (up_to end front) chunk)
  beyond_starved k e = ap (beyond before) (sym e ∙ is)

  pub beyond_found : (k n : ℕ) (good : Bool) → s ≡ Found k n good → Found (before + k) n good ≡ beyond before (seek (up_to end front) chunk)
  beyond_found k n good e = ap (beyond before) (sym e ∙ is)

-- ---- the first `held` of some bytes, and all of them where there are fewer

module _ (end : End) (bytes chunk : List ℕ) (held : ℕ) (r : Sought) where
  pub seek_all_held : length bytes < held → r ≡ seek (up_to end front) (bytes ++ chunk) → r ≡ seek (up_to end front) (take held bytes ++ chunk)
  seek_all_held h e = rw (take_all held bytes (omega arith)) e

  pub seek_first_held : r ≡ seek (up_to end front) (take (held - 0) (drop 0 bytes) ++ chunk) → r ≡ seek (up_to end front) (take held bytes ++ chunk)
  seek_first_held e = let k : held - 0 ≡ held = omega arith in rw k at e
