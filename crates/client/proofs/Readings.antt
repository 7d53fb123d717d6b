-- The reply reader, test by test.
use Prim.Native.Nat.{ℕ, zero, suc, ◌+◌, ◌-◌, ◌≤◌, ◌<◌}
use native.Mathlib.Omega.{arith}
use mathlib.Core.Path.{◌≡◌, refl, ap, sym, ◌∙◌}
use mathlib.Core.Bool.{true, ◌&&◌}
use mathlib.Core.List.{List}
use lib.Dec.{eqb, leb, ltb}
use lib.ListN.{length, take, drop, get_or, length-take, length-drop}
use lib.Seq.{take-length, take_all, drop-drop, length-take-le}
use Rattle.std.proofs.lemmas.List.{get_or-take, drop-take}
use borrow.Author.Tests.{leb-true, le-leb, lt-ltb}
use Rattle.word.specs.Word.{number}
use Rattle.page.specs.declared.setting.Setting.{Setting}
use Rattle.std.specs.Prelude.{Some, None}
use Rattle.page.specs.Settings.{code_of, value_size, readable}
use Rattle.message.specs.Fields.{fields_of}
use Rattle.message.specs.Message.{length_of}
use Rattle.message.specs.Whole.{whole_number}
use Rattle.message.proofs.RoundTrips.{passed}
use Rattle.client.specs.declared.reader.Reply.{Reply}
use Rattle.client.specs.Reader.{rows_in, ReplyAnswer, no_reply, rows_read, whole_on, reply_read}
use Rattle.client.specs.Rows.{starts_with_value, value_field_size, row_size, row_in, RowSplit, ValueSplit}
use Rattle.stream.proofs.Bools.{and_both}
use Rattle.refusal.specs.declared.Refusal.{Refusal}
use Rattle.refusal.specs.Refusal.{refusal_number}
use Rattle.client.proofs.Tests.{size_small}
use Rattle.refusal.proofs.Numbers.{number_above}
use Rattle.client.proofs.Rows.{Front, size_front}

-- The part from a place to the end.
pub rest_part : (l : List ℕ) (i : ℕ) → take (length l - i) (drop i l) ≡ drop i l
rest_part l i = rw (← length-drop i l) (take-length (drop i l))

-- ---- a value

pub value_part : (s : Setting) (n : ℕ) (bs : List ℕ) → n ≡ value_size s → take 4 (take (n + 2 - 2) (drop 2 bs)) ≡ take (value_size s) (drop 2 bs)
value_part s n bs z =
    let m : n + 2 - 2 ≡ value_size s = omega arith in
    rw m (take_all 4 (take (value_size s) (drop 2 bs)) (rw length-take (omega (arith, size_small s))))

-- Its field lies in the bytes.
pub value_fits : (s : Setting) (bs : List ℕ) → starts_with_value s bs ≡ true → value_size s + 2 ≤ length bs
unfolding starts_with_value
value_fits s bs e =
    let a = and_both (leb (value_size s + 2) (length bs) && eqb (get_or bs 0 0) (code_of s) && eqb (get_or bs 1 0) (value_size s)) (readable s (number (take (value_size s) (drop 2 bs)))) e in
    let b = and_both (leb (value_size s + 2) (length bs) && eqb (get_or bs 0 0) (code_of s)) (eqb (get_or bs 1 0) (value_size s)) a.0 in
    let c = and_both (leb (value_size s + 2) (length bs)) (eqb (get_or bs 0 0) (code_of s)) b.0 in
    leb-true (value_size s + 2) (length bs) c.0

-- ---- a row

module _ (kind : ℕ) (bs : List ℕ) (l : 4 ≤ length bs) (f : get_or bs 0 0 ≡ 0x80) (g : get_or bs 1 0 ≡ 0x02) (h : get_or bs 3 0 ≤ 7) where
  size_is : (m : ℕ) → value_field_size kind (get_or bs 2 0) (get_or bs 3 0) (take (length bs - 4) (drop 4 bs)) ≡ m → row_size kind bs ≡ 4 + m
  unfolding row_size
  size_is m e = rw (le-leb 4 (length bs) l, f, g, le-leb (get_or bs 3 0) 7 h, ← e, rest_part bs 4)

  abbrev without : Reply
  without = record { kind = kind; echo = get_or bs 2 0; error = get_or bs 3 0; value = None }

  pub row_without : value_field_size kind (get_or bs 2 0) (get_or bs 3 0) (take (length bs - 4) (drop 4 bs)) ≡ 0
      → RowSplit kind bs without (take (length bs - 4) (drop 4 bs))
  unfolding row_in
  row_without e =
      let z : row_size kind bs ≡ 4 = size_is 0 e in
      let t : length (take 4 bs) ≡ 4 = rw length-take (omega arith) in
      record {
        some = λ y. omega arith;
        row = rw (z, t, get_or-take 4 bs 2 0 (omega arith), get_or-take 4 bs 3 0 (omega arith));
        behind = rw (z, rest_part bs 4);
      }

  abbrev with : ℕ → Reply
  with v = record { kind = kind; echo = get_or bs 2 0; error = get_or bs 3 0; value = Some v }

  pub row_with : (v : ℕ) (behind : List ℕ)
      → ValueSplit (value_field_size kind (get_or bs 2 0) (get_or bs 3 0) (take (length bs - 4) (drop 4 bs))) (take (length bs - 4) (drop 4 bs)) v behind
      → RowSplit kind bs (with v) behind
  unfolding row_in
  row_with v behind s =
      let m : ℕ = value_field_size kind (get_or bs 2 0) (get_or bs 3 0) (take (length bs - 4) (drop 4 bs)) in
      let u : 2 < m = s.some in
      let z : row_size kind bs ≡ 4 + m = size_is m refl in
      let front : Front kind bs (row_size kind bs) = size_front kind bs (λ y. omega arith) in
      let t : length (take (4 + m) bs) ≡ 4 + m = length-take-le (4 + m) bs (omega (arith, front.fits)) in
      let q : ltb 6 (length (take (4 + m) bs)) ≡ true = lt-ltb 6 (length (take (4 + m) bs)) (omega arith) in
      let w : 4 + m ≡ 6 + (m - 2) = omega arith in
      let d : drop 6 (take (4 + m) bs) ≡ take (m - 2) (drop 6 bs) = rw w (drop-take 6 (m - 2) bs) in
      let r : drop 2 (take (length bs - 4) (drop 4 bs)) ≡ drop 6 bs = rw (rest_part bs 4) (drop-drop 2 4 bs) in
      record {
        some = λ y. omega arith;
        row = rw (z, q, d, get_or-take (4 + m) bs 2 0 (omega arith), get_or-take (4 + m) bs 3 0 (omega arith), s.value, r);
        behind = s.behind ∙ ap (drop m) (rest_part bs 4) ∙ drop-drop m 4 bs ∙ ap (λ (k : ℕ). drop k bs) (sym z);
      }

-- ---- a message

module _ (m : List ℕ) where
  pub read_refused : (r : Refusal) → refusal_number r ≡ whole_number m → (k : ℕ) → no_reply (refusal_number r) ≡ reply_read m k
  unfolding reply_read
  read_refused r e k = go (refusal_number r) (number_above r) ∙ rw (← e)
    where
      go : (n : ℕ) → 0 < n → no_reply n ≡ whole_on n m k
      go zero z = absurd (omega arith)
      go (suc n) z = refl

  module _ (z : 0 ≡ whole_number m) where
    -- the type is there, and the payload lies between the header and the sums
    pub read_type : 2 < length m
    read_type = omega (arith, (passed m (sym z)).long)

    pub read_sums : 2 ≤ length m
    read_sums = omega (arith, (passed m (sym z)).long)

    pub read_header : 4 ≤ length m - 2
    read_header = omega (arith, (passed m (sym z)).long)

    pub read_most : length (take (length m - 2 - 4) (drop 4 m)) ≤ 255
    read_most = rw length-take (omega (arith, (passed m (sym z)).sized))

    pub read_passed : (k : ℕ) (r : ReplyAnswer) → r ≡ rows_read (get_or m 2 0) (rows_in (get_or m 2 0) (fields_of (take (length m - 2 - 4) (drop 4 m)))) k → r ≡ reply_read m k
    unfolding reply_read
    read_passed k r h =
        let w = passed m (sym z) in
        let q : length m - 2 - 4 ≡ length_of m = omega (arith, w.sized) in
        h ∙ rw (← z, q)
