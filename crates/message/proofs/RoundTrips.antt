-- What the plain writer writes is read back, and what is read is what it writes.
use Rattle.std.proofs.Common.{◌≡◌, ℕ, suc, ◌+◌, ◌-◌, ◌%◌, ◌<◌, ◌≤◌, Bool, true, false, not, eqb, ltb, List, [], ◌∷◌, ◌++◌, length, get_or, take, drop, sym, refl, ap, ◌∙◌, add-one, arith, length-append, take-append-drop, drop_of_length-le, length-take-le, drop-cons, take_at, get_or-append-add, drop_at, ltb-false, eq-eqb, ne_eqb, eqb-true}
use lib.Seq.{drop-append-le, get_or_at, take-length}
use Rattle.stream.specs.declared.Verdict.TheVariants.{Whole}
use Rattle.stream.specs.Scan.{skipped, reported, events}
use Rattle.stream.specs.Silence.{running}
use Rattle.stream.proofs.Bools.{and_both}
use Rattle.message.specs.Fletcher.{sums}
use Rattle.message.specs.Message.{summed_bytes, with_sums, message_of, type_of, length_of, payload_of, headed, sums_right}
use Rattle.message.specs.Front.{opens, size_of, front}
use Rattle.message.specs.Whole.{whole_number}
use Rattle.message.specs.Theorems.{RoundTrip, WrittenIsRead, ReadIsWritten}
use Rattle.message.proofs.Framed.{cutting_harmless}
use Rattle.message.proofs.Openings.{front_skip, front_whole}
use Rattle.message.proofs.Wholes.{whole_right}
use Rattle.message.proofs.Writes.{message_length}

-- Bytes with their sums behind them have right sums.
sums_of : (b : List ℕ) → sums_right (with_sums b) ≡ true
unfolding sums_right
sums_of b =
    let f = (sums b).f1 in
    let g = (sums b).f2 in
    let l : length (b ++ (f ∷ g ∷ [])) - 2 ≡ length b = rw length-append (omega arith) in
    let t : take (length b) (b ++ (f ∷ g ∷ [])) ≡ b = take_at b (f ∷ g ∷ []) (length b) refl in
    let x : get_or (b ++ (f ∷ g ∷ [])) (length b) 0 ≡ f = get_or_at b f (g ∷ []) 0 (length b) refl in
    let y : get_or (b ++ (f ∷ g ∷ [])) (length b + 1) 0 ≡ g = get_or-append-add b (f ∷ g ∷ []) 1 0 in
    rw (l, t, x, y, eq-eqb f f refl, eq-eqb g g refl)

module _ (kind : ℕ) (payload : List ℕ) (fits : length payload ≤ 255) where
  abbrev m : List ℕ
  m = message_of kind payload

  small : length payload % 256 ≡ length payload
  small = omega arith

  message_sums : sums_right m ≡ true
  unfolding message_of
  message_sums = sums_of (summed_bytes kind payload)

  take_m : (v : List ℕ) → take (length payload + 6) (m ++ v) ≡ m
  take_m v = take_at m v (length payload + 6) (message_length kind payload)

  size_m : (v : List ℕ) → size_of (m ++ v) ≡ length payload + 6
  unfolding message_of
  size_m v = rw small

  opens_m : (v : List ℕ) → opens (m ++ v) ≡ not (eqb kind 0xA5)
  unfolding message_of
  opens_m v = refl

  good_m : (kind ≡ 0xA5 → ⊥) → (v : List ℕ) → front (m ++ v) ≡ Whole (length payload + 6) true
  good_m other v =
      let o : opens (m ++ v) ≡ true = rw (opens_m v, ne_eqb kind 0xA5 other) in
      let h : size_of (m ++ v) ≤ length (m ++ v) = rw (size_m v, length-append, message_length) (omega arith) in
      sym (rw (size_m v, take_m v, message_sums) at (front_whole (m ++ v) o h))

  scanned_m : (kind ≡ 0xA5 → ⊥) → (v : List ℕ) → events front (m ++ v) ≡ reported (record { good = true; bytes = m }) ∷ events front v
  scanned_m other v =
      rw (take_m v, drop_at m v (length payload + 6) (message_length kind payload))
      at ((cutting_harmless.scanning running).scan_good (m ++ v) (length payload + 6) (good_m other v))

  passed_over_m : kind ≡ 0xA5 → (v : List ℕ) → events front (m ++ v) ≡ skipped ∷ events front (drop 1 m ++ v)
  passed_over_m same v =
      let o : opens (m ++ v) ≡ false = rw (opens_m v, eq-eqb kind 0xA5 same) in
      let l : length m ≡ length payload + 6 = message_length kind payload in
      rw (drop-append-le 1 m v (omega arith))
      at ((cutting_harmless.scanning running).scan_skip (m ++ v) (rw length-append (omega arith)) (sym (front_skip (m ++ v) o)))

  first_m : get_or m 0 0 ≡ 0xA5
  unfolding message_of
  first_m = refl

  second_m : get_or m 1 0 ≡ 0xA5
  unfolding message_of
  second_m = refl

  length_m : get_or m 3 0 ≡ length payload
  unfolding message_of
  length_m = refl

  kind_m : type_of m ≡ kind
  unfolding message_of
  kind_m = refl

  payload_m : payload_of m ≡ payload
  unfolding message_of
  payload_m = rw small (take_at payload ((sums (summed_bytes kind payload)).f1 ∷ (sums (summed_bytes kind payload)).f2 ∷ []) (length payload) refl)

  whole_m : whole_number m ≡ 0
  whole_m =
      let l : length m ≡ length payload + 6 = message_length kind payload in
      let n : length payload + 6 ≡ get_or m 3 0 % 256 + 6 = rw (length_m, small) in
      let g : true ≡ sums_right (take (length payload + 6) (drop 0 m)) = rw (← l, take-length m, message_sums) in
      sym (whole_right m (omega arith) first_m second_m (length payload + 6) n l true g refl)

  round_trip : RoundTrip kind payload
  round_trip =
      record {
        size = message_length kind payload;
        whole = whole_m;
        kind_back = kind_m;
        payload_back = payload_m;
        good = good_m;
        scanned = scanned_m;
        passed_over = passed_over_m;
      }

pub written_is_read : WrittenIsRead
written_is_read = round_trip

-- ---- the other way

-- What a whole message has passed.
pub record Passed (m : List ℕ) : Type 0 where
  pub long : 6 ≤ length m
  pub head : headed m ≡ true
  pub sized : length m ≡ length_of m + 6
  pub right : sums_right m ≡ true

pub passed : (m : List ℕ) → whole_number m ≡ 0 → Passed m
unfolding whole_number
passed m e = go (ltb (length m) 6) refl (headed m) refl (eqb (length m) (length_of m + 6)) refl (sums_right m) refl
  where
    go : (a : Bool) → ltb (length m) 6 ≡ a → (b : Bool) → headed m ≡ b → (c : Bool) → eqb (length m) (length_of m + 6) ≡ c → (d : Bool) → sums_right m ≡ d → Passed m
    go true p b q c r d s = let z : ◌≡◌ {A = ℕ} 0 21 = cc in absurd (omega arith)
    go false p false q c r d s = let z : ◌≡◌ {A = ℕ} 0 21 = cc in absurd (omega arith)
    go false p true q false r d s = let z : ◌≡◌ {A = ℕ} 0 21 = cc in absurd (omega arith)
    go false p true q true r false s = let z : ◌≡◌ {A = ℕ} 0 22 = cc in absurd (omega arith)
    go false p true q true r true s =
        record { long = ltb-false (length m) 6 p; head = q; sized = eqb-true (length m) (length_of m + 6) r; right = s }

-- A row with right sums is its first bytes with their sums behind them.
sums_split : (m : List ℕ) → 2 ≤ length m → sums_right m ≡ true → with_sums (take (length m - 2) m) ≡ m
unfolding sums_right
sums_split m h e =
    let n : ℕ = length m - 2 in
    let r = and_both (eqb (get_or m n 0) (sums (take n m)).f1) (eqb (get_or m (n + 1) 0) (sums (take n m)).f2) e in
    let x : get_or m n 0 ≡ (sums (take n m)).f1 = eqb-true (get_or m n 0) (sums (take n m)).f1 r.0 in
    let y : get_or m (n + 1) 0 ≡ (sums (take n m)).f2 = eqb-true (get_or m (n + 1) 0) (sums (take n m)).f2 r.1 in
    let d : drop n m ≡ get_or m n 0 ∷ get_or m (n + 1) 0 ∷ [] = last_two m n (omega arith) in
    rw (← x, ← y, ← d) (take-append-drop n m)
  where
    last_two : (l : List ℕ) (n : ℕ) → n + 2 ≡ length l → drop n l ≡ get_or l n 0 ∷ get_or l (n + 1) 0 ∷ []
    last_two l n q =
        let k : length l ≤ suc (suc n) = omega arith in
        drop-cons l n 0 (omega arith)
        ∙ rw add-one (ap (λ (t : List ℕ). get_or l n 0 ∷ t) (drop-cons l (suc n) 0 (omega arith) ∙ ap (λ (t : List ℕ). get_or l (suc n) 0 ∷ t) (drop_of_length-le l k)))

pub read_is_written : ReadIsWritten
unfolding message_of
read_is_written m byte e = go m byte (passed m e)
  where
    go : (m : List ℕ) → get_or m 3 0 < 256 → Passed m → message_of (type_of m) (payload_of m) ≡ m
    go [] byte p = absurd (omega (arith, p.long))
    go (a ∷ []) byte p = absurd (omega (arith, p.long))
    go (a ∷ b ∷ []) byte p = absurd (omega (arith, p.long))
    go (a ∷ b ∷ c ∷ []) byte p = absurd (omega (arith, p.long))
    go (a ∷ b ∷ c ∷ n ∷ rest) byte p =
        let o = and_both (eqb a 0xA5) (eqb b 0xA5) p.head in
        let ea : a ≡ 0xA5 = eqb-true a 0xA5 o.0 in
        let eb : b ≡ 0xA5 = eqb-true b 0xA5 o.1 in
        let small : n % 256 ≡ n = omega arith in
        let l : length rest ≡ n + 2 = omega (arith, p.sized) in
        let k : length (a ∷ b ∷ c ∷ n ∷ rest) - 2 ≡ suc (suc (suc (suc n))) = omega arith in
        let t : length (take n rest) ≡ n = length-take-le n rest (omega arith) in
        let w : with_sums (a ∷ b ∷ c ∷ n ∷ take n rest) ≡ a ∷ b ∷ c ∷ n ∷ rest = rw k at (sums_split (a ∷ b ∷ c ∷ n ∷ rest) (omega arith) p.right) in
        rw (small, t, ea, eb) (rw (ea, eb) at w)
