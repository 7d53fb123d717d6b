-- Where a field of a message m stands, or what refuses it: each way through the reader.
use Prim.Native.Nat.{ℕ, zero, suc, ◌+◌, ◌-◌, ◌<◌}
use native.Mathlib.Omega.{arith}
use mathlib.Core.Path.{◌≡◌, refl, ap, ◌∙◌, sym}
use mathlib.Core.Bool.{Bool, true, false}
use mathlib.Core.List.{List, []}
use mathlib.Core.Option.{Option as Maybe, none, some}
use lib.ListN.{length, get_or, take, drop}
use borrow.Author.Tests.{eq-eqb, ne_eqb}
use Rattle.std.specs.Prelude.{Option, Some, None, Result, Ok, Err}
use Rattle.std.specs.Option.{ok_or}
use Rattle.refusal.specs.declared.Refusal.{Refusal}
use Rattle.refusal.specs.declared.Refusal.TheVariants.{Kind, NoField}
use Rattle.refusal.specs.Refusal.{refusal_number}
use Rattle.refusal.proofs.Numbers.{number_above}
use Rattle.message.specs.Message.{length_of, payload_of}
use Rattle.message.specs.Whole.{whole_number}
use Rattle.message.specs.Fields.{Field, fields_of}
use Rattle.message.proofs.RoundTrips.{passed}
use Rattle.sample.specs.declared.reader.FieldRead.{FieldRead}
use Rattle.sample.specs.Reader.{answer_of, some_size_wrong, found_on, fields_on, whole_on, reading_of, read_on, field_read, field_data}
use Rattle.sample.specs.Walk.{field_at, tested_from, found_from, Started, Placed}
use Rattle.sample.proofs.Walks.{no_field, walk_there, walk_finds}

module _ (m : List ℕ) where
  -- ---- a whole message has a payload

  pub long : 0 ≡ whole_number m → 2 < length m
  long e = omega (arith, (passed m (sym e)).long)

  pub payload_part : whole_number m ≡ 0 → take (length m - 2 - 4) (drop 4 m) ≡ payload_of m
  payload_part e = let k : length m - 2 - 4 ≡ length_of m = omega (arith, (passed m e).sized) in rw k

  -- ---- each answer of the reader, for field k

  module _ (k : ℕ) where
    pub placed_whole : (r : Refusal) → refusal_number r ≡ whole_number m → Placed m k (Err r)
    unfolding reading_of
    placed_whole r e = record { reading = go (refusal_number r) (number_above r) ∙ ap (λ (n : ℕ). whole_on n m k) e; sound = tt }
      where
        go : (n : ℕ) → 0 < n → record { number = n; found = none } ≡ whole_on n m k
        go zero h = absurd (omega arith)
        go (suc n) h = refl

    module _ (z : 0 ≡ whole_number m) where
      pub placed_type : (get_or m 2 0 ≡ 0xA2 → ⊥) → Placed m k (Err Kind)
      unfolding reading_of
      placed_type h = record { reading = rw (← z, ne_eqb (get_or m 2 0) 0xA2 h); sound = tt }

      module _ (y : get_or m 2 0 ≡ 0xA2) (p : List ℕ) (ep : p ≡ payload_of m) where
        read_fields : reading_of m k ≡ fields_on (fields_of p) k
        unfolding reading_of
        read_fields = rw (← z, eq-eqb (get_or m 2 0) 0xA2 y, ← ep)

        pub placed_tested : (r : Refusal) → refusal_number r ≡ tested_from false (fields_of p) → Placed m k (Err r)
        placed_tested r et = record { reading = go (fields_of p) refl ∙ sym read_fields; sound = tt }
          where
            t : ℕ
            t = refusal_number r

            go : (o : Maybe (List Field)) → fields_of p ≡ o → record { number = t; found = none } ≡ fields_on (fields_of p) k
            go none q = let u : t ≡ 24 = rw q at et in rw (q, u)
            go (some fs) q = sizes (some_size_wrong fs) refl
              where
                sizes : (b : Bool) → some_size_wrong fs ≡ b → record { number = t; found = none } ≡ fields_on (fields_of p) k
                sizes true s = let u : t ≡ 25 = rw (q, s) at et in rw (q, s, u)
                sizes false s = let u : t ≡ 0 = rw (q, s) at et in let l = number_above r in absurd (omega arith)

        module _ (et : 0 ≡ tested_from false (fields_of p)) where
          read_found : reading_of m k ≡ found_on (found_from 4 (fields_of p) k)
          read_found = read_fields ∙ go (fields_of p) refl
            where
              go : (o : Maybe (List Field)) → fields_of p ≡ o → fields_on (fields_of p) k ≡ found_on (found_from 4 (fields_of p) k)
              go none q = let u : ◌≡◌ {A = ℕ} 0 24 = rw q at et in absurd (omega arith)
              go (some fs) q = sizes (some_size_wrong fs) refl
                where
                  sizes : (b : Bool) → some_size_wrong fs ≡ b → fields_on (fields_of p) k ≡ found_on (found_from 4 (fields_of p) k)
                  sizes true s = let u : ◌≡◌ {A = ℕ} 0 25 = rw (q, s) at et in absurd (omega arith)
                  sizes false s = rw (q, s)

          pub placed_start : (o : Option ℕ) → Started p k o → (r : Result ℕ Refusal) → r ≡ ok_or o NoField → Placed m k r
          placed_start None w r er =
              let f = no_field p (length p) (omega arith) in
              let g : found_from 4 (fields_of p) k ≡ none = sym (rw f at w.found) in
              rw er (record { reading = sym (read_found ∙ rw g); sound = tt })
          placed_start (Some at) w r er =
              let g : some (record { field = field_at p at; place = at + 6 }) ≡ found_from 4 (fields_of p) k = walk_finds p k at 0 w.0 w.1 refl in
              rw er (record { reading = rw (← ep) (ap found_on g ∙ sym read_found); sound = (sym z, rw (← ep) (walk_there p k at 0 w.0 w.1)) })

-- ---- the answers

module _ (m : List ℕ) (k : ℕ) (r : Result ℕ Refusal) (placed : Placed m k r) where
  pub read_refused : (n : Refusal) → r ≡ Err n → answer_of (Err n) ≡ field_read m k
  unfolding field_read
  read_refused n e = rw (← placed.reading, e)

  pub data_refused : {n : Refusal} → r ≡ Err n → [] ≡ field_data m k
  unfolding field_data
  data_refused e = rw (← placed.reading, e)

  module _ (at : ℕ) (e : r ≡ Ok at) (p : List ℕ) (ep : p ≡ payload_of m) where
    pub read_at : (f : FieldRead) → answer_of (Ok f) ≡ read_on (some (record { field = field_at p at; place = at + 6 })) 0 → answer_of (Ok f) ≡ field_read m k
    unfolding field_read
    read_at f ef = ef ∙ rw (← placed.reading, e, ep)

    pub data_at : (d : List ℕ) → d ≡ (field_at p at).content → d ≡ field_data m k
    unfolding field_data
    data_at d ed = rw (← placed.reading, e, ed, ep)
