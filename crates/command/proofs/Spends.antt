-- The number of a command of type 7C, as number.rt reads and tests it.
use Prim.Native.Nat.{ℕ, zero, suc, ◌+◌, ◌-◌, ◌≤◌, ◌<◌, min}
use native.Mathlib.Omega.{arith}
use mathlib.Core.Path.{◌≡◌, refl, sym, ap, ◌∙◌, subst}
use mathlib.Core.Bool.{Bool, true, false, not, cond}
use mathlib.Core.List.{List, [], ◌∷◌, ◌++◌}
use lib.Dec.{eqb, ltb}
use lib.ListN.{length, get_or, take, drop, length-append, length-drop, length-take}
use lib.Seq.{drop-drop}
use borrow.Author.Tests.{eq-eqb, ne_eqb, lt-ltb, le-ltb, ltb-false}
use Rattle.word.specs.Word.{number, word}
use Rattle.std.specs.Prelude.{Option}
use Rattle.command.specs.declared.rights.Rights.{Rights}
use Rattle.command.specs.Numbers.{numbered_kind, number_of, inner_kind, inner_payload, is_fresh, number_error}
use Rattle.command.specs.Answer.{spent_on, number_on}
use Rattle.command.specs.declared.number.Opened.{Opened}
use Rattle.command.specs.Place.{Opening, opening, number_opening, opening_of}
use Rattle.command.proofs.Tests.{none-refused}

-- ---- the bytes of the number

four : (l : List ℕ) → 4 ≤ length l → take 4 l ≡ get_or l 0 0 ∷ get_or l 1 0 ∷ get_or l 2 0 ∷ get_or l 3 0 ∷ []
four [] h = absurd (omega arith)
four (a ∷ []) h = absurd (omega arith)
four (a ∷ b ∷ []) h = absurd (omega arith)
four (a ∷ b ∷ c ∷ []) h = absurd (omega arith)
four (a ∷ b ∷ c ∷ d ∷ l) h = refl

module _ (payload : List ℕ) where
  pub number_read : (a b c d : ℕ) → 4 ≤ length payload → a ≡ get_or payload 0 0 → b ≡ get_or payload 1 0 → c ≡ get_or payload 2 0 → d ≡ get_or payload 3 0
      → a < 256 → b < 256 → c < 256 → d < 256 → (r : ℕ) → r ≡ word a b c d → r ≡ number_of payload
  number_read a b c d h as' bs cs ds ak bk ck dk r e =
      let n : number (take 4 payload) ≡ word a b c d = ap number (four payload h) ∙ rw (← as', ← bs, ← cs, ← ds) (omega arith) in
      rw n (omega arith)

  -- ---- its error

  module _ (rights : Rights) (last : Option ℕ) where
    pub number_not_allowed : rights.readonly ≡ true → 7 ≡ number_error rights last payload
    unfolding number_error
    number_not_allowed h = rw h

    module _ (allowed-here : rights.readonly ≡ false) (many : ℕ) (ms : many ≡ length payload) where
      pub number_short : many < 5 → 4 ≡ number_error rights last payload
      unfolding number_error
      number_short h = rw (allowed-here, lt-ltb (length payload) 5 (omega arith))

      module _ (long : 5 ≤ many) (n : ℕ) (ns : n ≡ number_of payload) (kept : Option ℕ) (ks : kept ≡ last) (f : Bool) (fs : f ≡ is_fresh kept n) where
        pub number-fresh : f ≡ true → 0 ≡ number_error rights last payload
        unfolding number_error
        number-fresh e = rw (allowed-here, le-ltb (length payload) 5 (omega arith), ← ns, ← ks, ← fs, e)

        pub number_stale : f ≡ false → 5 ≡ number_error rights last payload
        unfolding number_error
        number_stale e = rw (allowed-here, le-ltb (length payload) 5 (omega arith), ← ns, ← ks, ← fs, e)

    -- A number without error is there, with a type behind it.
    pub number_there : (error : ℕ) → error ≡ number_error rights last payload → error ≡ 0 → 5 ≤ length payload
    unfolding number_error
    number_there error es z =
        ltb-false (length payload) 5 (none-refused (ltb (length payload) 5) 3 _ (none-refused rights.readonly 6 _ (sym es ∙ z)).1).0

-- The command inside.
pub inner_payload_lem : (held chunk : List ℕ) (to : ℕ) → drop 9 (take to (held ++ chunk)) ≡ inner_payload (drop 4 (take to (held ++ chunk)))
inner_payload_lem held chunk to = sym (drop-drop 5 4 (take to (held ++ chunk)))

-- ---- a message opened

module _ (rights : Rights) (good : Bool) (kind : ℕ) (payload page : List ℕ) where
  pub open_damaged : not good ≡ true → (o : Opened) → o ≡ record { error = 1; kind = kind; from = 4; numbered = false }
      → record { opened = o; page = page } ≡ opening_of rights good kind payload page
  unfolding opening_of
  open_damaged e o h = rw (h, e)

  module _ (right : not good ≡ false) where
    pub open_plain : (kind ≡ 0x7C → ⊥) → (o : Opened) → o ≡ record { error = 0; kind = kind; from = 4; numbered = false }
        → record { opened = o; page = page } ≡ opening_of rights good kind payload page
    unfolding opening_of
    open_plain n o h = rw (h, right, ne_eqb kind 0x7C n)

    module _ (k : kind ≡ 0x7C) (error : ℕ) (es : error ≡ number_error rights (number_on page) payload) where
      pub open_refused : (error ≡ 0 → ⊥) → (o : Opened) → o ≡ record { error = error; kind = kind; from = 9; numbered = false }
          → record { opened = o; page = page } ≡ opening_of rights good kind payload page
      unfolding opening_of
      open_refused n o h = rw (h, right, eq-eqb kind 0x7C k, ← es) (go error n)
        where
          go : (error : ℕ) → (error ≡ 0 → ⊥) → opening error kind 9 false page ≡ number_opening error kind payload page
          go zero n = absurd (n refl)
          go (suc e) n = refl

      pub open_spent : error ≡ 0 → (n : ℕ) → n ≡ number_of payload → (next : List ℕ) → next ≡ spent_on page n → (inner : ℕ) → inner ≡ inner_kind payload
          → opening 0 inner 9 true next ≡ opening_of rights good kind payload page
      unfolding opening_of
      open_spent z n ns next xs inner is = rw (right, eq-eqb kind 0x7C k, ← es, z, xs, ns, is)

-- The fields of its command stand there.
pub open_fits : (held chunk : List ℕ) (to : ℕ) (rights : Rights) (good : Bool) (kind : ℕ) (page : List ℕ) → 4 ≤ to → to ≤ 4 + (length held + length chunk - 4)
    → (z : Opening) → z ≡ opening_of rights good kind (drop 4 (take to (held ++ chunk))) page → z.opened.error ≡ 0
    → (z.opened.from ≤ to) × (to ≤ z.opened.from + (length held + length chunk - z.opened.from))
unfolding opening_of
open_fits held chunk to rights good kind page low high z e =
    subst (λ (z : Opening). z.opened.error ≡ 0 → (z.opened.from ≤ to) × (to ≤ z.opened.from + (length held + length chunk - z.opened.from))) (sym e)
    (go (not good) (eqb kind numbered_kind))
  where
    number_fits : (n : ℕ) → number_error rights (number_on page) (drop 4 (take to (held ++ chunk))) ≡ n
        → (number_opening n kind (drop 4 (take to (held ++ chunk))) page).opened.error ≡ 0
        → ((number_opening n kind (drop 4 (take to (held ++ chunk))) page).opened.from ≤ to)
        × (to ≤ (number_opening n kind (drop 4 (take to (held ++ chunk))) page).opened.from
        + (length held + length chunk - (number_opening n kind (drop 4 (take to (held ++ chunk))) page).opened.from))
    number_fits zero h q =
        let t : 5 ≤ length (drop 4 (take to (held ++ chunk))) = number_there _ rights (number_on page) 0 (sym h) refl in
        let size : length (drop 4 (take to (held ++ chunk))) ≡ min to (length held + length chunk) - 4 = rw (length-drop, length-take, length-append held chunk) in
        (omega arith, omega arith)
    number_fits (suc n) h q = absurd (omega arith)

    go : (a b : Bool)
        → (cond a (opening 1 kind 4 false page)
        (cond b (number_opening (number_error rights (number_on page) (drop 4 (take to (held ++ chunk)))) kind (drop 4 (take to (held ++ chunk))) page) (opening 0 kind 4 false page))).opened.error ≡ 0
        → ((cond a (opening 1 kind 4 false page)
        (cond b (number_opening (number_error rights (number_on page) (drop 4 (take to (held ++ chunk)))) kind (drop 4 (take to (held ++ chunk))) page) (opening 0 kind 4 false page))).opened.from ≤ to)
        × (to ≤ (cond a (opening 1 kind 4 false page)
        (cond b (number_opening (number_error rights (number_on page) (drop 4 (take to (held ++ chunk)))) kind (drop 4 (take to (held ++ chunk))) page) (opening 0 kind 4 false page))).opened.from
        + (length held + length chunk - (cond a (opening 1 kind 4 false page)
        (cond b (number_opening (number_error rights (number_on page) (drop 4 (take to (held ++ chunk)))) kind (drop 4 (take to (held ++ chunk))) page) (opening 0 kind 4 false page))).opened.from))
    go true b q = absurd (omega arith)
    go false true q = number_fits (number_error rights (number_on page) (drop 4 (take to (held ++ chunk)))) refl q
    go false false q = (low, high)
