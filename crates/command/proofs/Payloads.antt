-- The payload of the message at the front of held bytes and then a chunk, and the errors of a command as a whole.
use Prim.Native.Nat.{ℕ, ◌+◌, ◌-◌, ◌≤◌, ◌<◌}
use native.Mathlib.Omega.{arith}
use mathlib.Core.Path.{◌≡◌, sym, ap, ◌∙◌}
use mathlib.Core.Bool.{Bool, true, false, not}
use mathlib.Core.List.{List, [], ◌++◌}
use lib.ListN.{length, get_or, take, drop, length-append, length-drop, length-take, drop_of_length-le}
use borrow.Author.Tests.{eqb-false}
use lib.Seq.{take_all, take-nil}
use Rattle.message.specs.Fields.{fields_of}
use Rattle.message.specs.Message.{length_of, payload_of}
use Rattle.command.specs.Errors.{fields_refused, is_kind, command_error}
use Rattle.command.proofs.Rests.{drop-take}
use Rattle.command.proofs.Subjects.{data_there, data_none}
use Rattle.command.proofs.Tests.{error_other, error_empty, error_fit, error_unfit, command_passed}

module _ (held chunk : List ℕ) where
  all_long : length (held ++ chunk) ≡ length held + length chunk
  all_long = length-append held chunk

  module _ (b n : ℕ) (bs : b ≡ get_or (held ++ chunk) 3 0) (ns : n ≡ b) (few : n < 256) where
    told : length_of (held ++ chunk) ≡ n
    told = let q : n ≡ get_or (held ++ chunk) 3 0 = ns ∙ bs in rw (← q) (omega arith)

    -- The whole payload is there.
    pub end_told : drop 4 (take (4 + n) (held ++ chunk)) ≡ payload_of (held ++ chunk)
    end_told =
        let z : 4 + n - 4 ≡ n = omega arith in
        drop-take 4 (4 + n) (held ++ chunk) ∙ rw (z, told)

    module _ (short : length held + length chunk < 4 + n) where
      -- Not even the header is.
      pub end_none : length held + length chunk < 4 → drop 4 (take 4 (held ++ chunk)) ≡ payload_of (held ++ chunk)
      end_none h =
          let d : drop 4 (held ++ chunk) ≡ [] = drop_of_length-le (held ++ chunk) {i = 4} (omega (arith, all_long)) in
          drop-take 4 4 (held ++ chunk) ∙ rw d (sym (take-nil (length_of (held ++ chunk))))

      -- A part of it is.
      pub end_there : 4 ≤ length held + length chunk → drop 4 (take (length held + length chunk) (held ++ chunk)) ≡ payload_of (held ++ chunk)
      end_there h =
          ap (drop 4) (take_all (length held + length chunk) (held ++ chunk) (omega (arith, all_long)))
          ∙ sym (take_all (length_of (held ++ chunk)) (drop 4 (held ++ chunk)) (rw (told, length-drop) (omega (arith, all_long))))

  -- ---- the bytes from one place to another

  module _ (from to : ℕ) where
    pub payload_there : (i r : ℕ) → from + i < to → r ≡ get_or (held ++ chunk) (from + i) 0 → r ≡ get_or (drop from (take to (held ++ chunk))) i 0
    payload_there i r h e =
        data_there (held ++ chunk) from (to - from) i r (omega arith) e ∙ ap (λ (l : List ℕ). get_or l i 0) (sym (drop-take from to (held ++ chunk)))

    pub payload_none : (i : ℕ) → to ≤ from + i → 0 ≡ get_or (drop from (take to (held ++ chunk))) i 0
    payload_none i h = data_none (held ++ chunk) from (to - from) i (omega arith) ∙ ap (λ (l : List ℕ). get_or l i 0) (sym (drop-take from to (held ++ chunk)))

    pub payload_long : from ≤ to → to ≤ from + (length held + length chunk - from) → to - from ≡ length (drop from (take to (held ++ chunk)))
    payload_long low high = rw (length-drop, length-take, all_long) (omega arith)

    -- ---- the error of a command as a whole

    module _ (kind : ℕ) (low : from ≤ to) (high : to ≤ from + (length held + length chunk - from)) where
      abbrev part : List ℕ
      part = drop from (take to (held ++ chunk))

      size : length part ≡ to - from
      size = rw (length-drop, length-take, all_long) (omega arith)

      module _ (k : Bool) (ks : k ≡ is_kind kind) where
        pub whole_other : not k ≡ true → 2 ≡ command_error kind part
        whole_other = error_other kind part k ks

        module _ (known : not k ≡ false) where
          pub whole_empty : from ≡ to → 3 ≡ command_error kind part
          whole_empty h = error_empty kind part k ks known (size ∙ omega arith)

          module _ (some : from ≡ to → ⊥) (fit : Bool) (is : fit ≡ not (fields_refused (fields_of part))) where
            pub whole_fit : fit ≡ true → 0 ≡ command_error kind part
            whole_fit = error_fit kind part k ks known (λ e. some (omega (arith, size))) fit is

            pub whole_unfit : fit ≡ false → 4 ≡ command_error kind part
            whole_unfit = error_unfit kind part k ks known (λ e. some (omega (arith, size))) fit is

      -- Fields that can be answered.
      pub fields_there : (error : ℕ) → error ≡ command_error kind part → error ≡ 0
          → (to ≤ length held + length chunk) × (fields_refused (fields_of part) ≡ false)
      fields_there error es z =
          let p = command_passed kind part (sym es ∙ z) in
          let s : length part ≡ 0 → ⊥ = eqb-false (length part) 0 p.some in
          (inside s, p.fit)
        where
          inside : (length part ≡ 0 → ⊥) → to ≤ length held + length chunk
          inside s =
              let some : to - from ≡ 0 → ⊥ = λ e. s (size ∙ e) in
              omega arith
