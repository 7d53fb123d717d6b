-- The loop over the rows of a reply: those that are read, with those that remain, are all.
use Prim.Native.Nat.{ℕ, zero, suc, ◌+◌, ◌≤◌, ◌<◌}
use native.Mathlib.Omega.{arith}
use mathlib.Core.Path.{◌≡◌, refl, sym, ap, ◌∙◌}
use mathlib.Core.Bool.{true, false}
use mathlib.Core.List.{List, [], ◌∷◌, ◌++◌, append-nil, append_assoc}
use mathlib.Core.Option.{Option, none, some}
use lib.ListN.{length, take, drop, length-drop, length-append}
use borrow.Author.Tests.{eqb-true, eqb-false}
use Rattle.std.specs.Prelude.{Ok, ◌==◌}
use Rattle.message.specs.Fields.{fields_of}
use Rattle.client.specs.declared.reader.Reply.{Reply}
use Rattle.client.specs.Reader.{Row, cons_row, rows_of, rows_in, ReplyAnswer, no_reply, row_read, rows_wrong, rows_read, reply_of}
use Rattle.client.specs.Rows.{row_size, row_in, RowSplit}
use Rattle.client.proofs.Rows.{Front, size_none, size_front}

-- Rows, and what follows them.
abbrev pub behind_rows : List Row → Option (List Row) → Option (List Row)
behind_rows done none = none
behind_rows done (some rs) = some (done ++ rs)

behind_one : (done : List Row) (r : Row) (o : Option (List Row)) → behind_rows done (cons_row r o) ≡ behind_rows (done ++ (r ∷ [])) o
behind_one done r none = refl
behind_one done r (some rs) = rw (append_assoc done (r ∷ []) rs)

no_bytes : (l : List ℕ) → length l ≡ 0 → l ≡ []
no_bytes [] e = refl
no_bytes (x ∷ l) e = absurd (omega arith)

-- ---- the row of a number

-- One row more is the one that is asked for, or leaves what is kept.
kept_last : (kind : ℕ) (done : List Row) (r : Row) → row_read kind (done ++ (r ∷ [])) (length done) ≡ row_read kind (r ∷ []) 0
kept_last kind [] r = refl
kept_last kind (d ∷ done) r = kept_last kind done r

kept_else : (kind : ℕ) (done : List Row) (r : Row) (k : ℕ) → (length done ≡ k → ⊥) → row_read kind (done ++ (r ∷ [])) k ≡ row_read kind done k
kept_else kind [] r zero n = absurd (n refl)
kept_else kind [] r (suc k) n = refl
kept_else kind (d ∷ done) r zero n = refl
kept_else kind (d ∷ done) r (suc k) n = kept_else kind done r k (λ e. n (ap suc e))

-- ---- a turn

-- With n rows read, and some bytes behind them: what is kept is the row k of them, and they with those that remain are all.
pub record Reading (kind : ℕ) (payload : List ℕ) (k : ℕ) (kept : ReplyAnswer) (n : ℕ) (rest : List ℕ) : Type 0 where
  pub done : List Row
  pub count : n ≡ length done
  pub few : n + length rest ≤ length payload
  pub keeps : kept ≡ row_read kind done k
  pub remain : rows_in kind (fields_of payload) ≡ behind_rows done (rows_in kind (fields_of rest))

module _ (kind : ℕ) (payload : List ℕ) (k : ℕ) where
  module _ (kept : ReplyAnswer) (n : ℕ) (rest : List ℕ) (t : Reading kind payload k kept n rest) where
    pub turn_refused : false ≡ length rest == 0 → row_size kind rest ≡ 0 → no_reply 23 ≡ rows_read kind (rows_in kind (fields_of payload)) k
    turn_refused f z =
        let l : 0 < length rest = omega (arith, eqb-false (length rest) 0 (sym f)) in
        let m : rows_in kind (fields_of rest) ≡ none = size_none kind rest l z in
        rw (t.remain, m)

    module _ (r : Reply) (behind : List ℕ) (s : RowSplit kind rest r behind) where
      front : Front kind rest (row_size kind rest)
      front = size_front kind rest s.some

      abbrev found : Row
      found = row_in (take (row_size kind rest) rest)

      behind_fewer : length behind + 4 ≤ length rest
      behind_fewer = rw s.behind (omega (arith, front.least, front.fits, length-drop (row_size kind rest) rest))

      turn_more : (next : ReplyAnswer) → next ≡ row_read kind (t.done ++ (found ∷ [])) k → Reading kind payload k next (n + 1) behind
      turn_more next q =
          record {
            done = t.done ++ (found ∷ []);
            count = rw length-append (omega (arith, t.count));
            few = omega (arith, t.few, behind_fewer);
            keeps = q;
            remain = t.remain
                ∙ ap (behind_rows t.done) front.rows
                ∙ behind_one t.done found (rows_in kind (fields_of (drop (row_size kind rest) rest)))
                ∙ rw s.behind;
          }

      pub turn_asked : n ≡ k → Reading kind payload k (reply_of (Ok r)) (n + 1) behind
      turn_asked a =
          let c : k ≡ length t.done = sym a ∙ t.count in
          turn_more (reply_of (Ok r)) (s.row ∙ sym (kept_last kind t.done found) ∙ rw c)

      pub turn_passed : (n ≡ k → ⊥) → Reading kind payload k kept (n + 1) behind
      turn_passed a = turn_more kept (t.keeps ∙ sym (kept_else kind t.done found k (λ c. a (t.count ∙ c))))

    -- ---- behind the last turn

    module _ (h : true ≡ length rest == 0) where
      all : rows_in kind (fields_of payload) ≡ some t.done
      unfolding fields_of rows_of
      all =
          let e : rest ≡ [] = no_bytes rest (eqb-true (length rest) 0 (sym h)) in
          t.remain ∙ rw (e, append-nil t.done)

      pub end_refused : true ≡ rows_wrong kind n → no_reply 23 ≡ rows_read kind (rows_in kind (fields_of payload)) k
      end_refused q =
          let c : rows_wrong kind (length t.done) ≡ true = ap (rows_wrong kind) (sym t.count) ∙ sym q in
          rw (all, c)

      pub end_kept : false ≡ rows_wrong kind n → kept ≡ rows_read kind (rows_in kind (fields_of payload)) k
      end_kept q =
          let c : rows_wrong kind (length t.done) ≡ false = ap (rows_wrong kind) (sym t.count) ∙ sym q in
          t.keeps ∙ rw (all, c)
