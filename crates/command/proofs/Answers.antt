-- The answer to a command, case by case.
use Prim.Native.Nat.{ℕ, zero, suc, ◌+◌, ◌-◌, ◌≤◌, ◌<◌}
use native.Mathlib.Omega.{arith}
use mathlib.Core.Path.{◌≡◌, refl, sym, ◌∙◌, ap, subst}
use mathlib.Core.Bool.{Bool, true, false, not, cond, or-true, or-false}
use mathlib.Core.List.{List, [], ◌++◌, append_assoc, append-nil}
use lib.ListN.{length, get_or, take, drop, take-append-drop}
use lib.Seq.{length-take-le, take_at, drop_at}
use lib.Dec.{eqb}
use borrow.Author.Tests.{lt-ltb, le-ltb}
use Rattle.page.specs.declared.setting.Setting.{Setting}
use Rattle.page.specs.declared.setting.Setting.TheVariants.{Baud, Accelerometer, Gyroscope}
use Rattle.std.specs.Prelude.{Option, Some}
use Rattle.page.specs.Settings.{factory_value}
use Rattle.page.specs.Page.{is_there}
use Rattle.message.specs.declared.write.Written.{Written}
use Rattle.message.specs.Fields.{fields_of}
use Rattle.message.specs.Message.{message_of, type_of, payload_of}
use Rattle.message.specs.Write.{done_writing, sealing, put_at}
use Rattle.message.proofs.Writes.{message_length}
use Rattle.command.specs.declared.rights.Rights.{Rights}
use Rattle.command.specs.declared.answer.Answer.{Answer}
use Rattle.command.specs.declared.number.Opened.{Opened}
use Rattle.command.specs.declared.place.Progress.{Progress}
use Rattle.command.specs.declared.command.Subject.{Subject}
use Rattle.command.specs.declared.command.Subject.TheVariants.{Ping, Setting as About, Unknown}
use Rattle.command.specs.declared.settings.Settings.{Settings}
use Rattle.command.specs.declared.command.Command.{Command}
use Rattle.command.specs.Command.{value_for, subject_of, commands_of}
use Rattle.command.specs.Errors.{not_on_board, field_error, command_error}
use Rattle.command.specs.Numbers.{numbered_kind, number_error}
use Rattle.command.specs.Effects.{working_value, with_working, Fits, value_field, function_effect, field_effect, effect_on, effect_of}
use Rattle.command.specs.Outcome.{Outcome, received_of, idle, then_outcome, reply_row, error_in, effect_outcome, row_outcome, denial_of, field_with}
use Rattle.command.specs.Handle.{fields_in, refused_outcome, command_on, command_outcome, numbered_on, numbered_outcome, message_outcome}
use Rattle.command.specs.Place.{Placed, state_of, placed, Opening, opening, number_opening, opening_of, fields_with, rights_behind, opened_on, opened_outcome}
use Rattle.command.specs.Answer.{loaded_from, saved_on, number_on, page_access, reply_room, Answering, answer_with, answering}
use Rattle.command.proofs.Accepts.{accepted, something_loaded}
use Rattle.command.proofs.Numbers.{fields_denied}
use Rattle.command.proofs.Places.{put_length, put_behind, placed_then}
use Rattle.command.proofs.First.{first_rows, first_written}
use Rattle.command.proofs.Rows.{function_row, message_most}
use Rattle.command.proofs.Spends.{inner_payload_lem}

-- ---- the value of a command, and its row

module _ (s : Setting) (c : Command) where
  pub value_word : s ≡ Baud → c.all ≡ value_for s c
  value_word e = rw e

  pub value_accelerometer : s ≡ Accelerometer → (r : ℕ) → r ≡ c.first → r ≡ value_for s c
  value_accelerometer e r h = h ∙ rw e

  pub value_gyroscope : s ≡ Gyroscope → (r : ℕ) → r ≡ c.first → r ≡ value_for s c
  value_gyroscope e r h = h ∙ rw e

pub factory_fits : (s : Setting) (x : ℕ) → x ≡ factory_value s → Fits s x
factory_fits Baud x e = omega arith
factory_fits Accelerometer x e = omega arith
factory_fits Gyroscope x e = omega arith

-- ---- the settings after a function

module _ (f : ℕ) (loaded : Setting → Option ℕ) (w : Settings) (s : Setting) (x : ℕ) (r : Settings) where
  pub after_use : f ≡ 1 → r ≡ with_working w s x → r ≡ (function_effect f loaded w s x).settings
  after_use e h = h ∙ rw e

  pub after_load : f ≡ 4 → (y : ℕ) → loaded s ≡ Some y → r ≡ with_working w s y → r ≡ (function_effect f loaded w s x).settings
  after_load e y p h = h ∙ rw (e, p)

  pub after_factory : 5 ≤ f → (y : ℕ) → y ≡ factory_value s → r ≡ with_working w s y → r ≡ (function_effect f loaded w s x).settings
  after_factory l y p h = h ∙ rw p (five f l)
    where
      five : (f : ℕ) → 5 ≤ f → with_working w s (factory_value s) ≡ (function_effect f loaded w s x).settings
      five zero l = absurd (omega arith)
      five (suc zero) l = absurd (omega arith)
      five (suc (suc zero)) l = absurd (omega arith)
      five (suc (suc (suc zero))) l = absurd (omega arith)
      five (suc (suc (suc (suc zero)))) l = absurd (omega arith)
      five (suc (suc (suc (suc (suc f))))) l = refl

pub after_none : (f : ℕ) (loaded : Setting → Option ℕ) (w : Settings) (s : Setting) (x : ℕ) → (f ≡ 1 → ⊥) → (f ≡ 4 → ⊥) → f < 5
    → w ≡ (function_effect f loaded w s x).settings
after_none zero loaded w s x n m l = refl
after_none (suc zero) loaded w s x n m l = absurd (n refl)
after_none (suc (suc zero)) loaded w s x n m l = refl
after_none (suc (suc (suc zero))) loaded w s x n m l = refl
after_none (suc (suc (suc (suc zero)))) loaded w s x n m l = absurd (m refl)
after_none (suc (suc (suc (suc (suc f))))) loaded w s x n m l = absurd (omega arith)

-- ---- one field

module _ (p : Progress) (room page : List ℕ) where
  -- Nothing is placed.
  pub placed_still : (r : Settings) → record { done = record { end = p.end; saved = p.saved; settings = r }; room = room; page = page }
      ≡ placed p (record { rows = []; saved = false; next = record { settings = r; page = page } }) room
  placed_still r =
      let z : p.end + 0 ≡ p.end = omega arith in
      rw (z, or-false p.saved, append-nil (take p.end room), take-append-drop p.end room)

  -- The field 80 is placed.
  pub placed_row : (q : Progress) (mid : List ℕ) (echo error : ℕ) → q ≡ record { end = p.end + 4; saved = p.saved; settings = p.settings }
      → mid ≡ put_at p.end (reply_row echo error []) room
      → record { done = q; room = mid; page = page } ≡ placed p (row_outcome echo error (idle (state_of p page))) room
  placed_row q mid echo error e m = rw (e, m, or-false p.saved)

  -- An accepted function.
  module _ (f : ℕ) (s : Setting) (x : ℕ) where
    abbrev obeyed : Placed
    obeyed = placed p (effect_outcome saved_on (function_effect f (loaded_from page) p.settings s x) (state_of p page)) room

    pub obey_report : f ≡ 2 → (y : ℕ) → y ≡ working_value p.settings s → (r : ℕ) (after : List ℕ)
        → (r ≡ p.end + length (value_field s y)) × (after ≡ put_at p.end (value_field s y) room)
        → record { done = record { end = r; saved = p.saved; settings = p.settings }; room = after; page = page } ≡ obeyed
    obey_report e y ys r after h = rw (e, h.0, h.1, ys, or-false p.saved)

    pub obey_save : f ≡ 3 → (y : ℕ) → y ≡ working_value p.settings s → (next : List ℕ) → next ≡ saved_on page s y
        → record { done = record { end = p.end; saved = true; settings = p.settings }; room = room; page = next } ≡ obeyed
    obey_save e y ys next n =
        let z : p.end + 0 ≡ p.end = omega arith in
        rw (e, n, ys, z, or-true p.saved, append-nil (take p.end room), take-append-drop p.end room)

    pub obey_other : (f ≡ 2 → ⊥) → (f ≡ 3 → ⊥) → (sent : ℕ) → sent ≡ x → (r : Settings) → r ≡ (function_effect f (loaded_from page) p.settings s sent).settings
        → record { done = record { end = p.end; saved = p.saved; settings = r }; room = room; page = page } ≡ obeyed
    obey_other n m sent es r e = placed_still r ∙ rw (e, es) (only f n m)
      where
        only : (f : ℕ) → (f ≡ 2 → ⊥) → (f ≡ 3 → ⊥)
            → placed p (record { rows = []; saved = false; next = record { settings = (function_effect f (loaded_from page) p.settings s x).settings; page = page } }) room
            ≡ placed p (effect_outcome saved_on (function_effect f (loaded_from page) p.settings s x) (state_of p page)) room
        only zero n m = refl
        only (suc zero) n m = refl
        only (suc (suc zero)) n m = absurd (n refl)
        only (suc (suc (suc zero))) n m = absurd (m refl)
        only (suc (suc (suc (suc zero)))) n m = refl
        only (suc (suc (suc (suc (suc f))))) n m = refl

  -- Any field.
  module _ (denial : ℕ) (c : Command) (error : ℕ) (es : error ≡ field_error denial (loaded_from page) c) (q : Progress) (mid : List ℕ)
      (e : q ≡ record { end = p.end + 4; saved = p.saved; settings = p.settings }) (m : mid ≡ put_at p.end (reply_row c.code error []) room) where
    pub field-refused : (error ≡ 0 → ⊥) → record { done = q; room = mid; page = page } ≡ placed p (field_with page_access denial (state_of p page) c) room
    unfolding effect_of
    field-refused n = placed_row q mid c.code error e m ∙ rw (← es) (go error n)
      where
        go : (n : ℕ) → (n ≡ 0 → ⊥) → placed p (row_outcome c.code n (idle (state_of p page))) room
            ≡ placed p (row_outcome c.code n (effect_outcome saved_on (effect_on n (field_effect (subject_of c.kind c.code) (loaded_from page) p.settings c) p.settings) (state_of p page))) room
        go zero n = absurd (n refl)
        go (suc k) n = refl

    pub field_ready : p.end + 10 ≤ length room → q.end + 6 ≤ length mid
    field_ready h =
        let l : length mid ≡ length room = ap length m ∙ put_length p.end (reply_row c.code error []) room (omega arith) in
        let d : q.end ≡ p.end + 4 = ap (λ (p : Progress). p.end) e in
        omega arith

    module _ (zero-error : error ≡ 0) (subject : Subject) (ss : subject ≡ subject_of c.kind c.code) where
      -- Under function 4 a value is loaded.
      pub field_loads : (s : Setting) → subject ≡ About s → c.function ≡ 4 → is_there (loaded_from page s) ≡ true
      field_loads s k f =
          let a = accepted denial (loaded_from page) c (sym es ∙ zero-error) in
          something_loaded (loaded_from page) c s (subst (λ (b : Subject). not_on_board b (loaded_from page) c ≡ false) (sym ss ∙ k) a.on_board) f

      pub field-ping : subject ≡ Ping → record { done = q; room = mid; page = page } ≡ placed p (field_with page_access denial (state_of p page) c) room
      unfolding effect_of
      field-ping k = placed_row q mid c.code error e m ∙ rw (← es, zero-error, ← ss, k)

      pub field_unknown : subject ≡ Unknown → record { done = q; room = mid; page = page } ≡ placed p (field_with page_access denial (state_of p page) c) room
      unfolding effect_of
      field_unknown k = placed_row q mid c.code error e m ∙ rw (← es, zero-error, ← ss, k)

      pub field_setting : p.end + 10 ≤ length room → (s : Setting) → subject ≡ About s → (done : Placed)
          → done ≡ placed q (effect_outcome saved_on (function_effect c.function (loaded_from page) q.settings s (value_for s c)) (state_of q page)) mid
          → done ≡ placed p (field_with page_access denial (state_of p page) c) room
      unfolding effect_of
      field_setting h s k done d =
          let a : Outcome (List ℕ) = row_outcome c.code 0 (idle (state_of p page)) in
          let b : Outcome (List ℕ) = effect_outcome saved_on (function_effect c.function (loaded_from page) p.settings s (value_for s c)) (state_of p page) in
          let r : record { done = q; room = mid; page = page } ≡ placed p a room = rw zero-error at (placed_row q mid c.code error e m) in
          let l : length b.rows ≤ 6 = function_row c.function (loaded_from page) p.settings s (value_for s c) in
          let t : placed (placed p a room).done b (placed p a room).room ≡ placed p (then_outcome a b) room = placed_then p a b room (omega arith) in
          d ∙ ap (λ (z : Placed). placed z.done (effect_outcome saved_on (function_effect c.function (loaded_from z.page) z.done.settings s (value_for s c)) (state_of z.done z.page)) z.room) r
          ∙ t ∙ rw (← es, zero-error, ← ss, k)

-- ---- the reply sealed

module _ (kind n : ℕ) (room after : List ℕ) (a : Written) where
  pub seal_known : (k : ℕ) → n ≡ k → record { answer = a; room = after } ≡ sealing kind k room → after ≡ (sealing kind n room).room
  seal_known k e h = rw (e, ← h)

  pub seal_any : record { answer = a; room = after } ≡ sealing kind n room → after ≡ (sealing kind n room).room
  seal_any h = rw (← h)

-- Rows placed from byte 4 on and sealed are the reply.
pub sealed_rows : (kind : ℕ) (rows room : List ℕ) → length rows ≤ 160 → reply_room ≤ length room
    → (sealing kind (length rows) (put_at 4 rows room)).room ≡ (done_writing (message_of kind rows) room).room
unfolding sealing
sealed_rows kind rows room few large =
    let n : ℕ = length rows in
    let mid : List ℕ = put_at 4 rows room in
    let h : 4 + n ≤ length room = omega arith in
    let ml : length mid ≡ length room = put_length 4 rows room h in
    let fl : length (take 4 room) ≡ 4 = length-take-le 4 room (omega arith) in
    let d : drop 4 mid ≡ rows ++ drop (4 + n) room = ap (drop 4) (append_assoc (take 4 room) rows (drop (4 + n) room)) ∙ drop_at (take 4 room) (rows ++ drop (4 + n) room) 4 fl in
    let t : take n (drop 4 mid) ≡ rows = ap (take n) d ∙ take_at rows (drop (4 + n) room) n refl in
    let l : length (message_of kind rows) ≡ n + 6 = message_length kind rows in
    let six : n + 6 ≡ 4 + n + 2 = omega arith in
    let b : drop (n + 6) mid ≡ drop (n + 6) room = rw six (put_behind 4 rows room h 2) in
    rw (le-ltb 255 n (omega arith), ml, le-ltb (length room) (n + 6) (omega arith), t, l, b)

-- ---- commands

module _ (p : Progress) (room page : List ℕ) where
  -- A command refused as a whole, and one whose fields are reached.
  module _ (rights : Rights) (kind : ℕ) (payload : List ℕ) (error : ℕ) (es : error ≡ command_error kind payload) where
    pub command_refused : (error ≡ 0 → ⊥) → (echo : ℕ) → echo ≡ get_or payload 0 0 → (done : Placed)
        → done ≡ placed p (refused_outcome echo error (state_of p page)) room
        → done ≡ placed p (command_outcome page_access rights (state_of p page) kind payload) room
    unfolding command_outcome
    command_refused n echo cs done h = h ∙ rw (← es, cs) (go error n)
      where
        go : (error : ℕ) → (error ≡ 0 → ⊥) → placed p (refused_outcome (get_or payload 0 0) error (state_of p page)) room
            ≡ placed p (command_on page_access error rights (state_of p page) kind payload) room
        go zero n = absurd (n refl)
        go (suc k) n = refl

    pub command_reached : error ≡ 0 → (denial : ℕ) → denial ≡ denial_of page_access rights page → (done : Placed)
        → done ≡ placed p (fields_with denial (state_of p page) (commands_of kind (fields_in (fields_of payload)))) room
        → done ≡ placed p (command_outcome page_access rights (state_of p page) kind payload) room
    unfolding command_outcome
    command_reached z denial ds done h =
        h ∙ rw (← es, z, ds) (ap (λ (o : Outcome (List ℕ)). placed p o room) (sym (fields_denied rights (state_of p page) (commands_of kind (fields_in (fields_of payload))))))

  -- What a message was opened to.
  module _ (rights : Rights) (o : Opened) (part : List ℕ) where
    pub opened_refused : (o.error ≡ 0 → ⊥) → (echo : ℕ) → echo ≡ get_or part 0 0 → (done : Placed)
        → done ≡ placed p (refused_outcome echo o.error (state_of p page)) room → done ≡ placed p (opened_outcome rights o (state_of p page) part) room
    opened_refused n echo cs done h = h ∙ rw cs (go o.error n)
      where
        go : (error : ℕ) → (error ≡ 0 → ⊥) → placed p (refused_outcome (get_or part 0 0) error (state_of p page)) room
            ≡ placed p (opened_on error rights o (state_of p page) part) room
        go zero n = absurd (n refl)
        go (suc k) n = refl

    pub opened_command : o.error ≡ 0 → (done : Placed)
        → done ≡ placed p (command_outcome page_access (rights_behind o.numbered rights) (state_of p page) o.kind part) room
        → done ≡ placed p (opened_outcome rights o (state_of p page) part) room
    opened_command z done h = h ∙ rw z

module _ (numbered : Bool) (rights : Rights) (page : List ℕ) where
  pub behind_number : numbered ≡ true → 0 ≡ denial_of page_access (rights_behind numbered rights) page
  behind_number e = rw e

  pub behind_none : numbered ≡ false → (r : ℕ) → r ≡ denial_of page_access rights page → r ≡ denial_of page_access (rights_behind numbered rights) page
  behind_none e r h = h ∙ rw e

-- ---- any message

-- What it was opened to is answered as the message.
module _ (held chunk : List ℕ) (to : ℕ) (rights : Rights) (good : Bool) (kind : ℕ) (ks : kind ≡ type_of (held ++ chunk))
    (ps : drop 4 (take to (held ++ chunk)) ≡ payload_of (held ++ chunk)) (w : Settings) (room page : List ℕ) where
  abbrev payload : List ℕ
  payload = drop 4 (take to (held ++ chunk))

  abbrev placed_opening : Opening → Placed
  placed_opening z =
      placed (record { end = 4; saved = z.opened.numbered; settings = w })
      (opened_outcome rights z.opened (record { settings = w; page = z.page }) (drop z.opened.from (take to (held ++ chunk)))) room

  abbrev answered : Outcome (List ℕ) → Placed
  answered o = placed (record { end = 4; saved = false; settings = w }) o room

  number-answered : (n : ℕ) → placed_opening (number_opening n kind payload page) ≡ answered (numbered_on page_access n (record { settings = w; page = page }) payload)
  number-answered zero = rw (inner_payload_lem held chunk to)
  number-answered (suc n) = rw (inner_payload_lem held chunk to)

  pub opening-answered : (o : Opened) (next : List ℕ) → record { opened = o; page = next } ≡ opening_of rights good kind payload page
      → placed_opening (record { opened = o; page = next }) ≡ answered (message_outcome page_access rights (record { settings = w; page = page }) (received_of good (held ++ chunk)))
  unfolding opening_of message_outcome received_of numbered_outcome
  opening-answered o next e = ap placed_opening e ∙ rw (← ks, ← ps) (go (not good) (eqb kind numbered_kind))
    where
      go : (a b : Bool)
          → placed_opening (cond a (opening 1 kind 4 false page) (cond b (number_opening (number_error rights (number_on page) payload) kind payload page) (opening 0 kind 4 false page)))
          ≡ answered (cond a (refused_outcome (get_or payload 0 0) 1 (record { settings = w; page = page }))
          (cond b (numbered_on page_access (number_error rights (number_on page) payload) (record { settings = w; page = page }) payload)
          (command_outcome page_access rights (record { settings = w; page = page }) kind payload)))
      go true b = refl
      go false true = number-answered (number_error rights (number_on page) payload)
      go false false = refl

-- ---- the answer

module _ (rights : Rights) (m : List ℕ) (good : Bool) (w : Settings) (room page : List ℕ) where
  pub answer_small : length room < 166 → record { answer = record { saved = false; error = 0; settings = w }; room = room; page = page } ≡ answering rights (received_of good m) w room page
  unfolding answering
  answer_small h = rw (lt-ltb (length room) 166 h)

  module _ (large : 166 ≤ length room) (kind : ℕ) (ks : kind ≡ type_of m) where
    abbrev outcome : Outcome (List ℕ)
    outcome = message_outcome page_access rights (record { settings = w; page = page }) (received_of good m)

    few_rows : length outcome.rows ≤ 160
    few_rows = message_most page_access rights (record { settings = w; page = page }) (received_of good m)

    module _ (p : Progress) (mid next : List ℕ) (q : record { done = p; room = mid; page = next } ≡ placed (record { end = 4; saved = false; settings = w }) outcome room) where
      pub answer_ready : (4 ≤ p.end) × (p.end < 260) × (p.end + 2 ≤ length mid)
      answer_ready =
          let f = few_rows in
          let d : p.end ≡ 4 + length outcome.rows = ap (λ (q : Placed). q.done.end) q in
          let l : length mid ≡ length room = ap (λ (q : Placed). length q.room) q ∙ put_length 4 outcome.rows room (omega arith) in
          (omega arith, omega arith, omega arith)

      pub answer_done : (after : List ℕ) (a : Answer) → a ≡ record { saved = p.saved; error = error_in after; settings = p.settings } → after ≡ (sealing kind (p.end - 4) mid).room
          → record { answer = a; room = after; page = next } ≡ answering rights (received_of good m) w room page
      unfolding answering received_of
      answer_done after a at left =
          let z : 4 + length outcome.rows - 4 ≡ length outcome.rows = omega arith in
          let s : (sealing kind (length outcome.rows) (put_at 4 outcome.rows room)).room ≡ (done_writing (message_of kind outcome.rows) room).room =
          sealed_rows kind outcome.rows room few_rows large in
          let b : after ≡ (done_writing (message_of kind outcome.rows) room).room = left ∙ ap sealed_room q ∙ rw (z, s) in
          let f : error_in after ≡ error_in (message_of kind outcome.rows) =
          rw b (first_written (List ℕ) kind outcome (drop (length (message_of kind outcome.rows)) room) (rw ks (first_rows (List ℕ) page_access rights (record { settings = w; page = page }) (received_of good m)))) in
          let d : record { answer = a; room = after; page = next } ≡ answer_with kind outcome room = rw (at, f, b) (ap left_by q) in
          d ∙ rw (le-ltb (length room) 166 large, ks)
        where
          sealed_room : Placed → List ℕ
          sealed_room q = (sealing kind (q.done.end - 4) q.room).room

          -- What is left beside the reply.
          left_by : Placed → Answering
          left_by q =
              record {
                answer = record { saved = q.done.saved; error = error_in (message_of kind outcome.rows); settings = q.done.settings };
                room = (done_writing (message_of kind outcome.rows) room).room;
                page = q.page;
              }
