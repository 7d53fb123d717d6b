-- Demand 1: any call of any board, and lists of calls from any sound board.
use mathlib.Core.Bool.{Bool, true, false, ◌&&◌, ◌||◌, not}
use mathlib.Core.List.{List, [], ◌∷◌, ◌++◌}
use mathlib.Core.Path.{◌≡◌, refl, sym, ap, ◌∙◌}
use Prim.Native.Nat.{ℕ, zero, suc, ◌+◌, ◌-◌, ◌≤◌, ◌<◌}
use native.Mathlib.Omega.{arith}
use native.Mathlib.Decide.{dec_lt}
use lib.Dec.{eqb, leb, ltb}
use lib.ListN.{length, take, drop, length-append, length-take, length-drop}
use lib.Seq.{length-take-le}
use borrow.Author.Tests.{lt-ltb, le-ltb, ltb-false, eq-eqb, ne_eqb}
use Rattle.stream.proofs.Bools.{differ, or_neither}
use Rattle.stream.specs.declared.Sought.{Sought}
use Rattle.stream.specs.declared.Sought.TheVariants.{Starved, Found}
use Rattle.stream.specs.Scan.{good_at}
use Rattle.stream.specs.Seek.{resume, skipped_by}
use Rattle.history.specs.Calls.{Input, chunk_of}
use Rattle.history.specs.EveryList.{run_number}
use Rattle.history.specs.Program.{sought_by}
use Rattle.history.proofs.Soughts.{call_sized, Starving, call_starved}
use Rattle.message.specs.Front.{front}
use Rattle.message.specs.Whole.{whole_number, refuse}
use Rattle.message.proofs.Framed.{cutting_harmless}
use Rattle.message.proofs.RoundTrips.{written_is_read}
use Rattle.page.specs.Settings.{some_of, gyroscope_ranges, usable}
use Rattle.page.specs.Page.{page_size}
use Rattle.page.specs.Sound.{sound, page_number}
use Rattle.page.proofs.Pages.{factory_usable, sound_passes}
use Rattle.page.proofs.Settings.{five_ranges}
use Rattle.command.specs.declared.rights.Rights.{Rights}
use Rattle.command.specs.declared.settings.Settings.{Settings}
use Rattle.totals.specs.declared.Tally.{Tally}
use Rattle.command.specs.Outcome.{Received, received_of, error_in}
use Rattle.command.specs.Handle.{message_outcome}
use Rattle.command.specs.Answer.{loaded_from, page_access, settings_from, reply_room, Answering, answering}
use Rattle.command.specs.Effects.{settings_usable}
use Rattle.command.specs.Theorems.{reply_to}
use Rattle.command.specs.Puts.{Put, puts_on, is_empty, message_puts}
use Rattle.command.proofs.First.{first_rows}
use Rattle.command.proofs.Keeps.{starts_usable}
use Rattle.command.proofs.Pages.{loads_usable, answer_large, reply_whole, answer_keeps}
use Rattle.command.proofs.Separate.{longest_reply}
use Rattle.message.proofs.Writes.{message_length}
use Rattle.board.specs.Profile.{Profile, rights_of}
use Rattle.board.specs.Handling.{Kept}
use Rattle.page.specs.declared.setting.Setting.TheVariants.{Baud, Accelerometer, Gyroscope}
use Rattle.board.specs.declared.board.Board.{Board}
use Rattle.board.specs.declared.board.Started.{Started}
use Rattle.board.specs.declared.port.Port.{Port}
use Rattle.board.specs.Port.{port_room, held_bytes, port_holding, port_of, tally_at, with_port}
use Rattle.board.specs.Start.{factory_settings, fresh_board, start_on, start_of}
use Rattle.board.specs.Feed.{Feeding, PortStep, unsound, feed_number, refused_feeding, left_of, step_on, step_by, tally_after, feed_on, accept_on, call_of}
use Rattle.board.specs.Runs.{calls_from}
use Rattle.board.specs.Older.{RangeSound}
use Rattle.board.specs.AnyBoard.{is_sound, other_port, good_length, FirstNumber, FirstNumbers, CallsKeep, StartsKeep, RunsStaySound}
use Rattle.board.proofs.Follows.{holding, call_profile, start_profile, page_sound}
use Rattle.board.proofs.Places.{passes, resume_past}

-- ---- soundness, taken apart and put together

not_not : (t : Bool) → not t ≡ true → t ≡ false
not_not true e = differ (sym e)
not_not false e = refl

pub record SoundParts (first second : ℕ) (w : Settings) : Type 0 where
  pub first_few : first ≤ port_room
  pub second_few : second ≤ port_room
  pub usable_settings : settings_usable w ≡ true

parts : (first second : ℕ) (w : Settings) → unsound first second w ≡ false → SoundParts first second w
unfolding unsound
parts first second w e =
    let o = or_neither (ltb port_room first || ltb port_room second) (not (settings_usable w)) e in
    let q = or_neither (ltb port_room first) (ltb port_room second) o.0 in
    record { first_few = ltb-false port_room first q.0; second_few = ltb-false port_room second q.1; usable_settings = is_true (settings_usable w) o.1 }
  where
    is_true : (t : Bool) → not t ≡ false → t ≡ true
    is_true true e = refl
    is_true false e = differ e

joined : (first second : ℕ) (w : Settings) → SoundParts first second w → not (unsound first second w) ≡ true
unfolding unsound
joined first second w p = rw (le-ltb port_room first p.first_few, le-ltb port_room second p.second_few, p.usable_settings)

-- ---- a step

module _ (rights : Rights) (held : List ℕ) (w : Settings) (i : Input) (room page : List ℕ) where
  abbrev chunk : List ℕ
  chunk = chunk_of i

  -- What stays held fits the port.
  step_few : length held ≤ port_room → length (step_by rights held w i room page).held ≤ port_room
  unfolding step_by
  step_few few = go (sought_by front i held) refl
    where
      go : (q : Sought) → sought_by front i held ≡ q → length (step_on rights q held w chunk room page).held ≤ port_room
      go (Starved k) e =
          let s : Starving cutting_harmless held i k = call_starved cutting_harmless held i k few e in
          s.few
      go (Found k n good) e =
          let s = call_sized cutting_harmless held i k n good e in
          let visible : List ℕ = held ++ take (k + n - length held) chunk in
          let r : suc k ≤ resume k n good = resume_past k n s.some good in
          omega (arith, few, r, s.most, s.inside, length-drop (resume k n good) visible, length-append held (take (k + n - length held) chunk), length-take (k + n - length held) chunk)

  -- An accepted step answers 0 or 1.
  step_number : (step_by rights held w i room page).number ≤ 1
  unfolding step_by
  step_number = go (sought_by front i held)
    where
      go : (q : Sought) → (step_on rights q held w chunk room page).number ≤ 1
      go (Starved k) = omega arith
      go (Found k n good) = omega arith

  -- What it does to the settings and the page.
  abbrev puts : ℕ → Bool → List Put
  puts k good = message_puts rights (record { settings = w; page = page }) (received_of good (drop k (held ++ chunk)))

  record StepSaved (after : List ℕ) : Type 0 where
    before : ℕ
    size : ℕ
    good : Bool
    found : sought_by front i held ≡ Found before size good
    some_puts : 1 ≤ length (puts before good)
    written : after ≡ puts_on page (puts before good)

  record StepKeeps (s : PortStep) : Type 0 where
    settings_usable_lem : settings_usable s.settings ≡ true
    page_kept-sound : sound s.page ≡ true
    unsaved : s.saved ≡ false → s.page ≡ page
    saved : s.saved ≡ true → StepSaved s.page

  -- The mark says whether anything is put in.
  unmarked_none : (ps : List Put) (saved : Bool) → saved ≡ not (is_empty ps) → saved ≡ false → ps ≡ []
  unmarked_none [] saved m e = refl
  unmarked_none (p ∷ ps) saved m e = differ (sym m ∙ e)

  marked_some : (ps : List Put) (saved : Bool) → saved ≡ not (is_empty ps) → saved ≡ true → 1 ≤ length ps
  marked_some [] saved m e = differ (sym e ∙ m)
  marked_some (p ∷ ps) saved m e = omega arith

  step_keeps : sound page ≡ true → settings_usable w ≡ true → reply_room ≤ length room → StepKeeps (step_by rights held w i room page)
  unfolding step_by
  step_keeps h a large = go (sought_by front i held) refl
    where
      go : (q : Sought) → sought_by front i held ≡ q → StepKeeps (step_on rights q held w chunk room page)
      go (Starved k) f = record { settings_usable_lem = a; page_kept-sound = h; unsaved = λ e. refl; saved = λ e. differ (sym e) }
      go (Found k n good) f =
          let m : Received = received_of good (drop k (held ++ chunk)) in
          let t = answer_keeps rights m w room page h a in
          let saved : Bool = (answering rights m w room page).answer.saved in
          record {
            settings_usable_lem = t.settings_usable_lem;
            page_kept-sound = t.page_sound;
            unsaved = λ e. t.page_after_lem large ∙ ap (puts_on page) (unmarked_none (puts k good) saved (t.mark large) e);
            saved = λ e.
                record { before = k; size = n; good = good; found = f; some_puts = marked_some (puts k good) saved (t.mark large) e; written = t.page_after_lem large };
          }

  -- What it reports: a whole reply, or nothing; and how its counts add up.
  record StepReply (after : List ℕ) (error : ℕ) : Type 0 where
    reply : List ℕ
    whole : whole_number reply ≡ 0
    fits : length reply ≤ reply_room
    room_after : after ≡ reply ++ drop (length reply) room
    first_error : error ≡ error_in reply
    known_error : error ≤ 7

  record StepTells (sought : Sought) (s : PortStep) : Type 0 where
    reported : s.number ≡ 0 → StepReply s.room s.error
    all_taken : s.number ≡ 1 → s.taken ≡ length chunk
    no_error : s.number ≡ 1 → s.error ≡ 0
    no_save : s.number ≡ 1 → s.saved ≡ false
    room_same : s.number ≡ 1 → s.room ≡ room
    page_same : s.number ≡ 1 → s.page ≡ page
    settings_same : s.number ≡ 1 → s.settings ≡ w

  one_not_zero : {A : Type 0} → ◌≡◌ {A = ℕ} 1 0 → A
  one_not_zero e = let no : ⊥ = omega (arith, e) in absurd no

  zero_not_one : {A : Type 0} → ◌≡◌ {A = ℕ} 0 1 → A
  zero_not_one e = let no : ⊥ = omega (arith, e) in absurd no

  answer_reply : (m : Received) → reply_room ≤ length room → StepReply (answering rights m w room page).room (answering rights m w room page).answer.error
  answer_reply m large =
      let x : Kept = record { settings = w; page = page } in
      let rows : List ℕ = (message_outcome page_access rights x m).rows in
      let most = longest_reply.most (List ℕ) page_access rights x m in
      let few : length rows ≤ 255 = omega (arith, most, message_length m.kind rows) in
      let told : (answering rights m w room page).answer.error ≡ error_in (reply_to rights m w page) = ap (λ (a : Answering). a.answer.error) (answer_large rights m w room page large) in
      let first = first_rows (List ℕ) page_access rights x m in
      record {
        reply = reply_to rights m w page;
        whole = (written_is_read m.kind rows few).whole;
        fits = most;
        room_after = reply_whole rights m w room page large;
        first_error = told;
        known_error = omega (arith, told, first.first, first.most);
      }

  found_sum : (k n : ℕ) (good : Bool) → 1 ≤ n → k + n ≤ length held + length chunk
      → length held + (k + n - length held) ≡ good_at good n + skipped_by k good + length (left_of k n good held chunk)
  found_sum k n good s i =
      let visible : List ℕ = held ++ take (k + n - length held) chunk in
      let t : length (take (k + n - length held) chunk) ≡ k + n - length held = length-take-le (k + n - length held) chunk (omega arith) in
      let l : length visible ≡ length held + (k + n - length held) = length-append held (take (k + n - length held) chunk) ∙ ap (λ (i : ℕ). length held + i) t in
      go good (length-drop (resume k n good) visible ∙ ap (λ (i : ℕ). i - resume k n good) l)
    where
      go : (good : Bool) → length (left_of k n good held chunk) ≡ length held + (k + n - length held) - resume k n good
          → length held + (k + n - length held) ≡ good_at good n + skipped_by k good + length (left_of k n good held chunk)
      go true e = omega (arith, s, e)
      go false e = omega (arith, s, e)

  -- How the counts of a step add up, and what it takes at the most.
  pub record StepAdds (sought : Sought) (s : PortStep) : Type 0 where
    pub sum : length held + s.taken ≡ good_length sought + s.skipped + length s.held
    pub most : s.taken ≤ length chunk
    pub few : s.number ≤ 1

  pub step_adds : length held ≤ port_room → StepAdds (sought_by front i held) (step_by rights held w i room page)
  unfolding step_by
  step_adds few = go (sought_by front i held) refl
    where
      go : (q : Sought) → sought_by front i held ≡ q → StepAdds q (step_on rights q held w chunk room page)
      go (Starved k) e =
          let s : Starving cutting_harmless held i k = call_starved cutting_harmless held i k few e in
          record { sum = omega (arith, s.inside, length-append held chunk, length-drop k (held ++ chunk)); most = omega arith; few = omega arith }
      go (Found k n good) e =
          let s = call_sized cutting_harmless held i k n good e in
          let inside : k + n ≤ length held + length chunk = omega (arith, s.inside, length-append held chunk) in
          record { sum = found_sum k n good s.some inside; most = omega arith; few = omega arith }

  step_tells : reply_room ≤ length room → StepTells (sought_by front i held) (step_by rights held w i room page)
  unfolding step_by
  step_tells large = go (sought_by front i held) refl
    where
      go : (q : Sought) → sought_by front i held ≡ q → StepTells q (step_on rights q held w chunk room page)
      go (Starved k) e =
          record {
            reported = one_not_zero;
            all_taken = λ z. refl;
            no_error = λ z. refl;
            no_save = λ z. refl;
            room_same = λ z. refl;
            page_same = λ z. refl;
            settings_same = λ z. refl;
          }
      go (Found k n good) e =
          record {
            reported = λ z. answer_reply (received_of good (drop k (held ++ chunk))) large;
            all_taken = zero_not_one;
            no_error = zero_not_one;
            no_save = zero_not_one;
            room_same = zero_not_one;
            page_same = zero_not_one;
            settings_same = zero_not_one;
          }

-- ---- a call

-- What passing all tests says.
pub record Passed (port : ℕ) (b : Board) (room page : List ℕ) : Type 0 where
  pub few_ports : port ≤ 1
  pub sound_board : unsound b.first.held b.second.held b.settings ≡ false
  pub large_room : reply_room ≤ length room
  pub passing_page : page_number page ≡ 0

pub passed_parts : (port first second : ℕ) (w : Settings) (room page : List ℕ) → feed_number port first second w room page ≡ 0 → SoundParts first second w
unfolding feed_number
passed_parts port first second w room page e =
    let t : (ltb 1 port ≡ false) × _ = passes (ltb 1 port) 15 _ e in
    let u : (unsound first second w ≡ false) × _ = passes (unsound first second w) 16 _ t.1 in
    parts first second w u.0

pub passed : (port : ℕ) (b : Board) (room page : List ℕ) → feed_number port b.first.held b.second.held b.settings room page ≡ 0 → Passed port b room page
unfolding feed_number
passed port b room page e =
    let t : (ltb 1 port ≡ false) × _ = passes (ltb 1 port) 15 _ e in
    let u : (unsound b.first.held b.second.held b.settings ≡ false) × _ = passes (unsound b.first.held b.second.held b.settings) 16 _ t.1 in
    let r : (ltb (length room) reply_room ≡ false) × _ = passes (ltb (length room) reply_room) 17 _ u.1 in
    record { few_ports = ltb-false 1 port t.0; sound_board = u.0; large_room = ltb-false (length room) reply_room r.0; passing_page = r.1 }

-- The board with the fed port anew.
held_few_lem : (p : Port) → p.held ≤ port_room → length (held_bytes p) ≤ port_room
held_few_lem p h = omega (arith, h, length-take p.held p.bytes)

with_sound : (port : ℕ) (b : Board) (bs : List ℕ) (w : Settings) (t : Tally) → SoundParts b.first.held b.second.held b.settings → length bs ≤ port_room → settings_usable w ≡ true
    → is_sound (with_port port b (port_holding bs) w t) ≡ true
unfolding port_holding
with_sound zero b bs w t p l a = joined (length bs) b.second.held w (record { first_few = l; second_few = p.second_few; usable_settings = a })
with_sound (suc q) b bs w t p l a = joined b.first.held (length bs) w (record { first_few = p.first_few; second_few = l; usable_settings = a })

port_few : (port : ℕ) (b : Board) → SoundParts b.first.held b.second.held b.settings → length (held_bytes (port_of port b)) ≤ port_room
port_few zero b p = held_few_lem b.first p.first_few
port_few (suc q) b p = held_few_lem b.second p.second_few

with_fed : (port : ℕ) (b : Board) (bs : List ℕ) (w : Settings) (t : Tally) → port_of port (with_port port b (port_holding bs) w t) ≡ port_holding (held_bytes (port_of port (with_port port b (port_holding bs) w t)))
with_fed zero b bs w t = ap port_holding (sym (holding bs))
with_fed (suc q) b bs w t = ap port_holding (sym (holding bs))

pub with_held : (port : ℕ) (b : Board) (bs : List ℕ) (w : Settings) (t : Tally) → held_bytes (port_of port (with_port port b (port_holding bs) w t)) ≡ bs
with_held zero b bs w t = holding bs
with_held (suc q) b bs w t = holding bs

pub with_settings : (port : ℕ) (b : Board) (p : Port) (w : Settings) (t : Tally) → (with_port port b p w t).settings ≡ w
with_settings zero b p w t = refl
with_settings (suc q) b p w t = refl

with_other : (port : ℕ) (b : Board) (p : Port) (w : Settings) (t : Tally) → port_of (other_port port) (with_port port b p w t) ≡ port_of (other_port port) b
with_other zero b p w t = refl
with_other (suc q) b p w t = refl

with_other_totals : (port : ℕ) (b : Board) (p : Port) (w : Settings) (t : Tally) → tally_at (other_port port) (with_port port b p w t) ≡ tally_at (other_port port) b
with_other_totals zero b p w t = refl
with_other_totals (suc q) b p w t = refl

module _ (port : ℕ) (b : Board) (i : Input) (room page : List ℕ) where
  -- The same statement of a feeding that is given.
  record KeptBy (f : Feeding) : Type 0 where
    refused : 1 < f.answer.number → f ≡ refused_feeding f.answer.number b room page
    fed_port : f.answer.number ≤ 1 → port_of port f.answer.board ≡ port_holding (held_bytes (port_of port f.answer.board))
    other_port_lem : f.answer.number ≤ 1 → port_of (other_port port) f.answer.board ≡ port_of (other_port port) b
    other_totals : f.answer.number ≤ 1 → tally_at (other_port port) f.answer.board ≡ tally_at (other_port port) b
    saved : f.answer.saved ≡ true → StepSaved (rights_of b.readonly port) (held_bytes (port_of port b)) b.settings i room page f.page
    unsaved : f.answer.saved ≡ false → f.page ≡ page
    board_sound : is_sound b ≡ true → is_sound f.answer.board ≡ true
    page_stays : page_number page ≡ 0 → page_number f.page ≡ 0
    reported : f.answer.number ≡ 0 → StepReply (rights_of b.readonly port) (held_bytes (port_of port b)) b.settings i room page f.room f.answer.error
    all_taken : f.answer.number ≡ 1 → f.answer.taken ≡ length (chunk_of i)
    no_error : f.answer.number ≡ 1 → f.answer.error ≡ 0
    no_save : f.answer.number ≡ 1 → f.answer.saved ≡ false
    room_same : f.answer.number ≡ 1 → f.room ≡ room
    page_same : f.answer.number ≡ 1 → f.page ≡ page
    settings_same : f.answer.number ≡ 1 → f.answer.board.settings ≡ b.settings
    sum : f.answer.number ≤ 1 → length (held_bytes (port_of port b)) + f.answer.taken
        ≡ good_length (sought_by front i (held_bytes (port_of port b))) + f.answer.skipped + length (held_bytes (port_of port f.answer.board))

  refused_keeps : (n : ℕ) → 1 < n → KeptBy (refused_feeding n b room page)
  refused_keeps n h =
      record {
        refused = λ k. refl;
        fed_port = λ k. (let no : ⊥ = omega (arith, h, k) in absurd no);
        other_port_lem = λ k. refl;
        other_totals = λ k. refl;
        saved = λ e. differ (sym e);
        unsaved = λ e. refl;
        board_sound = λ s. s;
        page_stays = λ p. p;
        reported = λ k. (let no : ⊥ = omega (arith, h, k) in absurd no);
        all_taken = λ k. (let no : ⊥ = omega (arith, h, k) in absurd no);
        no_error = λ k. refl;
        no_save = λ k. refl;
        room_same = λ k. refl;
        page_same = λ k. refl;
        settings_same = λ k. refl;
        sum = λ k. (let no : ⊥ = omega (arith, h, k) in absurd no);
      }

  abbrev this : PortStep
  this = step_by (rights_of b.readonly port) (held_bytes (port_of port b)) b.settings i room page

  accepted_keeps : Passed port b room page → KeptBy (feed_on this port b)
  accepted_keeps p =
      let s = parts b.first.held b.second.held b.settings p.sound_board in
      let h : sound page ≡ true = page_sound page p.passing_page in
      let k = step_keeps (rights_of b.readonly port) (held_bytes (port_of port b)) b.settings i room page h s.usable_settings p.large_room in
      let t = step_tells (rights_of b.readonly port) (held_bytes (port_of port b)) b.settings i room page p.large_room in
      let adds = step_adds (rights_of b.readonly port) (held_bytes (port_of port b)) b.settings i room page (port_few port b s) in
      let few = step_few (rights_of b.readonly port) (held_bytes (port_of port b)) b.settings i room page (port_few port b s) in
      let n = step_number (rights_of b.readonly port) (held_bytes (port_of port b)) b.settings i room page in
      record {
        refused = λ l. (let no : ⊥ = omega (arith, n, l) in absurd no);
        fed_port = λ l. with_fed port b this.held this.settings _;
        other_port_lem = λ l. with_other port b (port_holding this.held) this.settings _;
        other_totals = λ l. with_other_totals port b (port_holding this.held) this.settings _;
        saved = k.saved;
        unsaved = k.unsaved;
        board_sound = λ e. with_sound port b this.held this.settings _ s few k.settings_usable_lem;
        page_stays = λ e. sound_passes this.page k.page_kept-sound;
        reported = t.reported;
        all_taken = t.all_taken;
        no_error = t.no_error;
        no_save = t.no_save;
        room_same = t.room_same;
        page_same = t.page_same;
        settings_same = λ e. with_settings port b (port_holding this.held) this.settings _ ∙ t.settings_same e;
        sum = λ l. rw (with_held port b this.held this.settings (tally_after this port b)) adds.sum;
      }

  -- A number of the tests is 0, or one from 16 on.
  abbrev number : ℕ
  number = feed_number port b.first.held b.second.held b.settings room page

  pub by_number : (n : ℕ) → number ≡ n → (n ≡ 0 → ⊥) → 1 < n
  unfolding feed_number page_number
  by_number n e z =
      go (ltb 1 port) (unsound b.first.held b.second.held b.settings) (ltb (length room) reply_room) (not (eqb (length page) page_size)) (not (sound page)) n e z
    where
      go : (p u r l s : Bool) (n : ℕ) → refuse p 16 (refuse u 17 (refuse r 18 (refuse l 19 (refuse s 20 0)))) ≡ n → (n ≡ 0 → ⊥) → 1 < n
      go true u r l s n e z = omega (arith, e)
      go false true r l s n e z = omega (arith, e)
      go false false true l s n e z = omega (arith, e)
      go false false false true s n e z = omega (arith, e)
      go false false false false true n e z = omega (arith, e)
      go false false false false false n e z = absurd (z (sym e))

  kept_by : KeptBy (call_of port b i room page)
  unfolding call_of
  kept_by = go number refl
    where
      go : (n : ℕ) → number ≡ n → KeptBy (accept_on n port b i room page)
      go zero e = accepted_keeps (passed port b room page e)
      go (suc n) e = refused_keeps (suc n) (by_number (suc n) e (λ z. (let no : ⊥ = omega (arith, z) in absurd no)))

pub calls_keep : CallsKeep
calls_keep port b i room page =
    let k = kept_by port b i room page in
    record {
      refused = k.refused;
      profile = call_profile port b i room page;
      ports = λ l. record { fed_port = k.fed_port l; other_port_lem = k.other_port_lem l; other_totals = k.other_totals l };
      reported = λ e. (let r = k.reported e in record { reply = r.reply; whole = r.whole; fits = r.fits; room_after = r.room_after; first_error = r.first_error; known_error = r.known_error });
      used_up_lem = λ e. record { all_taken = k.all_taken e; no_error = k.no_error e; no_save = k.no_save e; room_same = k.room_same e; page_same = k.page_same e; settings_same = k.settings_same e };
      sum = k.sum;
      saved = λ e. (let s = k.saved e in record { before = s.before; size = s.size; good = s.good; found = s.found; at_least_one = s.some_puts; written = s.written });
      unsaved = k.unsaved;
      board_sound = k.board_sound;
      page_sound = k.page_stays;
    }

-- ---- the first number that applies

page_19 : (page : List ℕ) → (length page ≡ page_size → ⊥) → page_number page ≡ 19
unfolding page_number
page_19 page h = rw (ne_eqb (length page) page_size h)

page_20 : (page : List ℕ) → length page ≡ page_size → sound page ≡ false → page_number page ≡ 20
unfolding page_number
page_20 page l s = rw (eq-eqb (length page) page_size l, s)

page_0 : (page : List ℕ) → length page ≡ page_size → sound page ≡ true → page_number page ≡ 0
unfolding page_number
page_0 page l s = rw (eq-eqb (length page) page_size l, s)

module _ (port : ℕ) (b : Board) (i : Input) (room page : List ℕ) where
  told : (n : ℕ) → feed_number port b.first.held b.second.held b.settings room page ≡ suc n → (call_of port b i room page).answer.number ≡ suc n
  unfolding call_of
  told n e = rw e

  not_sound : is_sound b ≡ false → unsound b.first.held b.second.held b.settings ≡ true
  not_sound e = go (unsound b.first.held b.second.held b.settings) e
    where
      go : (u : Bool) → not u ≡ false → u ≡ true
      go true e = refl
      go false e = differ e

  is_sound_lem : is_sound b ≡ true → unsound b.first.held b.second.held b.settings ≡ false
  is_sound_lem e = not_not (unsound b.first.held b.second.held b.settings) e

  number_port : 1 < port → feed_number port b.first.held b.second.held b.settings room page ≡ 16
  unfolding feed_number
  number_port h = rw (lt-ltb 1 port h)

  number_board : port ≤ 1 → is_sound b ≡ false → feed_number port b.first.held b.second.held b.settings room page ≡ 17
  unfolding feed_number
  number_board p u = rw (le-ltb 1 port p, not_sound u)

  number_room : port ≤ 1 → is_sound b ≡ true → length room < reply_room → feed_number port b.first.held b.second.held b.settings room page ≡ 18
  unfolding feed_number
  number_room p u r = rw (le-ltb 1 port p, is_sound_lem u, lt-ltb (length room) reply_room r)

  number_page_lem : port ≤ 1 → is_sound b ≡ true → reply_room ≤ length room → feed_number port b.first.held b.second.held b.settings room page ≡ page_number page
  unfolding feed_number
  number_page_lem p u r = rw (le-ltb 1 port p, is_sound_lem u, le-ltb (length room) reply_room r)

  accepted_number : feed_number port b.first.held b.second.held b.settings room page ≡ 0 → (call_of port b i room page).answer.number ≤ 1
  unfolding call_of
  accepted_number e = rw e (step_number (rights_of b.readonly port) (held_bytes (port_of port b)) b.settings i room page)

  pub first_number_lem : FirstNumber port b i room page
  first_number_lem =
      record {
        wrong_port = λ h. told 15 (number_port h);
        unsound_board = λ p u. told 16 (number_board p u);
        small_room = λ p u r. told 17 (number_room p u r);
        wrong_length_lem = λ p u r l. told 18 (number_page_lem p u r ∙ page_19 page l);
        unsound_page = λ p u r l s. told 19 (number_page_lem p u r ∙ page_20 page l s);
        accepted = λ p u r l s. accepted_number (number_page_lem p u r ∙ page_0 page l s);
      }

pub first_numbers : FirstNumbers
first_numbers = first_number_lem

-- ---- starting

factory_sound : settings_usable factory_settings ≡ true
unfolding settings_usable
factory_sound = rw (factory_usable Baud, factory_usable Accelerometer, factory_usable Gyroscope)

pub range_sound : RangeSound
unfolding unsound settings_usable usable
range_sound profile range = twice (some_of (eqb range) gyroscope_ranges) ∙ sym (five_ranges range (leb 1 range && leb range 5) refl)
  where
    twice : (b : Bool) → not (not b) ≡ b
    twice true = refl
    twice false = refl

fresh-sound : (profile : Profile) (w : Settings) → settings_usable w ≡ true → is_sound (fresh_board profile w) ≡ true
fresh-sound profile w a = joined 0 0 w (record { first_few = omega arith; second_few = omega arith; usable_settings = a })

start_with : (profile : Profile) (page : List ℕ) (n : ℕ) → page_number page ≡ n → start_of profile page ≡ start_on n profile page
unfolding start_of
start_with profile page n e = rw e

started_sound : (profile : Profile) (page : List ℕ) → is_sound (start_of profile page).board ≡ true
unfolding start_of
started_sound profile page = go (page_number page) refl
  where
    go : (n : ℕ) → page_number page ≡ n → is_sound (start_on n profile page).board ≡ true
    go zero e = fresh-sound profile (settings_from page) (starts_usable (loaded_from page) (loads_usable page))
    go (suc n) e = fresh-sound profile factory_settings factory_sound

pub starts_keep : StartsKeep
starts_keep profile page =
    record {
      wrong_length_lem = λ h. start_with profile page 19 (page_19 page h);
      unsound_page = λ l s. start_with profile page 20 (page_20 page l s);
      started = λ l s. ap (λ (r : Started). r.number) (start_with profile page 0 (page_0 page l s));
      board_sound = started_sound profile page;
      profile_kept = start_profile profile page;
    }

-- ---- lists of calls

run-number : (port : ℕ) (b : Board) (i : Input) (room page : List ℕ) → is_sound b ≡ true → page_number page ≡ 0 → run_number (call_of port b i room page).answer.number ≡ true
run-number port b i room page s p = go (dec_lt 1 port) (dec_lt (length room) reply_room)
  where
    accepted : (n : ℕ) → n ≤ 1 → run_number n ≡ true
    accepted zero h = refl
    accepted (suc zero) h = refl
    accepted (suc (suc n)) h = let no : ⊥ = omega (arith, h) in absurd no

    go : Dec (1 < port) → Dec (length room < reply_room) → run_number (call_of port b i room page).answer.number ≡ true
    go (yes h) r = rw ((first_number_lem port b i room page).wrong_port h)
    go (no h) (yes r) = rw ((first_number_lem port b i room page).small_room (omega arith) s r)
    go (no h) (no r) = accepted _ (accepted_number port b i room page (number_page_lem port b i room page (omega arith) s (omega arith) ∙ p))

pub runs_stay_sound : RunsStaySound
unfolding calls_from
runs_stay_sound b page [] s p = record { numbers = refl; board_sound = s; page_sound = p }
runs_stay_sound b page (c ∷ cs) s p =
    let k = calls_keep c.port b c.input c.room page in
    let f : Feeding = call_of c.port b c.input c.room page in
    let rest = runs_stay_sound f.answer.board f.page cs (k.board_sound s) (k.page_sound p) in
    record { numbers = rw (run-number c.port b c.input c.room page s p) rest.numbers; board_sound = rest.board_sound; page_sound = rest.page_sound }
