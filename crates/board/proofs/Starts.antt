-- Starting, and the tests of a feed, case by case.
use Prim.Native.Nat.{ℕ, zero, suc, ◌+◌, ◌-◌, ◌≤◌, ◌<◌}
use native.Mathlib.Omega.{arith}
use native.Mathlib.Decide.{dec_lt}
use native.Mathlib.Numerals.{add-one}
use mathlib.Core.Path.{◌≡◌, refl, sym, ap, ◌∙◌}
use mathlib.Core.Bool.{Bool, true, false, not}
use mathlib.Core.List.{List, ◌++◌}
use lib.ListN.{length, take, drop, replicate, length-drop}
use lib.Seq.{take_all, drop-append-le, length-take-le}
use borrow.Author.Tests.{lt-ltb, le-ltb, eq-eqb, ne_eqb}
use Rattle.stream.specs.Seek.{resume, skipped_by}
use Rattle.message.proofs.Windows.{drop_chunk}
use Rattle.page.specs.Sound.{page_number}
use Rattle.command.proofs.Rests.{drop-take}
use Rattle.command.specs.declared.rights.Rights.{Rights}
use Rattle.command.specs.declared.settings.Settings.{Settings}
use Rattle.command.specs.declared.answer.Answer.{Answer}
use Rattle.command.specs.Outcome.{received_of}
use Rattle.command.specs.Answer.{Answering, answering}
use Rattle.command.specs.Effects.{settings_usable}
use Rattle.totals.specs.declared.Tally.{Tally}
use Rattle.totals.specs.Tally.{zero_tally}
use Rattle.board.specs.Profile.{Profile, full, rights_of}
use Rattle.board.specs.declared.feeding.Stepped.{Stepped}
use Rattle.board.specs.declared.port.Port.{Port}
use Rattle.board.specs.Port.{fresh_port}
use Rattle.board.specs.Start.{factory_settings, fresh_board, start_on, start_of, start_place_of}
use Rattle.board.specs.Feed.{unsound, feed_number}

-- ---- starting

module _ (profile : Profile) (page : List ℕ) (n : ℕ) (ns : n ≡ page_number page) (w : Settings) (ws : w ≡ (start_on n full page).board.settings) where
  pub start_made : record { number = n; board = fresh_board profile w } ≡ start_of profile page
  unfolding start_of
  start_made = rw (ws, ← ns) (go n)
    where
      go : (n : ℕ) → record { number = n; board = fresh_board profile (start_on n full page).board.settings } ≡ start_on n profile page
      go zero = refl
      go (suc n) = refl

  pub start_fresh : (a b : Port) → a ≡ fresh_port → b ≡ fresh_port → (x y : Tally) → x ≡ zero_tally → y ≡ zero_tally
      → record { number = n; board = record { first = a; second = b; settings = w; readonly = profile; tally0 = x; tally1 = y } } ≡ start_of profile page
  start_fresh a b p q x y u v = rw (p, q, u, v) start_made

  module _ (first second : List ℕ) (fs : length first ≡ 260) (ss : length second ≡ 260) where
    pub place_made : (a b : List ℕ) → a ≡ take 0 first ++ replicate (260 - 0) 0 → b ≡ take 0 second ++ replicate (260 - 0) 0
        → record { answer = record { settings = w; number = n; readonly = profile }; first = a; second = b } ≡ start_place_of profile first second page
    unfolding start_place_of
    place_made a b p q = rw (eq-eqb (length first) 260 fs, eq-eqb (length second) 260 ss, ← start_made, p, q)

module _ (profile : Profile) (first second page : List ℕ) (w : Settings) (ws : w ≡ factory_settings) where
  pub place_first : (length first ≡ 260 → ⊥) → record { answer = record { settings = w; number = 17; readonly = profile }; first = first; second = second } ≡ start_place_of profile first second page
  unfolding start_place_of
  place_first h = rw (ne_eqb (length first) 260 h, ws)

  pub place_second : length first ≡ 260 → (length second ≡ 260 → ⊥)
      → record { answer = record { settings = w; number = 17; readonly = profile }; first = first; second = second } ≡ start_place_of profile first second page
  unfolding start_place_of
  place_second e h = rw (eq-eqb (length first) 260 e, ne_eqb (length second) 260 h, ws)

-- ---- the rights of a port

pub first_rights : (profile : Profile) (port : ℕ) → port ≡ 0 → record { guarded = true; readonly = false } ≡ rights_of profile port
first_rights profile port e = rw e

pub second_rights : (profile : Profile) (port : ℕ) → (port ≡ 0 → ⊥) → record { guarded = false; readonly = profile } ≡ rights_of profile port
second_rights profile zero n = absurd (n refl)
second_rights profile (suc p) n = refl

-- ---- the tests of a feed

module _ (port first second : ℕ) (w : Settings) (room page : List ℕ) where
  pub number_16 : 1 < port → 16 ≡ feed_number port first second w room page
  unfolding feed_number
  number_16 h = rw (lt-ltb 1 port h)

  module _ (p : port ≤ 1) where
    pub number_first : 260 < first → 17 ≡ feed_number port first second w room page
    unfolding feed_number unsound
    number_first h = rw (le-ltb 1 port p, lt-ltb 260 first h)

    module _ (a : first ≤ 260) where
      pub number_second : 260 < second → 17 ≡ feed_number port first second w room page
      unfolding feed_number unsound
      number_second h = rw (le-ltb 1 port p, le-ltb 260 first a, lt-ltb 260 second h)

      module _ (b : second ≤ 260) (s : Bool) (ss : s ≡ settings_usable w) where
        pub number_settings : not s ≡ true → 17 ≡ feed_number port first second w room page
        unfolding feed_number unsound
        number_settings h = rw (le-ltb 1 port p, le-ltb 260 first a, le-ltb 260 second b, ← ss, h)

        module _ (h : not s ≡ false) where
          pub number_18 : length room < 166 → 18 ≡ feed_number port first second w room page
          unfolding feed_number unsound
          number_18 l = rw (le-ltb 1 port p, le-ltb 260 first a, le-ltb 260 second b, ← ss, h, lt-ltb (length room) 166 l)

          pub number_page_lem : 166 ≤ length room → (n : ℕ) → n ≡ page_number page → n ≡ feed_number port first second w room page
          unfolding feed_number unsound
          number_page_lem l n e = rw (le-ltb 1 port p, le-ltb 260 first a, le-ltb 260 second b, ← ss, h, le-ltb (length room) 166 l) e

-- ---- a message's place

module _ (k n : ℕ) (good : Bool) where
  pub resume-good : good ≡ true → k + n ≡ resume k n good
  resume-good e = rw e

  pub resume-damaged : good ≡ false → k + 1 ≡ resume k n good
  resume-damaged e = rw (e, add-one)

module _ (k : ℕ) (good : Bool) where
  pub skipped_damaged : good ≡ false → k + 1 ≡ skipped_by k good
  skipped_damaged e = rw (e, add-one)

-- What a step answers that found a message: what it took and skipped is what these say.
pub found_reported : (held k n left : ℕ) (good : Bool) (a : Answer) (taken skipped : ℕ) → taken ≡ k + n - held → skipped ≡ skipped_by k good
    → ◌≡◌ {A = Stepped} (record { number = 0; taken = taken; skipped = skipped; error = a.error; saved = a.saved; held = left; settings = a.settings })
    (record { number = 0; taken = k + n - held; skipped = skipped_by k good; error = a.error; saved = a.saved; held = left; settings = a.settings })
found_reported held k n left good a taken skipped p q = rw (p, q)

module _ (bytes chunk : List ℕ) (held k : ℕ) (good : Bool) (fits : held ≤ length bytes) where
  held_long : length (take held bytes) ≡ held
  held_long = length-take-le held bytes fits

  -- What k bytes leave of those held and of the chunk.
  row-held : k < held → take (held - k) (drop k bytes) ++ chunk ≡ drop k (take held bytes ++ chunk)
  row-held h =
      sym (drop-append-le k (take held bytes) chunk (rw held_long (omega arith)) ∙ ap (λ (l : List ℕ). l ++ chunk) (drop-take k held bytes))

  row_chunk : held ≤ k → drop (k - held) chunk ≡ drop k (take held bytes ++ chunk)
  row_chunk h = rw held_long at (drop_chunk (take held bytes) chunk k (rw held_long h))

  row_left : (x past : ℕ) → x ≡ held - k → past ≡ k - held
      → take (held - (held - x)) (drop (held - x) bytes) ++ take (length chunk - past) (drop past chunk) ≡ drop k (take held bytes ++ chunk)
  row_left x past xs ps = rw (take_all (length chunk - past) (drop past chunk) (rw length-drop (omega arith))) (go (dec_lt k held))
    where
      go : Dec (k < held) → take (held - (held - x)) (drop (held - x) bytes) ++ drop past chunk ≡ drop k (take held bytes ++ chunk)
      go (yes h) =
          let f : held - x ≡ k = omega arith in
          let p : past ≡ 0 = omega arith in
          rw (f, p) (row-held h)
      go (no h) =
          let f : held - (held - x) ≡ 0 = omega arith in
          rw (f, ps) (row_chunk (omega arith))

  pub answer_left : (rights : Rights) (x past : ℕ) → x ≡ held - k → past ≡ k - held → (w : Settings) (room page : List ℕ) (done : Answering)
      → done ≡ answering rights (received_of good (take (held - (held - x)) (drop (held - x) bytes) ++ take (length chunk - past) (drop past chunk))) w room page
      → done ≡ answering rights (received_of good (drop k (take held bytes ++ chunk))) w room page
  answer_left rights x past xs ps w room page done h = h ∙ ap (λ (m : List ℕ). answering rights (received_of good m) w room page) (row_left x past xs ps)
