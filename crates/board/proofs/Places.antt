-- The laws of a step in place: what a call finds lies in the bytes held and taken, and what is left of them fits the port.
use Prim.Native.Nat.{ℕ, zero, suc, ◌+◌, ◌-◌, ◌≤◌}
use native.Mathlib.Omega.{arith}
use mathlib.Core.Path.{◌≡◌, refl, sym, ap, ◌∙◌}
use mathlib.Core.Bool.{Bool, true, false, ◌||◌, not}
use mathlib.Core.List.{List, ◌++◌}
use lib.Dec.{ltb}
use lib.ListN.{length, take, drop, length-drop}
use lib.Seq.{take_all, length-take-le, take-append-add}
use borrow.Author.Tests.{ltb-false}
use Rattle.stream.proofs.Bools.{or_neither}
use Rattle.stream.specs.declared.Sought.{Sought}
use Rattle.stream.specs.declared.Sought.TheVariants.{Starved, Found}
use Rattle.stream.specs.Seek.{seek, resume, skipped_by}
use Rattle.stream.specs.Silence.{end_of, up_to}
use Rattle.stream.specs.Cutting.{Sized}
use Rattle.stream.proofs.Cuts.{starved_goes}
use Rattle.stream.proofs.Drains.{drain_all}
use Rattle.stream.proofs.Scans.{found_is, starved_is}
use Rattle.history.specs.Calls.{Input, chunk_of}
use Rattle.message.specs.Front.{front, most_undecided}
use Rattle.message.specs.Whole.{refuse}
use Rattle.message.proofs.Framed.{cutting_harmless}
use Rattle.command.specs.declared.rights.Rights.{Rights}
use Rattle.command.specs.declared.settings.Settings.{Settings}
use Rattle.command.specs.Outcome.{received_of}
use Rattle.command.specs.declared.answer.Answer.{Answer}
use Rattle.command.specs.Answer.{Answering, answering}
use Rattle.command.specs.Effects.{settings_usable}
use Rattle.totals.specs.declared.Tally.{Tally}
use Rattle.totals.specs.Tally.{counted_of}
use Rattle.board.specs.Profile.{rights_of}
use Rattle.board.specs.declared.feeding.Stepped.{Stepped}
use Rattle.board.specs.declared.board.Board.{Board}
use Rattle.board.specs.declared.port.Port.{Port}
use Rattle.board.specs.Port.{padded, held_bytes, port_holding, port_of, tally_at, with_port}
use Rattle.board.specs.Feed.{input_of, Feeding, PortStep, unsound, feed_number, refused_feeding, accept_on, left_of, step_on, step_by, step_at, feed_on, call_of}
use Rattle.board.specs.Place.{Stepping, in_place}
use Rattle.board.proofs.Kept.{window_length}
use Rattle.command.proofs.Rests.{drop-take}

-- Where reading goes on after a message of n bytes at k.
module _ (k n : ℕ) (some : 1 ≤ n) where
  pub resume_in : (good : Bool) → resume k n good ≤ k + n
  resume_in true = omega arith
  resume_in false = omega arith

  pub resume_past : (good : Bool) → suc k ≤ resume k n good
  resume_past true = omega arith
  resume_past false = omega arith

module _ (b chunk : List ℕ) (held : ℕ) (few : held ≤ 260) (long : length b ≡ 260) where
  row_long : length (take held b ++ chunk) ≡ held + length chunk
  row_long = window_length b chunk held few long

  held_long : length (take held b) ≡ held
  held_long = length-take-le held b (omega arith)

  -- ---- nothing found

  module _ (k : ℕ) where
    pub starved_long : held + length chunk - k ≡ length (drop k (take held b ++ chunk))
    starved_long = sym (length-drop k (take held b ++ chunk) ∙ ap (λ (i : ℕ). i - k) row_long)

    pub starved_answer : (w : Settings) → ◌≡◌ {A = Stepped}
        (record { number = 1; taken = length chunk; skipped = k; error = 0; saved = false; held = held + length chunk - k; settings = w })
        (record { number = 1; taken = length chunk; skipped = k; error = 0; saved = false; held = length (drop k (take held b ++ chunk)); settings = w })
    starved_answer w = rw starved_long

    pub starved_kept : (y : List ℕ) → y ≡ padded (take (held + length chunk - k) (drop k (take held b ++ chunk))) → y ≡ padded (drop k (take held b ++ chunk))
    starved_kept y ys = ys ∙ ap padded (take_all (held + length chunk - k) (drop k (take held b ++ chunk)) (omega (arith, starved_long)))

  -- ---- a message found

  module _ (k n : ℕ) (good : Bool) (some : 1 ≤ n) (most : n ≤ 261) (inside : k + n ≤ held + length chunk) where
    pub found_at : k ≤ held + length chunk
    found_at = omega arith

    pub found_step_lem : (rights : Rights) (w : Settings) (room page : List ℕ) (a : Answer) (room_after page_after : List ℕ)
        → record { answer = a; room = room_after; page = page_after } ≡ answering rights (received_of good (drop k (take held b ++ chunk))) w room page
        → (l : ℕ) → l ≡ length (left_of k n good (take held b) chunk)
        → (y : List ℕ) → y ≡ padded (left_of k n good (take held b) chunk)
        → (r : Stepped) → r ≡ record { number = 0; taken = k + n - held; skipped = skipped_by k good; error = a.error; saved = a.saved; held = l; settings = a.settings }
        → record { step = r; bytes = y; room = room_after; page = page_after } ≡ in_place (step_on rights (Found k n good) (take held b) w chunk room page)
    found_step_lem rights w room page a room_after page_after g l ls y ys r rs =
        let h : k + n - length (take held b) ≡ k + n - held = ap (λ (i : ℕ). k + n - i) held_long in
        rw (rs, ys, ls, ← h)
        (ap (λ (g : Answering). record {
          step = record { number = 0; taken = k + n - length (take held b); skipped = skipped_by k good; error = g.answer.error; saved = g.answer.saved; held = length (left_of k n good (take held b) chunk); settings = g.answer.settings };
          bytes = padded (left_of k n good (take held b) chunk);
          room = g.room;
          page = g.page;
        }) g)

    -- What is kept: from..to of the row.
    module _ (from x : ℕ) (fs : from ≡ resume k n good) (xs : x ≡ k + n - held) where
      pub kept_after : from ≤ held + x
      kept_after = omega (arith, fs, xs, resume_in k n some good)

      pub kept_inside : held + x ≤ held + length chunk
      kept_inside = omega (arith, xs, inside)

      pub kept_few : held + x - from ≤ 260
      kept_few = omega (arith, few, fs, xs, resume_past k n some good, most)

      row_to : take held b ++ take (k + n - length (take held b)) chunk ≡ take (held + x) (take held b ++ chunk)
      row_to =
          let h : held + x ≡ length (take held b) + (k + n - length (take held b)) = omega (arith, xs, held_long) in
          sym (ap (λ (i : ℕ). take i (take held b ++ chunk)) h ∙ take-append-add (take held b) chunk (k + n - length (take held b)))

      left_is : left_of k n good (take held b) chunk ≡ take (held + x - from) (drop from (take held b ++ chunk))
      left_is =
          ap (drop (resume k n good)) row_to
          ∙ ap (λ (i : ℕ). drop i (take (held + x) (take held b ++ chunk))) (sym fs)
          ∙ drop-take from (held + x) (take held b ++ chunk)

      pub left_long : held + x - from ≡ length (left_of k n good (take held b) chunk)
      left_long = sym (ap length left_is ∙ length-take-le (held + x - from) (drop from (take held b ++ chunk)) (omega (arith, length-drop from (take held b ++ chunk), row_long, kept_inside)))

      pub left_kept : (y : List ℕ) → y ≡ padded (take (held + x - from) (drop from (take held b ++ chunk))) → y ≡ padded (left_of k n good (take held b) chunk)
      left_kept y ys = ys ∙ ap padded (sym left_is)

-- ---- by where the scan of a call ends

module _ (b chunk : List ℕ) (held : ℕ) (few : held ≤ 260) (long : length b ≡ 260) (quiet : Bool) (q : Sought)
    (is : q ≡ seek (up_to (end_of quiet) front) (take held b ++ chunk)) where
  row : length (take held b ++ chunk) ≡ held + length chunk
  row = row_long b chunk held few long

  module _ (k : ℕ) (e : q ≡ Starved k) where
    -- An undecided front is short; and before a mark nothing is left.
    left_few : length (drop k (take held b ++ chunk)) ≤ 260
    left_few = go quiet (sym is ∙ e)
      where
        go : (quiet : Bool) → seek (up_to (end_of quiet) front) (take held b ++ chunk) ≡ Starved k → length (drop k (take held b ++ chunk)) ≤ 260
        go false h = (starved_goes cutting_harmless (take held b ++ chunk) k h).few
        go true h = omega (arith, drain_all cutting_harmless (take held b ++ chunk) k h, length-drop k (take held b ++ chunk))

    pub starved_in : k ≤ held + length chunk
    starved_in = omega (arith, row, (starved_is (cutting_harmless.scanning (end_of quiet)) (take held b ++ chunk) k (sym is ∙ e)).inside)

    pub starved_few : held + length chunk - k ≤ 260
    starved_few = omega (arith, row, left_few, length-drop k (take held b ++ chunk))

    pub starved_step : (rights : Rights) (w : Settings) (room page y : List ℕ) (r : Stepped)
        → r ≡ record { number = 1; taken = length chunk; skipped = k; error = 0; saved = false; held = length (drop k (take held b ++ chunk)); settings = w }
        → y ≡ padded (drop k (take held b ++ chunk))
        → record { step = r; bytes = y; room = room; page = page } ≡ in_place (step_at rights quiet (take held b) w chunk room page)
    starved_step rights w room page y r rs ys = rw (← is, e, rs, ys)

  module _ (k n : ℕ) (good : Bool) (e : q ≡ Found k n good) where
    sized : Sized most_undecided (take held b ++ chunk) k n
    sized = (found_is (cutting_harmless.scanning (end_of quiet)) (take held b ++ chunk) k n good (sym is ∙ e)).sized

    pub found_some : 1 ≤ n
    found_some = sized.some

    pub found_most : n ≤ 261
    found_most = sized.most

    pub found_in : k + n ≤ held + length chunk
    found_in = omega (arith, row, sized.inside)

    pub found_whole : (rights : Rights) (w : Settings) (room page : List ℕ) (x : Stepping)
        → x ≡ in_place (step_on rights (Found k n good) (take held b) w chunk room page)
        → x ≡ in_place (step_at rights quiet (take held b) w chunk room page)
    found_whole rights w room page x xs = rw (← is, e) xs

-- ---- the bytes that a call brings

module _ (quiet : Bool) (chunk : List ℕ) where
  pub brings_none : quiet ≡ true → 0 ≡ length (chunk_of (input_of quiet chunk))
  brings_none e = rw e

  pub brings_all : quiet ≡ false → length chunk ≡ length (chunk_of (input_of quiet chunk))
  brings_all e = rw e

module _ (quiet : Bool) (chunk : List ℕ) (brings : ℕ) (bs : brings ≡ length (chunk_of (input_of quiet chunk))) where
  pub brings_inside : brings ≤ length chunk
  brings_inside = rw bs (go quiet)
    where
      go : (quiet : Bool) → length (chunk_of (input_of quiet chunk)) ≤ length chunk
      go true = omega arith
      go false = omega arith

  pub step_brings : (rights : Rights) (held : List ℕ) (w : Settings) (room page : List ℕ)
      → step_at rights quiet held w (take (brings - 0) (drop 0 chunk)) room page ≡ step_by rights held w (input_of quiet chunk) room page
  unfolding step_by
  step_brings rights held w room page = rw bs (go quiet)
    where
      go : (quiet : Bool) → step_at rights quiet held w (take (length (chunk_of (input_of quiet chunk)) - 0) chunk) room page ≡ step_by rights held w (input_of quiet chunk) room page
      go true = refl
      go false = rw (take_all (length chunk - 0) chunk (omega arith))

-- ---- the step put back into the board

abbrev fed_by : ℕ → Board → Stepping → Tally → Feeding
fed_by q b x t =
    record {
      answer = record {
        number = x.step.number;
        taken = x.step.taken;
        skipped = x.step.skipped;
        error = x.step.error;
        saved = x.step.saved;
        board = with_port q b (record { bytes = x.bytes; held = x.step.held }) x.step.settings t;
      };
      room = x.room;
      page = x.page;
    }

abbrev counted_by : Tally → ℕ → Stepped → Tally
counted_by t held r = counted_of t r.number r.taken r.skipped r.error held r.held

-- A port with its totals after a step, put back: the board of the call.
fed_port : (q : ℕ) (b : Board) (s : PortStep) (r : Stepped) (p : Port) (t : Tally) (room page : List ℕ)
    → record { step = r; bytes = p.bytes; room = room; page = page } ≡ in_place s → p.held ≡ r.held
    → t ≡ counted_by (tally_at q b) (port_of q b).held r
    → record {
      answer = record { number = r.number; taken = r.taken; skipped = r.skipped; error = r.error; saved = r.saved; board = with_port q b p r.settings t };
      room = room;
      page = page;
    } ≡ feed_on s q b
unfolding port_holding
fed_port q b s r p t room page e h c =
    ap (λ (n : ℕ). fed_by q b (record { step = record r { held = n }; bytes = p.bytes; room = room; page = page }) t) h
    ∙ rw c (ap (λ (x : Stepping). fed_by q b x (counted_by (tally_at q b) (port_of q b).held x.step)) e)

-- ---- the tests, then the port

pub passes : (a : Bool) (n next : ℕ) → refuse a (suc n) next ≡ 0 → (a ≡ false) × (next ≡ 0)
passes true n next h =
    let no : ⊥ = omega (arith, h) in
    absurd no
passes false n next h = (refl, h)

module _ (port : ℕ) (b : Board) (room page : List ℕ) (n : ℕ) (ns : n ≡ feed_number port b.first.held b.second.held b.settings room page) where
  sound : n ≡ 0 → (ltb 260 b.first.held ≡ false) × (ltb 260 b.second.held ≡ false)
  unfolding feed_number unsound
  sound z =
      let t : (ltb 1 port ≡ false) × _ = passes (ltb 1 port) 15 _ (sym ns ∙ z) in
      let u : (unsound b.first.held b.second.held b.settings ≡ false) × _ = passes (unsound b.first.held b.second.held b.settings) 16 _ t.1 in
      let o = or_neither (ltb 260 b.first.held || ltb 260 b.second.held) (not (settings_usable b.settings)) u.0 in
      or_neither (ltb 260 b.first.held) (ltb 260 b.second.held) o.0

  pub first_sound : n ≡ 0 → b.first.held ≤ 260
  first_sound z = ltb-false 260 b.first.held (sound z).0

  pub second_sound : n ≡ 0 → b.second.held ≤ 260
  second_sound z = ltb-false 260 b.second.held (sound z).1

  module _ (i : Input) where
    pub feed_refused : (n ≡ 0 → ⊥) → record { answer = record { number = n; taken = 0; skipped = 0; error = 0; saved = false; board = b }; room = room; page = page } ≡ call_of port b i room page
    unfolding call_of
    feed_refused h = rw (← ns) (go n h)
      where
        go : (n : ℕ) → (n ≡ 0 → ⊥) → refused_feeding n b room page ≡ accept_on n port b i room page
        go zero h = absurd (h refl)
        go (suc n) h = refl

  -- `brings` bytes of the chunk are handed on.
  module _ (quiet : Bool) (chunk : List ℕ) (brings : ℕ) (bs : brings ≡ length (chunk_of (input_of quiet chunk))) (r : Stepped) (room_after page_after : List ℕ) where
    -- `q` is the port's number in the form of its case.
    pub call_done : n ≡ 0 → (rights : Rights) → rights ≡ rights_of b.readonly port → (q : ℕ) → port ≡ q → (p : Port) (t : Tally)
        → record { step = r; bytes = p.bytes; room = room_after; page = page_after } ≡ in_place (step_at rights quiet (held_bytes (port_of q b)) b.settings (take (brings - 0) (drop 0 chunk)) room page)
        → p.held ≡ r.held
        → t ≡ counted_by (tally_at q b) (port_of q b).held r
        → record {
          answer = record { number = r.number; taken = r.taken; skipped = r.skipped; error = r.error; saved = r.saved; board = with_port q b p r.settings t };
          room = room_after;
          page = page_after;
        } ≡ call_of port b (input_of quiet chunk) room page
    unfolding call_of
    call_done z rights rs q ps p t e h c =
        fed_port q b _ r p t room_after page_after e h c
        ∙ rw (← ns, z, step_brings quiet chunk brings bs rights (held_bytes (port_of q b)) b.settings room page, rs, ps)
