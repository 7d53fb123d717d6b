-- A call of the board is a call of the program that keeps only held bytes.
use mathlib.Core.Bool.{Bool, true, false, ◌||◌, not}
use mathlib.Core.List.{List, [], ◌++◌}
use mathlib.Core.Path.{◌≡◌, refl, sym, ap, subst, ◌∙◌}
use Prim.Native.Nat.{ℕ, zero, suc, ◌+◌, ◌-◌, ◌%◌, ◌≤◌}
use native.Mathlib.Omega.{arith}
use lib.Dec.{eqb, ltb}
use lib.ListN.{length, take, drop}
use lib.Seq.{take-append_seam}
use borrow.Author.Tests.{ltb-false}
use Rattle.stream.specs.declared.Sought.{Sought}
use Rattle.stream.specs.declared.Sought.TheVariants.{Starved, Found}
use Rattle.stream.specs.Seek.{resume, skipped_by}
use Rattle.history.specs.Calls.{chunk_of, Step, State, Turn, refused, settled, accept}
use Rattle.history.specs.Calls.{refuse as refuse_step, port_of as kept_port}
use Rattle.history.specs.Program.{sought_by, held_on, held_call, held_step}
use Rattle.message.specs.Front.{front}
use Rattle.message.specs.Message.{message_of, length_of}
use Rattle.message.proofs.Writes.{message_length}
use Rattle.message.specs.Whole.{refuse}
use Rattle.page.specs.Page.{page_size}
use Rattle.page.specs.Sound.{sound, page_number}
use Rattle.command.specs.declared.settings.Settings.{Settings}
use Rattle.totals.specs.declared.Tally.{Tally}
use Rattle.command.specs.Outcome.{Received, received_of}
use Rattle.command.specs.Answer.{page_access, Answering, answering, reply_room}
use Rattle.command.proofs.Rows.{message_most}
use Rattle.command.proofs.Pages.{answer_large}
use Rattle.command.specs.Effects.{settings_usable}
use Rattle.command.specs.Numbered.{carried}
use Rattle.board.specs.Profile.{rights_of}
use Rattle.board.specs.declared.port.Port.{Port}
use Rattle.board.specs.declared.board.Board.{Board}
use Rattle.board.specs.Port.{held_bytes, port_holding, port_of, with_port}
use Rattle.board.specs.Feed.{Feeding, PortStep, left_of, unsound, feed_number, refused_feeding, step_on, step_by, feed_on, accept_on, call_of}
use Rattle.board.specs.Handling.{Kept, handle_on, handle_message, kept_tests}
use Rattle.board.specs.Runs.{Call, call_from, Told, reply_in}
use Rattle.board.specs.Histories.{carried_at, accepted_with, accepted_by}
use Rattle.board.specs.Restarts.{carried_by}
use Rattle.board.proofs.Follows.{holding, with_profile, found_visible}

-- The board and its page, as that program keeps them.
abbrev pub state_of : Board → List ℕ → State (List ℕ) Kept
state_of b page = record { port0 = held_bytes b.first; port1 = held_bytes b.second; values = record { settings = b.settings; page = page } }

-- Each port is that of its held bytes, with zeros past them.
pub record Padded (b : Board) : Type 0 where
  pub first : b.first ≡ port_holding (held_bytes b.first)
  pub second : b.second ≡ port_holding (held_bytes b.second)

-- So its count is that of the bytes.
pub count_is : (p : Port) → p ≡ port_holding (held_bytes p) → p.held ≡ length (held_bytes p)
unfolding port_holding
count_is p e = ap (λ (q : Port). q.held) e

-- What a call gives, against a step of that program.
pub record Same (b : Board) (c : Call) (f : Feeding) (s : Step (State (List ℕ) Kept)) : Type 0 where
  pub told : Told c f s.answer
  pub state : s.state ≡ state_of f.answer.board f.page
  pub padded : Padded f.answer.board
  pub profile : f.answer.board.readonly ≡ b.readonly
  pub reply : reply_in f.answer.number f.room ≡ s.answer.reply
  pub accepted : accepted_by b c f ≡ accepted_with s.answer.saved (carried_by s.answer.reports)

holding-padded : (bs : List ℕ) → port_holding bs ≡ port_holding (held_bytes (port_holding bs))
holding-padded bs = ap port_holding (sym (holding bs))

-- A port put in place of one of the two.
with_padded : (port : ℕ) (b : Board) (bs : List ℕ) (w : Settings) (t : Tally) → Padded b → Padded (with_port port b (port_holding bs) w t)
with_padded zero b bs w t k = record { first = holding-padded bs; second = k.second }
with_padded (suc p) b bs w t k = record { first = k.first; second = holding-padded bs }

-- A reply at the front of a room is told by its length byte.
length_told : (kind : ℕ) (p rest : List ℕ) → length p ≤ 255 → length_of (message_of kind p ++ rest) + 6 ≡ length p + 6
unfolding message_of
length_told kind p rest h = let small : length p % 256 ≡ length p = omega arith in ap (λ (i : ℕ). i + 6) small

message_front : (kind : ℕ) (p rest : List ℕ) → length p ≤ 255 → reply_in 0 (message_of kind p ++ rest) ≡ message_of kind p
message_front kind p rest h =
    ap (λ (i : ℕ). take i (message_of kind p ++ rest)) (length_told kind p rest h ∙ sym (message_length kind p)) ∙ take-append_seam (message_of kind p) rest

-- ---- an accepted call, by where its scan ends

-- A call with a room of 166 bytes or more.
module _ (b : Board) (page : List ℕ) (c : Call) (k : Padded b) (large : reply_room ≤ length c.room) where
  abbrev held : List ℕ
  held = held_bytes (port_of c.port b)

  abbrev turn : Sought → Turn (List ℕ) Kept
  turn q = held_on front (handle_message b.readonly) q c.port held (record { settings = b.settings; page = page }) (chunk_of c.input)

  -- The state after a turn is that of the board with the fed port anew.
  state_after : (port : ℕ) (t : Turn (List ℕ) Kept) (y : Tally) → settled port (state_of b page) t ≡ state_of (with_port port b (port_holding t.port) t.values.settings y) t.values.page
  state_after zero t y = rw (holding t.port)
  state_after (suc p) t y = rw (holding t.port)

  -- The step of a message that is found, with its answer.
  abbrev found_step : ℕ → ℕ → Bool → Answering → PortStep
  found_step i n good a =
      record {
        number = 0;
        taken = i + n - length held;
        skipped = skipped_by i good;
        error = a.answer.error;
        saved = a.answer.saved;
        held = left_of i n good held (chunk_of c.input);
        settings = a.answer.settings;
        room = a.room;
        page = a.page;
      }

  accepted : (q : Sought) → sought_by front c.input held ≡ q
      → Same b c (feed_on (step_on (rights_of b.readonly c.port) q held b.settings (chunk_of c.input) c.room page) c.port b) (accept c.port (state_of b page) (turn q))
  unfolding held_on handle_on
  accepted (Starved i) e =
      record {
        told = record { number = refl; taken = refl; skipped = refl; error = refl; saved = refl; room = refl };
        state = state_after c.port (turn (Starved i)) _;
        padded = with_padded c.port b (drop i (held ++ chunk_of c.input)) b.settings _ k;
        profile = with_profile c.port b _ _ _;
        reply = refl;
        accepted = refl;
      }
  accepted (Found i n good) e =
      let chunk : List ℕ = chunk_of c.input in
      let visible : List ℕ = held ++ take (i + n - length held) chunk in
      let same : received_of good (drop i (held ++ chunk)) ≡ received_of good (take n (drop i visible)) = found_visible held c.input i n good e in
      let answer = ap (λ (m : Received). answering (rights_of b.readonly c.port) m b.settings c.room page) same ∙ answer_large (rights_of b.readonly c.port) (received_of good (take n (drop i visible))) b.settings c.room page large in
      subst (λ (a : Answering). Same b c (feed_on (found_step i n good a) c.port b) (accept c.port (state_of b page) (turn (Found i n good)))) (sym answer)
      (record {
        told = record { number = refl; taken = refl; skipped = refl; error = refl; saved = refl; room = refl };
        state = state_after c.port (turn (Found i n good)) _;
        padded = with_padded c.port b (drop (resume i n good) visible) _ _ k;
        profile = with_profile c.port b _ _ _;
        reply = message_front _ _ _ (omega (arith, message_most page_access (rights_of b.readonly c.port) (record { settings = b.settings; page = page }) (received_of good (take n (drop i visible)))));
        accepted = ap (accepted_with (turn (Found i n good)).answer.saved) (ap (λ (q : Sought). carried_at q (held ++ chunk)) e ∙ ap carried same);
      })

-- ---- any call

-- That program's step, where its five tests come out so.
abbrev step_with : Bool → Bool → Bool → Bool → Bool → Board → List ℕ → Call → Step (State (List ℕ) Kept)
step_with a u r d e b page c =
    let s : State (List ℕ) Kept = state_of b page in
    refuse_step a 16 s
    (refuse_step u 17 s
    (refuse_step r 18 s
    (refuse_step d 19 s
    (refuse_step e 20 s
    (accept c.port s (held_call front (handle_message b.readonly) c.port (held_bytes (port_of c.port b)) (record { settings = b.settings; page = page }) c.input))))))

port_held : (port : ℕ) (b : Board) (page : List ℕ) → kept_port port (state_of b page) ≡ held_bytes (port_of port b)
port_held zero b page = refl
port_held (suc p) b page = refl

module _ (b : Board) (page : List ℕ) (c : Call) (k : Padded b) where
  refused-same : (n : ℕ) → reply_in n c.room ≡ [] → Same b c (refused_feeding n b c.room page) (record { answer = refused n; state = state_of b page })
  refused-same n e = record { told = record { number = refl; taken = refl; skipped = refl; error = refl; saved = refl; room = refl }; state = refl; padded = k; profile = refl; reply = e; accepted = refl }

  on_tests : (a u r d e : Bool) → ltb (length c.room) reply_room ≡ r
      → Same b c (accept_on (refuse a 16 (refuse u 17 (refuse r 18 (refuse d 19 (refuse e 20 0))))) c.port b c.input c.room page) (step_with a u r d e b page c)
  unfolding held_call step_by
  on_tests true u r d e h = refused-same 16 refl
  on_tests false true r d e h = refused-same 17 refl
  on_tests false false true d e h = refused-same 18 refl
  on_tests false false false true e h = refused-same 19 refl
  on_tests false false false false true h = refused-same 20 refl
  on_tests false false false false false h =
      accepted b page c k (ltb-false (length c.room) reply_room h) (sought_by front c.input (held_bytes (port_of c.port b))) refl

  unsound_is : unsound b.first.held b.second.held b.settings ≡ ltb 260 (length (held_bytes b.first)) || ltb 260 (length (held_bytes b.second)) || not (settings_usable b.settings)
  unfolding unsound
  unsound_is =
      ap (λ (i : ℕ). ltb 260 i || ltb 260 b.second.held || not (settings_usable b.settings)) (count_is b.first k.first)
      ∙ ap (λ (i : ℕ). ltb 260 (length (held_bytes b.first)) || ltb 260 i || not (settings_usable b.settings)) (count_is b.second k.second)

  -- A call of the board gives what that program's step gives.
  pub step_same : Same b c (call_of c.port b c.input c.room page) (held_step front (handle_message b.readonly) 260 reply_room kept_tests (state_of b page) (call_from c))
  unfolding call_of feed_number page_number held_step kept_tests
  step_same =
      rw (unsound_is, port_held c.port b page)
      (on_tests (ltb 1 c.port) (ltb 260 (length (held_bytes b.first)) || ltb 260 (length (held_bytes b.second)) || not (settings_usable b.settings))
      (ltb (length c.room) reply_room) (not (eqb (length page) page_size)) (not (sound page)) refl)
