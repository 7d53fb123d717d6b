-- Port 1 of a read-only board changes nothing, and port 0 sees nothing of it: the proofs of `SecondReads` and `NoInterference`.
use mathlib.Core.Bool.{Bool, true, false}
use mathlib.Core.List.{List, [], ◌∷◌, ◌++◌}
use mathlib.Core.Path.{◌≡◌, refl, sym, ap, subst, ◌∙◌}
use Prim.Native.Nat.{ℕ, zero, suc, ◌≤◌}
use lib.Dec.{eqb}
use native.Mathlib.Omega.{arith}
use lib.ListN.{length, drop}
use Rattle.stream.specs.Scan.{Message}
use Rattle.stream.specs.declared.Sought.{Sought}
use Rattle.stream.specs.declared.Sought.TheVariants.{Starved, Found}
use Rattle.history.specs.Calls.{Input, chunk_of, Step, State}
use Rattle.history.specs.Calls.{Call as CallOf}
use Rattle.history.specs.Program.{sought_by, held_step}
use Rattle.history.specs.Interference.{only_if, port_zero_calls, seen_from}
use Rattle.history.specs.Interference.{Seen as SeenOf}
use Rattle.history.proofs.Interference as history
use Rattle.message.specs.Front.{front, most_undecided}
use Rattle.message.proofs.Framed.{cutting_harmless}
use Rattle.page.specs.Sound.{page_number}
use Rattle.command.specs.declared.settings.Settings.{Settings}
use Rattle.command.specs.Outcome.{received_of, error_in}
use Rattle.command.specs.Rights.{read_only_rights}
use Rattle.command.specs.Answer.{Answering, page_access, reply_room}
use Rattle.command.proofs.Pages.{answer_large}
use Rattle.command.proofs.ReadOnly.{read_only_leaves}
use Rattle.board.specs.declared.board.Board.{Board}
use Rattle.board.specs.Profile.{Profile, read_only, rights_of}
use Rattle.board.specs.Port.{held_bytes}
use Rattle.board.specs.Start.{fresh_board, start_on, start_of}
use Rattle.board.specs.Feed.{Feeding, PortStep, feed_number, step_on, step_by, accept_on, call_of}
use Rattle.board.specs.Handling.{Kept, handle_on, handle_message, kept_tests}
use Rattle.board.specs.Runs.{Call, calls_from, call_from, told_of}
use Rattle.board.specs.Interference.{Unchanged, SecondReads, Seen, seen_of, seen_by, NoInterference, TotalsUnseen}
use Rattle.board.proofs.Feedings.{passed}
use Rattle.board.proofs.Steps.{state_of, Padded, Same, step_same}
use Rattle.board.specs.declared.port.Port.{Port}
use Rattle.totals.specs.declared.Tally.{Tally}
use Rattle.totals.specs.Tally.{zero_tally, counted_of}
use Rattle.board.specs.Totals.{record_by}
use Rattle.board.proofs.Tallied.{call_record, call_other, held_count}
use Rattle.board.proofs.Begins.{fresh-padded}

-- ---- port 1 changes nothing

-- Where the rights are to read, a step leaves the settings and the page, and has no mark.
record Reads (w : Settings) (page : List ℕ) (s : PortStep) : Type 0 where
  settings : s.settings ≡ w
  page_same : s.page ≡ page
  unmarked : s.saved ≡ false

step_reads : (held : List ℕ) (w : Settings) (i : Input) (room page : List ℕ) → reply_room ≤ length room → Reads w page (step_by read_only_rights held w i room page)
unfolding step_by
step_reads held w i room page large = go (sought_by front i held)
  where
    go : (q : Sought) → Reads w page (step_on read_only_rights q held w (chunk_of i) room page)
    go (Starved k) = record { settings = refl; page_same = refl; unmarked = refl }
    go (Found k n good) =
        let m = received_of good (drop k (held ++ chunk_of i)) in
        let x : Kept = record { settings = w; page = page } in
        let l = read_only_leaves (List ℕ) page_access x m in
        let a = answer_large read_only_rights m w room page large in
        record {
          settings = ap (λ (a : Answering). a.answer.settings) a ∙ ap (λ (x : Kept). x.settings) l.next;
          page_same = ap (λ (a : Answering). a.page) a ∙ ap (λ (x : Kept). x.page) l.next;
          unmarked = ap (λ (a : Answering). a.answer.saved) a ∙ l.unmarked;
        }

pub second_reads : SecondReads
unfolding call_of
second_reads p b i room page e = go (feed_number (suc p) b.first.held b.second.held b.settings room page) refl
  where
    go : (n : ℕ) → feed_number (suc p) b.first.held b.second.held b.settings room page ≡ n → Unchanged b page (accept_on n (suc p) b i room page)
    go zero h =
        let large : reply_room ≤ length room = (passed (suc p) b room page h).large_room in
        let r : Reads b.settings page (step_by (rights_of b.readonly (suc p)) (held_bytes b.second) b.settings i room page) =
        subst (λ (profile : Profile). Reads b.settings page (step_by (rights_of profile (suc p)) (held_bytes b.second) b.settings i room page)) (sym e)
        (step_reads (held_bytes b.second) b.settings i room page large) in
        record { settings = r.settings; page_same = r.page_same; first = refl; first_totals = refl; unmarked = r.unmarked }
    go (suc n) h = record { settings = refl; page_same = refl; first = refl; first_totals = refl; unmarked = refl }

-- ---- two runs

-- Handling leaves the settings and the page as they were.
reads_only : (x : Kept) (m : Message) → (handle_message read_only 1 x m).next ≡ x
unfolding handle_on
reads_only x m = (read_only_leaves (List ℕ) page_access x (received_of m.good m.bytes)).next

-- What port 0 sees, as the program that keeps only held bytes has it.
abbrev seen_as : SeenOf Kept → Seen
seen_as s =
    record {
      out = record {
        number = s.answer.number;
        taken = s.answer.taken;
        skipped = s.answer.skipped;
        error = error_in s.answer.reply;
        saved = s.answer.saved;
        reply = s.answer.reply;
      };
      held = s.held;
      settings = s.values.settings;
      page = s.values.page;
    }

abbrev all_seen : List (SeenOf Kept) → List Seen
all_seen [] = []
all_seen (s ∷ ss) = seen_as s ∷ all_seen ss

only_seen : (t : Bool) (x : Seen) (xs : List Seen) (s : SeenOf Kept) (ss : List (SeenOf Kept)) → x ≡ seen_as s → xs ≡ all_seen ss
    → only_if t x xs ≡ all_seen (only_if t s ss)
only_seen true x xs s ss e h = cc
only_seen false x xs s ss e h = h

abbrev program_step : Profile → State (List ℕ) Kept → CallOf → Step (State (List ℕ) Kept)
program_step profile = held_step front (handle_message profile) 260 reply_room kept_tests

one_seen : (b : Board) (c : Call) (f : Feeding) (s : Step (State (List ℕ) Kept)) → Same b c f s
    → seen_of f ≡ seen_as (record { answer = s.answer; held = s.state.port0; values = s.state.values })
one_seen b c f s e = rw (e.state, ← e.told.number, ← e.told.taken, ← e.told.skipped, ← e.told.error, ← e.told.saved, ← e.reply)

seen_followed : (cs : List Call) (b : Board) (page : List ℕ) → Padded b
    → seen_by cs (calls_from b page cs).feedings ≡ all_seen (seen_from (program_step b.readonly) (state_of b page) (told_of cs))
unfolding calls_from seen_from
seen_followed [] b page k = refl
seen_followed (c ∷ cs) b page k =
    let f : Feeding = call_of c.port b c.input c.room page in
    let one : Step (State (List ℕ) Kept) = program_step b.readonly (state_of b page) (call_from c) in
    let s : Same b c f one = step_same b page c k in
    let rest : seen_by cs (calls_from f.answer.board f.page cs).feedings ≡ all_seen (seen_from (program_step b.readonly) one.state (told_of cs)) =
    seen_followed cs f.answer.board f.page s.padded
    ∙ ap (λ (profile : Profile). all_seen (seen_from (program_step profile) (state_of f.answer.board f.page) (told_of cs))) s.profile
    ∙ ap (λ (t : State (List ℕ) Kept). all_seen (seen_from (program_step b.readonly) t (told_of cs))) (sym s.state) in
    only_seen (eqb c.port 0) (seen_of f) _ _ _ (one_seen b c f one s) rest

fresh_unseen : (w : Settings) (page : List ℕ) (cs cs' : List Call) → port_zero_calls (told_of cs) ≡ port_zero_calls (told_of cs')
    → seen_by cs (calls_from (fresh_board read_only w) page cs).feedings ≡ seen_by cs' (calls_from (fresh_board read_only w) page cs').feedings
fresh_unseen w page cs cs' e =
    seen_followed cs (fresh_board read_only w) page (fresh-padded read_only w)
    ∙ ap all_seen
    (history.no_interference front most_undecided reply_room kept_tests (handle_message read_only) cutting_harmless reads_only (record { settings = w; page = page })
    (told_of cs) (told_of cs') e)
    ∙ sym (seen_followed cs' (fresh_board read_only w) page (fresh-padded read_only w))

pub no_interference : NoInterference
unfolding start_of
no_interference page cs cs' e = go (page_number page)
  where
    go : (n : ℕ)
        → seen_by cs (calls_from (start_on n read_only page).board page cs).feedings ≡ seen_by cs' (calls_from (start_on n read_only page).board page cs').feedings
    go zero = fresh_unseen _ page cs cs' e
    go (suc n) = fresh_unseen _ page cs cs' e

-- ---- port 0's totals

-- They are told by what port 0 sees: a driver's record of it.
abbrev seen_totals : ℕ → Tally → List Seen → Tally
seen_totals before t [] = t
seen_totals before t (s ∷ ss) =
    seen_totals (length s.held) (counted_of t s.out.number s.out.taken s.out.skipped s.out.error before (length s.held)) ss

totals-seen : (cs : List Call) (b : Board) (page : List ℕ) → Padded b
    → (calls_from b page cs).board.tally0 ≡ seen_totals b.first.held b.tally0 (seen_by cs (calls_from b page cs).feedings)
unfolding calls_from
totals-seen [] b page k = refl
totals-seen (c ∷ cs) b page k = totals-seen cs f.answer.board f.page padded ∙ go (eqb c.port 0) refl
  where
    f : Feeding
    f = call_of c.port b c.input c.room page

    padded : Padded f.answer.board
    padded = (step_same b page c k).padded

    rest : List Seen
    rest = seen_by cs (calls_from f.answer.board f.page cs).feedings

    same-totals : {h i : ℕ} {x y : Tally} → h ≡ i → x ≡ y → seen_totals h x rest ≡ seen_totals i y rest
    same-totals p q = rw (p, q)

    counted : (t : Bool) → eqb c.port 0 ≡ t → record_by t 0 b f b.tally0 ≡ f.answer.board.tally0
    counted t e = subst (λ (t : Bool). record_by t 0 b f b.tally0 ≡ f.answer.board.tally0) e (call_record 0 c.port b c.input c.room page (omega arith))

    go : (t : Bool) → eqb c.port 0 ≡ t
        → seen_totals f.answer.board.first.held f.answer.board.tally0 rest ≡ seen_totals b.first.held b.tally0 (only_if t (seen_of f) rest)
    go true e =
        let h : f.answer.board.first.held ≡ length (held_bytes f.answer.board.first) = held_count 0 f.answer.board padded in
        same-totals h
        (sym (counted true e)
        ∙ ap (λ (i : ℕ). counted_of b.tally0 f.answer.number f.answer.taken f.answer.skipped f.answer.error b.first.held i) h)
    go false e = same-totals (ap (λ (p : Port). p.held) (call_other 0 c.port b c.input c.room page (omega arith) e)) (sym (counted false e))

fresh-totals : (w : Settings) (page : List ℕ) (cs cs' : List Call) → port_zero_calls (told_of cs) ≡ port_zero_calls (told_of cs')
    → (calls_from (fresh_board read_only w) page cs).board.tally0 ≡ (calls_from (fresh_board read_only w) page cs').board.tally0
fresh-totals w page cs cs' e =
    totals-seen cs (fresh_board read_only w) page (fresh-padded read_only w)
    ∙ ap (seen_totals 0 zero_tally) (fresh_unseen w page cs cs' e)
    ∙ sym (totals-seen cs' (fresh_board read_only w) page (fresh-padded read_only w))

pub totals_unseen : TotalsUnseen
unfolding start_of
totals_unseen page cs cs' e = go (page_number page)
  where
    go : (n : ℕ) → (calls_from (start_on n read_only page).board page cs).board.tally0 ≡ (calls_from (start_on n read_only page).board page cs').board.tally0
    go zero = fresh-totals _ page cs cs' e
    go (suc n) = fresh-totals _ page cs cs' e
