-- Histories of calls and restarts: no number is accepted twice, and what is sent again on port 0 changes nothing.
use mathlib.Core.Bool.{Bool, true, false, ◌&&◌, not, cond}
use mathlib.Core.List.{List, [], ◌∷◌, ◌++◌}
use Rattle.std.specs.Prelude.{Option, Some, None}
use mathlib.Core.Path.{◌≡◌, refl, sym, ap, subst, ◌∙◌}
use Prim.Native.Nat.{ℕ, zero, suc, ◌<◌}
use native.Mathlib.Omega.{arith}
use lib.Dec.{eqb}
use lib.ListN.{length, drop, get_or}
use borrow.Author.Tests.{eqb-true, ltb-true}
use Rattle.stream.proofs.Bools.{and_both}
use Rattle.stream.specs.declared.Sought.{Sought}
use Rattle.stream.specs.declared.Sought.TheVariants.{Starved, Found}
use Rattle.history.specs.Calls.{chunk_of}
use Rattle.history.specs.Program.{sought_by}
use Rattle.history.specs.Restarts.{Act, call, restart}
use Rattle.history.specs.Numbers.{Growing}
use Rattle.history.proofs.Numbers.{growing_none_twice}
use Rattle.message.specs.Front.{front}
use Rattle.page.specs.Sound.{sound, page_number}
use Rattle.command.specs.declared.rights.Rights.{Rights}
use Rattle.command.specs.declared.settings.Settings.{Settings}
use Rattle.command.specs.Rights.{guarded_rights}
use Rattle.command.specs.Numbers.{is_fresh}
use Rattle.command.specs.Numbered.{carried, kept_on, HandlesNumber, carries_fresh}
use Rattle.command.specs.Outcome.{Outcome, Received, received_of}
use Rattle.command.specs.Handle.{message_outcome}
use Rattle.command.specs.Answer.{number_on, page_access, Answering, answer_with, answering}
use Rattle.command.proofs.Numbers.{number_handles, number-kept, number_guards}
use Rattle.command.proofs.Pages.{answer_large}
use Rattle.board.specs.declared.board.Board.{Board}
use Rattle.board.specs.Port.{held_bytes, port_holding, port_of}
use Rattle.board.specs.Profile.{Profile, rights_of}
use Rattle.board.specs.Start.{start_on, start_of}
use Rattle.board.specs.Feed.{Feeding, PortStep, feed_number, step_on, step_by, accept_on, call_of}
use Rattle.board.specs.Handling.{Kept}
use Rattle.board.specs.Runs.{Call, Calls, calls_from}
use Rattle.board.specs.Histories.{acts_from, act_then, NoRestart, OneActMore, carried_at, number_found, accepted_with, accepted_by, accepted_from, MarkIsFresh, MarksFresh, last_after, NoNumberTwice, on_port_zero, ReplayChangesNothing}
use Rattle.board.proofs.Follows.{page_sound}
use Rattle.board.proofs.Feedings.{Passed, passed, with_settings}

-- ---- a history, act by act

pub no_restart : NoRestart
unfolding acts_from calls_from
no_restart b page [] = refl
no_restart b page (c ∷ cs) =
    let f : Feeding = call_of c.port b c.input c.room page in
    ap (λ (r : Calls). record { feedings = f ∷ r.feedings; board = r.board; page = r.page }) (no_restart f.answer.board f.page cs)

pub one_act_more : OneActMore
unfolding acts_from
one_act_more b page [] (call c) = refl
one_act_more b page [] (restart profile) = refl
one_act_more b page (restart profile ∷ acts) a = one_act_more (start_of profile page).board page acts a
one_act_more b page (call d ∷ acts) a =
    let f : Feeding = call_of d.port b d.input d.room page in
    let more : Calls → Calls = λ r. record { feedings = f ∷ r.feedings; board = r.board; page = r.page } in
    ap more (one_act_more f.answer.board f.page acts a) ∙ go a (acts_from f.answer.board f.page acts)
  where
    go : (a : Act Profile Call) (r : Calls)
        → record { feedings = call_of d.port b d.input d.room page ∷ (act_then r a).feedings; board = (act_then r a).board; page = (act_then r a).page }
        ≡ act_then (record { feedings = call_of d.port b d.input d.room page ∷ r.feedings; board = r.board; page = r.page }) a
    go (call c) r = refl
    go (restart profile) r = refl

-- ---- numbers that lead from the one kept before to the one kept after: each is fresh, and is then the kept one

abbrev Leads : Option ℕ → List ℕ → Option ℕ → Type 0
Leads kept [] after = after ≡ kept
Leads kept (n ∷ ns) after = (is_fresh kept n ≡ true) × Leads (Some n) ns after

leads_append : (kept between after : Option ℕ) (ns ms : List ℕ) → Leads kept ns between → Leads between ms after → Leads kept (ns ++ ms) after
leads_append kept between after [] ms p q = subst (λ (k : Option ℕ). Leads k ms after) p q
leads_append kept between after (n ∷ ns) ms p q = (p.0, leads_append (Some n) between after ns ms p.1 q)

leads_growing : (kept after : Option ℕ) (ns : List ℕ) → Leads kept ns after → Growing ns
leads_growing kept after [] l = tt
leads_growing kept after (n ∷ []) l = tt
leads_growing kept after (n ∷ m ∷ ns) l = (ltb-true n m l.1.0, leads_growing (Some n) after (m ∷ ns) l.1)

leads_larger : (k : ℕ) (after : Option ℕ) (ns : List ℕ) → Leads (Some k) ns after → (i : ℕ) → i < length ns → k < get_or ns i 0
leads_larger k after [] l i h = absurd (omega arith)
leads_larger k after (n ∷ ns) l zero h = ltb-true k n l.0
leads_larger k after (n ∷ ns) l (suc i) h =
    let a : k < n = ltb-true k n l.0 in
    let b : n < get_or ns i 0 = leads_larger n after ns l.1 i (omega arith) in
    omega arith

leads_last : (kept after : Option ℕ) (ns : List ℕ) → Leads kept ns after → after ≡ last_after kept ns
leads_last kept after [] l = l
leads_last kept after (n ∷ ns) l = leads_last (Some n) after ns l.1

-- ---- one message

none_leads : (saved : Bool) (kept after : Option ℕ) → after ≡ kept → Leads kept (accepted_with saved None) after
none_leads true kept after e = e
none_leads false kept after e = e

one_leads : (fresh : Bool) (kept after : Option ℕ) (n : ℕ) → is_fresh kept n ≡ fresh → after ≡ cond fresh (Some n) kept → Leads kept (accepted_with fresh (Some n)) after
one_leads true kept after n f e = (f, e)
one_leads false kept after n f e = e

module _ (rights : Rights) (x : Kept) (m : Received) where
  abbrev outcome : Outcome (List ℕ)
  outcome = message_outcome page_access rights x m

  message_leads : sound x.page ≡ true
      → Leads (number_on x.page) (accepted_with outcome.saved (carried m)) (number_on outcome.next.page)
  message_leads h = go rights.readonly refl (carried m) refl
    where
      kept : (r : Bool) → rights.readonly ≡ r → (c : Option ℕ) → carried m ≡ c → number_on outcome.next.page ≡ kept_on (cond r None c) (number_on x.page)
      kept r rs c e = (number-kept rights x m h).kept ∙ rw (rs, e)

      go : (r : Bool) → rights.readonly ≡ r → (c : Option ℕ) → carried m ≡ c
          → Leads (number_on x.page) (accepted_with outcome.saved c) (number_on outcome.next.page)
      go true rs None e = none_leads outcome.saved (number_on x.page) (number_on outcome.next.page) (kept true rs None e)
      go false rs None e = none_leads outcome.saved (number_on x.page) (number_on outcome.next.page) (kept false rs None e)
      go true rs (Some n) e =
          let mark : outcome.saved ≡ false = (number_handles (List ℕ) page_access rights x m n e).mark ∙ rw rs in
          rw mark (kept true rs (Some n) e)
      go false rs (Some n) e =
          let mark : outcome.saved ≡ is_fresh (number_on x.page) n = (number_handles (List ℕ) page_access rights x m n e).mark ∙ rw rs in
          rw mark (one_leads (is_fresh (number_on x.page) n) (number_on x.page) (number_on outcome.next.page) n refl (kept false rs (Some n) e))

-- ---- one call, of any board

module _ (b : Board) (page : List ℕ) (c : Call) where
  abbrev held : List ℕ
  held = held_bytes (port_of c.port b)

  abbrev number : ℕ
  number = feed_number c.port b.first.held b.second.held b.settings c.room page

  abbrev rights : Rights
  rights = rights_of b.readonly c.port

  abbrev step_for : Sought → PortStep
  step_for q = step_on rights q held b.settings (chunk_of c.input) c.room page

  abbrev stored : Kept
  stored = record { settings = b.settings; page = page }

  abbrev received : ℕ → Bool → Received
  received k good = received_of good (drop k (held ++ chunk_of c.input))

  -- A message that is found is handled.
  answered : Passed c.port b c.room page → (k : ℕ) (good : Bool)
      → answering rights (received k good) b.settings c.room page
      ≡ answer_with (received k good).kind (message_outcome page_access rights stored (received k good)) c.room
  answered p k good = answer_large rights (received k good) b.settings c.room page p.large_room

  step_leads : Passed c.port b c.room page → (q : Sought)
      → Leads (number_on page) (accepted_with (step_for q).saved (carried_at q (held ++ chunk_of c.input))) (number_on (step_for q).page)
  step_leads p (Starved k) = refl
  step_leads p (Found k n good) =
      subst (λ (a : Answering). Leads (number_on page) (accepted_with a.answer.saved (carried (received k good))) (number_on a.page)) (sym (answered p k good))
      (message_leads rights stored (received k good) (page_sound page p.passing_page))

  abbrev feeding : Feeding
  feeding = call_of c.port b c.input c.room page

  abbrev feeding_as : ℕ → Feeding
  feeding_as n = accept_on n c.port b c.input c.room page

  -- A refused call accepts nothing and leaves the page.
  feed_leads : Leads (number_on page) (accepted_by b c feeding) (number_on feeding.page)
  unfolding call_of step_by
  feed_leads = go number refl
    where
      go : (n : ℕ) → number ≡ n → Leads (number_on page) (accepted_by b c (feeding_as n)) (number_on (feeding_as n).page)
      go zero e = step_leads (passed c.port b c.room page e) (sought_by front c.input held)
      go (suc n) e = refl

  -- ---- the mark

  record Marks (n : ℕ) (answers : ℕ) (saved : Bool) (settings : Settings) (after : List ℕ) : Type 0 where
    answered_so : answers ≡ 0 → saved ≡ not rights.readonly && is_fresh (number_on page) n
    unmarked : saved ≡ false → (settings ≡ b.settings) × (after ≡ page)

  step_marks : Passed c.port b c.room page → (q : Sought) (n : ℕ) → carried_at q (held ++ chunk_of c.input) ≡ Some n
      → Marks n (step_for q).number (step_for q).saved (step_for q).settings (step_for q).page
  step_marks p (Starved k) n e = let z : ◌≡◌ {A = ℕ} 0 1 = cc in absurd (omega arith)
  step_marks p (Found k l good) n e =
      let t = number_handles (List ℕ) page_access rights stored (received k good) n e in
      subst (λ (a : Answering). Marks n 0 a.answer.saved a.answer.settings a.page) (sym (answered p k good))
      (record {
        answered_so = λ z. t.mark;
        unmarked = λ z.
            (let same : (message_outcome page_access rights stored (received k good)).next ≡ stored = left t rights.readonly refl (sym t.mark ∙ z) in
            (ap (λ (x : Kept). x.settings) same, ap (λ (x : Kept). x.page) same));
      })
    where
      -- Without the mark it was not allowed, or not fresh.
      left : HandlesNumber page_access rights stored (received k good) n → (r : Bool) → rights.readonly ≡ r
          → not rights.readonly && is_fresh (number_on page) n ≡ false → (message_outcome page_access rights stored (received k good)).next ≡ stored
      left t true rs z = ap (λ (o : Outcome (List ℕ)). o.next) (t.not_allowed rs)
      left t false rs z = ap (λ (o : Outcome (List ℕ)). o.next) (t.stale rs (subst (λ (r : Bool). not r && is_fresh (number_on page) n ≡ false) rs z))

  mark_is_fresh : (n : ℕ) → number_found b c ≡ Some n → MarkIsFresh b page c n
  unfolding call_of step_by
  mark_is_fresh n e =
      let m = go number refl in
      record { answered = m.answered_so; unmarked = m.unmarked }
    where
      go : (i : ℕ) → number ≡ i → Marks n (feeding_as i).answer.number (feeding_as i).answer.saved (feeding_as i).answer.board.settings (feeding_as i).page
      go zero h =
          let m = step_marks (passed c.port b c.room page h) (sought_by front c.input held) n e in
          let w = with_settings c.port b (port_holding (step_for (sought_by front c.input held)).held) (step_for (sought_by front c.input held)).settings _ in
          record { answered_so = m.answered_so; unmarked = λ z. (w ∙ (m.unmarked z).0, (m.unmarked z).1) }
      go (suc i) h = record { answered_so = λ z. (let no : ⊥ = omega (arith, z) in absurd no); unmarked = λ z. (refl, refl) }

pub marks-fresh : MarksFresh
marks-fresh b page c n e = mark_is_fresh b page c n e

-- ---- a history

acts_lead : (b : Board) (page : List ℕ) (acts : List (Act Profile Call)) → Leads (number_on page) (accepted_from b page acts) (number_on (acts_from b page acts).page)
unfolding acts_from accepted_from
acts_lead b page [] = refl
acts_lead b page (call c ∷ acts) =
    let f : Feeding = call_of c.port b c.input c.room page in
    leads_append (number_on page) (number_on f.page) (number_on (acts_from f.answer.board f.page acts).page)
    (accepted_by b c f) (accepted_from f.answer.board f.page acts)
    (feed_leads b page c) (acts_lead f.answer.board f.page acts)
acts_lead b page (restart profile ∷ acts) = acts_lead (start_of profile page).board page acts

pub no_number_twice : NoNumberTwice
no_number_twice profile page acts =
    let b : Board = (start_of profile page).board in
    let ns : List ℕ = accepted_from b page acts in
    let after : Option ℕ = number_on (acts_from b page acts).page in
    let l : Leads (number_on page) ns after = acts_lead b page acts in
    let g : Growing ns = leads_growing (number_on page) after ns l in
    record {
      growing = g;
      none_twice = growing_none_twice ns g;
      larger = λ n i e. leads_larger n after ns (subst (λ (k : Option ℕ). Leads k ns after) e l) i;
      kept_last = leads_last (number_on page) after ns l;
    }

-- ---- what is sent again

-- What a step or a call leaves of the settings and the page, of any board.
record Same (w : Settings) (page : List ℕ) (settings : Settings) (after : List ℕ) : Type 0 where
  settings_same : settings ≡ w
  page_same : after ≡ page

unmarked_or_none : (saved : Bool) (carries : Option ℕ) → accepted_with saved carries ≡ [] → (n : ℕ) → carries ≡ Some n → saved ≡ false
unmarked_or_none false carries e n c = refl
unmarked_or_none true None e n c = let z : ◌≡◌ {A = ℕ} 0 1 = cc in absurd (omega arith)
unmarked_or_none true (Some m) e n c = let z : ◌≡◌ {A = ℕ} 0 1 = cc in absurd (omega arith)

module _ (b : Board) (page : List ℕ) (c : Call) (last : ℕ) (zeroth : c.port ≡ 0) (kept : number_on page ≡ Some last) where
  step_same : Passed c.port b c.room page → (q : Sought) → carried_at q (held b page c ++ chunk_of c.input) ≡ None
      → Same b.settings page (step_for b page c q).settings (step_for b page c q).page
  step_same p (Starved k) e = record { settings_same = refl; page_same = refl }
  step_same p (Found k l good) e =
      let m : Received = received b page c k good in
      let u : (message_outcome page_access guarded_rights (stored b page c) m).next ≡ stored b page c =
      (number_guards (stored b page c) m last kept (ap (carries_fresh (Some last)) e)).next in
      let z : (message_outcome page_access (rights b page c) (stored b page c) m).next ≡ stored b page c =
      subst (λ (port : ℕ). (message_outcome page_access (rights_of b.readonly port) (stored b page c) m).next ≡ stored b page c) (sym zeroth) u in
      subst (λ (a : Answering). Same b.settings page a.answer.settings a.page) (sym (answered b page c p k good))
      (record { settings_same = ap (λ (x : Kept). x.settings) z; page_same = ap (λ (x : Kept). x.page) z })

  -- A call without a number.
  unnumbered-same : number_found b c ≡ None → Same b.settings page (feeding b page c).answer.board.settings (feeding b page c).page
  unfolding call_of step_by
  unnumbered-same e = go (number b page c) refl
    where
      go : (i : ℕ) → number b page c ≡ i → Same b.settings page (feeding_as b page c i).answer.board.settings (feeding_as b page c i).page
      go zero h =
          let q : Sought = sought_by front c.input (held b page c) in
          let s = step_same (passed c.port b c.room page h) q e in
          let w = with_settings c.port b (port_holding (step_for b page c q).held) (step_for b page c q).settings _ in
          record { settings_same = w ∙ s.settings_same; page_same = s.page_same }
      go (suc i) h = record { settings_same = refl; page_same = refl }

  feed_same : accepted_by b c (feeding b page c) ≡ [] → Same b.settings page (feeding b page c).answer.board.settings (feeding b page c).page
  feed_same e = go (number_found b c) refl
    where
      go : (carries : Option ℕ) → number_found b c ≡ carries
          → Same b.settings page (feeding b page c).answer.board.settings (feeding b page c).page
      go None h = unnumbered-same h
      go (Some n) h =
          let u = (marks-fresh b page c n h).unmarked (unmarked_or_none (feeding b page c).answer.saved (number_found b c) e n h) in
          record { settings_same = u.0; page_same = u.1 }

nothing_first : (ns ms : List ℕ) → ns ++ ms ≡ [] → (ns ≡ []) × (ms ≡ [])
nothing_first [] ms e = (refl, e)
nothing_first (n ∷ ns) ms e = let z : ◌≡◌ {A = ℕ} 0 1 = cc in absurd (omega arith)

acts_same : (b : Board) (page : List ℕ) (acts : List (Act Profile Call)) (last : ℕ) (w : Settings) → number_on page ≡ Some last → b.settings ≡ w → ((profile : Profile) → (start_of profile page).board.settings ≡ w)
    → on_port_zero acts ≡ true → accepted_from b page acts ≡ []
    → Same w page (acts_from b page acts).board.settings (acts_from b page acts).page
unfolding acts_from accepted_from
acts_same b page [] last w k ws starts z e = record { settings_same = ws; page_same = refl }
acts_same b page (restart profile ∷ acts) last w k ws starts z e = acts_same (start_of profile page).board page acts last w k (starts profile) starts z e
acts_same b page (call c ∷ acts) last w k ws starts z e =
    let f : Feeding = feeding b page c in
    let p = and_both (eqb c.port 0) (on_port_zero acts) z in
    let n = nothing_first (accepted_by b c f) (accepted_from f.answer.board f.page acts) e in
    let s = feed_same b page c last (eqb-true c.port 0 p.0) k n.0 in
    let same : acts_from f.answer.board f.page acts ≡ acts_from f.answer.board page acts =
    ap (λ (l : List ℕ). acts_from f.answer.board l acts) s.page_same in
    let none_more : accepted_from f.answer.board page acts ≡ [] =
    subst (λ (l : List ℕ). accepted_from f.answer.board l acts ≡ []) s.page_same n.1 in
    subst (λ (r : Calls). Same w page r.board.settings r.page) (sym same)
    (acts_same f.answer.board page acts last w k (s.settings_same ∙ ws) starts p.1 none_more)

-- A start sets the same values in every profile.
start_settings_lem : (p q : Profile) (page : List ℕ) → (start_of p page).board.settings ≡ (start_of q page).board.settings
unfolding start_of
start_settings_lem p q page = go (page_number page)
  where
    go : (n : ℕ) → (start_on n p page).board.settings ≡ (start_on n q page).board.settings
    go zero = refl
    go (suc n) = refl

pub replay_changes_nothing : ReplayChangesNothing
replay_changes_nothing profile page acts last k z e =
    let s = acts_same (start_of profile page).board page acts last (start_of profile page).board.settings k refl (λ next. start_settings_lem next profile page) z e in
    record { page_same = s.page_same; settings_same = s.settings_same }
