-- What handling does to a sound page, and the reply in a room of 166 bytes.
use Prim.Native.Nat.{ℕ, zero, suc, ◌%◌, ◌≤◌, ◌<◌}
use native.Mathlib.Omega.{arith}
use mathlib.Core.Path.{◌≡◌, refl, ◌∙◌, ap, subst}
use mathlib.Core.Bool.{Bool, true, false, ◌||◌, not, cond, or-false}
use mathlib.Core.List.{List, [], ◌∷◌, ◌++◌}
use Rattle.std.specs.Prelude.{Option, Some, None}
use lib.Dec.{eqb, leb, ltb}
use lib.ListN.{length, get_or, drop, length-drop, get_or-append}
use lib.Seq.{drop-append-le, take-append-le}
use borrow.Author.Tests.{le-ltb, lt-ltb, eq-eqb, ne_eqb, le-leb}
use Rattle.page.specs.declared.setting.Setting.{Setting}
use Rattle.page.specs.declared.setting.Setting.TheVariants.{Baud, Accelerometer, Gyroscope}
use Rattle.page.specs.declared.setting.Values.{Values}
use Rattle.page.specs.Settings.{usable, storable, not_on_this_board, value_bytes, factory_value, value_of, last_number}
use Rattle.page.specs.Page.{is_there, stored_in, all_storable, with_key, writing, page_size}
use Rattle.page.specs.Lookup.{values_in}
use Rattle.page.specs.Sound.{sound, page_writing, put_page}
use Rattle.page.specs.Loading.{value_on, if_usable, loaded_value, value_or}
use Rattle.page.proofs.Pages.{both, writing_size, usable-storable, key_back, factory_usable, sound_is_writing, put_storable, put_keeps, looks_up_stored}
use Rattle.message.specs.Message.{type_of, length_of, payload_of}
use Rattle.message.specs.Fields.{fields_of}
use Rattle.message.specs.Whole.{refuse}
use Rattle.command.specs.declared.rights.Rights.{Rights}
use Rattle.command.specs.declared.settings.Settings.{Settings}
use Rattle.command.specs.declared.command.Command.{Command}
use Rattle.command.specs.Rights.{all_rights}
use Rattle.command.specs.Command.{value_for, commands_of}
use Rattle.command.specs.Errors.{field_wrong, field_error, command_error}
use Rattle.command.specs.Numbers.{numbered_kind, number_of, inner_kind, inner_payload, number_error}
use Rattle.command.specs.Effects.{working_value, start_settings, Effect, function_effect, effect_of, settings_usable}
use Rattle.command.specs.Outcome.{State, Outcome, Received, received_of, reply_row, row_outcome, is_save, then_outcome, page_after, effect_outcome, denial_of, field_outcome, fields_outcome}
use Rattle.command.specs.Handle.{fields_in, refused_outcome, command_on, command_outcome, spent, numbered_on, numbered_outcome, message_outcome}
use Rattle.command.specs.Answer.{body_value, looked_up, loaded_from, settings_from, put_on, saved_on, number_on, page_access, reply_room, Answering, answer_with, answer_on, answering}
use Rattle.command.specs.OnBoard.{LoadsUsable, LoadsStored, StartsTake, Asks, working, refusing, FunctionOne, FunctionFour}
use Rattle.command.specs.Theorems.{SaveOf, PageKept, PageChanges, FieldKeeps, ReplyWhole, AnswerKeeps, OwnBytes}
use Rattle.command.specs.Puts.{Put, puts_on, is_empty, save_puts, field_puts, fields_puts, command_puts_on, command_puts, numbered_puts_on, numbered_puts, message_puts}
use Rattle.command.proofs.Keeps.{value_usable, keeps_usable, saves_only, saves_then}

-- ---- loading

body_back : (s : Setting) (x : ℕ) → storable s x ≡ true → body_value s (value_bytes s x) ≡ x
body_back Baud x h = key_back (value_of Baud) x h
body_back Accelerometer x h = omega (arith, key_back (value_of Accelerometer) x h)
body_back Gyroscope x h = omega (arith, key_back (value_of Gyroscope) x h)

looked_up_stored : (page : List ℕ) (s : Setting) → sound page ≡ true → looked_up page s ≡ value_or (stored_in (values_in page) s) (factory_value s)
unfolding looked_up
looked_up_stored page s h =
    let l = looks_up_stored page s h in
    rw l.body (body_back s (value_or (stored_in (values_in page) s) (factory_value s)) l.value_storable)

load_of : (s : Setting) (b : Option ℕ) → if_usable s (value_or b (factory_value s)) ≡ loaded_value s b
load_of s None = rw (factory_usable s)
load_of s (Some x) = refl

pub loads_stored : LoadsStored
unfolding loaded_from
loads_stored page s h = rw (looked_up_stored page s h) (load_of s (stored_in (values_in page) s))

pub loads_usable : LoadsUsable
unfolding loaded_from
loads_usable page s x e = go (usable s (looked_up page s)) refl e
  where
    go : (b : Bool) → usable s (looked_up page s) ≡ b → value_on b (looked_up page s) ≡ Some x → usable s x ≡ true
    go true u e = let q : looked_up page s ≡ x = cc in subst (λ (y : ℕ). usable s y ≡ true) q u
    go false u e = let z : ◌≡◌ {A = ℕ} 0 1 = cc in absurd (omega arith)

-- ---- starting

start_working : (page : List ℕ) (s : Setting) → working_value (settings_from page) s ≡ value_or (loaded_from page s) (factory_value s)
unfolding start_settings
start_working page Baud = refl
start_working page Accelerometer = refl
start_working page Gyroscope = refl

-- What is loaded from a sound page, by what it holds.
loads_held : (page : List ℕ) (s : Setting) → sound page ≡ true → {b : Option ℕ} → stored_in (values_in page) s ≡ b → loaded_from page s ≡ loaded_value s b
loads_held page s h e = loads_stored page s h ∙ ap (loaded_value s) e

pub start_takes : StartsTake
start_takes page s h =
    record {
      held = λ v e u. start_working page s ∙ rw (loads_held page s h e, u);
      unheld = λ e. start_working page s ∙ rw (loads_held page s h e);
      not_on_board_lem = λ v e u. start_working page s ∙ rw (loads_held page s h e, u);
    }

-- ---- functions 1 and 4

module _ (rights : Rights) (x : State (List ℕ)) (c : Command) (s : Setting) where
  unfoldable error : ℕ
  error = field_error (denial_of page_access rights x.page) (loaded_from x.page) c

  -- A refused field leaves all as it is.
  refused_with : (n : ℕ) → error ≡ suc n → field_outcome page_access rights x c ≡ refusing x c (suc n)
  unfolding field_outcome error
  refused_with n e = rw e

  module _ (a : Asks rights x c s 1) where
    error_one : error ≡ refuse (not (storable s (value_for s c))) 4 (refuse (not_on_this_board s (value_for s c)) 6 0)
    unfolding error field_error field_wrong
    error_one =
        let one : eqb c.function 1 ≡ true = eq-eqb c.function 1 a.function_is in
        let four : eqb c.function 4 ≡ false = ne_eqb c.function 4 (λ f. omega (arith, a.function_is)) in
        let low : leb 1 c.function ≡ true = le-leb 1 c.function (omega (arith, a.function_is)) in
        let high : leb c.function 5 ≡ true = le-leb c.function 5 (omega (arith, a.function_is)) in
        rw (a.about, a.free, a.size, low, high, one, four, or-false (not_on_this_board s (value_for s c)))

    used_with : usable s (value_for s c) ≡ true → field_outcome page_access rights x c ≡ working x c s (value_for s c)
    unfolding field_outcome error
    used_with u =
        let e : error ≡ 0 = error_one ∙ rw (usable-storable s (value_for s c) u, u) in
        rw (e, a.about) (one c.function a.function_is)
      where
        one : (f : ℕ) → f ≡ 1
            → row_outcome c.code 0 (effect_outcome saved_on (function_effect f (loaded_from x.page) x.settings s (value_for s c)) x) ≡ working x c s (value_for s c)
        one f e = rw e

  module _ (a : Asks rights x c s 4) where
    error_four : error ≡ refuse (not (is_there (loaded_from x.page s))) 6 0
    unfolding error field_error field_wrong
    error_four = rw (a.about, a.free, a.size, a.function_is)

    loaded_with : (v : ℕ) → loaded_from x.page s ≡ Some v → field_outcome page_access rights x c ≡ working x c s v
    unfolding field_outcome error
    loaded_with v l =
        let e : error ≡ 0 = error_four ∙ rw l in
        rw (e, a.about, a.function_is, l)

pub uses_or_refuses : FunctionOne
uses_or_refuses rights x c s a =
    record {
      used = used_with rights x c s a;
      not_on_board_lem = λ h. let b = both (storable s (value_for s c)) (not (usable s (value_for s c))) h in refused_with rights x c s 5 (error_one rights x c s a ∙ rw (b.0, b.1));
      bad = λ h. refused_with rights x c s 3 (error_one rights x c s a ∙ rw h);
    }

pub loads_or_refuses : FunctionFour
loads_or_refuses rights x c s h a =
    record {
      held = λ v e u. loaded_with rights x c s a v (loads_held x.page s h e ∙ rw u);
      unheld = λ e. loaded_with rights x c s a (factory_value s) (loads_held x.page s h e);
      not_on_board_lem = λ v e u. refused_with rights x c s 5 (error_four rights x c s a ∙ rw (loads_held x.page s h e, u));
    }

-- ---- values put in

page_written : (v : Values) (page : List ℕ) → length page ≡ page_size → all_storable v ≡ true → (page_writing v page).page ≡ writing v
unfolding page_writing
page_written v page l a = rw (eq-eqb (length page) page_size l, a)

pub page_changes : PageChanges
unfolding put_page
page_changes page k x h ok =
    let i = sound_is_writing page h in
    let l : length page ≡ page_size = ap length i.written ∙ writing_size (values_in page) in
    let v : all_storable (with_key (values_in page) k x) ≡ true = put_storable (values_in page) k x i.storable_values_lem ok in
    let e : put_on page k x ≡ put_page page k x = page_written (with_key (values_in page) k x) page l v in
    record { put_page_lem = e; sound_page = rw e (put_keeps page k x h ok).sound_page }

-- A save of a value that can be in use.
pub save_changes : (page : List ℕ) (s : Setting) (x : ℕ) → sound page ≡ true → usable s x ≡ true → PageKept page (value_of s) x
save_changes page s x h ok = page_changes page (value_of s) x h (usable-storable s x ok)

-- A number is four bytes.
pub number_small : (payload : List ℕ) → number_of payload < 4294967296
number_small payload = omega arith

-- ---- a field, and a message

-- A sound page, and usable working values.
pub record Sound (x : State (List ℕ)) : Type 0 where
  pub settings : settings_usable x.settings ≡ true
  pub page : sound x.page ≡ true

-- What an outcome leaves: the page with exactly these values put in, and the mark where there is one.
pub record Goes (page : List ℕ) (puts : List Put) (o : Outcome (List ℕ)) : Type 0 where
  pub stays : Sound o.next
  pub written : o.next.page ≡ puts_on page puts
  pub mark : o.saved ≡ not (is_empty puts)

record SavedAs (saves : Option Setting) (w : Settings) (page : List ℕ) : Type 0 where
  stays : sound (page_after saved_on saves w page) ≡ true
  written : page_after saved_on saves w page ≡ puts_on page (save_puts saves w)
  mark : is_save saves ≡ not (is_empty (save_puts saves w))

saved_as : (saves : Option Setting) (w : Settings) (page : List ℕ) → sound page ≡ true → settings_usable w ≡ true → SavedAs saves w page
saved_as None w page h a = record { stays = h; written = refl; mark = refl }
saved_as (Some s) w page h a =
    let k = save_changes page s (working_value w s) h (value_usable w s a) in
    record { stays = k.sound_page; written = k.put_page_lem; mark = refl }

pub field_goes : (rights : Rights) (x : State (List ℕ)) (c : Command) → Sound x
    → Goes x.page (field_puts rights x c) (field_outcome page_access rights x c)
unfolding field_outcome effect_of
field_goes rights x c k =
    let denial = denial_of page_access rights x.page in
    let e = effect_of denial (loaded_from x.page) x.settings c in
    let s = saved_as e.saves x.settings x.page k.page k.settings in
    record {
      stays = record { settings = keeps_usable denial (loaded_from x.page) x.settings c (loads_usable x.page) k.settings; page = s.stays };
      written = s.written;
      mark = s.mark;
    }

pub field_keeps : FieldKeeps
unfolding field_outcome effect_of
field_keeps rights x c h a =
    record {
      saved = λ s so.
          (let e : effect.saves ≡ Some s = saves_then denial (loaded_from x.page) x.settings c s so in
          (rw e, rw e (save_changes x.page s (working_value x.settings s) h (value_usable x.settings s a)).put_page_lem));
      unsaved = λ n. go n effect.saves refl;
    }
  where
    denial : ℕ
    denial = denial_of page_access rights x.page

    effect : Effect
    effect = effect_of denial (loaded_from x.page) x.settings c

    go : ((s : Setting) → SaveOf denial (loaded_from x.page) c s → ⊥) → (saves : Option Setting) → effect.saves ≡ saves
        → (is_save effect.saves ≡ false) × (page_after saved_on effect.saves x.settings x.page ≡ x.page)
    go n None e = (rw e, rw e)
    go n (Some s) e = absurd (n s (saves_only denial (loaded_from x.page) x.settings c s e))

idle_goes : (x : State (List ℕ)) → Sound x → (rows : List ℕ) → Goes x.page [] (record { rows = rows; saved = false; next = x })
idle_goes x k rows = record { stays = k; written = refl; mark = refl }

puts_then : (page : List ℕ) (a b : List Put) → puts_on (puts_on page a) b ≡ puts_on page (a ++ b)
puts_then page [] b = refl
puts_then page (p ∷ a) b = puts_then (put_page page p.key p.value) a b

either_put : (a b : List Put) → not (is_empty a) || not (is_empty b) ≡ not (is_empty (a ++ b))
either_put [] b = refl
either_put (p ∷ a) b = refl

then_goes : (page : List ℕ) (ps qs : List Put) (a b : Outcome (List ℕ)) → Goes page ps a → Goes a.next.page qs b → Goes page (ps ++ qs) (then_outcome a b)
then_goes page ps qs a b g h =
    record {
      stays = h.stays;
      written = h.written ∙ ap (λ (l : List ℕ). puts_on l qs) g.written ∙ puts_then page ps qs;
      mark = rw (g.mark, h.mark) (either_put ps qs);
    }

fields_go : (rights : Rights) (x : State (List ℕ)) (cs : List Command) → Sound x
    → Goes x.page (fields_puts rights x cs) (fields_outcome page_access rights x cs)
unfolding fields_outcome fields_puts
fields_go rights x [] k = idle_goes x k []
fields_go rights x (c ∷ cs) k =
    let o = field_outcome page_access rights x c in
    let g = field_goes rights x c k in
    then_goes x.page (field_puts rights x c) (fields_puts rights o.next cs) o (fields_outcome page_access rights o.next cs)
    g (fields_go rights o.next cs g.stays)

pub command_goes : (rights : Rights) (x : State (List ℕ)) (kind : ℕ) (payload : List ℕ) → Sound x
    → Goes x.page (command_puts rights x kind payload) (command_outcome page_access rights x kind payload)
unfolding command_outcome command_puts
command_goes rights x kind payload k = go (command_error kind payload)
  where
    go : (n : ℕ) → Goes x.page (command_puts_on n rights x kind payload) (command_on page_access n rights x kind payload)
    go zero = fields_go rights x (commands_of kind (fields_in (fields_of payload))) k
    go (suc n) = idle_goes x k (reply_row (get_or payload 0 0) (suc n) [])

-- A number is spent, then the command inside is handled.
numbered_goes : (rights : Rights) (x : State (List ℕ)) (payload : List ℕ) → Sound x → Goes x.page (numbered_puts rights x payload) (numbered_outcome page_access rights x payload)
unfolding numbered_outcome numbered_puts
numbered_goes rights x payload k = go (number_error rights (number_on x.page) payload)
  where
    n : ℕ
    n = number_of payload

    put : PageKept x.page last_number n
    put = page_changes x.page last_number n k.page (lt-ltb n 4294967296 (number_small payload))

    puts : List Put
    puts = command_puts all_rights (spent page_access x n) (inner_kind payload) (inner_payload payload)

    inner : Goes (spent page_access x n).page puts (command_outcome page_access all_rights (spent page_access x n) (inner_kind payload) (inner_payload payload))
    inner = command_goes all_rights (spent page_access x n) (inner_kind payload) (inner_payload payload) (record { settings = k.settings; page = put.sound_page })

    go : (e : ℕ) → Goes x.page (numbered_puts_on e x payload) (numbered_on page_access e x payload)
    go zero =
        record {
          stays = inner.stays;
          written = inner.written ∙ ap (λ (l : List ℕ). puts_on l puts) put.put_page_lem;
          mark = refl;
        }
    go (suc e) = idle_goes x k (reply_row (get_or (inner_payload payload) 0 0) (suc e) [])

pub message_goes : (rights : Rights) (x : State (List ℕ)) (m : Received) → Sound x → Goes x.page (message_puts rights x m) (message_outcome page_access rights x m)
unfolding message_outcome message_puts
message_goes rights x m k = go m.good (eqb m.kind numbered_kind)
  where
    go : (good numbered : Bool) → Goes x.page
        (cond (not good) [] (cond numbered (numbered_puts rights x m.payload) (command_puts rights x m.kind m.payload)))
        (cond (not good) (refused_outcome (get_or m.payload 0 0) 1 x)
        (cond numbered (numbered_outcome page_access rights x m.payload) (command_outcome page_access rights x m.kind m.payload)))
    go false numbered = idle_goes x k (reply_row (get_or m.payload 0 0) 1 [])
    go true true = numbered_goes rights x m.payload k
    go true false = command_goes rights x m.kind m.payload k

-- ---- an answer

pub answer_large : (rights : Rights) (m : Received) (w : Settings) (room page : List ℕ) → reply_room ≤ length room
    → answering rights m w room page ≡ answer_with m.kind (message_outcome page_access rights (record { settings = w; page = page }) m) room
unfolding answering
answer_large rights m w room page h = rw (le-ltb (length room) reply_room h)

pub reply_whole : ReplyWhole
reply_whole rights m w room page h = ap (λ (a : Answering). a.room) (answer_large rights m w room page h)

answer_small : (rights : Rights) (m : Received) (w : Settings) (room page : List ℕ) → length room < reply_room
    → answering rights m w room page ≡ record { answer = record { saved = false; error = 0; settings = w }; room = room; page = page }
unfolding answering
answer_small rights m w room page h = rw (lt-ltb (length room) reply_room h)

pub answer_keeps : AnswerKeeps
unfolding answering
answer_keeps rights m w room page h a =
    record {
      settings_usable_lem = (go (ltb (length room) reply_room)).0;
      page_sound = (go (ltb (length room) reply_room)).1;
      page_after_lem = λ l. rw (answer_large rights m w room page l) g.written;
      mark = λ l. rw (answer_large rights m w room page l) g.mark;
      small_room = answer_small rights m w room page;
    }
  where
    x : State (List ℕ)
    x = record { settings = w; page = page }

    g : Goes page (message_puts rights x m) (message_outcome page_access rights x m)
    g = message_goes rights x m (record { settings = a; page = h })

    go : (b : Bool) → (settings_usable (answer_on b m.kind (message_outcome page_access rights x m) w room page).answer.settings ≡ true)
        × (sound (answer_on b m.kind (message_outcome page_access rights x m) w room page).page ≡ true)
    go true = (a, h)
    go false = (g.stays.settings, g.stays.page)

-- ---- a message's own bytes

pub own_bytes : OwnBytes
unfolding received_of
own_bytes good m rest h =
    let k : type_of (m ++ rest) ≡ type_of m = get_or-append m rest 0 2 (omega arith) in
    let l : length_of (m ++ rest) ≡ length_of m = ap (λ (i : ℕ). i % 256) (get_or-append m rest 0 3 (omega arith)) in
    let d : drop 4 (m ++ rest) ≡ drop 4 m ++ rest = drop-append-le 4 m rest (omega arith) in
    let p : payload_of (m ++ rest) ≡ payload_of m = rw (l, d) (take-append-le (length_of m) (drop 4 m) rest (rw length-drop (omega arith))) in
    rw (p, k)
