-- Handling on the reckoning's values and on the board's settings and page go together.
use mathlib.Core.Bool.{true}
use mathlib.Core.List.{List}
use Rattle.std.specs.Prelude.{Option, Some, None}
use mathlib.Core.Path.{◌≡◌, refl, sym, ap, ◌∙◌, fun_ext}
use Prim.Native.Nat.{ℕ, ◌<◌}
use lib.Dec.{eqb}
use lib.ListN.{length}
use borrow.Author.Tests.{eq-eqb, lt-ltb}
use Rattle.history.specs.Program.{passing}
use Rattle.history.specs.Premises.{Handles}
use Rattle.page.specs.declared.setting.Setting.{Setting}
use Rattle.page.specs.declared.setting.Values.{Values}
use Rattle.page.specs.Settings.{usable, Key, value_of, last_number, key_storable}
use Rattle.page.specs.Page.{stored_in, with_value, with_key, all_storable, writing, page_size}
use Rattle.page.specs.Sound.{sound, put_page}
use Rattle.page.specs.Loading.{loaded_value}
use Rattle.page.proofs.Pages.{writing_size, read_back, writing-sound, usable-storable, put_storable}
use Rattle.command.specs.declared.rights.Rights.{Rights}
use Rattle.command.specs.declared.settings.Settings.{Settings}
use Rattle.command.specs.declared.command.Command.{Command}
use Rattle.command.specs.Effects.{working_value, Effect, effect_of, settings_usable}
use Rattle.command.specs.Outcome.{received_of, page_after, denial_of, field_outcome}
use Rattle.command.specs.Handle.{spent}
use Rattle.command.specs.Answer.{loaded_from, put_on, saved_on, number_on, page_access}
use Rattle.command.specs.Several.{Alike, KeepAlike}
use Rattle.command.proofs.Separate.{messages_alike}
use Rattle.message.specs.Message.{message_of}
use Rattle.command.proofs.Keeps.{value_usable, keeps_usable}
use Rattle.command.proofs.Pages.{loads_usable, loads_stored, page_changes}
use Rattle.board.specs.Profile.{Profile, rights_of}
use Rattle.board.specs.Handling.{handle_on, Reckoned, Kept, loaded_of, values_access, reckon_message, handle_message, kept_tests, StoredAs}

-- What is loaded from the writing of values is what those values give.
pub loaded_same : (v : Values) → all_storable v ≡ true → loaded_of v ≡ loaded_from (writing v)
loaded_same v a = fun_ext (λ s. sym (loads_stored (writing v) s (writing-sound v a) ∙ ap (λ (u : Values). loaded_value s (stored_in u s)) (read_back v a)))

pub loaded_usable : (v : Values) → all_storable v ≡ true → (s : Setting) (x : ℕ) → loaded_of v s ≡ Some x → usable s x ≡ true
loaded_usable v a s x e = loads_usable (writing v) s x (sym (ap (λ (l : Setting → Option ℕ). l s) (loaded_same v a)) ∙ e)

-- A value put in leaves the writing of the values with it.
record PutSame (v : Values) (k : Key) (x : ℕ) : Type 0 where
  page : put_on (writing v) k x ≡ writing (with_key v k x)
  values_storable : all_storable (with_key v k x) ≡ true

put_same : (v : Values) (k : Key) (x : ℕ) → all_storable v ≡ true → key_storable k x ≡ true → PutSame v k x
unfolding put_page
put_same v k x a e =
    record {
      page = (page_changes (writing v) k x (writing-sound v a) e).put_page_lem ∙ ap (λ (u : Values). writing (with_key u k x)) (read_back v a);
      values_storable = put_storable v k x a e;
    }

after_same : (saves : Option Setting) (w : Settings) (v : Values) → all_storable v ≡ true → settings_usable w ≡ true
    → (page_after saved_on saves w (writing v) ≡ writing (page_after with_value saves w v)) × (all_storable (page_after with_value saves w v) ≡ true)
after_same None w v a s = (refl, a)
after_same (Some t) w v a s =
    let p = put_same v (value_of t) (working_value w t) a (usable-storable t (working_value w t) (value_usable w t s)) in
    (p.page, p.values_storable)

passes_tests : (x : Reckoned) (y : Kept) → StoredAs x y → kept_tests y ≡ passing
unfolding kept_tests
passes_tests x y r =
    let a : settings_usable y.settings ≡ true = rw r.settings at r.settings_usable_lem in
    let l : eqb (length y.page) page_size ≡ true = eq-eqb (length y.page) page_size (ap length r.page ∙ writing_size x.page) in
    let s : sound y.page ≡ true = rw r.page (writing-sound x.page r.values_storable) in
    rw (a, l, s)

-- ---- with the page as the writing of the values

-- The number is the same on both sides.
number_same : (v : Values) → all_storable v ≡ true → number_on (writing v) ≡ v.number
number_same v a = ap (λ (u : Values). u.number) (read_back v a)

denial_same : (rights : Rights) (v : Values) → all_storable v ≡ true → denial_of page_access rights (writing v) ≡ denial_of values_access rights v
denial_same rights v a = rw (number_same v a)

-- Both sides of a field.
both_handled : (rights : Rights) (w : Settings) (v : Values) (c : Command) → settings_usable w ≡ true → all_storable v ≡ true
    → Alike StoredAs (field_outcome values_access rights (record { settings = w; page = v }) c) (field_outcome page_access rights (record { settings = w; page = writing v }) c)
unfolding field_outcome effect_of
both_handled rights w v c a b =
    let l : loaded_from (writing v) ≡ loaded_of v = sym (loaded_same v b) in
    let e : Effect = effect_of (denial_of values_access rights v) (loaded_of v) w c in
    let k = after_same e.saves w v b a in
    rw (l, denial_same rights v b)
    (record {
      rows = refl;
      saved = refl;
      next = record {
        settings = refl;
        page = k.0;
        settings_usable_lem = keeps_usable (denial_of values_access rights v) (loaded_of v) w c (loaded_usable v b) a;
        values_storable = k.1;
      };
    })

-- ---- the board's settings and page stand for the reckoning's values

stored_is : (x : Reckoned) (y : Kept) → StoredAs x y → y ≡ record { settings = x.settings; page = writing x.page }
stored_is x y r =
    ap (λ (w : Settings). record { settings = w; page = y.page }) (sym r.settings) ∙ ap (λ (p : List ℕ). record { settings = x.settings; page = p }) r.page

keep_alike : KeepAlike values_access page_access StoredAs
keep_alike =
    record {
      fields = λ rights x y c r. field rights x y c r;
      numbers = λ x y r. sym (ap number_on r.page ∙ number_same x.page r.values_storable);
      puts = λ n x y h r. put n x y h r;
    }
  where
    field : (rights : Rights) (x : Reckoned) (y : Kept) (c : Command) → StoredAs x y → Alike StoredAs (field_outcome values_access rights x c) (field_outcome page_access rights y c)
    field rights x y c r = rw (stored_is x y r) (both_handled rights x.settings x.page c r.settings_usable_lem r.values_storable)

    put : (n : ℕ) (x : Reckoned) (y : Kept) → n < 4294967296 → StoredAs x y → StoredAs (spent values_access x n) (spent page_access y n)
    put n x y h r =
        let p = put_same x.page last_number n r.values_storable (lt-ltb n 4294967296 h) in
        record {
          settings = r.settings;
          page = ap (λ (q : List ℕ). put_on q last_number n) r.page ∙ p.page;
          settings_usable_lem = r.settings_usable_lem;
          values_storable = p.values_storable;
        }

-- And so both sides of a message.
pub handles : (profile : Profile) → Handles StoredAs (reckon_message profile) kept_tests (handle_message profile)
unfolding handle_on
handles profile =
    record {
      passes = passes_tests;
      handled = λ port x y m r.
          (let a = messages_alike Values (List ℕ) values_access page_access StoredAs keep_alike (rights_of profile port) x y (received_of m.good m.bytes) r in
          record { reply = ap (message_of (received_of m.good m.bytes).kind) a.rows; saved = a.saved; next = a.next });
    }
