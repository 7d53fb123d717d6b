-- What is loaded of a setting, as the code reads it.
use Prim.Native.Nat.{ℕ, ◌-◌, ◌<◌, ◌≤◌}
use native.Mathlib.Omega.{arith}
use mathlib.Core.Path.{◌≡◌, refl, ap, sym, ◌∙◌}
use mathlib.Core.Bool.{Bool, true, false, not}
use mathlib.Core.List.{List, [], ◌∷◌}
use lib.ListN.{length, get_or, take, drop}
use lib.Seq.{take_all}
use Rattle.word.specs.Word.{number}
use Rattle.page.specs.declared.setting.Setting.{Setting}
use Rattle.page.specs.declared.setting.Setting.TheVariants.{Baud, Accelerometer, Gyroscope}
use Rattle.page.specs.declared.lookup.Entry.{Entry}
use Rattle.std.specs.Prelude.{Option, Some, None}
use Rattle.page.specs.Settings.{code_of, usable, factory_value}
use Rattle.page.specs.Page.{is_there, writing, factory_page}
use Rattle.page.specs.Lookup.{entry_from, entry_of, part_of, body_on, body_of}
use Rattle.command.specs.declared.settings.Settings.{Settings}
use Rattle.page.specs.Loading.{value_on, value_or}
use Rattle.message.specs.Whole.{refuse}
use Rattle.stream.proofs.Bools.{differ}
use Rattle.command.specs.Effects.{Fits, with_working, start_settings}
use Rattle.command.specs.Answer.{body_value, looked_up, loaded_from, settings_from}

pub no_first : (l : List ℕ) → length l ≤ 0 → 0 ≡ get_or l 0 0
no_first [] h = refl
no_first (x ∷ l) h = absurd (omega arith)

-- ---- a setting's value in use

module _ (w : Settings) (s : Setting) (x : ℕ) where
  pub with_baud : s ≡ Baud → record { baud = x; accelerometer = w.accelerometer; gyroscope = w.gyroscope } ≡ with_working w s x
  with_baud e = rw e

  pub with_accelerometer : s ≡ Accelerometer → record { baud = w.baud; accelerometer = x; gyroscope = w.gyroscope } ≡ with_working w s x
  with_accelerometer e = rw e

  pub with_gyroscope : s ≡ Gyroscope → record { baud = w.baud; accelerometer = w.accelerometer; gyroscope = x } ≡ with_working w s x
  with_gyroscope e = rw e

module _ (s : Setting) (x : ℕ) where
  pub accelerometer_fits : s ≡ Accelerometer → Fits s x → x < 256
  accelerometer_fits e h = rw e at h

  pub gyroscope_fits : s ≡ Gyroscope → Fits s x → x < 256
  gyroscope_fits e h = rw e at h

  pub fits_baud : s ≡ Baud → x < 4294967296 → Fits s x
  fits_baud e h = rw e h

  pub fits_accelerometer : s ≡ Accelerometer → x < 256 → Fits s x
  fits_accelerometer e h = rw e h

  pub fits_gyroscope : s ≡ Gyroscope → x < 256 → Fits s x
  fits_gyroscope e h = rw e h

-- ---- what is loaded

-- On the factory page each setting has its factory value.
factory_loaded : (s : Setting) → factory_value s ≡ body_value s (body_on (entry_of factory_page (code_of s)) factory_page [])
unfolding factory_page writing entry_of entry_from part_of
factory_loaded Baud = refl
factory_loaded Accelerometer = refl
factory_loaded Gyroscope = refl

-- The page is looked at through a part that is all of it.
module _ (page : List ℕ) (s : Setting) (code : ℕ) (cs : code ≡ code_of s) (e : Option Entry) (es : e ≡ entry_of (take (length page - 0) (drop 0 page)) code) (r : ℕ) where
  whole : take (length page - 0) (drop 0 page) ≡ page
  whole = take_all (length page - 0) page (omega arith)

  entry_is : e ≡ entry_of page (code_of s)
  entry_is = es ∙ ap (λ (l : List ℕ). entry_of l code) whole ∙ ap (entry_of page) cs

  pub loaded_factory : e ≡ None → r ≡ factory_value s → r ≡ looked_up page s
  unfolding looked_up body_of
  loaded_factory none h = h ∙ factory_loaded s ∙ rw (sym entry_is ∙ none)

  module _ {i : Entry} (there : e ≡ Some i) (body : List ℕ) (bs : body ≡ part_of (take (length page - 0) (drop 0 page)) i.offset i.length) where
    body_is : body ≡ body_of page factory_page (code_of s)
    unfolding body_of
    body_is = bs ∙ ap (λ (l : List ℕ). part_of l i.offset i.length) whole ∙ rw (sym entry_is ∙ there)

    pub loaded_baud : s ≡ Baud → r ≡ number (take 4 body) → r ≡ looked_up page s
    unfolding looked_up
    loaded_baud e h = h ∙ rw (body_is, e)

    module _ (x : ℕ) (xs : x ≡ get_or body 0 0) (rs : r ≡ x) where
      pub loaded_accelerometer : s ≡ Accelerometer → r ≡ looked_up page s
      unfolding looked_up
      loaded_accelerometer e = rs ∙ xs ∙ rw (body_is, e)

      pub loaded_gyroscope : s ≡ Gyroscope → r ≡ looked_up page s
      unfolding looked_up
      loaded_gyroscope e = rs ∙ xs ∙ rw (body_is, e)

-- It is loaded where it is usable.
module _ (page : List ℕ) (s : Setting) (x : ℕ) (xs : x ≡ looked_up page s) (u : Bool) (us : u ≡ usable s x) where
  load_is : loaded_from page s ≡ value_on u x
  unfolding loaded_from
  load_is = rw (← xs, ← us)

  pub start_loaded : u ≡ true → x ≡ value_or (loaded_from page s) (factory_value s)
  start_loaded e = rw (load_is, e)

  pub start_factory : u ≡ false → (r : ℕ) → r ≡ factory_value s → r ≡ value_or (loaded_from page s) (factory_value s)
  start_factory e r h = h ∙ rw (load_is, e)

  pub load_accepted : u ≡ true → 0 ≡ refuse (not (is_there (loaded_from page s))) 6 0
  load_accepted e = rw (load_is, e)

  pub load_refused : u ≡ false → 6 ≡ refuse (not (is_there (loaded_from page s))) 6 0
  load_refused e = rw (load_is, e)

-- What is looked up is what is loaded, where something is.
pub loaded_there : (page : List ℕ) (s : Setting) (x : ℕ) → x ≡ looked_up page s → is_there (loaded_from page s) ≡ true → loaded_from page s ≡ Some x
unfolding loaded_from
loaded_there page s x xs t = go (usable s (looked_up page s)) t
  where
    go : (b : Bool) → is_there (value_on b (looked_up page s)) ≡ true → value_on b (looked_up page s) ≡ Some x
    go true t = ap Some (sym xs)
    go false t = differ (sym t)

pub settings_loaded : (page : List ℕ) (b a g : ℕ) → b ≡ value_or (loaded_from page Baud) (factory_value Baud)
    → a ≡ value_or (loaded_from page Accelerometer) (factory_value Accelerometer) → g ≡ value_or (loaded_from page Gyroscope) (factory_value Gyroscope)
    → record { baud = b; accelerometer = a; gyroscope = g } ≡ settings_from page
unfolding start_settings
settings_loaded page b a g p q r = cc
