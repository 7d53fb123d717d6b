-- A field keeps the working values usable; a save is accepted under function 3 only.
use mathlib.Core.Path.{◌≡◌, refl, ap}
use mathlib.Core.Bool.{true, false, ◌&&◌}
use Rattle.std.specs.Prelude.{Option, Some, None}
use Prim.Native.Nat.{ℕ, zero, suc}
use native.Mathlib.Omega.{arith}
use Rattle.page.specs.declared.setting.Setting.{Setting}
use Rattle.page.specs.declared.setting.Setting.TheVariants.{Baud, Accelerometer, Gyroscope}
use Rattle.page.specs.Settings.{usable, factory_value}
use Rattle.page.specs.Loading.{value_or}
use Rattle.command.specs.declared.settings.Settings.{Settings}
use Rattle.command.specs.declared.command.Command.{Command}
use Rattle.command.specs.declared.command.Subject.{Subject}
use Rattle.command.specs.declared.command.Subject.TheVariants.{Ping, Setting as About, Unknown}
use Rattle.command.specs.Command.{value_for, subject_of}
use Rattle.command.specs.Errors.{value_right, not_on_board, field_error}
use Rattle.command.specs.Effects.{working_value, with_working, loading, start_settings, function_effect, field_effect, effect_on, effect_of, settings_usable}
use Rattle.command.specs.OnBoard.{UsableEach, StartsUsable}
use Rattle.command.specs.Theorems.{KeepsUsable, SaveOf, SavesOnly, SavesThen}
use Rattle.stream.proofs.Bools.{and_both}
use Rattle.page.proofs.Pages.{factory_usable}
use Rattle.command.proofs.Accepts.{accepted, sent_usable}

-- ---- the working values

-- Each of the three, from all of them.
pub value_usable : (w : Settings) (s : Setting) → settings_usable w ≡ true → usable s (working_value w s) ≡ true
unfolding settings_usable
value_usable w s e = go s
  where
    p : (usable Baud w.baud && usable Accelerometer w.accelerometer ≡ true) × (usable Gyroscope w.gyroscope ≡ true)
    p = and_both (usable Baud w.baud && usable Accelerometer w.accelerometer) (usable Gyroscope w.gyroscope) e

    q : (usable Baud w.baud ≡ true) × (usable Accelerometer w.accelerometer ≡ true)
    q = and_both (usable Baud w.baud) (usable Accelerometer w.accelerometer) p.0

    go : (s : Setting) → usable s (working_value w s) ≡ true
    go Baud = q.0
    go Accelerometer = q.1
    go Gyroscope = p.1

pub with_usable : (w : Settings) (s : Setting) (x : ℕ) → settings_usable w ≡ true → usable s x ≡ true → settings_usable (with_working w s x) ≡ true
unfolding settings_usable
with_usable w Baud x e h = cc (h, value_usable w Accelerometer e, value_usable w Gyroscope e)
with_usable w Accelerometer x e h = cc (h, value_usable w Baud e, value_usable w Gyroscope e)
with_usable w Gyroscope x e h = cc (h, value_usable w Baud e, value_usable w Accelerometer e)

pub usable_each : (w : Settings) → UsableEach w
unfolding settings_usable
usable_each w = record { each = λ e s. value_usable w s e; all = λ h. rw (h Baud, h Accelerometer, h Gyroscope) }

loading-usable : (w : Settings) (s : Setting) (o : Option ℕ) → settings_usable w ≡ true → ((x : ℕ) → o ≡ Some x → usable s x ≡ true)
    → settings_usable (loading w s o) ≡ true
loading-usable w s None e h = e
loading-usable w s (Some x) e h = with_usable w s x e (h x refl)

module _ (loaded : Setting → Option ℕ) (w : Settings) (c : Command) where
  function_keeps : (f : ℕ) (s : Setting) (x : ℕ) → ((s : Setting) (x : ℕ) → loaded s ≡ Some x → usable s x ≡ true) → settings_usable w ≡ true
      → (f ≡ 1 → usable s x ≡ true) → settings_usable (function_effect f loaded w s x).settings ≡ true
  function_keeps zero s x l e h = e
  function_keeps (suc zero) s x l e h = with_usable w s x e (h refl)
  function_keeps (suc (suc zero)) s x l e h = e
  function_keeps (suc (suc (suc zero))) s x l e h = e
  function_keeps (suc (suc (suc (suc zero)))) s x l e h = loading-usable w s (loaded s) e (l s)
  function_keeps (suc (suc (suc (suc (suc f))))) s x l e h = with_usable w s (factory_value s) e (factory_usable s)

  field_keeps : (subject : Subject) → value_right subject c ≡ true → not_on_board subject loaded c ≡ false → ((s : Setting) (x : ℕ) → loaded s ≡ Some x → usable s x ≡ true)
      → settings_usable w ≡ true
      → settings_usable (field_effect subject loaded w c).settings ≡ true
  field_keeps Ping v o l e = e
  field_keeps (About s) v o l e = function_keeps c.function s (value_for s c) l e (sent_usable loaded c s o v)
  field_keeps Unknown v o l e = e

pub keeps_usable : KeepsUsable
unfolding effect_of
keeps_usable denial loaded w c l e = go (field_error denial loaded c) refl
  where
    go : (n : ℕ) → field_error denial loaded c ≡ n → settings_usable (effect_on n (field_effect (subject_of c.kind c.code) loaded w c) w).settings ≡ true
    go zero p = let a = accepted denial loaded c p in field_keeps loaded w c (subject_of c.kind c.code) a.field.value a.on_board l e
    go (suc n) p = e

start_usable : (s : Setting) (o : Option ℕ) → ((x : ℕ) → o ≡ Some x → usable s x ≡ true) → usable s (value_or o (factory_value s)) ≡ true
start_usable s None h = factory_usable s
start_usable s (Some x) h = h x refl

pub starts_usable : StartsUsable
unfolding settings_usable start_settings
starts_usable loaded l =
    rw (start_usable Baud (loaded Baud) (l Baud), start_usable Accelerometer (loaded Accelerometer) (l Accelerometer), start_usable Gyroscope (loaded Gyroscope) (l Gyroscope))

-- ---- saves

function_saves : (f : ℕ) (loaded : Setting → Option ℕ) (w : Settings) (s : Setting) (x : ℕ) (t : Setting) → (function_effect f loaded w s x).saves ≡ Some t → f ≡ 3
function_saves zero loaded w s x t e = cc
function_saves (suc zero) loaded w s x t e = cc
function_saves (suc (suc zero)) loaded w s x t e = cc
function_saves (suc (suc (suc zero))) loaded w s x t e = refl
function_saves (suc (suc (suc (suc zero)))) loaded w s x t e = cc
function_saves (suc (suc (suc (suc (suc f))))) loaded w s x t e = cc

function_saved : (f : ℕ) (loaded : Setting → Option ℕ) (w : Settings) (s : Setting) (x : ℕ) (t : Setting) → (function_effect f loaded w s x).saves ≡ Some t → s ≡ t
function_saved zero loaded w s x t e = cc
function_saved (suc zero) loaded w s x t e = cc
function_saved (suc (suc zero)) loaded w s x t e = cc
function_saved (suc (suc (suc zero))) loaded w s x t e = cc
function_saved (suc (suc (suc (suc zero)))) loaded w s x t e = cc
function_saved (suc (suc (suc (suc (suc f))))) loaded w s x t e = cc

field-saves : (subject : Subject) (loaded : Setting → Option ℕ) (w : Settings) (c : Command) (t : Setting) → (field_effect subject loaded w c).saves ≡ Some t
    → (subject ≡ About t) × (c.function ≡ 3)
field-saves Ping loaded w c t e = let z : ◌≡◌ {A = ℕ} 0 1 = cc in absurd (omega arith)
field-saves (About s) loaded w c t e =
    (ap About (function_saved c.function loaded w s (value_for s c) t e), function_saves c.function loaded w s (value_for s c) t e)
field-saves Unknown loaded w c t e = let z : ◌≡◌ {A = ℕ} 0 1 = cc in absurd (omega arith)

pub saves_only : SavesOnly
unfolding effect_of
saves_only denial loaded w c s e = go (field_error denial loaded c) refl e
  where
    go : (n : ℕ) → field_error denial loaded c ≡ n → (effect_on n (field_effect (subject_of c.kind c.code) loaded w c) w).saves ≡ Some s
        → SaveOf denial loaded c s
    go zero p q =
        let f = field-saves (subject_of c.kind c.code) loaded w c s q in
        record { no_error = p; about = f.0; function = f.1 }
    go (suc n) p q = let z : ◌≡◌ {A = ℕ} 0 1 = cc in absurd (omega arith)

saved_function : (f : ℕ) (loaded : Setting → Option ℕ) (w : Settings) (s : Setting) (x : ℕ) → f ≡ 3 → (function_effect f loaded w s x).saves ≡ Some s
saved_function f loaded w s x e = rw e

pub saves_then : SavesThen
unfolding effect_of
saves_then denial loaded w c s h = rw (h.no_error, h.about) (saved_function c.function loaded w s (value_for s c) h.function)
