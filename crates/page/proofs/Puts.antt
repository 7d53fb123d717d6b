-- A value put in under a code.
use Prim.Native.Nat.{ℕ}
use mathlib.Core.Path.{◌≡◌, refl, ap, ◌∙◌}
use mathlib.Core.Bool.{Bool, true, false}
use mathlib.Core.List.{List}
use Rattle.std.specs.Prelude.{Some}
use lib.ListN.{length}
use Rattle.page.specs.declared.setting.Setting.{Setting}
use Rattle.page.specs.declared.setting.Setting.TheVariants.{Baud, Accelerometer, Gyroscope}
use Rattle.page.specs.declared.setting.Values.{Values}
use Rattle.page.specs.Settings.{code_of, setting_of, value_of, last_number, key_of}
use Rattle.page.specs.Page.{with_value, with_number, with_key, all_storable, writing}
use Rattle.page.specs.Lookup.{values_in}
use Rattle.page.specs.Sound.{PageWriting, page_writing}
use Rattle.page.specs.Draft.{with_coded}
use Rattle.page.proofs.Stores.{refused_19, refused_20, page_written}
use Rattle.page.proofs.Settings.{code_baud, code_accelerometer, code_gyroscope, key_setting, key_number, key_unknown}

-- ---- under a code

module _ (v : Values) (code x : ℕ) where
  with_setting : (s : Setting) → Some (value_of s) ≡ key_of code → (r : Values) → r ≡ with_value v s x → r ≡ with_coded v (key_of code) x
  with_setting s e r h = h ∙ rw (← e)

  pub with_baud : code ≡ 0x01 → (r : Values) → r ≡ with_value v Baud x → r ≡ with_coded v (key_of code) x
  with_baud e = with_setting Baud (key_setting code Baud (code_baud code e))

  pub with_accelerometer : code ≡ 0x07 → (r : Values) → r ≡ with_value v Accelerometer x → r ≡ with_coded v (key_of code) x
  with_accelerometer e = with_setting Accelerometer (key_setting code Accelerometer (code_accelerometer code e))

  pub with_gyroscope : code ≡ 0x08 → (r : Values) → r ≡ with_value v Gyroscope x → r ≡ with_coded v (key_of code) x
  with_gyroscope e = with_setting Gyroscope (key_setting code Gyroscope (code_gyroscope code e))

  pub with_last_number : code ≡ 0x70 → (r : Values) → r ≡ with_number v x → r ≡ with_coded v (key_of code) x
  with_last_number e r h = h ∙ rw (← (key_number code e))

  pub with_none : (code ≡ 0x01 → ⊥) → (code ≡ 0x07 → ⊥) → (code ≡ 0x08 → ⊥) → (code ≡ 0x70 → ⊥) → v ≡ with_coded v (key_of code) x
  with_none n m k l = rw (← (key_unknown code n m k l))

-- ---- one value

abbrev page_after : List ℕ → Values → List ℕ
page_after page u = (page_writing u page).page

module _ (page : List ℕ) (code x : ℕ) where
  pub put_19 : (length page ≡ 64 → ⊥) → page ≡ page_after page (with_coded (values_in page) (key_of code) x)
  put_19 n = ap (λ (w : PageWriting). w.page) (refused_19 (with_coded (values_in page) (key_of code) x) page n)

  module _ (size : length page ≡ 64) {w u : Values} (read : w ≡ values_in page) (e : u ≡ with_coded w (key_of code) x) {r : Bool} (a : r ≡ all_storable u) where
    put_in : u ≡ with_coded (values_in page) (key_of code) x
    put_in = e ∙ ap (λ (v : Values). with_coded v (key_of code) x) read

    pub put_20 : r ≡ false → page ≡ page_after page (with_coded (values_in page) (key_of code) x)
    put_20 h = ap (λ (w : PageWriting). w.page) (refused_20 u page size a h) ∙ ap (page_after page) put_in

    pub put_done : r ≡ true → {done : List ℕ} → done ≡ writing u → done ≡ page_after page (with_coded (values_in page) (key_of code) x)
    put_done h d = ap (λ (w : PageWriting). w.page) (page_written u page size a h d) ∙ ap (page_after page) put_in

setting_key : (s : Setting) → key_of (code_of s) ≡ Some (value_of s)
unfolding key_of setting_of
setting_key Baud = refl
setting_key Accelerometer = refl
setting_key Gyroscope = refl

module _ (page : List ℕ) (x : ℕ) (next : List ℕ) where
  pub put_coded : (s : Setting) (code : ℕ) → code ≡ code_of s → next ≡ (page_writing (with_coded (values_in page) (key_of code) x) page).page
      → next ≡ (page_writing (with_key (values_in page) (value_of s) x) page).page
  put_coded s code e h = h ∙ rw (e, setting_key s)

  pub put_numbered : next ≡ (page_writing (with_coded (values_in page) (key_of 0x70) x) page).page
      → next ≡ (page_writing (with_key (values_in page) last_number x) page).page
  put_numbered h = h ∙ rw (← (key_number 0x70 refl))
