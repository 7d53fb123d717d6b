-- What a type and a code are about, and back.
use Prim.Native.Nat.{ℕ}
use native.Mathlib.Omega.{arith}
use mathlib.Core.Path.{◌≡◌, refl, ◌∙◌}
use mathlib.Core.Bool.{Bool, true, false}
use lib.Dec.{eqb}
use borrow.Author.Tests.{eqb-true}
use Rattle.page.specs.declared.setting.Setting.{Setting}
use Rattle.page.specs.declared.setting.Setting.TheVariants.{Baud, Accelerometer, Gyroscope}
use Rattle.std.specs.Prelude.{Option, Some, None}
use Rattle.page.specs.Settings.{setting_of, code_of}
use Rattle.command.specs.declared.command.Subject.TheVariants.{Ping, Setting as About}
use Rattle.command.specs.Command.{subject_of}

pub setting_back : (s : Setting) → setting_of (code_of s) ≡ Some s
unfolding setting_of
setting_back Baud = refl
setting_back Accelerometer = refl
setting_back Gyroscope = refl

pub setting_code : (code : ℕ) (s : Setting) → setting_of code ≡ Some s → code ≡ code_of s
unfolding setting_of
setting_code code s e = go (eqb code 0x01) refl (eqb code 0x07) refl (eqb code 0x08) refl
  where
    go : (a : Bool) → eqb code 0x01 ≡ a → (b : Bool) → eqb code 0x07 ≡ b → (c : Bool) → eqb code 0x08 ≡ c → code ≡ code_of s
    go true p b q c r = let h = eqb-true code 0x01 p in cc
    go false p true q c r = let h = eqb-true code 0x07 q in cc
    go false p false q true r = let h = eqb-true code 0x08 r in cc
    go false p false q false r = let z : ◌≡◌ {A = ℕ} 0 1 = cc in absurd (omega arith)

pub about_back : (s : Setting) → subject_of 0x02 (code_of s) ≡ About s
unfolding subject_of
about_back s = rw (setting_back s)

pub subject_ping : (kind code : ℕ) → subject_of kind code ≡ Ping → (kind ≡ 0x01) × (code ≡ 0x02)
unfolding subject_of
subject_ping kind code e = go (eqb kind 0x01) refl (eqb kind 0x02) refl (eqb code 0x02) refl (setting_of code) refl
  where
    go : (a : Bool) → eqb kind 0x01 ≡ a → (b : Bool) → eqb kind 0x02 ≡ b → (c : Bool) → eqb code 0x02 ≡ c
        → (d : Option Setting) → setting_of code ≡ d → (kind ≡ 0x01) × (code ≡ 0x02)
    go true p b q true r d s = (eqb-true kind 0x01 p, eqb-true code 0x02 r)
    go true p b q false r d s = let z : ◌≡◌ {A = ℕ} 0 1 = cc in absurd (omega arith)
    go false p true q c r (Some x) s = let z : ◌≡◌ {A = ℕ} 0 1 = cc in absurd (omega arith)
    go false p true q c r None s = let z : ◌≡◌ {A = ℕ} 0 1 = cc in absurd (omega arith)
    go false p false q c r d s = let z : ◌≡◌ {A = ℕ} 0 1 = cc in absurd (omega arith)

pub subject_about : (kind code : ℕ) (s : Setting) → subject_of kind code ≡ About s → (kind ≡ 0x02) × (code ≡ code_of s)
unfolding subject_of
subject_about kind code s e = go (eqb kind 0x01) refl (eqb kind 0x02) refl (eqb code 0x02) refl (setting_of code) refl
  where
    go : (a : Bool) → eqb kind 0x01 ≡ a → (b : Bool) → eqb kind 0x02 ≡ b → (c : Bool) → eqb code 0x02 ≡ c
        → (d : Option Setting) → setting_of code ≡ d → (kind ≡ 0x02) × (code ≡ code_of s)
    go true p b q true r d t = let z : ◌≡◌ {A = ℕ} 0 1 = cc in absurd (omega arith)
    go true p b q false r d t = let z : ◌≡◌ {A = ℕ} 0 1 = cc in absurd (omega arith)
    go false p true q c r (Some x) t = (eqb-true kind 0x02 q, setting_code code s (let f : Some x ≡ Some s = cc in t ∙ f))
    go false p true q c r None t = let z : ◌≡◌ {A = ℕ} 0 1 = cc in absurd (omega arith)
    go false p false q c r d t = let z : ◌≡◌ {A = ℕ} 0 1 = cc in absurd (omega arith)
