-- The rows of a reply are found one behind the other.
use Prim.Native.Nat.{ℕ, zero, suc, ◌+◌, ◌≤◌}
use native.Mathlib.Omega.{arith}
use mathlib.Core.Path.{◌≡◌, refl}
use mathlib.Core.Bool.{or-true}
use mathlib.Core.List.{List, [], ◌∷◌, ◌++◌}
use lib.Dec.{ltb}
use lib.ListN.{length}
use borrow.Author.Tests.{eq-eqb, ne_eqb, le-ltb}
use Rattle.page.specs.declared.setting.Setting.{Setting}
use Rattle.std.specs.Prelude.{Option}
use Rattle.page.specs.declared.setting.Setting.TheVariants.{Baud, Accelerometer, Gyroscope}
use Rattle.listing.specs.Rows.{row_size}
use Rattle.command.specs.declared.rights.Rights.{Rights}
use Rattle.command.specs.declared.settings.Settings.{Settings}
use Rattle.command.specs.declared.command.Command.{Command}
use Rattle.command.specs.declared.command.Subject.{Subject}
use Rattle.command.specs.declared.command.Subject.TheVariants.{Ping, Setting as About, Unknown}
use Rattle.command.specs.Command.{value_for, subject_of}
use Rattle.command.specs.Errors.{field_error}
use Rattle.command.specs.Effects.{working_value, value_field, function_effect, field_effect, effect_on, effect_of}
use Rattle.command.specs.Outcome.{Access, State, reply_row, denial_of, field_outcome, fields_outcome}
use Rattle.lister.specs.Rows.{AnotherRow, RowFound, RowsFound}

-- Nothing, or one field that is no row.
abbrev Report : List ℕ → Type 0
Report [] = Unit {0}
Report (b ∷ []) = ⊥
Report (b ∷ n ∷ bs) = (b ≡ 0x80 → ⊥) × (n ≡ length bs)

report_value : (s : Setting) (x : ℕ) → Report (value_field s x)
report_value Baud x = (λ e. omega arith, refl)
report_value Accelerometer x = (λ e. omega arith, refl)
report_value Gyroscope x = (λ e. omega arith, refl)

report_function : (f : ℕ) (loaded : Setting → Option ℕ) (w : Settings) (s : Setting) (x : ℕ) → Report (function_effect f loaded w s x).report
report_function zero loaded w s x = tt
report_function (suc zero) loaded w s x = tt
report_function (suc (suc zero)) loaded w s x = report_value s (working_value w s)
report_function (suc (suc (suc zero))) loaded w s x = tt
report_function (suc (suc (suc (suc zero)))) loaded w s x = tt
report_function (suc (suc (suc (suc (suc f))))) loaded w s x = tt

report_field : (subject : Subject) (loaded : Setting → Option ℕ) (w : Settings) (c : Command) → Report (field_effect subject loaded w c).report
report_field Ping loaded w c = tt
report_field (About s) loaded w c = report_function c.function loaded w s (value_for s c)
report_field Unknown loaded w c = tt

report_effect : (denial : ℕ) (loaded : Setting → Option ℕ) (w : Settings) (c : Command) → Report (effect_of denial loaded w c).report
unfolding effect_of
report_effect denial loaded w c = go (field_error denial loaded c)
  where
    go : (n : ℕ) → Report (effect_on n (field_effect (subject_of c.kind c.code) loaded w c) w).report
    go zero = report_field (subject_of c.kind c.code) loaded w c
    go (suc n) = tt

row_size_lem : (echo error : ℕ) (report rest : List ℕ) → Report report → AnotherRow rest → row_size (reply_row echo error report ++ rest) ≡ 4 + length report
unfolding row_size
row_size_lem echo error [] [] r a = refl
row_size_lem echo error [] (b ∷ bs) r a = rw (eq-eqb b 0x80 a, or-true (ltb (length (reply_row echo error [] ++ (b ∷ bs))) 6))
row_size_lem echo error (b ∷ []) rest r a = absurd r
row_size_lem echo error (b ∷ n ∷ bs) rest r a =
    let l : 6 ≤ length (reply_row echo error (b ∷ n ∷ bs) ++ rest) = omega arith in
    rw (le-ltb (length (reply_row echo error (b ∷ n ∷ bs) ++ rest)) 6 l, ne_eqb b 0x80 r.0, r.1) (omega arith)

module _ (P : Type 0) (access : Access P) (rights : Rights) where
  first : (x : State P) (c : Command) (rest : List ℕ) → AnotherRow rest → RowFound access rights x c rest
  unfolding field_outcome effect_of
  first x c rest a =
      let denial : ℕ = denial_of access rights x.page in
      let report : List ℕ = (effect_of denial (access.loaded x.page) x.settings c).report in
      let s : 4 + length report ≡ length (reply_row c.code (field_error denial (access.loaded x.page) c) report) = omega arith in
      record {
        size = rw s at (row_size_lem c.code (field_error denial (access.loaded x.page) c) report rest (report_effect denial (access.loaded x.page) x.settings c) a);
        echo = refl;
        error = refl;
      }

  next : (x : State P) (cs : List Command) → AnotherRow (fields_outcome access rights x cs).rows
  unfolding fields_outcome field_outcome
  next x [] = tt
  next x (c ∷ cs) = refl

pub rows_found : RowsFound
rows_found = record { first = first; next = next }
