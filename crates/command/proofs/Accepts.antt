-- What a command without error has passed, and what it is about.
use mathlib.Core.Path.{◌≡◌, subst}
use mathlib.Core.Bool.{Bool, true, false, ◌&&◌, ◌||◌, not}
use Prim.Native.Nat.{ℕ, ◌≤◌}
use native.Mathlib.Omega.{arith}
use lib.Dec.{eqb}
use borrow.Author.Tests.{not-false, eq-eqb}
use Rattle.page.specs.declared.setting.Setting.{Setting}
use Rattle.std.specs.Prelude.{Option}
use Rattle.page.specs.Settings.{usable, storable, not_on_this_board}
use Rattle.page.specs.Page.{is_there}
use Rattle.message.specs.Whole.{refuse}
use Rattle.command.specs.declared.rights.Rights.{Rights}
use Rattle.command.specs.declared.command.Command.{Command}
use Rattle.command.specs.declared.command.Subject.{Subject}
use Rattle.command.specs.declared.command.Subject.TheVariants.{Setting as About}
use Rattle.command.specs.Command.{value_for, subject_of}
use Rattle.command.specs.Errors.{is_unknown, size_right, function_right, value_right, alters, denied, field_wrong, not_on_board, field_error}
use Rattle.command.specs.Outcome.{Access, denial_of}
use Rattle.stream.proofs.Bools.{or_neither}
use Rattle.command.proofs.Tests.{none-refused, none-denied}

-- The tests of a field that is not wrong.
pub record FieldRight (subject : Subject) (c : Command) : Type 0 where
  pub size : size_right subject c ≡ true
  pub function : function_right subject c ≡ true
  pub value : value_right subject c ≡ true

pub field_right : (subject : Subject) (c : Command) → field_wrong subject c ≡ false → FieldRight subject c
unfolding field_wrong
field_right subject c e =
    let p = or_neither (not (size_right subject c) || not (function_right subject c)) (not (value_right subject c)) e in
    let q = or_neither (not (size_right subject c)) (not (function_right subject c)) p.0 in
    record {
      size = not-false (size_right subject c) q.0;
      function = not-false (function_right subject c) q.1;
      value = not-false (value_right subject c) p.1;
    }

-- The tests of a command without error.
pub record Accepted (loaded : Setting → Option ℕ) (c : Command) : Type 0 where
  pub known : is_unknown (subject_of c.kind c.code) ≡ false
  pub field : FieldRight (subject_of c.kind c.code) c
  pub on_board : not_on_board (subject_of c.kind c.code) loaded c ≡ false

pub accepted : (denial : ℕ) (loaded : Setting → Option ℕ) (c : Command) → field_error denial loaded c ≡ 0 → Accepted loaded c
unfolding field_error
accepted denial loaded c e =
    let subject = subject_of c.kind c.code in
    let three = none-refused (is_unknown subject) 2 _ e in
    let four = none-refused (field_wrong subject c) 3 _ (none-denied denial (alters subject c) _ three.1) in
    let six = none-refused (not_on_board subject loaded c) 5 0 four.1 in
    record { known = three.0; field = field_right subject c four.0; on_board = six.0 }

-- An accepted command about a setting: under function 1 the value sent is usable, and under function 4 a value is loaded.
module _ (loaded : Setting → Option ℕ) (c : Command) (s : Setting) (on : not_on_board (About s) loaded c ≡ false) where
  tests : (eqb c.function 1 && not_on_this_board s (value_for s c) ≡ false) × (eqb c.function 4 && not (is_there (loaded s)) ≡ false)
  tests = or_neither (eqb c.function 1 && not_on_this_board s (value_for s c)) (eqb c.function 4 && not (is_there (loaded s))) on

  pub sent_usable : value_right (About s) c ≡ true → c.function ≡ 1 → usable s (value_for s c) ≡ true
  sent_usable v f =
      let one : eqb c.function 1 ≡ true = eq-eqb c.function 1 f in
      let st : storable s (value_for s c) ≡ true = subst (λ (b : Bool). not b || storable s (value_for s c) ≡ true) one v in
      let h : not_on_this_board s (value_for s c) ≡ false = subst (λ (b : Bool). b && not_on_this_board s (value_for s c) ≡ false) one tests.0 in
      not-false (usable s (value_for s c)) (subst (λ (b : Bool). b && not (usable s (value_for s c)) ≡ false) st h)

  pub something_loaded : c.function ≡ 4 → is_there (loaded s) ≡ true
  something_loaded f = not-false (is_there (loaded s)) (subst (λ (b : Bool). b && not (is_there (loaded s)) ≡ false) (eq-eqb c.function 4 f) tests.1)

-- ---- errors are 0 to 7

pub denial_most : {P : Type 0} (access : Access P) (rights : Rights) (page : P) → denial_of access rights page ≤ 7
denial_most access rights page = go rights.readonly (rights.guarded && is_there (access.last_number page))
  where
    go : (a b : Bool) → refuse a 7 (refuse b 5 0) ≤ 7
    go true b = omega arith
    go false true = omega arith
    go false false = omega arith

pub error_most : (denial : ℕ) (loaded : Setting → Option ℕ) (c : Command) → denial ≤ 7 → field_error denial loaded c ≤ 7
unfolding field_error
error_most denial loaded c l = let subject = subject_of c.kind c.code in go (is_unknown subject) (denied denial subject c) (field_wrong subject c) (not_on_board subject loaded c)
  where
    go : (a n b o : Bool) → refuse a 3 (refuse n denial (refuse b 4 (refuse o 6 0))) ≤ 7
    go true n b o = omega arith
    go false true b o = omega arith
    go false false true o = omega arith
    go false false false true = omega arith
    go false false false false = omega arith
