-- The start of a board: on the page of storable values, and anew, as the program that keeps only held bytes makes it.
use mathlib.Core.Bool.{true}
use mathlib.Core.List.{List, []}
use mathlib.Core.Path.{◌≡◌, refl, sym, ap, ◌∙◌, subst}
use Prim.Native.Nat.{ℕ, zero, suc}
use Rattle.history.specs.Restarts.{started_on}
use Rattle.page.specs.declared.setting.Values.{Values}
use Rattle.page.specs.Page.{all_storable, writing}
use Rattle.page.specs.Sound.{page_number}
use Rattle.page.proofs.Pages.{writing-sound, sound_passes}
use Rattle.command.specs.declared.settings.Settings.{Settings}
use Rattle.command.specs.Answer.{settings_from}
use Rattle.command.specs.Effects.{settings_usable}
use Rattle.command.proofs.Keeps.{starts_usable}
use Rattle.board.specs.Profile.{Profile, full}
use Rattle.board.specs.declared.board.Board.{Board}
use Rattle.board.specs.declared.board.Started.{Started}
use Rattle.board.specs.Port.{port_holding}
use Rattle.board.specs.Start.{fresh_board, start_on, start_of}
use Rattle.board.specs.Handling.{Reckoned, Kept, loaded_of, settings_of, StoredAs}
use Rattle.board.specs.Restarts.{start_anew}
use Rattle.board.proofs.Handles.{loaded_same, loaded_usable}
use Rattle.board.proofs.Steps.{state_of, Padded}

-- ---- on the page of storable values

settings_same : (v : Values) → all_storable v ≡ true → settings_from (writing v) ≡ settings_of v
settings_same v a = rw (← loaded_same v a)

pub settings_usable_lem : (v : Values) → all_storable v ≡ true → settings_usable (settings_of v) ≡ true
settings_usable_lem v a = starts_usable (loaded_of v) (loaded_usable v a)

pub started : (profile : Profile) (v : Values) → all_storable v ≡ true → start_of profile (writing v) ≡ record { number = 0; board = fresh_board profile (settings_of v) }
unfolding start_of
started profile v a = rw (sound_passes (writing v) (writing-sound v a)) (ap (λ (w : Settings). record { number = 0; board = fresh_board profile w }) (settings_same v a))

pub fresh-padded : (profile : Profile) (w : Settings) → Padded (fresh_board profile w)
unfolding port_holding
fresh-padded profile w = record { first = refl; second = refl }

-- ---- starting anew

-- A started board is fresh, whatever the page, and its settings are the same in every profile.
pub start_fresh : (profile : Profile) (page : List ℕ) → (start_of profile page).board ≡ fresh_board profile (start_of full page).board.settings
unfolding start_of
start_fresh profile page = go (page_number page)
  where
    go : (n : ℕ) → (start_on n profile page).board ≡ fresh_board profile (start_on n full page).board.settings
    go zero = refl
    go (suc n) = refl

pub start_padded : (profile : Profile) (page : List ℕ) → Padded (start_of profile page).board
start_padded profile page = subst Padded (sym (start_fresh profile page)) (fresh-padded profile (start_of full page).board.settings)

-- The board's start, as the program that keeps only held bytes makes it.
abbrev pub start_kept : Kept → Kept
start_kept x = record { settings = (start_of full x.page).board.settings; page = x.page }

pub start_state : (profile : Profile) (x : Kept) → started_on [] start_kept x ≡ state_of (start_of profile x.page).board x.page
start_state profile x = sym (ap (λ (b : Board). state_of b x.page) (start_fresh profile x.page))

pub starts_alike : (x : Reckoned) (y : Kept) → StoredAs x y → StoredAs (start_anew x) (start_kept y)
starts_alike x y r =
    record {
      settings =
          sym (ap (λ (p : List ℕ). (start_of full p).board.settings) r.page ∙ ap (λ (s : Started). s.board.settings) (started full x.page r.values_storable));
      page = r.page;
      settings_usable_lem = settings_usable_lem x.page r.values_storable;
      values_storable = r.values_storable;
    }
