-- Requests 02, 03 and 12: what a message puts on the board's page. "The page now changes on accepted saves and on fresh numbers."
use Rattle.std.specs.Prelude.{Bool, true, false, not, cond, List, [], ◌∷◌, ◌++◌, ℕ, zero, suc, eqb, Option, Some, None}
use Rattle.page.specs.declared.setting.Setting.{Setting}
use Rattle.page.specs.Settings.{Key, value_of, last_number}
use Rattle.page.specs.Sound.{put_page}
use Rattle.message.specs.Fields.{fields_of}
use Rattle.command.specs.declared.rights.Rights.{Rights}
use Rattle.command.specs.declared.settings.Settings.{Settings}
use Rattle.command.specs.declared.command.Command.{Command}
use Rattle.command.specs.Rights.{all_rights}
use Rattle.command.specs.Command.{commands_of}
use Rattle.command.specs.Errors.{command_error}
use Rattle.command.specs.Numbers.{numbered_kind, number_of, inner_kind, inner_payload, number_error}
use Rattle.command.specs.Effects.{working_value, effect_of}
use Rattle.command.specs.Outcome.{State, Received, denial_of, field_outcome}
use Rattle.command.specs.Handle.{fields_in, spent}
use Rattle.command.specs.Answer.{loaded_from, number_on, page_access}

-- Values put in one after the other: those of settings, and numbers.
pub record Put : Type 0 where
  pub key : Key
  pub value : ℕ

abbrev pub puts_on : List ℕ → List Put → List ℕ
puts_on page [] = page
puts_on page (p ∷ ps) = puts_on (put_page page p.key p.value) ps

abbrev pub is_empty : List Put → Bool
is_empty [] = true
is_empty (p ∷ ps) = false

-- An accepted save puts the working value in, and no other field puts anything in.
abbrev pub save_puts : Option Setting → Settings → List Put
save_puts None w = []
save_puts (Some s) w = record { key = value_of s; value = working_value w s } ∷ []

abbrev pub field_puts : Rights → State (List ℕ) → Command → List Put
field_puts rights x c = save_puts (effect_of (denial_of page_access rights x.page) (loaded_from x.page) x.settings c).saves x.settings

-- The fields of a command in order, each on what those before it left.
unfoldable pub fields_puts : Rights → State (List ℕ) → List Command → List Put
fields_puts rights x [] = []
fields_puts rights x (c ∷ cs) = field_puts rights x c ++ fields_puts rights (field_outcome page_access rights x c).next cs

-- A command that is refused as a whole puts nothing in.
abbrev pub command_puts_on : ℕ → Rights → State (List ℕ) → ℕ → List ℕ → List Put
command_puts_on zero rights x kind payload = fields_puts rights x (commands_of kind (fields_in (fields_of payload)))
command_puts_on (suc n) rights x kind payload = []

unfoldable pub command_puts : Rights → State (List ℕ) → ℕ → List ℕ → List Put
command_puts rights x kind payload = command_puts_on (command_error kind payload) rights x kind payload

-- A fresh number, then what the command inside puts in. One that is stale or not allowed, or a message too short for one, puts nothing in.
abbrev pub numbered_puts_on : ℕ → State (List ℕ) → List ℕ → List Put
numbered_puts_on zero x payload =
    record { key = last_number; value = number_of payload }
    ∷ command_puts all_rights (spent page_access x (number_of payload)) (inner_kind payload) (inner_payload payload)
numbered_puts_on (suc n) x payload = []

unfoldable pub numbered_puts : Rights → State (List ℕ) → List ℕ → List Put
numbered_puts rights x payload = numbered_puts_on (number_error rights (number_on x.page) payload) x payload

-- A message with these rights. A damaged one puts nothing in.
unfoldable pub message_puts : Rights → State (List ℕ) → Received → List Put
message_puts rights x m =
    cond (not m.good) []
    (cond (eqb m.kind numbered_kind) (numbered_puts rights x m.payload)
    (command_puts rights x m.kind m.payload))
