-- Document 01, "Handling one message", and requests 02, 03, 05 and 12: what a field and a row of fields leave; and the reply. Over any keeping of
-- the page's values: the board keeps a page of 64 bytes, the plain reckoning the values under codes.
use Rattle.std.specs.Prelude.{Bool, true, false, ◌&&◌, ◌||◌, List, [], ◌∷◌, ◌++◌, ℕ, get_or, Option, Some, None}
use Rattle.page.specs.declared.setting.Setting.{Setting}
use Rattle.page.specs.Page.{is_there}
use Rattle.message.specs.Message.{message_of, type_of, payload_of}
use Rattle.message.specs.Whole.{refuse}
use Rattle.command.specs.declared.rights.Rights.{Rights}
use Rattle.command.specs.declared.settings.Settings.{Settings}
use Rattle.command.specs.declared.command.Command.{Command}
use Rattle.command.specs.Command.{subject_of}
use Rattle.command.specs.Errors.{field_error}
use Rattle.command.specs.Effects.{working_value, Effect, field_effect, effect_on}

-- ---- what handling is given

-- A message as handling sees it: whether its sums are right, its type and its payload.
pub record Received : Type 0 where
  pub good : Bool
  pub kind : ℕ
  pub payload : List ℕ

-- The message at the front of some bytes.
unfoldable pub received_of : Bool → List ℕ → Received
received_of good m = record { good = good; kind = type_of m; payload = payload_of m }

-- How the page's values are kept: what is loaded of a setting, a value or nothing; the page with a value saved; the last number
-- accepted; and the page with a number put in.
pub record Access (P : Type 0) : Type 0 where
  pub loaded : P → Setting → Option ℕ
  pub save : P → Setting → ℕ → P
  pub last_number : P → Option ℕ
  pub put_number : P → ℕ → P

-- The working values, and the page.
pub record State (P : Type 0) : Type 0 where
  pub settings : Settings
  pub page : P

-- ---- what handling gives

-- The fields of the reply, the mark of a save, and what is left.
pub record Outcome (P : Type 0) : Type 0 where
  pub rows : List ℕ
  pub saved : Bool
  pub next : State P

-- The reply has the received type.
abbrev pub reply_of : {P : Type 0} → ℕ → Outcome P → List ℕ
reply_of kind o = message_of kind o.rows

-- A row of the reply: one field 80 with size 2, echo and error; an accepted function 2 adds a second field.
abbrev pub reply_row : ℕ → ℕ → List ℕ → List ℕ
reply_row echo error row = 0x80 ∷ 0x02 ∷ echo ∷ error ∷ row

-- The first error in a reply: that of its first row, which stands behind the four bytes of the header, 80, 02 and the echo; 0 where there is
-- no reply.
abbrev pub error_in : List ℕ → ℕ
error_in reply = get_or reply 7 0

module _ {P : Type 0} where
  -- Nothing is done.
  abbrev pub idle : State P → Outcome P
  idle x = record { rows = []; saved = false; next = x }

  -- The row with echo and error in front.
  abbrev pub row_outcome : ℕ → ℕ → Outcome P → Outcome P
  row_outcome echo error o = record { rows = reply_row echo error o.rows; saved = o.saved; next = o.next }

  -- One after the other.
  abbrev pub then_outcome : Outcome P → Outcome P → Outcome P
  then_outcome a b = record { rows = a.rows ++ b.rows; saved = a.saved || b.saved; next = b.next }

-- ---- one field

-- Was a save accepted?
abbrev pub is_save : Option Setting → Bool
is_save None = false
is_save (Some s) = true

module _ {P : Type 0} (save : P → Setting → ℕ → P) where
  -- A save puts the working value in, and nothing else changes the page.
  abbrev pub page_after : Option Setting → Settings → P → P
  page_after None w page = page
  page_after (Some s) w page = save page s (working_value w s)

  -- What an effect leaves, and the field that it adds to the reply.
  abbrev pub effect_outcome : Effect → State P → Outcome P
  effect_outcome e x =
      record {
        rows = e.report;
        saved = is_save e.saves;
        next = record { settings = e.settings; page = page_after e.saves x.settings x.page };
      }

module _ {P : Type 0} (access : Access P) where
  -- A field with this error: its row has its code and the error, and an error leaves all as it is.
  abbrev pub field_on : ℕ → State P → Command → Outcome P
  field_on error x c =
      row_outcome c.code error
      (effect_outcome access.save (effect_on error (field_effect (subject_of c.kind c.code) (access.loaded x.page) x.settings c) x.settings) x)

  -- The error that functions 1, 3, 4 and 5 get under these rights, 0 where they are allowed. 7: "not allowed on this port, for functions 1,
  -- 3, 4 and 5". 5: "once the page has the entry, functions 1, 3, 4 and 5 without a number on port 0 are refused".
  abbrev pub denial_of : Rights → P → ℕ
  denial_of rights page = refuse rights.readonly 7 (refuse (rights.guarded && is_there (access.last_number page)) 5 0)

  -- One field handled, where functions 1, 3, 4 and 5 have this error.
  abbrev pub field_with : ℕ → State P → Command → Outcome P
  field_with denial x c = field_on (field_error denial (access.loaded x.page) c) x c

  -- One field handled.
  unfoldable pub field_outcome : Rights → State P → Command → Outcome P
  field_outcome rights x c = field_with (denial_of rights x.page) x c

  -- The fields in order, each on what those before it left.
  unfoldable pub fields_outcome : Rights → State P → List Command → Outcome P
  fields_outcome rights x [] = idle x
  fields_outcome rights x (c ∷ cs) = then_outcome (field_outcome rights x c) (fields_outcome rights (field_outcome rights x c).next cs)
