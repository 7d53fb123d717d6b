-- What is proved of the reply reader, beyond the contract of the code. Each statement names its proof, a term of that type in a file of
-- proofs/.
use Rattle.std.specs.Prelude.{◌≡◌, true, not, cond, List, [], ◌∷◌, ℕ, zero, suc, eqb, get_or, Option, Some, None}
use Rattle.page.specs.Sound.{sound}
use Rattle.message.specs.Fields.{fields_of}
use Rattle.message.specs.Message.{message_of}
use Rattle.command.specs.declared.rights.Rights.{Rights}
use Rattle.command.specs.declared.settings.Settings.{Settings}
use Rattle.command.specs.declared.command.Command.{Command}
use Rattle.command.specs.declared.command.Subject.{Subject}
use Rattle.command.specs.declared.command.Subject.TheVariants.{Ping, Setting as About, Unknown}
use Rattle.command.specs.Rights.{all_rights}
use Rattle.command.specs.Command.{subject_of, commands_of}
use Rattle.command.specs.Errors.{field_error, command_error}
use Rattle.command.specs.Numbers.{numbered_kind, number_of, inner_kind, inner_payload, number_error}
use Rattle.command.specs.Effects.{working_value, settings_usable}
use Rattle.command.specs.Outcome.{Access, State, Received, denial_of, field_outcome}
use Rattle.command.specs.Handle.{fields_in, spent}
use Rattle.command.specs.Answer.{page_access}
use Rattle.command.specs.Theorems.{reply_to}
use Rattle.client.specs.Reader.{Row, ReplyAnswer, no_reply, row_read, reply_read}

-- The value that a field's row carries: the working value, under an accepted function 2 of a setting.
abbrev pub report_on : Subject → ℕ → Settings → Option ℕ
report_on Ping function w = None
report_on (About s) function w = cond (eqb function 2) (Some (working_value w s)) None
report_on Unknown function w = None

abbrev pub reported : ℕ → Command → Settings → Option ℕ
reported error c w = cond (eqb error 0) (report_on (subject_of c.kind c.code) c.function w) None

-- One row without a value.
abbrev pub plain_row : ℕ → ℕ → List Row
plain_row echo error = record { echo = echo; error = error; value = None } ∷ []

module _ {P : Type 0} (access : Access P) where
  -- The rows of fields handled in order: the code, the error, and the value at its turn.
  abbrev pub field_rows : Rights → State P → List Command → List Row
  field_rows rights x [] = []
  field_rows rights x (c ∷ cs) =
      let error : ℕ = field_error (denial_of access rights x.page) (access.loaded x.page) c in
      record { echo = c.code; error = error; value = reported error c x.settings } ∷ field_rows rights (field_outcome access rights x c).next cs

  -- Those of a command: one where it is refused as a whole.
  abbrev pub command_rows_on : ℕ → Rights → State P → ℕ → List ℕ → List Row
  command_rows_on zero rights x kind payload = field_rows rights x (commands_of kind (fields_in (fields_of payload)))
  command_rows_on (suc n) rights x kind payload = plain_row (get_or payload 0 0) (suc n)

  abbrev pub command_rows : Rights → State P → ℕ → List ℕ → List Row
  command_rows rights x kind payload = command_rows_on (command_error kind payload) rights x kind payload

  -- Those of type 7C: one where the number is refused, else those of the command inside, on the page with the number.
  abbrev pub numbered_rows_on : ℕ → State P → List ℕ → List Row
  numbered_rows_on zero x payload = command_rows all_rights (spent access x (number_of payload)) (inner_kind payload) (inner_payload payload)
  numbered_rows_on (suc n) x payload = plain_row (get_or (inner_payload payload) 0 0) (suc n)

  abbrev pub message_rows : Rights → State P → Received → List Row
  message_rows rights x m =
      cond (not m.good) (plain_row (get_or m.payload 0 0) 1)
      (cond (eqb m.kind numbered_kind) (numbered_rows_on (number_error rights (access.last_number x.page) m.payload) x m.payload)
      (command_rows rights x m.kind m.payload))

-- Every reply that handling writes is read back, row by row, to its type, echoes, errors and values, and has no further row (27).
-- Proof: Replies `replies_read`.
abbrev pub RepliesRead : Type 0
RepliesRead =
    (rights : Rights) (m : Received) (w : Settings) (page : List ℕ) (k : ℕ) → sound page ≡ true → settings_usable w ≡ true
    → reply_read (reply_to rights m w page) k ≡ row_read m.kind (message_rows page_access rights (record { settings = w; page = page }) m) k

-- ---- replies of older boards

-- One row that reports a gyroscope's range; and one with an error.
abbrev pub range_reply : ℕ → List ℕ
range_reply x = message_of 0x02 (0x80 ∷ 0x02 ∷ 0x08 ∷ 0x00 ∷ 0x08 ∷ 0x01 ∷ x ∷ [])

abbrev pub error_reply : ℕ → List ℕ
error_reply e = message_of 0x02 (0x80 ∷ 0x02 ∷ 0x08 ∷ e ∷ [])

abbrev pub one_row : ℕ → Option ℕ → ReplyAnswer
one_row error value = record { number = 0; kind = 0x02; echo = 0x08; error = error; value = value }

-- "The reply reader still takes them, from older boards": 06 and 07, and none beyond; and the errors of the table, up to 7. Proof: Replies
-- `older_read`.
pub record OlderRead : Type 0 where
  pub none : reply_read (range_reply 0x00) 0 ≡ no_reply 23
  pub five : reply_read (range_reply 0x05) 0 ≡ one_row 0 (Some 0x05)
  pub six : reply_read (range_reply 0x06) 0 ≡ one_row 0 (Some 0x06)
  pub seven : reply_read (range_reply 0x07) 0 ≡ one_row 0 (Some 0x07)
  pub eight : reply_read (range_reply 0x08) 0 ≡ no_reply 23
  pub error_six : reply_read (error_reply 6) 0 ≡ one_row 6 None
  pub error_seven : reply_read (error_reply 7) 0 ≡ one_row 7 None
  pub error_eight : reply_read (error_reply 8) 0 ≡ no_reply 23
