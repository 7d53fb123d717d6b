-- A message of several fields leaves what separate messages would leave; two keepings of the page that agree on every field
-- agree on every message; the longest reply is 166 bytes.
use Prim.Native.Nat.{ℕ, zero, suc, ◌+◌, ◌*◌, ◌≤◌}
use native.Mathlib.Omega.{arith}
use mathlib.Core.Path.{◌≡◌, refl, sym, ap, ◌∙◌}
use mathlib.Core.Bool.{Bool, true, false, not, cond, or-false, and-false}
use mathlib.Core.List.{List, [], ◌∷◌, append-nil}
use mathlib.Core.Option.{some}
use lib.Dec.{eqb}
use borrow.Author.Tests.{ne_eqb}
use lib.ListN.{length, get_or, length-append, length-take}
use Rattle.page.specs.Settings.{setting_of}
use Rattle.page.specs.declared.setting.Setting.{Setting}
use Rattle.std.specs.Prelude.{Option}
use Rattle.message.specs.Fields.{Field, field_bytes, row_bytes, SizesRight, fields_of}
use Rattle.message.specs.Message.{message_of, type_of, payload_of}
use Rattle.message.specs.Theorems.{RoundTrip}
use Rattle.message.proofs.FieldRows.{fields_fill, fields_back}
use Rattle.message.proofs.RoundTrips.{written_is_read}
use Rattle.message.proofs.Writes.{message_length}
use Rattle.stream.proofs.Bools.{differ}
use Rattle.command.specs.declared.rights.Rights.{Rights}
use Rattle.command.specs.declared.command.Command.{Command}
use Rattle.command.specs.Rights.{all_rights}
use Rattle.command.specs.Command.{command_of, commands_of, subject_of}
use Rattle.command.specs.Errors.{nonzero, field_wrong, field_error, is_kind, command_error}
use Rattle.command.specs.Numbers.{numbered_kind, number_of, inner_kind, inner_payload, number_error}
use Rattle.command.specs.Outcome.{Access, State, Outcome, Received, received_of, reply_of, reply_row, idle, then_outcome, denial_of, field_outcome, fields_outcome}
use Rattle.command.specs.Handle.{fields_in, refused_outcome, command_on, command_outcome, spent, numbered_on, numbered_outcome, message_outcome}
use Rattle.command.specs.Several.{in_turn, separate, AsSeparate, sixteen_reports, LongestReply, Alike, KeepAlike, MessagesAlike}
use Rattle.command.proofs.Rows.{message_most}
use Rattle.command.proofs.Tests.{command_passed}

-- ---- separate messages

-- A type that is known is not 7C.
pub known_kind : (kind : ℕ) → is_kind kind ≡ true → eqb kind numbered_kind ≡ false
known_kind kind k = ne_eqb kind numbered_kind (λ e. let z : false ≡ true = rw e at k in differ (sym z))

-- A field on its own is a command that is not refused as a whole.
alone_passes : (kind : ℕ) (f : Field) → is_kind kind ≡ true → fields_of (field_bytes f) ≡ some (f ∷ []) → command_error kind (field_bytes f) ≡ 0
unfolding command_error
alone_passes kind f k e = rw (k, e, ne_eqb (length (field_bytes f)) 0 (λ z. omega arith))

alone_field : (f : Field) → f.size ≡ length f.content → fields_of (field_bytes f) ≡ some (f ∷ [])
alone_field f s = ap fields_of (sym (append-nil (field_bytes f))) ∙ fields_back (f ∷ []) (s, tt)

module _ {P : Type 0} (access : Access P) where
  pub then_idle : (o : Outcome P) → then_outcome o (idle o.next) ≡ o
  then_idle o = rw (append-nil o.rows, or-false o.saved)

  module _ (rights : Rights) where
    -- A good message of another type than 7C is a command.
    pub is_command : (x : State P) (kind : ℕ) (payload : List ℕ) → eqb kind numbered_kind ≡ false
        → message_outcome access rights x (record { good = true; kind = kind; payload = payload }) ≡ command_outcome access rights x kind payload
    unfolding message_outcome
    is_command x kind payload k = rw k

    alone : (x : State P) (kind : ℕ) (f : Field) → is_kind kind ≡ true → f.size ≡ length f.content → length (field_bytes f) ≤ 255
        → message_outcome access rights x (received_of true (message_of kind (field_bytes f))) ≡ field_outcome access rights x (command_of kind f)
    unfolding command_outcome fields_outcome received_of
    alone x kind f k s l =
        let e : fields_of (field_bytes f) ≡ some (f ∷ []) = alone_field f s in
        let r : RoundTrip kind (field_bytes f) = written_is_read kind (field_bytes f) l in
        let m : received_of true (message_of kind (field_bytes f)) ≡ record { good = true; kind = kind; payload = field_bytes f } = rw (r.kind_back, r.payload_back) in
        ap (message_outcome access rights x) m
        ∙ is_command x kind (field_bytes f) (known_kind kind k)
        ∙ rw (alone_passes kind f k e, e) (then_idle (field_outcome access rights x (command_of kind f)))

    each_alone : (x : State P) (kind : ℕ) (fs : List Field) → is_kind kind ≡ true → SizesRight fs → length (row_bytes fs) ≤ 255
        → fields_outcome access rights x (commands_of kind fs) ≡ in_turn access rights x (separate kind fs)
    unfolding fields_outcome
    each_alone x kind [] k s l = refl
    each_alone x kind (f ∷ fs) k s l =
        let n : length (row_bytes (f ∷ fs)) ≡ length (field_bytes f) + length (row_bytes fs) = length-append (field_bytes f) (row_bytes fs) in
        let a = alone x kind f k s.0 (omega arith) in
        let o = field_outcome access rights x (command_of kind f) in
        rw a (ap (then_outcome o) (each_alone o.next kind fs k s.1 (omega arith)))

pub as_separate : AsSeparate
unfolding command_outcome received_of
as_separate P access rights x m fs e h =
    let p = command_passed (type_of m) (payload_of m) e in
    let f = fields_fill (payload_of m) fs h in
    let l : length (row_bytes fs) ≤ 255 = rw (f.0, length-take) (omega arith) in
    is_command access rights x (type_of m) (payload_of m) (known_kind (type_of m) p.kind_known)
    ∙ rw (e, h) (each_alone access rights x (type_of m) fs p.kind_known f.1 l)

-- ---- two keepings of the page

module _ {P Q : Type 0} (s : Access P) (t : Access Q) (R : State P → State Q → Type 0) (keep : KeepAlike s t R) where
  idle_alike : (x : State P) (y : State Q) (rows : List ℕ) → R x y
      → Alike R (record { rows = rows; saved = false; next = x }) (record { rows = rows; saved = false; next = y })
  idle_alike x y rows r = record { rows = refl; saved = refl; next = r }

  each_alike : (rights : Rights) (x : State P) (y : State Q) (cs : List Command) → R x y
      → Alike R (fields_outcome s rights x cs) (fields_outcome t rights y cs)
  unfolding fields_outcome
  each_alike rights x y [] r = idle_alike x y [] r
  each_alike rights x y (c ∷ cs) r =
      let a = keep.fields rights x y c r in
      let b = each_alike rights (field_outcome s rights x c).next (field_outcome t rights y c).next cs a.next in
      record { rows = rw (a.rows, b.rows); saved = rw (a.saved, b.saved); next = b.next }

  command_alike : (rights : Rights) (x : State P) (y : State Q) (kind : ℕ) (payload : List ℕ) → R x y
      → Alike R (command_outcome s rights x kind payload) (command_outcome t rights y kind payload)
  unfolding command_outcome
  command_alike rights x y kind payload r = go (command_error kind payload)
    where
      go : (n : ℕ) → Alike R (command_on s n rights x kind payload) (command_on t n rights y kind payload)
      go zero = each_alike rights x y (commands_of kind (fields_in (fields_of payload))) r
      go (suc n) = idle_alike x y (reply_row (get_or payload 0 0) (suc n) []) r

  numbered_alike : (rights : Rights) (x : State P) (y : State Q) (payload : List ℕ) → R x y → Alike R (numbered_outcome s rights x payload) (numbered_outcome t rights y payload)
  unfolding numbered_outcome
  numbered_alike rights x y payload r = rw (keep.numbers x y r) (go (number_error rights (t.last_number y.page) payload))
    where
      n : ℕ
      n = number_of payload

      go : (e : ℕ) → Alike R (numbered_on s e x payload) (numbered_on t e y payload)
      go zero =
          let put = keep.puts n x y (omega arith) r in
          let a = command_alike all_rights (spent s x n) (spent t y n) (inner_kind payload) (inner_payload payload) put in
          record { rows = a.rows; saved = refl; next = a.next }
      go (suc e) = idle_alike x y (reply_row (get_or (inner_payload payload) 0 0) (suc e) []) r

pub messages_alike : MessagesAlike
unfolding message_outcome
messages_alike P Q s t R keep rights x y m r = go m.good (eqb m.kind numbered_kind)
  where
    go : (good numbered : Bool) → Alike R
        (cond (not good) (refused_outcome (get_or m.payload 0 0) 1 x)
        (cond numbered (numbered_outcome s rights x m.payload) (command_outcome s rights x m.kind m.payload)))
        (cond (not good) (refused_outcome (get_or m.payload 0 0) 1 y)
        (cond numbered (numbered_outcome t rights y m.payload) (command_outcome t rights y m.kind m.payload)))
    go false numbered = idle_alike s t R keep x y (reply_row (get_or m.payload 0 0) 1 []) r
    go true true = numbered_alike s t R keep rights x y m.payload r
    go true false = command_alike s t R keep rights x y m.kind m.payload r

-- ---- the longest reply

reply_most : {P : Type 0} (access : Access P) (rights : Rights) (x : State P) (m : Received) → length (reply_of m.kind (message_outcome access rights x m)) ≤ 166
reply_most access rights x m = rw message_length (omega (arith, message_most access rights x m))

-- A report of the baud rate, some times.
abbrev report : Command
report = record { kind = 0x02; code = 0x01; size = 0x01; function = 0x02; first = 0; all = 0 }

abbrev reports : ℕ → List Command
reports zero = []
reports (suc n) = report ∷ reports n

sixteen_pass : command_error 0x02 sixteen_reports.payload ≡ 0
unfolding command_error fields_of
sixteen_pass = refl

sixteen_are : commands_of 0x02 (fields_in (fields_of sixteen_reports.payload)) ≡ reports 16
unfolding command_of fields_of
sixteen_are = refl

-- A report is allowed to all.
report_right : (denial : ℕ) (loaded : Setting → Option ℕ) → field_error denial loaded report ≡ 0
unfolding field_error field_wrong subject_of setting_of
report_right denial loaded = rw (and-false (nonzero denial))

module _ {P : Type 0} (access : Access P) (rights : Rights) where
  report_rows : (x : State P) → length (field_outcome access rights x report).rows ≡ 10
  unfolding field_outcome subject_of setting_of
  report_rows x = rw (report_right (denial_of access rights x.page) (access.loaded x.page))

  reports_rows : (x : State P) (n : ℕ) → length (fields_outcome access rights x (reports n)).rows ≡ 10 * n
  unfolding fields_outcome
  reports_rows x zero = refl
  reports_rows x (suc n) =
      let a = field_outcome access rights x report in
      rw (length-append a.rows) (omega (arith, report_rows x, reports_rows a.next n))

reply_reached : {P : Type 0} (access : Access P) (rights : Rights) (x : State P) → length (reply_of 0x02 (message_outcome access rights x sixteen_reports)) ≡ 166
unfolding message_outcome command_outcome
reply_reached access rights x = rw (sixteen_pass, message_length, sixteen_are) (omega (arith, reports_rows access rights x 16))

pub longest_reply : LongestReply
longest_reply = record { most = λ P access rights x m. reply_most access rights x m; reached = λ P access rights x. reply_reached access rights x }
