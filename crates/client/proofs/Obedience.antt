-- What the command writer writes is obeyed, and fields that are appended are a payload of it.
use Prim.Native.Nat.{ℕ, ◌+◌, ◌*◌, ◌≤◌, ◌<◌}
use native.Mathlib.Omega.{arith}
use mathlib.Core.Path.{◌≡◌, refl, ap, sym, ◌∙◌}
use mathlib.Core.Bool.{Bool, true, false}
use mathlib.Core.List.{List, [], ◌∷◌, ◌++◌, append_assoc, append-nil}
use mathlib.Core.Option.{some}
use lib.Dec.{eqb}
use lib.ListN.{length, take, length-append}
use borrow.Author.Tests.{ne_eqb, eqb-false, le-ltb}
use Rattle.std.specs.Prelude.{Option, Some, None}
use Rattle.page.specs.declared.setting.Setting.{Setting}
use Rattle.page.specs.Settings.{setting_of}
use Rattle.word.proofs.Numbers.{word_back}
use Rattle.message.specs.Fields.{Field, row_bytes, SizesRight, fields_of}
use Rattle.message.specs.Message.{message_of}
use Rattle.message.specs.Theorems.{RoundTrip}
use Rattle.message.specs.Write.{Writing, put_at}
use Rattle.message.proofs.FieldRows.{fields_back}
use Rattle.message.proofs.RoundTrips.{written_is_read}
use Rattle.command.specs.declared.rights.Rights.{Rights}
use Rattle.command.specs.declared.command.Subject.{Subject}
use Rattle.command.specs.declared.command.Subject.TheVariants.{Ping, Setting as About, Unknown}
use Rattle.command.specs.Rights.{all_rights}
use Rattle.command.specs.Command.{command_of, commands_of, subject_of}
use Rattle.command.specs.Errors.{most_fields, is_kind, command_error}
use Rattle.command.specs.Numbers.{numbered_kind, number_of, is_fresh, number_error}
use Rattle.command.specs.Outcome.{Access, State, Received, then_outcome, received_of, fields_outcome}
use Rattle.command.specs.Handle.{command_outcome, marked, spent, numbered_outcome, message_outcome}
use Rattle.command.specs.ReadOnly.{none_alters}
use Rattle.command.proofs.ReadOnly.{reading_allowed}
use Rattle.command.proofs.Separate.{known_kind, is_command}
use Rattle.command.proofs.Places.{put_length, put_front}
use Rattle.client.specs.Writer.{code_subject, acceptable, field_for, kind_for, command_message, numbered_payload, numbered_message, Asked, asked_subject, asked_field, asked_right, field_writing}
use Rattle.client.specs.Commands.{asks_to_read, asked_outcome, asked_outcomes, asked_fields, all_right, all_read, WrittenIsObeyed, NumberedIsObeyed, OneIsWritten, unless_refused, append_all, AppendedAreFields}
use Rattle.stream.proofs.Bools.{differ, and_both}
use Rattle.client.proofs.Asked.{field_as, field_bytes_lem, field_sized, field_most, asked_right_lem, field_obeyed, field_reads}

-- ---- several fields

-- Those that are written for what is asked.
abbrev fields_as : ℕ → List Asked → List Field
fields_as kind [] = []
fields_as kind (a ∷ asks) = field_as kind a ∷ fields_as kind asks

module _ (kind : ℕ) where
  fields_bytes : (asks : List Asked) → all_right kind asks ≡ true → row_bytes (fields_as kind asks) ≡ asked_fields kind asks
  fields_bytes [] h = refl
  fields_bytes (a ∷ asks) h =
      let b = and_both (asked_right kind a) (all_right kind asks) h in
      rw (← field_bytes_lem (asked_subject kind a) a.function a.value b.0, fields_bytes asks b.1)

  fields_sized : (asks : List Asked) → SizesRight (fields_as kind asks)
  fields_sized [] = tt
  fields_sized (a ∷ asks) = (field_sized (asked_subject kind a) a.function a.value, fields_sized asks)

  fields_count : (asks : List Asked) → length (fields_as kind asks) ≡ length asks
  fields_count [] = refl
  fields_count (a ∷ asks) = omega (arith, fields_count asks)

  fields_most : (asks : List Asked) → length (asked_fields kind asks) ≤ 7 * length asks
  fields_most [] = omega arith
  fields_most (a ∷ asks) =
      rw (length-append (asked_field kind a)) (omega (arith, field_most (asked_subject kind a) a.function a.value, fields_most asks))

  -- The payload is read back to these fields.
  fields_read : (asks : List Asked) → all_right kind asks ≡ true → fields_of (asked_fields kind asks) ≡ some (fields_as kind asks)
  fields_read asks h = ap fields_of (sym (fields_bytes asks h)) ∙ fields_back (fields_as kind asks) (fields_sized asks)

  -- Where there is one, there are two bytes, and the type is one of a command.
  pub fields_some : (asks : List Asked) → all_right kind asks ≡ true → 1 ≤ length asks → (is_kind kind ≡ true) × (2 ≤ length (asked_fields kind asks))
  fields_some [] h l = absurd (omega arith)
  fields_some (a ∷ asks) h l =
      let b = and_both (asked_right kind a) (all_right kind asks) h in
      ((asked_right_lem kind a b.0).kind_right, rw (← fields_bytes (a ∷ asks) h) (omega arith))

  -- They are a command that is not refused as a whole.
  fields_pass : (asks : List Asked) → all_right kind asks ≡ true → 1 ≤ length asks → length asks ≤ most_fields → command_error kind (asked_fields kind asks) ≡ 0
  unfolding command_error
  fields_pass asks h l m =
      let s = fields_some asks h l in
      rw (s.0, ne_eqb (length (asked_fields kind asks)) 0 (λ z. omega arith), fields_read asks h, fields_count asks, le-ltb 16 (length asks) m)

  fields_reading : (asks : List Asked) → all_read kind asks ≡ true → none_alters (commands_of kind (fields_as kind asks)) ≡ true
  unfolding command_of
  fields_reading [] h = refl
  fields_reading (a ∷ asks) h =
      let b = and_both (asks_to_read (asked_subject kind a) a.function) (all_read kind asks) h in
      rw (field_reads kind a b.0, fields_reading asks b.1)

module _ {P : Type 0} (access : Access P) (kind : ℕ) where
  fields_obeyed : (x : State P) (asks : List Asked) → all_right kind asks ≡ true
      → fields_outcome access all_rights x (commands_of kind (fields_as kind asks)) ≡ asked_outcomes access kind x asks
  unfolding fields_outcome
  fields_obeyed x [] h = refl
  fields_obeyed x (a ∷ asks) h =
      let b = and_both (asked_right kind a) (all_right kind asks) h in
      rw (field_obeyed access kind x a b.0) (ap (then_outcome (asked_outcome access kind x a)) (fields_obeyed (asked_outcome access kind x a).next asks b.1))

  command_obeyed : (x : State P) (asks : List Asked) → all_right kind asks ≡ true → 1 ≤ length asks → length asks ≤ most_fields
      → command_outcome access all_rights x kind (asked_fields kind asks) ≡ asked_outcomes access kind x asks
  unfolding command_outcome
  command_obeyed x asks h l m = rw (fields_pass kind asks h l m, fields_read kind asks h) (fields_obeyed x asks h)

-- At most 112 bytes in 16 fields.
pub fields_short : (kind : ℕ) (asks : List Asked) → length asks ≤ most_fields → length (asked_fields kind asks) ≤ 112
fields_short kind asks m = omega (arith, fields_most kind asks)

-- A message that is written is received as it is.
received_back : (kind : ℕ) (payload : List ℕ) → length payload ≤ 255 → received_of true (message_of kind payload) ≡ record { good = true; kind = kind; payload = payload }
unfolding received_of
received_back kind payload l = let t : RoundTrip kind payload = written_is_read kind payload l in rw (t.kind_back, t.payload_back)

pub written_is_obeyed : WrittenIsObeyed
written_is_obeyed kind asks h l m = record { whole = (written_is_read kind p n).whole; outcome = obeyed; reading = reading }
  where
    p : List ℕ
    p = asked_fields kind asks

    n : length p ≤ 255
    n = omega (arith, fields_short kind asks m)

    k : is_kind kind ≡ true
    k = (fields_some kind asks h l).0

    obeyed : (P : Type 0) (access : Access P) (x : State P) → message_outcome access all_rights x (received_of true (message_of kind p)) ≡ asked_outcomes access kind x asks
    obeyed P access x = rw (received_back kind p n) (is_command access all_rights x kind p (known_kind kind k) ∙ command_obeyed access kind x asks h l m)

    reading : all_read kind asks ≡ true → (P : Type 0) (access : Access P) (rights : Rights) (x : State P)
        → message_outcome access rights x (received_of true (message_of kind p)) ≡ asked_outcomes access kind x asks
    reading r P access rights x =
        let m : Received = record { good = true; kind = kind; payload = p } in
        let e : message_outcome access rights x m ≡ message_outcome access all_rights x m =
        reading_allowed P access rights x m (eqb-false kind numbered_kind (known_kind kind k)) (rw (fields_read kind asks h) (fields_reading kind asks r)) in
        rw (received_back kind p n) e ∙ obeyed P access x

-- ---- behind a number

module _ (number kind : ℕ) (fields : List ℕ) where
  abbrev behind : List ℕ
  behind = numbered_payload number kind fields

  number_back : number < 4294967296 → number_of behind ≡ number
  number_back h = rw (word_back number h) (omega arith)

  fresh_passes : number < 4294967296 → (rights : Rights) → rights.readonly ≡ false → (last : Option ℕ) → is_fresh last number ≡ true
      → number_error rights last behind ≡ 0
  unfolding number_error
  fresh_passes h rights o last f = rw (o, le-ltb (length behind) 5 (omega arith), number_back h, f)

spends : {P : Type 0} (access : Access P) (rights : Rights) (x : State P) (number kind : ℕ) (fields : List ℕ) → number < 4294967296
    → rights.readonly ≡ false → is_fresh (access.last_number x.page) number ≡ true
    → message_outcome access rights x (record { good = true; kind = numbered_kind; payload = numbered_payload number kind fields })
    ≡ marked (command_outcome access all_rights (spent access x number) kind fields)
unfolding message_outcome numbered_outcome
spends access rights x number kind fields h o f = rw (fresh_passes number kind fields h rights o (access.last_number x.page) f, number_back number kind fields h)

pub numbered_is_obeyed : NumberedIsObeyed
numbered_is_obeyed number kind asks s h l m =
    let fs : List ℕ = asked_fields kind asks in
    let n : length (numbered_payload number kind fs) ≤ 255 = omega (arith, fields_short kind asks m) in
    record {
      whole = (written_is_read numbered_kind (numbered_payload number kind fs) n).whole;
      outcome = λ P access rights x o f. rw (received_back numbered_kind (numbered_payload number kind fs) n) (handled access rights x o f);
    }
  where
    handled : {P : Type 0} (access : Access P) (rights : Rights) (x : State P) → rights.readonly ≡ false → is_fresh (access.last_number x.page) number ≡ true
        → message_outcome access rights x (record { good = true; kind = numbered_kind; payload = numbered_payload number kind (asked_fields kind asks) })
        ≡ marked (asked_outcomes access kind (spent access x number) asks)
    handled access rights x o f = spends access rights x number kind (asked_fields kind asks) s o f ∙ ap marked (command_obeyed access kind (spent access x number) asks h l m)

-- ---- the command writer

-- A code is about the same in a message of the type that its command has.
pub subject_same : (code : ℕ) (s : Subject) (f v : ℕ) → code_subject code ≡ s → acceptable s f v ≡ true → subject_of (kind_for s) code ≡ s
unfolding code_subject subject_of acceptable
subject_same code s f v e a = go (eqb code 0x02) refl (setting_of code) refl s e a
  where
    go : (t : Bool) → eqb code 0x02 ≡ t → (c : Option Setting) → setting_of code ≡ c → (s : Subject) → code_subject code ≡ s → acceptable s f v ≡ true
        → subject_of (kind_for s) code ≡ s
    go true t c r Ping e a = rw t
    go true t c r (About s) e a = let z : ◌≡◌ {A = ℕ} 0 1 = cc in absurd (omega arith)
    go false t c r (About s) e a = rw t at e
    go false t (Some x) r Ping e a = let z : ◌≡◌ {A = ℕ} 0 1 = cc in absurd (omega arith)
    go false t None r Ping e a = let z : ◌≡◌ {A = ℕ} 0 1 = cc in absurd (omega arith)
    go t q c r Unknown e a = differ (sym a)

pub one_is_written : OneIsWritten
unfolding command_message numbered_message
one_is_written code f v a =
    let s : Subject = code_subject code in
    let e : subject_of (kind_for s) code ≡ s = subject_same code s f v refl a in
    record {
      right = rw (e, a);
      written = rw (e, append-nil (field_for s f v));
      numbered = λ number. rw (e, append-nil (field_for s f v));
    }

-- ---- fields appended

-- What is appended stands behind what was there.
module _ (kind : ℕ) where
  one_appended : (a : Asked) (n : ℕ) (room : List ℕ) → asked_right kind a ≡ true → n + length (asked_field kind a) ≤ length room
      → field_writing kind a n room ≡ record { answer = record { number = 0; length = n + length (asked_field kind a) }; room = put_at n (asked_field kind a) room }
  unfolding field_writing
  one_appended a n room h l = rw (h, le-ltb (length room) (n + length (asked_field kind a)) l)

  all_appended : (asks : List Asked) (n : ℕ) (room : List ℕ) → all_right kind asks ≡ true → n + length (asked_fields kind asks) ≤ length room
      → ((append_all kind asks n room).answer.number ≡ 0) × ((append_all kind asks n room).answer.length ≡ n + length (asked_fields kind asks))
      × (take (n + length (asked_fields kind asks)) (append_all kind asks n room).room ≡ take n room ++ asked_fields kind asks)
  all_appended [] n room h l = let z : n + 0 ≡ n = omega arith in rw (z, append-nil (take n room)) (refl, refl, refl)
  all_appended (a ∷ asks) n room h l =
      let b = and_both (asked_right kind a) (all_right kind asks) h in
      let bs : List ℕ = asked_field kind a in
      let cs : List ℕ = asked_fields kind asks in
      let k : length (bs ++ cs) ≡ length bs + length cs = length-append bs cs in
      let q : n + length bs ≤ length room = omega arith in
      let e : append_all kind (a ∷ asks) n room ≡ append_all kind asks (n + length bs) (put_at n bs room) =
      ap (λ (w : Writing). unless_refused w.answer.number w (append_all kind asks w.answer.length w.room)) (one_appended a n room b.0 q) in
      let p : length (put_at n bs room) ≡ length room = put_length n bs room q in
      let r = all_appended asks (n + length bs) (put_at n bs room) b.1 (omega arith) in
      let m : n + length (bs ++ cs) ≡ n + length bs + length cs = omega arith in
      rw (e, m) (r.0, r.1, r.2 ∙ rw (put_front n bs room q, append_assoc))

pub appended_are_fields : AppendedAreFields
appended_are_fields kind asks n room h l =
    let r = all_appended kind asks n room h l in
    record { done = r.0; size = r.1; payload = r.2 }
