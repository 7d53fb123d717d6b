-- What is proved of the flat structs: nothing is lost in them, and the place and the size of a field are those of its data in the
-- message. The proofs stand in proofs/Backs.antt.
use Rattle.std.specs.Prelude.{ℕ, ◌+◌, ◌≤◌, ◌<◌, ◌≡◌, Bool, true, false, List, Result, eqb, length, get_or, take, drop}
use Rattle.refusal.specs.declared.Refusal.{Refusal}
use Rattle.refusal.specs.Refusal.{number_of, answer_from}
use Rattle.message.specs.Write.{written_of, written_told}
use Rattle.page.specs.declared.setting.Values.{Values}
use Rattle.client.specs.declared.reader.Reply.{Reply}
use Rattle.client.specs.Reader.{ReplyAnswer, reply_of, reply_told}
use Rattle.sample.specs.declared.reader.Sample.{Sample}
use Rattle.sample.specs.declared.reader.Sample.TheVariants.{Acceleration, Rate, Unknown}
use Rattle.sample.specs.declared.reader.FieldRead.{FieldRead}
use Rattle.sample.specs.Axes.{axes_from}
use Rattle.sample.specs.Reader.{FieldAnswer, answer_of, field_told, field_read, field_data}
use Rattle.sample.specs.Writer.{data_message}
use Rattle.capi.specs.declared.flat.FlatReply.{FlatReply}
use Rattle.capi.specs.declared.flat.FlatField.{FlatField}
use Rattle.capi.specs.Flat.{stored_from, flat_reply, flat_values, values_from, flat_field}

-- ---- what a flat struct stands for

abbrev pub reply_from : FlatReply → ReplyAnswer
reply_from f = record { number = f.number; kind = f.kind; echo = f.echo; error = f.error; value = stored_from f.has_value f.value }

-- The code alone tells what a field is.
abbrev pub sample_by : Bool → Bool → FlatField → Sample
sample_by true rate f = Acceleration (axes_from f.x f.y f.z)
sample_by false true f = Rate (axes_from f.x f.y f.z)
sample_by false false f = Unknown f.code f.place

abbrev pub field_read_from : FlatField → FieldAnswer
field_read_from f = record { number = f.number; field = sample_by (eqb f.code 0x81) (eqb f.code 0x82) f; place = f.place; size = f.size }

-- ---- each comes back: a reply, the values of a page, and whatever is read as field k of a message of bytes. A reply and a field are
-- the paper's number and values here. The code answers a `Result`, which `reply_of` and `answer_of` give these for, and it comes back
-- too: so nothing of what the code answers is lost, and C is told whether it is refused, and why

pub record FlatBack : Type 0 where
  pub reply_back : (r : ReplyAnswer) → reply_from (flat_reply r) ≡ r
  pub values_back : (v : Values) → values_from (flat_values v) ≡ v
  pub field_back : (m : List ℕ) (k : ℕ) → ((i : ℕ) → get_or m i 0 < 256) → field_read_from (flat_field (field_read m k)) ≡ field_read m k
  -- Of the code: whatever the reply reader answers, what the data reader answers of field k, whatever a writer answers, and what is told
  -- by its number alone, as by the test of a message.
  pub reply_answer_back : (r : Result Reply Refusal) → reply_told (reply_from (flat_reply (reply_of r))) ≡ r
  pub field_answer_back : (m : List ℕ) (k : ℕ) → ((i : ℕ) → get_or m i 0 < 256) → (r : Result FieldRead Refusal) → answer_of r ≡ field_read m k
      → field_told (field_read_from (flat_field (answer_of r))) ≡ r
  pub written_answer_back : (r : Result ℕ Refusal) → written_told (written_of r) ≡ r
  pub number_answer_back : (r : Result (Unit {0}) Refusal) → answer_from (number_of r) tt ≡ r

-- ---- a field's data, used in the message: of whatever bytes and number is asked, refused or not, the `size` bytes from `place` on lie
-- within the bytes, and they are the part that `sample::field_data` hands out

pub record FlatLocated (m : List ℕ) (k : ℕ) : Type 0 where
  pub inside : (flat_field (field_read m k)).place + (flat_field (field_read m k)).size ≤ length m
  pub part : take (flat_field (field_read m k)).size (drop (flat_field (field_read m k)).place m) ≡ field_data m k

abbrev pub FlatFieldsLocated : Type 0
FlatFieldsLocated = (m : List ℕ) (k : ℕ) → FlatLocated m k

-- ---- the six patterns of a data message come back as they were written

abbrev pub Pattern : ℕ → Type 0
Pattern x = x < 4294967296

-- The flat field of three patterns under a code, whose twelve bytes start at a place.
abbrev pub patterns_under : ℕ → ℕ → ℕ → ℕ → ℕ → FlatField
patterns_under code place x y z = record { number = 0; code = code; place = place; size = 12; x = x; y = y; z = z }

pub record PatternsRead (ax ay az rx ry rz : ℕ) : Type 0 where
  pub acceleration : flat_field (field_read (data_message (axes_from ax ay az) (axes_from rx ry rz)) 0) ≡ patterns_under 0x81 6 ax ay az
  pub rate : flat_field (field_read (data_message (axes_from ax ay az) (axes_from rx ry rz)) 1) ≡ patterns_under 0x82 20 rx ry rz

abbrev pub PatternsBack : Type 0
PatternsBack =
    (ax ay az rx ry rz : ℕ) → Pattern ax → Pattern ay → Pattern az → Pattern rx → Pattern ry → Pattern rz → PatternsRead ax ay az rx ry rz
