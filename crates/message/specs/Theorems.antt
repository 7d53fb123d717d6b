-- What is proved of a message's definitions, beyond the contracts of the code. Each statement names its proof, a term of that type
-- in a file of proofs/.
use Rattle.std.specs.Prelude.{◌≡◌, ℕ, ◌+◌, ◌<◌, ◌≤◌, Bool, true, false, List, [], ◌∷◌, ◌++◌, length, take, drop, replicate, ◌≢◌, slice_index}
use Rattle.std.proofs.Math.Option.{some}
use Rattle.stream.specs.declared.Verdict.TheVariants.{Undecided, Whole}
use Rattle.stream.specs.declared.Sought.TheVariants.{Starved}
use Rattle.stream.specs.Scan.{Message, skipped, reported, events, messages}
use Rattle.stream.specs.Seek.{seek}
use Rattle.stream.specs.Cutting.{skips, Cutting}
use Rattle.message.specs.Fields.{Field, SizesRight, row_bytes, fields_of}
use Rattle.message.specs.Fletcher.{sums, totals, reduced}
use Rattle.message.specs.Front.{front, most_undecided}
use Rattle.message.specs.Message.{message_of, type_of, payload_of}
use Rattle.message.specs.Whole.{whole_number}

-- The wrapped sums are the plain sums modulo 256. Proof: SumLaws `sums_modulo`.
abbrev pub SumsModulo : Type 0
SumsModulo = (bs : List ℕ) → sums bs ≡ reduced (totals bs)

-- 003's Ping table: 335 and 1494 in row 4, and the final bytes 4F 25. Proof: SumLaws `ping_table`.
pub record PingTable : Type 0 where
  pub row_4 : totals (0xA5 ∷ 0xA5 ∷ 0x01 ∷ 0x02 ∷ 0x02 ∷ []) ≡ record { t1 = 335; t2 = 1494 }
  pub final : message_of 0x01 (0x02 ∷ 0x00 ∷ []) ≡ 0xA5 ∷ 0xA5 ∷ 0x01 ∷ 0x02 ∷ 0x02 ∷ 0x00 ∷ 0x4F ∷ 0x25 ∷ []

-- Cutting an MS CIP stream is harmless. (Its field `undecided_short`: an undecided front is at most 260 bytes.) Proof: Framed
-- `cutting_harmless`.
abbrev pub CuttingHarmless : Type 0
CuttingHarmless = Cutting front most_undecided

-- What the plain writer writes, of any type and a payload of at most 255 bytes.
pub record RoundTrip (kind : ℕ) (payload : List ℕ) : Type 0 where
  -- L + 6 bytes
  pub size : length (message_of kind payload) ≡ length payload + 6
  -- one whole message
  pub whole : whole_number (message_of kind payload) ≡ 0
  -- type and payload are read back
  pub kind_back : type_of (message_of kind payload) ≡ kind
  pub payload_back : payload_of (message_of kind payload) ≡ payload
  -- of every type but A5: a good message at the front, whatever follows,
  pub good : (kind ≢ 0xA5) → (v : List ℕ) → front (message_of kind payload ++ v) ≡ Whole (length payload + 6) true
  -- which the scan reports, and goes on after it
  pub scanned : (kind ≢ 0xA5) → (v : List ℕ) → events front (message_of kind payload ++ v)
      ≡ reported (record { good = true; bytes = message_of kind payload }) ∷ events front v
  -- of type A5 (request 01): the first byte is skipped, whatever follows, and the scan goes on behind it
  pub passed_over : kind ≡ 0xA5 → (v : List ℕ) → events front (message_of kind payload ++ v) ≡ skipped ∷ events front (drop 1 (message_of kind payload) ++ v)

-- Proof: RoundTrips `written_is_read`.
abbrev pub WrittenIsRead : Type 0
WrittenIsRead = (kind : ℕ) (payload : List ℕ) → length payload ≤ 255 → RoundTrip kind payload

-- The other way: one whole good message is what the plain writer writes of its type and payload. (L is a byte.)
-- Proof: RoundTrips `read_is_written`.
abbrev pub ReadIsWritten : Type 0
ReadIsWritten = (m : List ℕ) → slice_index m 3 < 256 → whole_number m ≡ 0 → message_of (type_of m) (payload_of m) ≡ m

abbrev pub whole_on : Bool → ℕ
whole_on true = 0
whole_on false = 22

-- What the scan reports is one whole message, with right sums where it is good and wrong ones where it is damaged. Proof: Reports
-- `reported_is_whole`.
abbrev pub ReportedIsWhole : Type 0
ReportedIsWhole = (u : List ℕ) (n : ℕ) (good : Bool) → front u ≡ Whole n good → whole_number (take n u) ≡ whole_on good

-- No message of this type.
abbrev pub NoneOfType : ℕ → List Message → Type 0
NoneOfType kind [] = Unit {0}
NoneOfType kind (m ∷ ms) = (type_of m.bytes ≢ kind) × NoneOfType kind ms

-- Request 01: one stray A5, or a run of them, costs no report. Proof: Strays `stray_a5`.
pub record StrayA5 : Type 0 where
  -- Behind A5 A5 a third byte is there and is A5: one byte is skipped and nothing reported.
  pub third : (v : List ℕ) → events front (0xA5 ∷ 0xA5 ∷ 0xA5 ∷ v) ≡ skipped ∷ events front (0xA5 ∷ 0xA5 ∷ v)
  -- A5 A5 alone is undecided, and so is one A5.
  pub two_alone : front (0xA5 ∷ 0xA5 ∷ []) ≡ Undecided
  pub one_alone : front (0xA5 ∷ []) ≡ Undecided
  -- So a run is skipped but for its last two, whatever follows; and where nothing follows, these two are held.
  pub run : (k : ℕ) (v : List ℕ) → events front (replicate k 0xA5 ++ (0xA5 ∷ 0xA5 ∷ v)) ≡ skips k ++ events front (0xA5 ∷ 0xA5 ∷ v)
  pub run_held : (k : ℕ) → seek front (replicate k 0xA5 ++ (0xA5 ∷ 0xA5 ∷ [])) ≡ Starved k
  -- "A5 is nobody's type": in no stream does the scan report a message of it, good or damaged.
  pub never_reported : (u : List ℕ) → NoneOfType 0xA5 (messages (events front u))
  -- Nor is one held: what a seek leaves undecided has no A5 for its third byte. So of a run over the end of a chunk two bytes are
  -- held at most, unless they stand in a message that began before it.
  pub never_held : (u : List ℕ) (k : ℕ) → seek front u ≡ Starved k → type_of (drop k u) ≢ 0xA5

-- The fields of a payload are those whose bytes, one field after the other, are the payload, and no others. Proofs: FieldRows
-- `fields_fill`, `fields_back`.
abbrev pub FieldsFill : Type 0
FieldsFill = (payload : List ℕ) (fs : List Field) → fields_of payload ≡ some fs → (row_bytes fs ≡ payload) × SizesRight fs

abbrev pub FieldsBack : Type 0
FieldsBack = (fs : List Field) → SizesRight fs → fields_of (row_bytes fs) ≡ some fs
