-- The walk over the fields of a payload, for the contracts of the reader's internal functions: a field by its place, what is
-- still to be tested from there, and where the walk for field k stands.
use Rattle.std.specs.Prelude.{ℕ, ◌+◌, ◌<◌, ◌≤◌, ◌≡◌, Bool, false, ◌||◌, List, length, get_or, take, drop, Option, Some, None, Result, Ok, Err}
use Rattle.std.proofs.Math.Option.{Option as Maybe, none, some}
use Rattle.refusal.specs.declared.Refusal.{Refusal}
use Rattle.refusal.specs.Refusal.{refusal_number}
use Rattle.message.specs.Message.{payload_of}
use Rattle.message.specs.Whole.{refuse, whole_number}
use Rattle.message.specs.Fields.{Field, fields_past, fields_of}
use Rattle.sample.specs.Reader.{size_wrong, some_size_wrong, Found, field_from, Reading, reading_of}

-- The field whose code is at `at`.
abbrev pub field_at : List ℕ → ℕ → Field
field_at p at = record { code = get_or p at 0; size = get_or p (at + 1) 0; content = take (get_or p (at + 1) 0) (drop (at + 2) p) }

-- That field is whole, and its size is right.
pub record There (p : List ℕ) (at : ℕ) : Type 0 where
  pub whole : at + 2 + get_or p (at + 1) 0 ≤ length p
  pub sized : size_wrong (field_at p at) ≡ false

-- The number of the fields that are left, where a wrong size may have been passed.
abbrev pub tested_from : Bool → Maybe (List Field) → ℕ
tested_from wrong none = 24
tested_from wrong (some fs) = refuse (wrong || some_size_wrong fs) 25 0

-- Field k of the fields that are left, the first of which starts at byte `at` of the message.
abbrev pub found_from : ℕ → Maybe (List Field) → ℕ → Maybe Found
found_from at none k = none
found_from at (some fs) k = field_from at fs k

-- The walk for field k stands at `at`, with `left` fields to pass.
pub record Walked (p : List ℕ) (k at left : ℕ) : Type 0 where
  pub inside : at ≤ length p
  pub tested : tested_from false (fields_past 0 (drop at p)) ≡ 0
  pub found : found_from (at + 4) (fields_past 0 (drop at p)) left ≡ found_from 4 (fields_of p) k

-- Where field k of a tested payload starts, or that there is none.
abbrev pub Started : List ℕ → ℕ → Option ℕ → Type 0
Started p k None = Walked p k (length p) 0
Started p k (Some at) = Walked p k at 0 × (at < length p)

-- The reading that an answer of the search stands for.
abbrev pub reading_at : List ℕ → Result ℕ Refusal → Reading
reading_at p (Ok at) = record { number = 0; found = some (record { field = field_at p at; place = at + 6 }) }
reading_at p (Err r) = record { number = refusal_number r; found = none }

-- What a reader may take for granted of it.
abbrev pub PlaceSound : List ℕ → Result ℕ Refusal → Type 0
PlaceSound m (Ok at) = (whole_number m ≡ 0) × There (payload_of m) at
PlaceSound m (Err r) = Unit {0}

-- What the search for field k of a message m answers.
pub record Placed (m : List ℕ) (k : ℕ) (r : Result ℕ Refusal) : Type 0 where
  pub reading : reading_at (payload_of m) r ≡ reading_of m k
  pub sound : PlaceSound m r
