-- What is proved of data messages, beyond the contracts of the code. The proofs stand in proofs/.
use Rattle.std.specs.Prelude.{ℕ, ◌+◌, ◌≤◌, ◌<◌, ◌≡◌, true, false, List, T, Float, length, get_or, take, drop}
use Rattle.std.proofs.Math.Option.{some}
use Rattle.std.specs.Float.{binary32}
use Rattle.std.specs.Float.Ieee.{nan_bits, is_nan, fits}
use Rattle.sample.specs.declared.axes.Axes.{Axes}
use Rattle.sample.specs.declared.reader.Sample.TheVariants.{Acceleration, Rate, Unknown}
use Rattle.sample.specs.Axes.{float_of, kept_of, bits_of, axes_bytes, restored}
use Rattle.message.specs.Fields.{Field}
use Rattle.sample.specs.Reader.{sample_of, code_of, Found, reading_of, field_read, field_data}
use Rattle.sample.specs.Writer.{data_message}

-- Bits to axis to bits is the identity on all 2^32 patterns.
abbrev pub BitsBack : Type 0
BitsBack = (bits : ℕ) → bits < 4294967296 → bits_of (float_of bits) (kept_of bits) ≡ bits

-- An axis as it is read: a NaN with a NaN's pattern beside it, or a number with 0.
pub record Proper (x : Float) (kept : ℕ) : Type 0 where
  pub single : T (fits binary32 x)
  pub pattern : is_nan x ≡ true → nan_bits binary32 kept ≡ true
  pub nothing_kept : is_nan x ≡ false → kept ≡ 0

-- Such an axis comes back from its bits.
pub record AxisBack (x : Float) (kept : ℕ) : Type 0 where
  pub float_back : float_of (bits_of x kept) ≡ x
  pub kept_back : kept_of (bits_of x kept) ≡ kept

abbrev pub AxesBack : Type 0
AxesBack = (x : Float) (kept : ℕ) → Proper x kept → AxisBack x kept

-- So a record of such axes is the one with its bits.
pub record ProperAxes (a : Axes) : Type 0 where
  pub x : Proper a.x a.x_nan
  pub y : Proper a.y a.y_nan
  pub z : Proper a.z a.z_nan

abbrev pub RecordBack : Type 0
RecordBack = (a : Axes) → ProperAxes a → restored a ≡ a

-- The code of a field is kept in what it is read as.
abbrev pub CodeKept : Type 0
CodeKept = (f : Field) (place : ℕ) → code_of (sample_of f place) ≡ f.code

-- The data bytes of field k are that part of the message which starts at its place and is as long as its size says.
pub record PartOf (m : List ℕ) (f : Found) : Type 0 where
  pub part : f.field.content ≡ take f.field.size (drop f.place m)
  pub size : f.field.size ≡ length f.field.content
  pub inside : f.place + f.field.size ≤ length m

abbrev pub PartOfMessage : Type 0
PartOfMessage = (m : List ℕ) (k : ℕ) (f : Found) → (reading_of m k).found ≡ some f → PartOf m f

-- So whoever has the place and the size that the reader answers has the field's data in the message, without a copy: of whatever
-- bytes and number it is asked, refused or not, they lie within the bytes, and what stands there is the part that is handed out.
pub record Located (m : List ℕ) (k : ℕ) : Type 0 where
  pub inside : (field_read m k).place + (field_read m k).size ≤ length m
  pub part : take (field_read m k).size (drop (field_read m k).place m) ≡ field_data m k

abbrev pub FieldsLocated : Type 0
FieldsLocated = (m : List ℕ) (k : ℕ) → Located m k

-- What is written is read back: both fields, bit for bit, and the parts; there is no third field. It is 34 bytes.
pub record DataBack (a r : Axes) : Type 0 where
  pub size : length (data_message a r) ≡ 34
  pub acceleration_back : field_read (data_message a r) 0 ≡ record { number = 0; field = Acceleration (restored a); place = 6; size = 12 }
  pub rate_back : field_read (data_message a r) 1 ≡ record { number = 0; field = Rate (restored r); place = 20; size = 12 }
  pub no_third : field_read (data_message a r) 2 ≡ record { number = 27; field = Unknown 0 0; place = 0; size = 0 }
  pub acceleration_part : field_data (data_message a r) 0 ≡ axes_bytes a
  pub rate_part : field_data (data_message a r) 1 ≡ axes_bytes r

-- (The patterns that stand beside the floats are 32 bits, as in every such record.)
abbrev pub Kept32 : Axes → Type 0
Kept32 a = (a.x_nan < 4294967296) × (a.y_nan < 4294967296) × (a.z_nan < 4294967296)

abbrev pub Single : Axes → Type 0
Single a = T (fits binary32 a.x) × T (fits binary32 a.y) × T (fits binary32 a.z)

abbrev pub WrittenIsRead : Type 0
WrittenIsRead = (a r : Axes) → Single a → Single r → Kept32 a → Kept32 r → DataBack a r

-- A message that reads as exactly these two fields is written back to the same bytes.
abbrev pub ReadIsWritten : Type 0
ReadIsWritten =
    (m : List ℕ) (a r : Axes) → ((i : ℕ) → get_or m i 0 < 256) → (field_read m 0).field ≡ Acceleration a → (field_read m 1).field ≡ Rate r
    → (field_read m 2).number ≡ 27 → data_message a r ≡ m
