-- Document 01, "Data messages": three IEEE 754 single floats X, Y, Z, a record of three axes carried bit for bit, NaN patterns
-- too.
use Rattle.std.specs.Prelude.{ℕ, Bool, true, false, List, ◌++◌, take, drop, Float}
use Rattle.std.specs.Float.{binary32}
use Rattle.std.specs.Float.Ieee.{of_bits, to_bits, nan_bits, is_nan}
use Rattle.word.specs.Word.{number, word_bytes}
use Rattle.sample.specs.declared.axes.Axes.{Axes}

-- ---- one axis and its 32 bits

-- The float of a pattern: the one NaN where it is a NaN's.
abbrev pub float_of : ℕ → Float
float_of bits = of_bits binary32 bits

abbrev pub kept_on : Bool → ℕ → ℕ
kept_on true bits = bits
kept_on false bits = 0

-- What stands beside the float: a NaN's own pattern, and 0 beside any other.
unfoldable pub kept_of : ℕ → ℕ
kept_of bits = kept_on (nan_bits binary32 bits) bits

-- A NaN's pattern, where there is one beside it; else a NaN all the same.
abbrev pub nan_on : Bool → ℕ → ℕ
nan_on true kept = kept
nan_on false kept = 0x7FC00000

abbrev pub bits_on : Bool → Float → ℕ → ℕ
bits_on true x kept = nan_on (nan_bits binary32 kept) kept
bits_on false x kept = to_bits binary32 x

-- The pattern of a float and of what stands beside it.
unfoldable pub bits_of : Float → ℕ → ℕ
bits_of x kept = bits_on (is_nan x) x kept

-- ---- three axes and their twelve bytes, big-endian

abbrev pub axes_from : ℕ → ℕ → ℕ → Axes
axes_from x y z = record { x = float_of x; y = float_of y; z = float_of z; x_nan = kept_of x; y_nan = kept_of y; z_nan = kept_of z }

unfoldable pub axes_of : List ℕ → Axes
axes_of bs = axes_from (number (take 4 bs)) (number (take 4 (drop 4 bs))) (number (take 4 (drop 8 bs)))

unfoldable pub axes_bytes : Axes → List ℕ
axes_bytes a = word_bytes (bits_of a.x a.x_nan) ++ (word_bytes (bits_of a.y a.y_nan) ++ word_bytes (bits_of a.z a.z_nan))

-- The record with the same bits, and 0 beside each axis that is no NaN.
abbrev pub restored : Axes → Axes
restored a = axes_from (bits_of a.x a.x_nan) (bits_of a.y a.y_nan) (bits_of a.z a.z_nan)
