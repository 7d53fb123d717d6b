-- Internal, for the contracts of the code: bytes that are passed over in a loop, since they are skipped whatever follows.
use Rattle.std.specs.Prelude.{◌≡◌, ℕ, ◌+◌, ◌-◌, ◌≤◌, List, ◌++◌, length, drop, slice_index_or}
use Rattle.stream.specs.Seek.{beyond, seek}
use Rattle.stream.specs.Silence.{End, up_to}
use Rattle.message.specs.Front.{front}

-- The bytes of s from `from` up to `to` are skipped, whatever follows s and however that ends.
pub record SkippedPart (s : List ℕ) (from to : ℕ) : Type 0 where
  pub forward : from ≤ to
  pub inside : to ≤ length s
  pub sought : (e : End) (v : List ℕ) → seek (up_to e front) (drop from s ++ v) ≡ beyond (to - from) (seek (up_to e front) (drop to s ++ v))

-- Two A5 stand at i, and the bytes of s from `from` up to it are skipped.
pub record RunAt (s : List ℕ) (from i : ℕ) : Type 0 where
  pub room : i + 2 ≤ length s
  pub first : slice_index_or s i 0 ≡ 0xA5
  pub second : slice_index_or s (i + 1) 0 ≡ 0xA5
  pub before : SkippedPart s from i
