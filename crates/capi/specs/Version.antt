-- The version of the calls for C: that of the header and of the Rust crate which belong to them.
use Rattle.std.specs.Prelude.{ℕ, ◌+◌, ◌*◌, ◌≡◌}

-- Major, minor and patch as one number, two digits for each of the lower two.
abbrev pub version_of : ℕ → ℕ → ℕ → ℕ
version_of major minor patch = 10000 * major + 100 * minor + patch

abbrev pub version : ℕ
version = version_of 0 2 0

-- So each of the three is seen in it. Proof: Versions `version_told`.
abbrev pub VersionTold : Type 0
VersionTold = version_of 1 23 45 ≡ 12345
