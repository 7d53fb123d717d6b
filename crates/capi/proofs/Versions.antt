-- A version as one number, computed.
use mathlib.Core.Path.{refl}
use Rattle.capi.specs.Version.{VersionTold}

pub version_told : VersionTold
version_told = refl
