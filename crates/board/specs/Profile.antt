-- Request 12: the profile that a board is started in, and what it lets each port do.
use Rattle.std.specs.Prelude.{ℕ, zero, suc, Bool, true, false}
use Rattle.command.specs.Rights.{guarded_rights}
use Rattle.command.specs.declared.rights.Rights.{Rights}

-- Is port 1 read-only?
abbrev pub Profile : Type 0
Profile = Bool

abbrev pub full : Profile
full = false

abbrev pub read_only : Profile
read_only = true

-- Port 0 has request 03's rights. "A board started in this profile lets port 1 use Ping and function 2 only."
abbrev pub rights_of : Profile → ℕ → Rights
rights_of profile zero = guarded_rights
rights_of profile (suc p) = record { guarded = false; readonly = profile }
