-- Requests 03 and 12: what a message may do on the port that it came on.
use Rattle.std.specs.Prelude.{true, false}
use Rattle.command.specs.declared.rights.Rights.{Rights}

-- Everything.
abbrev pub all_rights : Rights
all_rights = record { guarded = false; readonly = false }

-- Everything, but functions 1, 3, 4 and 5 need a number once the page keeps one.
abbrev pub guarded_rights : Rights
guarded_rights = record { guarded = true; readonly = false }

-- Ping and function 2 only.
abbrev pub read_only_rights : Rights
read_only_rights = record { guarded = false; readonly = true }
