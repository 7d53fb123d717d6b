-- Requests 03 and 12: the number of a command of type 7C.
use Rattle.std.specs.Prelude.{Bool, true, not, List, ℕ, ◌%◌, ltb, length, get_or, take, drop, Option, Some, None}
use Rattle.word.specs.Word.{number}
use Rattle.message.specs.Whole.{refuse}
use Rattle.command.specs.declared.rights.Rights.{Rights}

abbrev pub numbered_kind : ℕ
numbered_kind = 0x7C

-- "A four-byte number, then a command's type and its fields." (Modulo 2^32, since a list of this logic may have elements over 255;
-- of bytes the number is below that.)
abbrev pub number_of : List ℕ → ℕ
number_of payload = number (take 4 payload) % 4294967296

abbrev pub inner_kind : List ℕ → ℕ
inner_kind payload = get_or payload 4 0

abbrev pub inner_payload : List ℕ → List ℕ
inner_payload payload = drop 5 payload

-- "A number is fresh if it is larger than the kept one; with no entry, every number is."
abbrev pub is_fresh : Option ℕ → ℕ → Bool
is_fresh None n = true
is_fresh (Some last) n = ltb last n

-- 7: "any 7C with right sums gets it at once, its number unspent", where Ping and function 2 alone are allowed. 4: L under 5. 5: the
-- number is stale. 0: it is spent, and the command inside has its own errors.
unfoldable pub number_error : Rights → Option ℕ → List ℕ → ℕ
number_error rights last payload =
    refuse rights.readonly 7
    (refuse (ltb (length payload) 5) 4
    (refuse (not (is_fresh last (number_of payload))) 5
    0))
