-- What is proved of numbered commands (requests 03 and 12). Each statement names its proof, a term of that type in a file of proofs/.
use Rattle.std.specs.Prelude.{◌≡◌, Bool, true, false, ◌&&◌, not, cond, List, ℕ, ◌<◌, eqb, leb, length, get_or, Option, Some, None}
use Rattle.page.specs.Sound.{sound}
use Rattle.command.specs.declared.rights.Rights.{Rights}
use Rattle.command.specs.Rights.{all_rights, guarded_rights}
use Rattle.command.specs.Numbers.{numbered_kind, number_of, inner_kind, inner_payload, is_fresh}
use Rattle.command.specs.Outcome.{Access, State, Outcome, Received}
use Rattle.command.specs.Handle.{refused_outcome, marked, spent, message_outcome}
use Rattle.command.specs.Answer.{number_on, page_access}

-- ---- which number

-- The number that a message carries: a good one of type 7C with L of 5 or more.
unfoldable pub carried : Received → Option ℕ
carried m = cond (m.good && eqb m.kind numbered_kind && leb 5 (length m.payload)) (Some (number_of m.payload)) None

-- The number that is looked at: none on a port where it is not allowed.
abbrev pub allowed_number : Rights → Option ℕ → Option ℕ
allowed_number rights n = cond rights.readonly None n

-- The number that the page keeps after a message: the one looked at where it is fresh.
abbrev pub kept_on : Option ℕ → Option ℕ → Option ℕ
kept_on None last = last
kept_on (Some n) last = cond (is_fresh last n) (Some n) last

-- ---- handling

-- A message that carries a number, whatever its rights.
pub record HandlesNumber {P : Type 0} (access : Access P) (rights : Rights) (x : State P) (m : Received) (n : ℕ) : Type 0 where
  -- Fresh: it is handled as the one inside it would be with all rights, on the page with the number, and the mark is set. A type 7C
  -- inside is none: 2.
  pub fresh : rights.readonly ≡ false → is_fresh (access.last_number x.page) n ≡ true → (inner_kind m.payload ≡ numbered_kind → ⊥)
      → message_outcome access rights x m
      ≡ marked (message_outcome access all_rights (spent access x n) (record { good = true; kind = inner_kind m.payload; payload = inner_payload m.payload }))
  pub fresh_twice : rights.readonly ≡ false → is_fresh (access.last_number x.page) n ≡ true → inner_kind m.payload ≡ numbered_kind
      → message_outcome access rights x m ≡ marked (refused_outcome (get_or (inner_payload m.payload) 0 0) 2 (spent access x n))
  -- Stale: 5, and nothing changes.
  pub stale : rights.readonly ≡ false → is_fresh (access.last_number x.page) n ≡ false
      → message_outcome access rights x m ≡ refused_outcome (get_or (inner_payload m.payload) 0 0) 5 x
  -- Not allowed: 7, fresh or not, and nothing changes.
  pub not_allowed : rights.readonly ≡ true → message_outcome access rights x m ≡ refused_outcome (get_or (inner_payload m.payload) 0 0) 7 x
  -- So the mark says that it was allowed and fresh.
  pub mark : (message_outcome access rights x m).saved ≡ not rights.readonly && is_fresh (access.last_number x.page) n

-- Proof: Numbers `number_handles`.
abbrev pub NumberHandles : Type 1
NumberHandles =
    (P : Type 0) (access : Access P) (rights : Rights) (x : State P) (m : Received) (n : ℕ) → carried m ≡ Some n → HandlesNumber access rights x m n

-- Does it carry a number that is fresh?
abbrev pub carries_fresh : Option ℕ → Option ℕ → Bool
carries_fresh last None = false
carries_fresh last (Some n) = is_fresh last n

-- ---- the board's page

-- A number of four bytes; and on a sound page the number kept after a message. Proof: Numbers `number-kept`.
pub record KeptNumber (rights : Rights) (x : State (List ℕ)) (m : Received) : Type 0 where
  pub four_bytes : (n : ℕ) → carried m ≡ Some n → n < 4294967296
  pub kept : number_on (message_outcome page_access rights x m).next.page ≡ kept_on (allowed_number rights (carried m)) (number_on x.page)

abbrev pub NumberKept : Type 0
NumberKept = (rights : Rights) (x : State (List ℕ)) (m : Received) → sound x.page ≡ true → KeptNumber rights x m

-- As long as the page keeps no number, none is needed. Proof: Numbers `without_number`.
abbrev pub WithoutNumber : Type 0
WithoutNumber =
    (x : State (List ℕ)) (m : Received) → number_on x.page ≡ None
    → message_outcome page_access guarded_rights x m ≡ message_outcome page_access all_rights x m

-- Nothing changes: neither a working value nor the page; and there is no mark.
pub record Leaves {P : Type 0} (x : State P) (o : Outcome P) : Type 0 where
  pub next : o.next ≡ x
  pub unmarked : o.saved ≡ false

-- Once the page keeps a number, nothing changes where one is needed (on port 0) without a fresh one, whatever the message. Proof: Numbers
-- `number_guards`.
abbrev pub NumberGuards : Type 0
NumberGuards =
    (x : State (List ℕ)) (m : Received) (last : ℕ) → number_on x.page ≡ Some last → carries_fresh (Some last) (carried m) ≡ false
    → Leaves x (message_outcome page_access guarded_rights x m)
