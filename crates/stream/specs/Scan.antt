-- Document 01, "The scan": the scan of all bytes of a stream, as a list of events, over any framing.
use Rattle.std.specs.Prelude.{Bool, true, false, List, [], ◌∷◌, ℕ, zero, suc, pred, ◌+◌, length, take}
use Rattle.stream.specs.declared.Verdict.{Verdict}
use Rattle.stream.specs.declared.Verdict.TheVariants.{Skip, Undecided, Whole}

-- A reported message: whether its sums are right ("good") or wrong ("damaged"), and its bytes.
pub record Message : Type 0 where
  pub good : Bool
  pub bytes : List ℕ

-- The first n of the bytes u as a message.
abbrev pub message_at : ℕ → Bool → List ℕ → Message
message_at n good u = record { good = good; bytes = take n u }

-- One step of the scan: a byte skipped, or a message reported (and its first byte skipped where it is damaged).
pub data Event : Type 0 where
  skipped : Event
  reported : Message → Event

-- The event at the front u, then the events after it. `next p` is the scan that first passes p more bytes than the front
-- one: reading goes on after the last byte of a good message, and after the first byte of a damaged one.
abbrev pub events_on : Verdict → List ℕ → (ℕ → List Event) → List Event
events_on Skip u next = skipped ∷ next 0
events_on Undecided u next = []
events_on (Whole n true) u next = reported (message_at n true u) ∷ next (pred n)
events_on (Whole n false) u next = reported (message_at n false u) ∷ next 0

module _ (front : List ℕ → Verdict) where
  -- The events of the scan that first passes p bytes.
  unfoldable pub events_past : ℕ → List ℕ → List Event
  events_past p [] = []
  events_past zero (x ∷ xs) = events_on (front (x ∷ xs)) (x ∷ xs) (λ p. events_past p xs)
  events_past (suc p) (x ∷ xs) = events_past p xs

  -- The events of the scan.
  abbrev pub events : List ℕ → List Event
  events = events_past 0

-- The messages of a list of events, good and damaged, in order.
abbrev pub messages : List Event → List Message
messages [] = []
messages (skipped ∷ es) = messages es
messages (reported m ∷ es) = m ∷ messages es

-- The events up to and with the n-th message.
abbrev pub through : ℕ → List Event → List Event
through n [] = []
through zero (skipped ∷ es) = []
through (suc n) (skipped ∷ es) = skipped ∷ through (suc n) es
through zero (reported m ∷ es) = []
through (suc n) (reported m ∷ es) = reported m ∷ through n es

-- Bytes skipped at a reported message: its first, where it is damaged.
abbrev pub skipped_at : Bool → ℕ
skipped_at true = 0
skipped_at false = 1

-- Bytes passed as a good message.
abbrev pub good_at : Bool → ℕ → ℕ
good_at true n = n
good_at false n = 0

-- The bytes that the scan skipped.
abbrev pub skipped_in : List Event → ℕ
skipped_in [] = 0
skipped_in (skipped ∷ es) = suc (skipped_in es)
skipped_in (reported m ∷ es) = skipped_at m.good + skipped_in es

-- The lengths of its good messages.
abbrev pub good_in : List Event → ℕ
good_in [] = 0
good_in (skipped ∷ es) = good_in es
good_in (reported m ∷ es) = good_at m.good (length m.bytes) + good_in es

-- Where the scan stands after these events: the bytes of good messages and the bytes skipped.
abbrev pub standing : List Event → ℕ
standing es = good_in es + skipped_in es
