-- Request 06, "The line has gone quiet": a stream with silence marks, and its scan, over any framing.
use Rattle.std.specs.Prelude.{Bool, true, false, List, [], ◌∷◌, ◌++◌, ℕ}
use Rattle.stream.specs.declared.Verdict.{Verdict}
use Rattle.stream.specs.declared.Verdict.TheVariants.{Skip, Undecided, Whole}
use Rattle.stream.specs.Scan.{Event, events}

-- ---- How unread bytes end.

-- More bytes may follow, or a silence mark ends them.
pub data End : Type 0 where
  running : End
  ended : End

-- As the code says it: does a mark end them?
abbrev pub end_of : Bool → End
end_of true = ended
end_of false = running

-- "Each time it is undecided the front byte is skipped with no error."
abbrev pub ended_on : Verdict → Verdict
ended_on Skip = Skip
ended_on Undecided = Skip
ended_on (Whole n good) = Whole n good

-- The verdict at the front of unread bytes with this end. Of bytes that end at a mark no other is waited for. So the scan and
-- the seek of such bytes are those of document 01, with this verdict.
abbrev pub up_to : End → (List ℕ → Verdict) → List ℕ → Verdict
up_to running front = front
up_to ended front = λ u. ended_on (front u)

-- ---- A stream with silence marks.

-- The bytes up to each mark, in order, and the bytes after the last mark.
pub record Stream : Type 0 where
  pub segments : List (List ℕ)
  pub current : List ℕ

-- Neither bytes nor marks.
abbrev pub empty : Stream
empty = record { segments = []; current = [] }

-- More bytes.
abbrev pub extend : Stream → List ℕ → Stream
extend s part = record { segments = s.segments; current = s.current ++ part }

-- A silence: a mark after all bytes so far.
abbrev pub mark : Stream → Stream
mark s = record { segments = s.segments ++ (s.current ∷ []); current = [] }

abbrev pub joined : List (List ℕ) → List ℕ
joined [] = []
joined (u ∷ us) = u ++ joined us

-- All bytes of the stream, without the marks.
abbrev pub bytes_in : Stream → List ℕ
bytes_in s = joined s.segments ++ s.current

-- "No message crossing a mark": the bytes up to each mark are scanned by themselves.
abbrev pub segment_events : (List ℕ → Verdict) → List (List ℕ) → List Event
segment_events front [] = []
segment_events front (u ∷ us) = events (up_to ended front) u ++ segment_events front us

-- The events of the scan of a stream with silence marks. After the last mark the scan is that of document 01.
abbrev pub scan : (List ℕ → Verdict) → Stream → List Event
scan front s = segment_events front s.segments ++ events front s.current

-- Marks with no byte between them count as one, and a mark before the first byte as none.
abbrev pub filled : List ℕ → List (List ℕ) → List (List ℕ)
filled [] us = us
filled (x ∷ xs) us = (x ∷ xs) ∷ us

abbrev pub with_bytes : List (List ℕ) → List (List ℕ)
with_bytes [] = []
with_bytes (u ∷ us) = filled u (with_bytes us)
