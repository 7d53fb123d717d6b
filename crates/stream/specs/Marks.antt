-- Request 06: what a silence mark does to a scan, over any framing: the statements, proved in proofs/Ends.antt and proofs/Streams.antt.
use Rattle.std.specs.Prelude.{◌≡◌, Bool, List, ◌++◌, ℕ}
use Rattle.stream.specs.declared.Verdict.{Verdict}
use Rattle.stream.specs.declared.Verdict.TheVariants.{Whole}
use Rattle.stream.specs.Scan.{events}
use Rattle.stream.specs.Silence.{End, ended, up_to, Stream, extend, mark, segment_events, scan, with_bytes}

-- What is told as a message before a mark is that message without the mark too: a mark makes none. Proof: Ends `whole_unmarked`.
abbrev pub MarkMakesNone : Type 0
MarkMakesNone = (front : List ℕ → Verdict) (e : End) (u : List ℕ) (n : ℕ) (good : Bool) → up_to e front u ≡ Whole n good → front u ≡ Whole n good

-- "No message crossing a mark": after a mark the scan starts anew, whatever stood before it. Proof: Streams `starts_anew`.
abbrev pub StartsAnew : Type 0
StartsAnew = (front : List ℕ → Verdict) (s : Stream) (v : List ℕ) → scan front (extend (mark s) v) ≡ scan front (mark s) ++ events front v

-- So it does before a further mark: between two marks the scan is that of the bytes between them, up to the second. Proof: Streams
-- `starts_anew_ended`.
abbrev pub StartsAnewEnded : Type 0
StartsAnewEnded = (front : List ℕ → Verdict) (s : Stream) (v : List ℕ) → scan front (mark (extend (mark s) v)) ≡ scan front (mark s) ++ events (up_to ended front) v

-- A second mark at one place is none. Proof: Streams `mark_twice`.
abbrev pub MarkTwice : Type 0
MarkTwice = (front : List ℕ → Verdict) (s : Stream) → scan front (mark (mark s)) ≡ scan front (mark s)

-- Only the marks behind bytes count. Proof: Streams `marks_behind_bytes`.
abbrev pub MarksBehindBytes : Type 0
MarksBehindBytes = (front : List ℕ → Verdict) (us : List (List ℕ)) → segment_events front (with_bytes us) ≡ segment_events front us
