-- The laws of a stream with silence marks: what more bytes and one more mark do to its bytes and its scan.
use mathlib.Core.Path.{◌≡◌, refl, sym, ap, ◌∙◌}
use mathlib.Core.List.{List, [], ◌∷◌, ◌++◌, append_assoc, append-nil}
use Prim.Native.Nat.{ℕ}
use Rattle.stream.specs.declared.Verdict.{Verdict}
use Rattle.stream.specs.Scan.{Event, events_past, events}
use Rattle.stream.specs.Silence.{End, running, ended, up_to, Stream, extend, mark, joined, bytes_in, segment_events, scan, filled, with_bytes}
use Rattle.stream.specs.Marks.{StartsAnew, StartsAnewEnded, MarkTwice, MarksBehindBytes}

-- ---- Its bytes.

joined-append : (us ws : List (List ℕ)) → joined (us ++ ws) ≡ joined us ++ joined ws
joined-append [] ws = refl
joined-append (u ∷ us) ws = cc (joined-append us ws, append_assoc u (joined us) (joined ws))

pub bytes_extend : (s : Stream) (part : List ℕ) → bytes_in (extend s part) ≡ bytes_in s ++ part
bytes_extend s part = sym (append_assoc (joined s.segments) s.current part)

-- A mark is no byte.
pub bytes_mark : (s : Stream) → bytes_in (mark s) ≡ bytes_in s
bytes_mark s = cc (joined-append s.segments (s.current ∷ []), append-nil s.current, append-nil (joined (s.segments ++ (s.current ∷ []))))

-- The stream with this end.
abbrev pub ended_by : End → Stream → Stream
ended_by running s = s
ended_by ended s = mark s

-- ---- Its scan.

module _ (front : List ℕ → Verdict) where
  nothing : events front [] ≡ []
  unfolding events_past
  nothing = refl

  nothing_closed : events (up_to ended front) [] ≡ []
  unfolding events_past
  nothing_closed = refl

  segments_append : (us ws : List (List ℕ)) → segment_events front (us ++ ws) ≡ segment_events front us ++ segment_events front ws
  segments_append [] ws = refl
  segments_append (u ∷ us) ws = cc (segments_append us ws, append_assoc (events (up_to ended front) u) (segment_events front us) (segment_events front ws))

  -- The scan up to a mark, and nothing after it.
  segments_mark : (us : List (List ℕ)) (u : List ℕ) → segment_events front (us ++ (u ∷ [])) ≡ segment_events front us ++ events (up_to ended front) u
  segments_mark us u = cc (segments_append us (u ∷ []), append-nil (events (up_to ended front) u))

  scan-marked : (us : List (List ℕ)) → scan front (record { segments = us; current = [] }) ≡ segment_events front us
  scan-marked us = cc (nothing, append-nil (segment_events front us))

  -- The scan of a stream with this end: up to the last mark, then the bytes after it.
  pub scan_ended : (e : End) (s : Stream) → scan front (ended_by e s) ≡ segment_events front s.segments ++ events (up_to e front) s.current
  scan_ended running s = refl
  scan_ended ended s = cc (scan-marked (s.segments ++ (s.current ∷ [])), segments_mark s.segments s.current)

  -- After a mark the scan starts anew.
  pub scan_past_mark : (e : End) (s : Stream) (v : List ℕ) → scan front (ended_by e (extend (mark s) v)) ≡ scan front (mark s) ++ events (up_to e front) v
  scan_past_mark e s v = cc (scan_ended e (extend (mark s) v), scan-marked (s.segments ++ (s.current ∷ [])))

  -- A second mark at one place is none.
  pub scan-mark_twice : (s : Stream) → scan front (mark (mark s)) ≡ scan front (mark s)
  scan-mark_twice s = cc (scan_past_mark ended s [], nothing_closed, append-nil (scan front (mark s)))

  filled-scan : (u : List ℕ) (us : List (List ℕ)) → segment_events front (filled u us) ≡ events (up_to ended front) u ++ segment_events front us
  filled-scan [] us = cc (nothing_closed)
  filled-scan (x ∷ xs) us = refl

  -- Only the marks behind bytes count.
  pub scan-filled : (us : List (List ℕ)) → segment_events front (with_bytes us) ≡ segment_events front us
  scan-filled [] = refl
  scan-filled (u ∷ us) = filled-scan u (with_bytes us) ∙ ap (λ (es : List Event). events (up_to ended front) u ++ es) (scan-filled us)

filled-joined : (u : List ℕ) (us : List (List ℕ)) → joined (filled u us) ≡ u ++ joined us
filled-joined [] us = refl
filled-joined (x ∷ xs) us = refl

pub joined-filled : (us : List (List ℕ)) → joined (with_bytes us) ≡ joined us
joined-filled [] = refl
joined-filled (u ∷ us) = filled-joined u (with_bytes us) ∙ ap (λ (bs : List ℕ). u ++ bs) (joined-filled us)

-- ---- The statements of specs/Marks.antt.

pub starts_anew : StartsAnew
starts_anew front s v = scan_past_mark front running s v

pub starts_anew_ended : StartsAnewEnded
starts_anew_ended front s v = scan_past_mark front ended s v

pub mark_twice : MarkTwice
mark_twice = scan-mark_twice

pub marks_behind_bytes : MarksBehindBytes
marks_behind_bytes = scan-filled
