-- Tiling a range of references: first its writes, then the segments and tags with them applied in order. docs/RULES.md, refusals 1 to 4, and tiling's part of
-- "When the panel says no". Definitions only.
use Rattle.std.specs.Prelude.{ℕ, zero, suc, ◌+◌, ◌-◌, ◌*◌, ◌/◌, ◌%◌, ◌≤◌, ◌<◌, min, ◌≡◌, Bool, cond, ◌&&◌, List, [], ◌∷◌, ◌++◌, leb, eqb, length, get_or}
use Rattle.lists.specs.Run.{act_all}
use Rattle.panel.specs.Limits.{most_slots}
use Rattle.panel.specs.Refusals.{not_whole}
use Rattle.panel.specs.Widths.{path_words, line_floats, ref_words, segment_floats}
use Rattle.panel.specs.Kinds.{paper_of, slot_no_of}
use Rattle.panel.specs.Paths.{beam_at, paths_answer}
use Rattle.panel.specs.Answer.{Answer, Done, Refused}
use Rattle.panel.specs.Pieces.{Pieces, placed}
use Rattle.panel.specs.declared.segments.Segment.{Segment}
use Rattle.looks.specs.Look.{Lent, line_at, tag_of, look_of}
use Rattle.looks.specs.Looked.{Look, Put, Empty, Against}

-- a write: the slot, and what is written there, with the reference, the line and the path that it comes from; the tag is the path's beam number
pub record Write : Type 0 where
  pub slot : ℕ
  pub ref : ℕ
  pub line : ℕ
  pub path : ℕ
  pub tag : ℕ
  pub segment : Segment

abbrev pub write_of : Lent → ℕ → ℕ → Segment → Write
write_of L k slot s =
    let line = line_at L.refs k in
    record { slot = slot; ref = k; line = line; path = get_or L.path_nos line 0; tag = tag_of L line; segment = s }

-- what a range comes to: its writes in order, and its answer
pub record Range : Type 0 where
  pub writes : List Write
  pub answer : Answer

abbrev pub range : List Write → Answer → Range
range ws a = record { writes = ws; answer = a }

-- reference k, and then the rest; a reference refused ends the range
abbrev pub look_then_word : Lent → ℕ → Look → Range → Range
look_then_word L k (Put slot s) rest = range (write_of L k slot.0 s ∷ rest.writes) rest.answer
look_then_word L k Empty rest = rest
look_then_word L k (Against why) rest = range [] (Refused why k)

-- n references from reference k on, with so many slots
unfoldable pub range_of : Lent → ℕ → ℕ → ℕ → Range
range_of L slots zero k = range [] Done
range_of L slots (suc n) k = look_then_word L k (look_of L slots k) (range_of L slots n (suc k))

-- the slots that there are
abbrev pub slots_of : ℕ → ℕ
slots_of floats = min (floats / segment_floats) most_slots

-- writes applied
abbrev pub applied : List Write → Pieces → Pieces
applied ws p = act_all (λ w. placed w.slot w.segment w.tag) ws p

-- refusal 1, by the lengths lent; there are as many tags as slots
unfoldable pub whole_of : (from to lines coords paths refs segs tags : ℕ) → Bool
whole_of from to lines coords paths refs segs tags =
    eqb (coords % line_floats) 0
    && eqb lines (coords / line_floats)
    && eqb (paths % path_words) 0
    && eqb (refs % ref_words) 0
    && eqb (segs % segment_floats) 0
    && eqb tags (segs / segment_floats)
    && leb from to
    && leb to (refs / ref_words)

-- what is checked before the first reference
unfoldable pub checks_of : ℕ → ℕ → Lent → Pieces → Answer
checks_of from to L p =
    cond
    (whole_of from to (length L.path_nos) (length L.coords) (length L.paths) (length L.refs) (length p.segments) (length p.tags))
    (paths_answer L.paths (length L.stored))
    (Refused not_whole 0)

-- where that refuses, nothing is written
abbrev pub checked_then : Answer → Range → Range
checked_then Done rest = rest
checked_then (Refused why item) rest = range [] (Refused why item)

-- the call's range
unfoldable pub call_of : ℕ → ℕ → Lent → Pieces → Range
call_of from to L p = checked_then (checks_of from to L p) (range_of L (slots_of (length p.segments)) (to - from) from)

-- the call's answer on paper, and the segments and tags afterwards
pub record Tiled : Type 0 where
  pub paper : List ℕ
  pub pieces : Pieces

abbrev pub tiled : Answer → Pieces → Tiled
tiled a p = record { paper = paper_of a; pieces = p }

abbrev pub range_tiled : Range → Pieces → Tiled
range_tiled r p = tiled r.answer (applied r.writes p)

abbrev pub tiled_of : ℕ → ℕ → Lent → Pieces → Tiled
tiled_of from to L p = range_tiled (call_of from to L p) p

-- the call's promise: the answer r and the segments and tags afterwards are these
abbrev pub TileMet : ℕ → ℕ → Lent → (p : Pieces) → Answer → (p' : Pieces) → Type 0
TileMet from to L p r p' = tiled r p' ≡ tiled_of from to L p

-- ---- Only proofs lean on this: what the inner functions' contracts and the laws of proofs/WriteLaws.antt speak of. No promise of a public call does.

-- what is known of the lent once it is checked
pub record Ready (from to : ℕ) (L : Lent) (p : Pieces) : Type 0 where
  pub forward : from ≤ to
  pub there : to ≤ length L.refs / ref_words
  pub lines : length L.path_nos * line_floats ≤ length L.coords
  pub tagged : length p.tags ≡ length p.segments / segment_floats
  pub paths : paths_answer L.paths (length L.stored) ≡ Done

-- one range after another: the second is tiled only where the first was not refused
abbrev pub then_on : Answer → List Write → Range → Range
then_on Done ws next = range (ws ++ next.writes) next.answer
then_on (Refused why item) ws next = range ws (Refused why item)

abbrev pub then_range : Range → Range → Range
then_range r next = then_on r.answer r.writes next

-- where a write of the n references from k on comes from: its reference is one of them, and is put there; the line is the reference's, the path
-- the line's, and the tag the path's beam number
pub record Made (L : Lent) (slots n k : ℕ) (w : Write) : Type 0 where
  pub low : k ≤ w.ref
  pub high : w.ref < k + n
  pub looked : look_of L slots w.ref ≡ Put (slot_no_of w.slot) w.segment
  pub line : w.line ≡ line_at L.refs w.ref
  pub path : w.path ≡ get_or L.path_nos w.line 0
  pub tag : w.tag ≡ beam_at L.paths w.path
