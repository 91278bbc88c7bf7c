-- A frame: the ways in which it ends, and what stands then in all that was lent. Definitions only.
use Rattle.std.specs.Prelude.{◌≡◌, List, ℕ, ◌/◌, ◌≤◌, ◌<◌, length, replicate, ℤ, pos, Float}
use Rattle.lists.specs.Tally.{zeros}
use Rattle.panel.specs.Refusals.{no_room_word}
use Rattle.panel.specs.Widths.{ref_words}
use Rattle.panel.specs.Kinds.{running_of}
use Rattle.panel.specs.Pieces.{Pieces}
use Rattle.panel.specs.declared.kinds.Running.{Running}
use Rattle.panel.specs.Answer.{Answer}
use Rattle.acts.specs.Acts.{St, st_of}
use Rattle.acts.specs.Line.{Refusal}
use Rattle.backdrop.specs.Backdrop as Backdrop
use Rattle.hand_out.specs.HandOut.{hand}
use Rattle.looks.specs.Look.{lent}
use Rattle.path_tiling.specs.Tiling.{Write, range, applied, call_of, slots_of, tiled, tiled_of}
use Rattle.frame.specs.Frame.{Out, out_of, checks_of}
use Rattle.frame.specs.declared.kinds.Stage.TheVariants as Stage
use Rattle.frame.specs.Framed.{Framed, Done, Refused}
use Rattle.theorems.specs.Refs.{AllCounted, Sums}
use Rattle.theorems.specs.Stray.{NoStray}
use Rattle.theorems.specs.Refusing.{BatchWhy}

-- all lines are counted into n cleared tiles, the running numbers are then s, the counts cs and the references rs; and the marks' sums are done
pub record Counts (nos : List ℕ) (coords : List Float) (paths : List ℕ) (n : ℕ) (refs : List ℕ) (s : Running) (summed : List ℤ) (cs rs : List ℕ) : Type 0 where
  pub marks : List ℤ
  pub lines : s.lines ≡ length nos
  pub all : AllCounted (length nos) nos coords paths n refs marks cs rs s.refs
  pub sums : Backdrop.backdrop_of paths marks ≡ Backdrop.out_of Answer.Done summed

-- a frame whose tiling answered a
abbrev pub tiled_as : Answer → Running → Framed
tiled_as Answer.Done s = Done s
tiled_as (Answer.Refused n k) s = Refused Stage.Tile n k s

-- as counting begins: n cleared tiles, and no reference yet
abbrev pub cleared : ℕ → List ℕ → St
cleared n refs = st_of (replicate n (pos 0)) (zeros n) refs 0

abbrev pub refusal : ℕ → ℕ → Refusal
refusal n l = record { no = n; line = l }

-- the ways in which a frame ends, with its ground and what is left: what is lent is refused; a line is; there are more references than segments; or
-- all of them are tiled, or those before the one refused. The sums of backdrop have no way of their own: they are never refused
pub data Way (nos : List ℕ) (coords : List Float) (paths : List ℕ) (backs : List ℤ) (stored tally refs : List ℕ) (p : Pieces) (o : Out) : Type 0 where
  lent_refused : (n item : ℕ) → checks_of nos coords paths backs stored tally refs p ≡ Answer.Refused n item
      → o ≡ out_of (Refused Stage.Lent n item (running_of 0 0)) backs stored tally refs p → Way nos coords paths backs stored tally refs p o
  line_refused : (n : ℕ) (s : Running) (bs : List ℤ) (cs rs : List ℕ) → checks_of nos coords paths backs stored tally refs p ≡ Answer.Done
      → BatchWhy nos coords paths (length refs / ref_words) 0 (length nos) (cleared (length stored) refs) (st_of bs cs rs s.refs) (refusal n s.lines)
      → o ≡ out_of (Refused Stage.Count n s.lines s) bs cs tally rs p → Way nos coords paths backs stored tally refs p o
  slots_refused : (s : Running) (bs : List ℤ) (cs rs : List ℕ) → checks_of nos coords paths backs stored tally refs p ≡ Answer.Done
      → Counts nos coords paths (length stored) refs s bs cs rs → slots_of (length p.segments) < s.refs
      → o ≡ out_of (Refused Stage.HandOut no_room_word 0 s) bs cs tally rs p → Way nos coords paths backs stored tally refs p o
  tiled_out : (a : Answer) (s : Running) (bs : List ℤ) (cs rs : List ℕ) (sg : Pieces) → checks_of nos coords paths backs stored tally refs p ≡ Answer.Done
      → Counts nos coords paths (length stored) refs s bs cs rs → s.refs ≤ slots_of (length p.segments)
      → tiled_of 0 s.refs (lent nos coords paths (hand 0 cs) rs) p ≡ tiled a sg
      → o ≡ out_of (tiled_as a s) bs (hand 0 cs) cs rs sg → Way nos coords paths backs stored tally refs p o

-- what stands after a frame over n tiles whose tiling answered a: backdrops bs, words ts, tally ks, references rs, segments and tags sg
pub record Framing (nos : List ℕ) (coords : List Float) (paths : List ℕ) (n : ℕ) (refs : List ℕ) (p : Pieces) (s : Running) (bs : List ℤ)
    (ts ks rs : List ℕ) (sg : Pieces) (a : Answer) : Type 0 where
  -- all lines are counted, and the tally keeps their counts
  pub counts : Counts nos coords paths n refs s bs ks rs
  pub sums : Sums nos coords paths n ks rs s.refs
  -- the tiles hold their first slots, and there is a segment for each reference
  pub handed : ts ≡ hand 0 ks
  pub room : s.refs ≤ slots_of (length p.segments)
  -- no stray piece: the writes, in order, and the segments and tags with them applied
  pub writes : List Write
  pub called : call_of 0 s.refs (lent nos coords paths ts rs) p ≡ range writes a
  pub stray : NoStray nos coords paths ks rs s.refs p (range writes a)
  pub pieces : sg ≡ applied writes p
