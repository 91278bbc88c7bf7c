-- With room for the references that `sizes` tells, a count is never refused with 9; nor is a frame with a segment for each. Where either is done, it made as
-- many. docs/THEOREMS.md, "Sizes". Assumes nothing.
use mathlib.Core.Path.{◌≡◌, refl, sym, ◌∙◌}
use mathlib.Core.Logic.{◌≢◌}
use mathlib.Core.List.{List}
use Prim.Native.Nat.{ℕ, ◌/◌, ◌≤◌, ◌<◌}
use native.Mathlib.Omega.{arith}
use lib.ListN.{length}
use lib.IntN.{ℤ}
use lib.Ieee.{Float}
use Rattle.lists.specs.Run.{done}
use Rattle.panel.specs.Limits.{most_slots}
use Rattle.panel.specs.Refusals.{no_room_word}
use Rattle.panel.specs.Widths.{ref_words, segment_floats}
use Rattle.panel.specs.Pieces.{Pieces}
use Rattle.panel.specs.declared.kinds.Running.{Running}
use Rattle.acts.specs.Acts.{St, Act, mark, visit, stop, delta_of}
use Rattle.acts.specs.Line.{Refusal}
use Rattle.walked_lines.specs.Line.{plan_of}
use Rattle.path_count.specs.Count.{batch}
use Rattle.frame.specs.Frame.{out_of, frame_of}
use Rattle.frame.specs.declared.kinds.Stage.{Stage}
use Rattle.frame.specs.Framed.{Done, Refused}
use Rattle.theorems.specs.Refusing.{ActWhy, LineWhy, five, six, seven, eight, nine, ten, stops, BatchWhy}
use Rattle.theorems.specs.Framing.{Counts}
use Rattle.theorems.proofs.Exact.{line_exact}
use Rattle.theorems.proofs.SumLaws.{went}
use Rattle.theorems.proofs.Framing.{frame_lent, frame_line, frame_slots, frame_no_sums, frame_done}
use Rattle.theorems.proofs.FrameNumbers.{frame_crooked}
use Rattle.sizes.specs.Sizes.{sizes_of}
use Rattle.sizes.specs.declared.Room.{Room}
use Rattle.sizes.specs.Measured as Measured
use Rattle.sizes.specs.Refs.{lines_size}
use Rattle.size_theorems.proofs.Checks.{frame_early}
use Rattle.size_theorems.proofs.Same.{batch_same}
use Rattle.size_theorems.proofs.Told.{SizesTold, sizes_told, walk_adds, lines_few, line_within}

module _ (nos : List ℕ) (coords : List Float) (paths : List ℕ) (cols rows : ℕ) (r : Room) (e : sizes_of nos coords paths cols rows ≡ Measured.Done r) where
  abbrev told : SizesTold nos coords paths cols rows r
  told = sizes_told nos coords paths cols rows r e

  pub refs_few : r.refs ≤ most_slots
  refs_few = lines_few nos coords paths 0 (length nos) r.refs told.lines

  -- Exact: all lines counted, from no reference on, into any tiles, made as many as are told
  pub counted_as_told : (room : ℕ) (s u : St) → s.made ≡ 0 → batch nos coords paths room 0 (length nos) s ≡ done u → u.made ≡ r.refs
  counted_as_told room s u z d =
      let f : lines_size nos coords paths 0 (length nos) 0 ≡ done u.made = rw z at (batch_same nos coords paths room 0 (length nos) s u d) in
      let g = sym f ∙ told.lines in
      cc

  -- a line that follows on the lines before it is never refused with 9
  line_room : (room l : ℕ) (u : St) → r.refs ≤ room → l < length nos → lines_size nos coords paths 0 l 0 ≡ done u.made → LineWhy nos coords paths room l u no_room_word → ⊥
  line_room room l u h k p (five q a) = omega arith
  line_room room l u h k p (six q a b) = omega arith
  line_room room l u h k p (seven q a b c) = omega arith
  line_room room l u h k p (eight q w b a c d) = omega arith
  line_room room l u h k p (nine q w b a c d) =
      let t = line_within nos coords paths l (length nos) u.made r.refs k p told.lines in
      let g = walk_adds nos coords paths l w b u.made t.0 a.0 a.1 t.1 in
      omega (arith, g, t.2, refs_few, d, h)
  line_room room l u h k p (ten q w b a c d v i f g j o) = omega arith
  line_room room l u h k p (stops w b a c d v x st q) = go x q
    where
      go : (x : Act) → ActWhy (delta_of (plan_of w b).up) v x no_room_word → ⊥
      go (mark t) q = let z = q.0 in omega arith
      go (visit t i) q = let z = q.0 in omega arith
      go (stop m) q = q

  -- A batch of all lines, from no reference on, into any tiles
  pub count_room : (room : ℕ) (s u : St) (why : Refusal) → r.refs ≤ room → s.made ≡ 0 → BatchWhy nos coords paths room 0 (length nos) s u why → why.no ≢ no_room_word
  count_room room s u why h z b q =
      let p : lines_size nos coords paths 0 why.line 0 ≡ done u.made = rw z at (batch_same nos coords paths room 0 why.line s u b.ran) in
      line_room room why.line u h b.below_b p (rw q at ((line_exact nos coords paths room why.line u why.no).0 b.halts))

-- ---- a frame

module _ (nos : List ℕ) (coords : List Float) (paths : List ℕ) (cols rows : ℕ) (r : Room) (e : sizes_of nos coords paths cols rows ≡ Measured.Done r)
    (backs : List ℤ) (stored tally refs : List ℕ) (p : Pieces) (bs : List ℤ) (ts ks rs : List ℕ) (sg : Pieces) (s : Running) where
  -- counted into cleared tiles
  counts_as_told : Counts nos coords paths (length stored) refs s bs ts rs → s.refs ≡ r.refs
  counts_as_told c =
      counted_as_told nos coords paths cols rows r e _ _ _ refl (went (length nos) nos coords paths (length stored) refs c.marks ts rs s.refs c.all).ran

  -- A frame with room for as many references, and a segment for each, is never refused with 9
  pub frame_room : r.refs ≤ length refs / ref_words → r.refs ≤ length p.segments / segment_floats → (at : Stage) (why item : ℕ)
      → frame_of nos coords paths backs stored tally refs p ≡ out_of (Refused at why item s) bs ts ks rs sg → why ≢ no_room_word
  frame_room h k Stage.Lent why item f q =
      omega (arith, q, frame_early nos coords paths backs stored tally refs p why item (frame_lent nos coords paths backs stored tally refs p bs ts ks rs sg s why item f).0)
  frame_room h k Stage.Count why item f q =
      let b = (frame_line nos coords paths backs stored tally refs p bs ts ks rs sg s why item f).1 in
      count_room nos coords paths cols rows r e (length refs / ref_words) _ _ _ h refl b q
  frame_room h k Stage.Backdrop why item f q = frame_no_sums nos coords paths backs stored tally refs p bs ts ks rs sg s why item f
  frame_room h k Stage.HandOut why item f q =
      let w = frame_slots nos coords paths backs stored tally refs p bs ts ks rs sg s why item f in
      omega (arith, w.2, counts_as_told w.3, k, refs_few nos coords paths cols rows r e)
  frame_room h k Stage.Tile why item f q = omega (arith, q, (frame_crooked nos coords paths backs stored tally refs p bs ts ks rs sg s why item f).0)

  -- and one that is done has as many references
  pub frame_as_told : frame_of nos coords paths backs stored tally refs p ≡ out_of (Done s) bs ts ks rs sg → s.refs ≡ r.refs
  frame_as_told f =
      let c = (frame_done nos coords paths backs stored tally refs p bs ts ks rs sg s f).counts in
      counted_as_told nos coords paths cols rows r e _ _ _ refl (went (length nos) nos coords paths (length stored) refs c.marks ks rs s.refs c.all).ran
