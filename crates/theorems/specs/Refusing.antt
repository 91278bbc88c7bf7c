-- When the panel says no: the ground of each refusal, in the words of docs/RULES.md. Definitions only.
use Rattle.std.specs.Prelude.{◌≡◌, ◌≢◌, ◌↔◌, ◌⊎◌, true, false, List, [], ◌∷◌, ◌++◌, ℕ, zero, suc, ◌+◌, ◌-◌, ◌%◌, ◌≤◌, ◌<◌, min, length, get_or, ℤ, pos, ◌+ℤ◌, Float}
use Rattle.std.specs.Int.Signed.{le_z, lt_z}
use Rattle.std.specs.Float.{binary32}
use Rattle.std.specs.Float.Ieee.{add, sub, mul, lt, to_signed}
use Rattle.std.specs.Float.Ieee.Scale.{finite}
use Rattle.float32.specs.Meaning.{abs_of}
use Rattle.lists.specs.Run.{halted, done}
use Rattle.lists.specs.Sums.{sum}
use Rattle.panel.specs.Limits.{most_paths, most_tiles, most_lines, most_steps, most_count, most_slots, edge_most, coord_most}
use Rattle.panel.specs.Refusals.{done_no, not_whole, too_many, bad_box, bad_range, line_number, coordinate, no_such, count_over, no_room_word, outside, sum_over, crooked}
use Rattle.panel.specs.Widths.{path_words}
use Rattle.panel.specs.Checks.{Check}
use Rattle.panel.specs.Slots.{handed_from, slot_of}
use Rattle.panel.specs.Paths.{path_at, path_count, end_of, paths_answer}
use Rattle.panel.specs.declared.kinds.Path.{Path}
use Rattle.panel.specs.Answer.{Done}
use Rattle.panel.specs.Verdict.{Against}
use Rattle.backdrop.specs.Backdrop as Backdrop
use Rattle.hand_out.specs.HandOut.{Out}
use Rattle.walk.specs.Num.{float}
use Rattle.walk.specs.Lent.{line_at, walk_at}
use Rattle.panel.specs.declared.lines.LineEnds.{LineEnds}
use Rattle.walk.specs.declared.kinds.Pace.{Pace}
use Rattle.walk.specs.declared.kinds.Walk.{Walk}
use Rattle.walk.specs.Walked.{Line, Skipped}
use Rattle.walk.specs.Step.{z_at, step_of}
use Rattle.walk.specs.Stepped as On
use Rattle.panel.specs.declared.kinds.TileNo.{TileNo}
use Rattle.panel.specs.Segments.{InTile}
use Rattle.segment.specs.Clips.{segment_of}
use Rattle.panel.specs.declared.segments.Segment.{Segment}
use Rattle.looks.specs.Look as Look
use Rattle.looks.specs.Looked as Looked
use Rattle.looks.specs.Look.{look_of, Lent, packed_at, step_no, slice_no}
use Rattle.screen_tile.specs.Tile.{ends_at}
use Rattle.fine.specs.Fine.{tiles_of}
use Rattle.panel.specs.Signed.{in_i32}
use Rattle.acts.specs.Acts.{St, Act, mark, visit, stop, steps_acts, run_acts, delta_of}
use Rattle.acts.specs.Rows.{rows_acts}
use Rattle.acts.specs.Line.{Plan, plan_acts, Refusal}
use Rattle.walked_lines.specs.Line.{plan_of, line_step}
use Rattle.path_count.specs.Count.{batch}

-- ---- a row of checks, as each call makes it first (refusals 1, 2, 13 and 16): the ground of refusal n is the first check that fails

abbrev pub RowWhy : ℕ → List Check → Type 0
RowWhy n [] = ⊥
RowWhy n (c ∷ more) = ((c.ok ≡ false) × (c.no ≡ n)) ⊎ ((c.ok ≡ true) × RowWhy n more)

-- ---- hand-out

pub record HandExact (room : ℕ) (ns kept : List ℕ) (o : Out) : Type 0 where
  -- 1: the two slices differ in length
  pub one : (o.paper ≡ not_whole ∷ 0 ∷ []) ↔ (length ns ≢ length kept)
  -- 2: more tiles than may be
  pub two : (o.paper ≡ too_many ∷ 0 ∷ []) ↔ ((length ns ≡ length kept) × (most_tiles < length ns))
  -- 9: the sum of counts is over the room named or the limit
  pub nine : (o.paper ≡ no_room_word ∷ 0 ∷ []) ↔ ((length ns ≡ length kept) × (length ns ≤ most_tiles) × (min room most_slots < sum ns))
  -- 0: none of these
  pub none : (o.paper ≡ done_no ∷ []) ↔ ((length ns ≡ length kept) × (length ns ≤ most_tiles) × (sum ns ≤ min room most_slots))
  -- a refusal changes nothing
  pub kept_all : o.paper ≢ done_no ∷ [] → (o.stored ≡ ns) × (o.tally ≡ kept)

-- ---- 6: a coordinate not finite, or of magnitude over the limit. `reach_exact` of proofs/Grounds.antt says that the panel's test is this

abbrev pub BadCoordinate : Float → Type 0
BadCoordinate x = (finite x ≡ false) ⊎ (lt coord_most (abs_of x) ≡ true)

-- one of a line's four
abbrev pub BadEnds : LineEnds → Type 0
BadEnds e = BadCoordinate e.p0.x ⊎ BadCoordinate e.p0.y ⊎ BadCoordinate e.p1.x ⊎ BadCoordinate e.p1.y

-- ---- 10: a step's z not finite, or its tile outside its path's box: its column or its row lies before the first or at or past the end. `step_exact`

abbrev pub z_of : Pace → ℕ → Float
z_of p i = z_at p.a p.b (float i)

abbrev pub column_of : Pace → ℕ → ℤ
column_of p i = to_signed 31 (add binary32 p.x0 (mul binary32 p.sign (z_of p i)))

abbrev pub row_of : Pace → ℕ → ℤ
row_of p i = to_signed 31 (sub binary32 (add binary32 p.y0 (float i)) (z_of p i))

abbrev pub Off : ℤ → ℕ → ℕ → Type 0
Off v low high = (lt_z v (pos low) ≡ true) ⊎ (le_z (pos high) v ≡ true)

abbrev pub StepOutside : Pace → Path → ℕ → Type 0
StepOutside p b i = (finite (z_of p i) ≡ false) ⊎ Off (column_of p i) b.x0 b.x1 ⊎ Off (row_of p i) b.y0 b.y1

-- ---- 12: an end not within the tile, 0 to 16 in x and in y, which a NaN isn't. `piece_exact`

abbrev pub EndOutside : Segment → Type 0
EndOutside s = (InTile s.p0 → ⊥) ⊎ (InTile s.p1 → ⊥)

-- ---- a line, when counting: the ground of refusal n

-- the clipped walk of line l over its path's box, if it has one: l is below the limit, and neither refused by 6 or 7 nor skipped
abbrev pub Walks : (nos : List ℕ) (coords : List Float) (paths : List ℕ) (l : ℕ) → Walk → Path → Type 0
Walks nos coords paths l w b = (l < most_lines) × (walk_at nos coords paths l ≡ Line w b)

-- where the acts of a line stop: those before are done and leave u, and this one can't be
pub record StopsAt (δ : ℤ) (l : ℕ) (xs : List Act) (s u : St) (a : Act) : Type 0 where
  pub before : List Act
  pub after : List Act
  pub split : xs ≡ before ++ a ∷ after
  pub ran : run_acts δ l before s ≡ done u

-- why it can't: n is 11 for a mark, 8 for a visit. A stop is a step outside, whose ground is `ten` below
abbrev pub ActWhy : ℤ → St → Act → ℕ → Type 0
ActWhy δ u (mark t) n = (n ≡ sum_over) × (in_i32 (get_or u.backs t (pos 0) +ℤ δ) ≡ false)
ActWhy δ u (visit t i) n = (n ≡ count_over) × (most_count ≤ get_or u.counts t 0)
ActWhy δ u (stop m) n = ⊥

-- what a walk does before its step i: its row marks, and the steps before that one
abbrev pub acts_before : Plan → ℕ → List Act
acts_before p i = rows_acts p.rows ++ steps_acts p.hit (i - p.imin) p.imin

pub data LineWhy (nos : List ℕ) (coords : List Float) (paths : List ℕ) (room l : ℕ) (s : St) (n : ℕ) : Type 0 where
  -- 5: line number 65,536 or more
  five : n ≡ line_number → most_lines ≤ l → LineWhy nos coords paths room l s n
  -- 6: a coordinate not finite, or over the limit
  six : n ≡ coordinate → l < most_lines → BadEnds (line_at coords l) → LineWhy nos coords paths room l s n
  -- 7: no such path
  seven : n ≡ no_such → l < most_lines → (BadEnds (line_at coords l) → ⊥) → path_count paths ≤ get_or nos l 0 → LineWhy nos coords paths room l s n
  -- 8: its largest step number is over 65,535
  eight : n ≡ count_over → (w : Walk) (b : Path) → Walks nos coords paths l w b → (plan_of w b).imin < (plan_of w b).imax → most_steps < (plan_of w b).imax
      → LineWhy nos coords paths room l s n
  -- 9: references so far plus the line's over the room or 16,777,216
  nine : n ≡ no_room_word → (w : Walk) (b : Path) → Walks nos coords paths l w b → ((plan_of w b).imin < (plan_of w b).imax → (plan_of w b).imax ≤ most_steps)
      → min room most_slots < s.made + ((plan_of w b).imax - (plan_of w b).imin) → LineWhy nos coords paths room l s n
  -- 10: all before step i is done and leaves u, and the step's z is not finite or its tile outside the box
  ten : n ≡ outside → (w : Walk) (b : Path) → Walks nos coords paths l w b → ((plan_of w b).imin < (plan_of w b).imax → (plan_of w b).imax ≤ most_steps)
      → s.made + ((plan_of w b).imax - (plan_of w b).imin) ≤ min room most_slots
      → (u : St) (i : ℕ) → (plan_of w b).imin ≤ i → i < (plan_of w b).imax → run_acts (delta_of (plan_of w b).up) l (acts_before (plan_of w b) i) s ≡ done u
      → StepOutside w.pace b i → LineWhy nos coords paths room l s n
  -- 8, 11: an act of its walk, the first that can't be done: a tile's count is 65,536 already; a backdrop that leaves i32
  stops : (w : Walk) (b : Path) → Walks nos coords paths l w b → ((plan_of w b).imin < (plan_of w b).imax → (plan_of w b).imax ≤ most_steps)
      → s.made + ((plan_of w b).imax - (plan_of w b).imin) ≤ min room most_slots
      → (u : St) (a : Act) → StopsAt (delta_of (plan_of w b).up) l (plan_acts (plan_of w b)) s u a → ActWhy (delta_of (plan_of w b).up) u a n
      → LineWhy nos coords paths room l s n

-- ---- a batch of counting stops before the first line refused: those before it are done and leave u
pub record BatchWhy (nos : List ℕ) (coords : List Float) (paths : List ℕ) (room a b : ℕ) (s u : St) (why : Refusal) : Type 0 where
  pub from_a : a ≤ why.line
  pub below_b : why.line < b
  pub ran : batch nos coords paths room a why.line s ≡ done u
  pub halts : line_step nos coords paths room why.line why.line u ≡ halted why.no

-- ---- reference k, when tiling: the ground of refusal n

-- its line is there, and walked over its path's box
abbrev pub RefWalks : Lent → ℕ → Walk → Path → Type 0
RefWalks L k w b = (Look.line_at L.refs k < length L.path_nos) × (walk_at L.path_nos L.coords L.paths (Look.line_at L.refs k) ≡ Line w b)

-- its step falls on a tile that has slots, whose word is this
pub record RefOn (L : Lent) (k : ℕ) (w : Walk) (b : Path) : Type 0 where
  pub tile : TileNo
  pub x : ℕ
  pub y : ℕ
  pub z : Float
  pub fell : step_of w.pace b (step_no (packed_at L.refs k)) ≡ On.Tile tile x y z
  pub handed : handed_from ≤ get_or L.stored tile.0 0

abbrev pub ref_slot : (L : Lent) (k : ℕ) {w : Walk} {b : Path} → RefOn L k w b → ℕ
ref_slot L k o = slot_of (get_or L.stored o.tile.0 0) (slice_no (packed_at L.refs k))

pub data LookWhy (L : Lent) (slots k n : ℕ) : Type 0 where
  -- 7: no such line
  seven_line : n ≡ no_such → length L.path_nos ≤ Look.line_at L.refs k → LookWhy L slots k n
  -- for its line 6 and 7: a coordinate; no such path
  six_line : n ≡ coordinate → Look.line_at L.refs k < length L.path_nos
      → BadEnds (line_at L.coords (Look.line_at L.refs k)) → LookWhy L slots k n
  seven_path : n ≡ no_such → Look.line_at L.refs k < length L.path_nos
      → (BadEnds (line_at L.coords (Look.line_at L.refs k)) → ⊥)
      → path_count L.paths ≤ get_or L.path_nos (Look.line_at L.refs k) 0 → LookWhy L slots k n
  -- 7: a line the walk skips
  seven_skipped : n ≡ no_such → Look.line_at L.refs k < length L.path_nos
      → walk_at L.path_nos L.coords L.paths (Look.line_at L.refs k) ≡ Skipped → LookWhy L slots k n
  -- 10: its step's z is not finite, or its tile outside the box
  ten_step : n ≡ outside → (w : Walk) (b : Path) → RefWalks L k w b → StepOutside w.pace b (step_no (packed_at L.refs k)) → LookWhy L slots k n
  -- 9: its slot number plus 1 is over the slots
  nine_slot : n ≡ no_room_word → (w : Walk) (b : Path) → RefWalks L k w b → (o : RefOn L k w b) → slots < ref_slot L k o + 1 → LookWhy L slots k n
  -- 12: an end of its segment not within the tile
  twelve : n ≡ crooked → (w : Walk) (b : Path) → RefWalks L k w b → (o : RefOn L k w b) → ref_slot L k o + 1 ≤ slots
      → EndOutside (segment_of w (step_no (packed_at L.refs k)) o.z o.x o.y) → LookWhy L slots k n

-- ---- the paths lent with so many tiles: the ground of refusal n at path k

-- a box within the limit and in order; `box_exact` of proofs/ExactPaths.antt says that the panel's test is this
pub record GoodBox (p : Path) : Type 0 where
  pub across : p.x0 ≤ p.x1
  pub right : p.x1 ≤ edge_most
  pub down : p.y0 ≤ p.y1
  pub bottom : p.y1 ≤ edge_most

-- where the path before path k ends; before path 0 there is none
abbrev pub end_before : List ℕ → ℕ → ℕ
end_before ws zero = 0
end_before ws (suc k) = end_of (path_at ws k)

pub record PathGood (ws : List ℕ) (tiles k : ℕ) : Type 0 where
  pub box : GoodBox (path_at ws k)
  pub after : end_before ws k ≤ (path_at ws k).first
  pub within : end_of (path_at ws k) ≤ tiles

-- whole records, and not too many
pub record PathsWhole (ws : List ℕ) (tiles : ℕ) : Type 0 where
  pub whole : length ws % path_words ≡ 0
  pub few : path_count ws ≤ most_paths
  pub tiled : tiles ≤ most_tiles

pub data PathsWhy (ws : List ℕ) (tiles n k : ℕ) : Type 0 where
  -- 1: not whole records
  one : n ≡ not_whole → k ≡ 0 → length ws % path_words ≢ 0 → PathsWhy ws tiles n k
  -- 2: over 4,096 paths or 1,048,576 tiles
  two : n ≡ too_many → k ≡ 0 → length ws % path_words ≡ 0 → ((most_paths < path_count ws) ⊎ (most_tiles < tiles)) → PathsWhy ws tiles n k
  -- 3: path k's box; those before it are good
  three : n ≡ bad_box → PathsWhole ws tiles → k < path_count ws → ((j : ℕ) → j < k → PathGood ws tiles j) → (GoodBox (path_at ws k) → ⊥) → PathsWhy ws tiles n k
  -- 4: path k's first tile lies before the end of the path before it, or its range ends past the tiles
  four : n ≡ bad_range → PathsWhole ws tiles → k < path_count ws → ((j : ℕ) → j < k → PathGood ws tiles j) → GoodBox (path_at ws k)
      → (((path_at ws k).first < end_before ws k) ⊎ (tiles < end_of (path_at ws k))) → PathsWhy ws tiles n k

-- ---- backdrop: 11 at path k, and u is what it leaves: the paths before it are summed, and a sum of its own leaves i32
pub record BackdropWhy (ws : List ℕ) (bs : List ℤ) (k : ℕ) (u : List ℤ) : Type 0 where
  pub passed : paths_answer ws (length bs) ≡ Done
  pub inside : k < path_count ws
  pub before : Backdrop.sum_paths ws k 0 bs ≡ Backdrop.out_of Done u
  pub leaves : Backdrop.path_fits (path_at ws k) u ≡ false

-- ---- a range of references stops before the first refused
pub record RangeWhy (L : Lent) (slots n k why item : ℕ) : Type 0 where
  pub low : k ≤ item
  pub high : item < k + n
  pub before : (j : ℕ) → k ≤ j → j < item → (m : ℕ) → look_of L slots j ≢ Looked.Against m
  pub halts : look_of L slots item ≡ Looked.Against why

-- ---- a range of screen tiles stops before the first whose commands are refused, and its pixels and later ones keep what they held
pub record TilesWhy (words : List ℕ) (segs : List Float) (width cols a b : ℕ) (pixels u : List ℕ) (why tile : ℕ) : Type 0 where
  pub low : a ≤ tile
  pub high : tile < b
  pub before : tiles_of words segs width cols a tile pixels ≡ done u
  pub halts : ends_at words segs tile ≡ Against why
