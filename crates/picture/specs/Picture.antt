-- The picture that lines make, from lines, paths, paints and a screen alone: no tile words, no references, no slots, no lists, no batches. A path's pieces
-- in a screen tile are its lines' steps there, clipped to the tile; its winding there is what its lines' marks in that row add up to. docs/THEOREMS.md,
-- "The picture is a function of the lines". Definitions only.
use Rattle.std.specs.Prelude.{Bool, true, false, not, cond, ◌&&◌, List, [], ◌∷◌, ◌++◌, ℕ, zero, suc, ◌+◌, ◌-◌, eqb, leb, ltb, ℤ, pos, neg_ℤ, ◌+ℤ◌, Float}
use Rattle.std.specs.Float.{binary32}
use Rattle.std.specs.Float.Ieee.{of_int}
use Rattle.util.specs.Constants as Number
use Rattle.lists.specs.Run.{act_all}
use Rattle.lists.specs.Sums.{from}
use Rattle.lists.specs.Occ.{bit}
use Rattle.panel.specs.Paths.{path_at, path_count}
use Rattle.panel.specs.Paints.{colour_at, rule_at}
use Rattle.panel.specs.declared.kinds.Path.{Path}
use Rattle.panel.specs.declared.segments.Segment.{Segment}
use Rattle.walk.specs.Step.{step_of, cross_in}
use Rattle.walk.specs.declared.kinds.Pace.{Pace}
use Rattle.walk.specs.declared.kinds.Walk.{Walk}
use Rattle.walk.specs.Walked.{Walked, Refused, Skipped, Line}
use Rattle.walk.specs.Stepped.{Step}
use Rattle.walk.specs.Stepped as On
use Rattle.clip.specs.Page.{clipped_of}
use Rattle.segment.specs.Clips.{piece_of}
use Rattle.segment.specs.Piece.{Piece, Kept, Crooked}
use Rattle.one_row.specs.Row.{step_segment}
use Rattle.coverage.specs.Coverage.{finish_of}
use Rattle.colours.specs.Colour.{colour_of, over_of}
use Rattle.commands.specs.Pixel.{even_odd_of}
use Rattle.screen_tile.specs.Tile.{clear}
use Rattle.pairs.specs.Pairs.{in_box, covers}
use Rattle.theorems.specs.Drawn.{Drawn, walk_of, of_path}
use Rattle.list_theorems.specs.Painted.{screen_of}

-- ---- the pieces of a line in the screen tile in column x and row y

abbrev pub kept_in : Piece → List Segment
kept_in (Kept s) = s ∷ []
kept_in Crooked = []

-- step i, clipped to the tile, where that is the step's tile
abbrev pub step_piece : Walk → (i x y : ℕ) → Step → List Segment
step_piece w i x y (On.Tile t u v z) = cond (eqb u x && eqb v y) (kept_in (piece_of w i z u v)) []
step_piece w i x y On.Refused = []

-- n steps from step i on, in order
unfoldable pub step_pieces : Walk → Path → (x y n i : ℕ) → List Segment
step_pieces w b x y zero i = []
step_pieces w b x y (suc n) i = step_piece w i x y (step_of w.pace b i) ++ step_pieces w b x y n (suc i)

-- those of the clipped walk
abbrev pub line_pieces : (x y : ℕ) → Walked → List Segment
line_pieces x y (Refused n) = []
line_pieces x y Skipped = []
line_pieces x y (Line w b) = step_pieces w b x y ((clipped_of w b).imax - (clipped_of w b).imin) (clipped_of w b).imin

-- ---- its marks in that row, up to that tile

-- step i crosses its tile's top edge and marks the tile right of it: that lies in row y, and not right of column x
abbrev pub step_mark : Pace → Path → (i x y : ℕ) → Step → ℕ
step_mark p b i x y (On.Tile t u v z) = bit (cross_in p b i (On.Tile t u v z) && (eqb v y && ltb u x))
step_mark p b i x y On.Refused = 0

unfoldable pub step_marks : Pace → Path → (x y n i : ℕ) → ℕ
step_marks p b x y zero i = 0
step_marks p b x y (suc n) i = step_mark p b i x y (step_of p b i) + step_marks p b x y n (suc i)

-- a row that the line passes left of the box is marked in the box's first column
abbrev pub line_marks : (x y : ℕ) → Walk → Path → ℕ
line_marks x y w b =
    let c = clipped_of w b in
    bit (leb c.ymin y && ltb y c.ymax) + step_marks w.pace b x y (c.imax - c.imin) c.imin

-- an upward line adds 1 for each, a downward one takes 1 off
abbrev pub times : Bool → ℕ → ℤ
times true n = pos n
times false n = neg_ℤ (pos n)

abbrev pub line_winding : (x y : ℕ) → Walked → ℤ
line_winding x y (Refused n) = pos 0
line_winding x y Skipped = pos 0
line_winding x y (Line w b) = times (not w.e.is_down) (line_marks x y w b)

-- ---- a path's pieces and winding there: its own lines', in order

abbrev pub all_pieces : List ℕ → (x y : ℕ) → List Drawn → List Segment
all_pieces paths x y [] = []
all_pieces paths x y (d ∷ ds) = line_pieces x y (walk_of paths d) ++ all_pieces paths x y ds

unfoldable pub pieces_of : (paths : List ℕ) (p x y : ℕ) → List Drawn → List Segment
pieces_of paths p x y lines = all_pieces paths x y (of_path p lines)

unfoldable pub winding_of : (paths : List ℕ) (p x y : ℕ) → List Drawn → ℤ
winding_of paths p x y lines = act_all (λ d w. w +ℤ line_winding x y (walk_of paths d)) (of_path p lines) (pos 0)

-- ---- a pixel

-- the coverage of pixel k, 16 to a row, by these pieces in order and this winding
unfoldable pub cover_of : Bool → (k : ℕ) → List Segment → ℤ → Float
cover_of even_odd k pieces w = finish_of even_odd (act_all (λ s. step_segment s Number.zero Number.zero k) pieces (of_int binary32 w))

-- a path's colour over px: by its pieces' coverage; whole where it has no piece and its winding covers; else not at all
abbrev pub lay_of : (k colour rule : ℕ) → List Segment → ℤ → List Float → List Float
lay_of k colour rule [] w px = cond (covers (even_odd_of rule) w) (over_of (colour_of colour) Number.one px) px
lay_of k colour rule (s ∷ more) w px = over_of (colour_of colour) (cover_of (even_odd_of rule) k (s ∷ more) w) px

-- path p over pixel k of the screen tile in column x and row y: nothing outside its box
unfoldable pub path_over : (paths paints : List ℕ) → List Drawn → (x y k p : ℕ) → List Float → List Float
path_over paths paints lines x y k p px =
    cond (in_box (path_at paths p) x y)
    (lay_of k (colour_at paints p) (rule_at paints p) (pieces_of paths p x y lines) (winding_of paths p x y lines) px)
    px

-- all paths in painting order, from no colour
unfoldable pub pixel_of : (paths paints : List ℕ) → List Drawn → (x y k : ℕ) → List Float
pixel_of paths paints lines x y k = act_all (path_over paths paints lines x y k) (from 0 (path_count paths)) clear

-- ---- the screen: its tiles show these, and pixels off the tiles stay as they were

unfoldable pub picture_of : (paths paints : List ℕ) → List Drawn → (width cols rows : ℕ) → List ℕ → List ℕ
picture_of paths paints lines width cols rows pixels = screen_of (pixel_of paths paints lines) width cols rows pixels
