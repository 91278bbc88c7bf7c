-- A line that lies within one tile: its one segment there, and what a reference to it comes to. Assumes nothing.
--     piece_plain, piece_moved    the segment is the line itself, seen from the tile's corner
--     comes        a reference to its step 0, by its tile's word
--     put_fine     a slot that is there takes the segment
use Prim.Native.Nat.{ℕ, ◌+◌, ◌≤◌, ◌<◌}
use native.Mathlib.Omega.{arith}
use mathlib.Core.Path.{◌≡◌, refl, sym, ap, ◌∙◌}
use mathlib.Core.Bool.{Bool, true, false, cond, ◌&&◌, ◌||◌, false≢true}
use mathlib.Core.List.{List}
use lib.ListN.{length, get_or}
use lib.Ieee.{Float, nan, inf, fin, of_bits, round, lt, le, eq}
use borrow.Author.Tests.{lt-ltb, le-ltb}
use Rattle.float32.specs.Inner.{Within}
use Rattle.float32.specs.Meaning.{floor_of, whole}
use Rattle.float32.proofs.Laws.{size_plus}
use Rattle.float32.proofs.Order.{eq_not_gt}
use Rattle.util.specs.Constants.{zero, tile_side, no_edge}
use Rattle.util.specs.Vec.{sub_of}
use Rattle.util.specs.declared.Vec2.{Vec2}
use Rattle.panel.specs.Kinds.{slot_no_of, tile_no_of}
use Rattle.panel.specs.Limits.{edge_most}
use Rattle.panel.specs.Paths.{path_at, path_count, end_of, tile_of, beam_at, paths_answer}
use Rattle.panel.specs.Pieces.{Pieces}
use Rattle.panel.specs.Segments.{held_of}
use Rattle.panel.specs.Slots.{skips, slot_of}
use Rattle.panel.specs.Answer.{Done}
use Rattle.panel.specs.declared.kinds.Path.{Path}
use Rattle.panel.specs.declared.kinds.TileNo.{TileNo}
use Rattle.panel.specs.Verdict.{Fine}
use Rattle.panel.specs.declared.lines.LineEnds.{LineEnds}
use Rattle.panel.specs.declared.segments.Segment.{Segment}
use Rattle.panel.proofs.BoolLaws.{both}
use Rattle.panel.proofs.PathLaws.{checked}
use Rattle.exact.specs.Whole.{Small}
use Rattle.whole.proofs.Steps.{small_within}
use Rattle.spot.specs.Spot.{OneTile, SpotMet}
use Rattle.spot.specs.Place.{Spot, In}
use Rattle.walk.specs.Page.{line_of}
use Rattle.walk.specs.Lent as Lines
use Rattle.walk.specs.Lent.{walk_at}
use Rattle.walk.specs.Step.{Boxed}
use Rattle.walk.proofs.Boxes.{fits_boxed, tile_below}
use Rattle.walk.specs.declared.kinds.Walk.{Walk}
use Rattle.walk.specs.Walked.{Line}
use Rattle.segment.specs.Clips.{corner_of, make_of, edge_of, off_of, turn_of, first_of, last_of, segment_of, piece_of}
use Rattle.segment.specs.Piece.{Kept, Crooked}
use Rattle.looks.specs.Look.{step_no, slice_no, piece_to, word_to, step_to, found_to, found_of}
use Rattle.looks.specs.One.{one, one_of}
use Rattle.short_lines.specs.Short.{inner_of, seen_of, SeenMet, Comes, PieceMet, ShortMet, PutMet, TriedMet, TookMet}
use Rattle.short_lines.specs.Held.{Short}
use Rattle.short_lines.specs.Held as Short
use Rattle.short_lines.specs.Inside.{Inside}
use Rattle.short_lines.specs.Inside as One
use Rattle.looks.specs.Looked.{Put}

-- ---- the segment

-- in the line's own direction, whichever end was put first
turned : (down : Bool) (p0 p1 t : Vec2) → eq (sub_of p0 t).x zero ≡ false → eq (sub_of p1 t).x zero ≡ false
    → turn_of down
    (edge_of (sub_of (cond down p0 p1) t).x (sub_of (cond down p0 p1) t).y (sub_of (cond down p1 p0) t).x (sub_of (cond down p1 p0) t).y)
    ≡ seen_of (sub_of p0 t) (sub_of p1 t)
unfolding turn_of edge_of make_of seen_of
turned true p0 p1 t e f = rw (e, f) refl
turned false p0 p1 t e f = rw (e, f) refl

first_own : (w : Walk) (z : Float) (t : Vec2) → first_of w 0 z t ≡ w.e.xy0
unfolding first_of
first_own w z t = refl

last_own : (w : Walk) (z : Float) (t p : Vec2) → w.k.count ≡ 1 → last_of w 0 z t p ≡ w.e.xy1
unfolding last_of
last_own w z t p e = rw e refl

own_ends : (p0 p1 : Vec2)
    → ((line_of p0 p1).e.is_down ≡ le p0.y p1.y) × ((line_of p0 p1).e.xy0 ≡ cond (le p0.y p1.y) p0 p1)
    × ((line_of p0 p1).e.xy1 ≡ cond (le p0.y p1.y) p1 p0)
unfolding line_of
own_ends p0 p1 = (refl, refl, refl)

one_segment : (p0 p1 : Vec2) (z : Float) (x y : ℕ) → (line_of p0 p1).k.count ≡ 1
    → eq (sub_of p0 (corner_of x y)).x zero ≡ false → eq (sub_of p1 (corner_of x y)).x zero ≡ false
    → segment_of (line_of p0 p1) 0 z x y ≡ seen_of (sub_of p0 (corner_of x y)) (sub_of p1 (corner_of x y))
unfolding segment_of
one_segment p0 p1 z x y c e f =
    let o = own_ends p0 p1 in
    let t = corner_of x y in
    rw (first_own (line_of p0 p1) z t, last_own (line_of p0 p1) z t (line_of p0 p1).e.xy0 c, o.0, o.1, o.2) (turned (le p0.y p1.y) p0 p1 t e f)

held_kept : (d0 d1 : Vec2) → held_of (off_of d0) && held_of (off_of d1) ≡ true
    → cond (held_of (seen_of d0 d1).p0 && held_of (seen_of d0 d1).p1) (Kept (seen_of d0 d1)) Crooked ≡ Kept (seen_of d0 d1)
unfolding make_of seen_of
held_kept d0 d1 h = rw h refl

one_piece : (p0 p1 : Vec2) (x y : ℕ) → eq (sub_of p0 (corner_of x y)).x zero ≡ false → eq (sub_of p1 (corner_of x y)).x zero ≡ false
    → held_of (off_of (sub_of p0 (corner_of x y))) && held_of (off_of (sub_of p1 (corner_of x y))) ≡ true
    → (z : Float) → (line_of p0 p1).k.count ≡ 1 → piece_of (line_of p0 p1) 0 z x y ≡ Kept (seen_of (sub_of p0 (corner_of x y)) (sub_of p1 (corner_of x y)))
unfolding piece_of
one_piece p0 p1 x y e f h z c = rw (one_segment p0 p1 z x y c e f) (held_kept (sub_of p0 (corner_of x y)) (sub_of p1 (corner_of x y)) h)

-- ---- an end in its tile, off the left and the top edge

pub record Inner (p : Vec2) : Type 0 where
  pub held : held_of p ≡ true
  pub off_edge : eq p.x zero ≡ false
  pub within : Within p.x

some : (x : Float) → lt zero x ≡ true → eq x zero ≡ false
some x l = go (eq x zero) refl
  where
    go : (t : Bool) → eq x zero ≡ t → t ≡ false
    go true e = let z = sym (eq_not_gt x zero e) ∙ l in absurd (false≢true z)
    go false e = refl

side : tile_side ≡ whole false 16
side = unfold of_bits round in refl

few : (x : Float) → lt zero x ≡ true → le x (whole false 16) ≡ true → Small x 16
unfolding lt le of_bits round
few nan l u = absurd (false≢true l)
few (inf true) l u = absurd (false≢true l)
few (inf false) l u = absurd (false≢true u)
few (fin true m e) l u = absurd (false≢true l)
few (fin false m e) l u = size_plus m e 16 (omega arith) u

lt_le : (x y : Float) → lt x y ≡ true → le x y ≡ true
unfolding le
lt_le x y e = rw e refl

inner_told : (p : Vec2) → inner_of p ≡ true → Inner p
unfolding inner_of held_of
inner_told p e =
    let h = both (lt zero p.x && le p.x tile_side) (lt zero p.y && le p.y tile_side) e in
    let x = both (lt zero p.x) (le p.x tile_side) h.0 in
    let y = both (lt zero p.y) (le p.y tile_side) h.1 in
    record {
      held = rw (lt_le zero p.x x.0, x.1, lt_le zero p.y y.0, y.1) refl;
      off_edge = some p.x x.0;
      within = small_within p.x 16 (omega arith) (few p.x x.0 (rw side at x.1));
    }

-- both ends are such
pub ends_inner : (a b : Bool) (d0 d1 : Vec2) → a ≡ inner_of d0 → b ≡ inner_of d1 → a && b ≡ true → Inner d0 × Inner d1
ends_inner true true d0 d1 e f h = (inner_told d0 (sym e), inner_told d1 (sym f))
ends_inner true false d0 d1 e f h = let z : ◌≡◌ {A = ℕ} 0 1 = cc in absurd (omega arith)
ends_inner false b d0 d1 e f h = let z : ◌≡◌ {A = ℕ} 0 1 = cc in absurd (omega arith)

neither : (a b : Bool) → a || b ≡ false → (a ≡ false) × (b ≡ false)
neither true b e = let z : ◌≡◌ {A = ℕ} 0 1 = cc in absurd (omega arith)
neither false b e = (refl, e)

off_own : (d : Vec2) → eq d.x (floor_of d.x) ≡ false → off_of d ≡ d
unfolding off_of
off_own d e = rw e refl

-- where an end is on a whole column, and where none is
pub piece_moved : (p0 p1 : Vec2) (x y : ℕ) (r : Inside) → Inner (sub_of p0 (corner_of x y)) × Inner (sub_of p1 (corner_of x y))
    → SeenMet (sub_of p0 (corner_of x y)) (sub_of p1 (corner_of x y)) r → PieceMet p0 p1 x y r
piece_moved p0 p1 x y (One.Kept s) i m =
    λ z c. one_piece p0 p1 x y i.0.off_edge i.1.off_edge m.0 z c ∙ ap Kept (sym m.1)
piece_moved p0 p1 x y One.Odd i m = tt

seen_plain : (d0 d1 : Vec2) → Inner d0 × Inner d1 → eq d0.x (floor_of d0.x) || eq d1.x (floor_of d1.x) ≡ false
    → (held_of (off_of d0) && held_of (off_of d1) ≡ true) × (make_of d0.x d0.y d1.x d1.y no_edge ≡ seen_of d0 d1)
unfolding seen_of
seen_plain d0 d1 i n =
    let e = neither (eq d0.x (floor_of d0.x)) (eq d1.x (floor_of d1.x)) n in
    (rw (off_own d0 e.0, off_own d1 e.1, i.0.held, i.1.held) refl, rw (off_own d0 e.0, off_own d1 e.1) refl)

pub piece_plain : (p0 p1 : Vec2) (x y : ℕ) → Inner (sub_of p0 (corner_of x y)) × Inner (sub_of p1 (corner_of x y))
    → eq (sub_of p0 (corner_of x y)).x (floor_of (sub_of p0 (corner_of x y)).x) || eq (sub_of p1 (corner_of x y)).x (floor_of (sub_of p1 (corner_of x y)).x) ≡ false
    → PieceMet p0 p1 x y
    (One.Kept (make_of (sub_of p0 (corner_of x y)).x (sub_of p0 (corner_of x y)).y (sub_of p1 (corner_of x y)).x (sub_of p1 (corner_of x y)).y no_edge))
piece_plain p0 p1 x y i n =
    let s = make_of (sub_of p0 (corner_of x y)).x (sub_of p0 (corner_of x y)).y (sub_of p1 (corner_of x y)).x (sub_of p1 (corner_of x y)).y no_edge in
    piece_moved p0 p1 x y (One.Kept s) i (seen_plain (sub_of p0 (corner_of x y)) (sub_of p1 (corner_of x y)) i n)

-- ---- a reference

line_found : (ns : List ℕ) (cs : List Float) (ps : List ℕ) (l x y : ℕ) → l < length ns → get_or ns l 0 < path_count ps
    → OneTile (Lines.line_at cs l).p0 (Lines.line_at cs l).p1 (path_at ps (get_or ns l 0)) x y
    → found_of ns cs ps l ≡ Line (line_of (Lines.line_at cs l).p0 (Lines.line_at cs l).p1) (path_at ps (get_or ns l 0))
unfolding found_of walk_at
line_found ns cs ps l x y h g o = rw (lt-ltb _ _ h, o.reached, lt-ltb _ _ g, o.walked) refl

step_looks : (stored : List ℕ) (slots packed : ℕ) (p0 p1 : Vec2) (b : Path) (x y : ℕ) (s : Segment) → OneTile p0 p1 b x y
    → ((z : Float) → (line_of p0 p1).k.count ≡ 1 → piece_of (line_of p0 p1) 0 z x y ≡ Kept s) → step_no packed ≡ 0
    → found_to stored slots packed (Line (line_of p0 p1) b) ≡ word_to slots (get_or stored (tile_of b x y) 0) (slice_no packed) (Kept s)
unfolding found_to step_to
step_looks stored slots packed p0 p1 b x y s o piece e = rw (e, o.falls, piece _ o.one_step_lem) refl

pub comes : (ns : List ℕ) (cs : List Float) (ps stored : List ℕ) (l x y : ℕ) (s : Segment) → l < length ns → get_or ns l 0 < path_count ps
    → OneTile (Lines.line_at cs l).p0 (Lines.line_at cs l).p1 (path_at ps (get_or ns l 0)) x y
    → ((z : Float) → (line_of (Lines.line_at cs l).p0 (Lines.line_at cs l).p1).k.count ≡ 1
    → piece_of (line_of (Lines.line_at cs l).p0 (Lines.line_at cs l).p1) 0 z x y ≡ Kept s)
    → Comes ns cs ps stored l s (get_or stored (tile_of (path_at ps (get_or ns l 0)) x y) 0) (beam_at ps (get_or ns l 0))
comes ns cs ps stored l x y s h g o piece =
    record {
      tagged = refl;
      look =
          λ slots packed e. ap (found_to stored slots packed) (line_found ns cs ps l x y h g o)
          ∙ step_looks stored slots packed _ _ _ x y s o piece e;
    }

-- the same of what the code has at hand
pub short_comes : (ns : List ℕ) (cs : List Float) (ps stored : List ℕ) (l : ℕ) (ends : LineEnds) (b : Path) (t : TileNo) (x y : ℕ) (s : Segment) (tag : ℕ)
    → ends ≡ Lines.line_at cs l → b ≡ path_at ps (get_or ns l 0) → l < length ns → get_or ns l 0 < path_count ps
    → (t ≡ tile_no_of (tile_of b x y)) × OneTile ends.p0 ends.p1 b x y
    → ((z : Float) → (line_of ends.p0 ends.p1).k.count ≡ 1 → piece_of (line_of ends.p0 ends.p1) 0 z x y ≡ Kept s)
    → tag ≡ beam_at ps (get_or ns l 0) → Comes ns cs ps stored l s (get_or stored t.0 0) tag
short_comes ns cs ps stored l ends b t x y s tag e f h g o piece tagged =
    rw (o.0, f, tagged) (comes ns cs ps stored l x y s h g (rw (e, f) at o.1) (rw e at piece))

pub path_boxed : (ps : List ℕ) (n p : ℕ) → paths_answer ps n ≡ Done → p < path_count ps → Boxed (path_at ps p) × (end_of (path_at ps p) ≤ n)
path_boxed ps n p e h = let c = checked ps n e in (fits_boxed (path_at ps p) n c.tiled (c.fits p h), (c.fits p h).within)

pub spot_in : {p0 p1 : Vec2} {b : Path} {r : Spot} {t : TileNo} {x y : ℕ} → r ≡ In t x y → SpotMet p0 p1 b r → (t ≡ tile_no_of (tile_of b x y)) × OneTile p0 p1 b x y
spot_in e h = rw e at h

pub spot_fits : (p0 p1 : Vec2) (b : Path) (t : TileNo) (x y n : ℕ) → Boxed b × (end_of b ≤ n) → (t ≡ tile_no_of (tile_of b x y)) × OneTile p0 p1 b x y
    → (t.0 < n) × (x ≤ edge_most) × (y ≤ edge_most)
spot_fits p0 p1 b t x y n h o =
    let w = o.1.within in
    let same : t.0 ≡ tile_of b x y = ap (λ (u : TileNo). u.0) o.0 in
    (omega (arith, same, (tile_below b x y w).1, h.1), omega (arith, w.col_most, h.0.wide), omega (arith, w.row_most, h.0.high))

pub piece_kept : (p0 p1 : Vec2) (x y : ℕ) {r : Inside} {s : Segment} → r ≡ One.Kept s → PieceMet p0 p1 x y r
    → (z : Float) → (line_of p0 p1).k.count ≡ 1 → piece_of (line_of p0 p1) 0 z x y ≡ Kept s
piece_kept p0 p1 x y e h = rw e at h

-- ---- a slot that is there

pub put_fine : (slots word slice : ℕ) (s : Segment) → skips word ≡ false → slot_of word slice < slots
    → word_to slots word slice (Kept s) ≡ Put (slot_no_of (slot_of word slice)) s
unfolding word_to piece_to
put_fine slots word slice s e h = let room : slot_of word slice + 1 ≤ slots = omega arith in rw (e, le-ltb _ _ room) refl

took : (ns : List ℕ) (cs : List Float) (ps stored : List ℕ) (l : ℕ) (s : Segment) (word tag slots packed : ℕ) (p : Pieces) (v : Bool) (p' : Pieces)
    → Comes ns cs ps stored l s word tag → PutMet slots word packed s tag p v p' → TookMet ns cs ps stored slots l packed p v p'
took ns cs ps stored l s word tag slots packed p true p' c h =
    rw (sym c.tagged, c.look slots packed h.0) h.1
took ns cs ps stored l s word tag slots packed p false p' c h = h

-- so of a line as it was tried
pub took_tried : (ns : List ℕ) (cs : List Float) (ps stored : List ℕ) (l slots packed : ℕ) (r : Short) (p : Pieces) (v : Bool) (p' : Pieces)
    → ShortMet ns cs ps stored l r → TriedMet slots packed r p v p' → TookMet ns cs ps stored slots l packed p v p'
took_tried ns cs ps stored l slots packed (Short.In s word tag) p v p' c h = took ns cs ps stored l s word tag slots packed p v p' c h
took_tried ns cs ps stored l slots packed Short.Other p v p' c h = rw h.0 h.1

pub took_yes : (ns : List ℕ) (cs : List Float) (ps stored : List ℕ) (slots l packed : ℕ) (p : Pieces) (v : Bool) (p' : Pieces) → v ≡ true
    → TookMet ns cs ps stored slots l packed p v p' → one Fine p' ≡ one_of (beam_at ps (get_or ns l 0)) (found_to stored slots packed (found_of ns cs ps l)) p
took_yes ns cs ps stored slots l packed p v p' e h = rw e at h

pub took_no : (ns : List ℕ) (cs : List Float) (ps stored : List ℕ) (slots l packed : ℕ) (p : Pieces) (v : Bool) (p' : Pieces) → v ≡ false
    → TookMet ns cs ps stored slots l packed p v p' → p' ≡ p
took_no ns cs ps stored slots l packed p v p' e h = rw e at h
