-- A reference of a line that lies within one tile, tiled with none of the walk's numbers: what the functions of src/lib.rt say of it. Only proofs lean on
-- this: no promise of a public call does. Definitions only.
use Rattle.std.specs.Prelude.{ℕ, ◌≡◌, Bool, true, false, ◌&&◌, List, get_or, Float}
use Rattle.std.specs.Float.Ieee.{lt, le}
use Rattle.util.specs.Constants.{zero, tile_side, no_edge}
use Rattle.util.specs.declared.Vec2.{Vec2}
use Rattle.panel.specs.Paths.{beam_at}
use Rattle.panel.specs.Pieces.{Pieces}
use Rattle.panel.specs.Segments.{held_of}
use Rattle.panel.specs.Verdict.{Fine}
use Rattle.panel.specs.declared.segments.Segment.{Segment}
use Rattle.walk.specs.Page.{line_of}
use Rattle.segment.specs.Clips.{make_of, off_of, piece_of}
use Rattle.segment.specs.Piece as Piece
use Rattle.looks.specs.Look.{step_no, slice_no, word_to, found_to, found_of}
use Rattle.looks.specs.One.{one, one_of}
use Rattle.short_lines.specs.Inside.{Inside, Kept, Odd}
use Rattle.short_lines.specs.Held.{Short, In, Other}

-- an end in its tile, off the left and the top edge
unfoldable pub inner_of : Vec2 → Bool
inner_of p = (lt zero p.x && le p.x tile_side) && (lt zero p.y && le p.y tile_side)

-- a line's ends as they are seen from the tile's corner, off whole columns
unfoldable pub seen_of : (d0 d1 : Vec2) → Segment
seen_of d0 d1 = make_of (off_of d0).x (off_of d0).y (off_of d1).x (off_of d1).y no_edge

abbrev pub SeenMet : (d0 d1 : Vec2) → Inside → Type 0
SeenMet d0 d1 (Kept s) = (held_of (off_of d0) && held_of (off_of d1) ≡ true) × (s ≡ seen_of d0 d1)
SeenMet d0 d1 Odd = Unit {0}

-- the segment of a line whose walk has one step, whatever z is there
abbrev pub PieceMet : (p0 p1 : Vec2) (x y : ℕ) → Inside → Type 0
PieceMet p0 p1 x y (Kept s) = (z : Float) → (line_of p0 p1).k.count ≡ 1 → piece_of (line_of p0 p1) 0 z x y ≡ Piece.Kept s
PieceMet p0 p1 x y Odd = Unit {0}

-- what a reference to step 0 of line l comes to, by its tile's word; and the line's tag
pub record Comes (ns : List ℕ) (cs : List Float) (ps stored : List ℕ) (l : ℕ) (s : Segment) (word tag : ℕ) : Type 0 where
  pub tagged : tag ≡ beam_at ps (get_or ns l 0)
  pub look : (slots packed : ℕ) → step_no packed ≡ 0 → found_to stored slots packed (found_of ns cs ps l) ≡ word_to slots word (slice_no packed) (Piece.Kept s)

abbrev pub ShortMet : (ns : List ℕ) (cs : List Float) (ps stored : List ℕ) (l : ℕ) → Short → Type 0
ShortMet ns cs ps stored l (In s word tag) = Comes ns cs ps stored l s word tag
ShortMet ns cs ps stored l Other = Unit {0}

-- a reference by its tile's word and its segment: it is to step 0 and it is fine, or nothing was written
abbrev pub PutMet : (slots word packed : ℕ) → Segment → (tag : ℕ) → (p : Pieces) → Bool → (p' : Pieces) → Type 0
PutMet slots word packed s tag p true p' =
    (step_no packed ≡ 0) × (one Fine p' ≡ one_of tag (word_to slots word (slice_no packed) (Piece.Kept s)) p)
PutMet slots word packed s tag p false p' = p' ≡ p

-- a reference by what its line comes to
abbrev pub TriedMet : (slots packed : ℕ) → Short → (p : Pieces) → Bool → (p' : Pieces) → Type 0
TriedMet slots packed (In s word tag) p r p' = PutMet slots word packed s tag p r p'
TriedMet slots packed Other p r p' = (r ≡ false) × (p' ≡ p)

-- a reference to line l: it is fine, or nothing was written
abbrev pub TookMet : (ns : List ℕ) (cs : List Float) (ps stored : List ℕ) (slots l packed : ℕ) → (p : Pieces) → Bool → (p' : Pieces) → Type 0
TookMet ns cs ps stored slots l packed p true p' =
    one Fine p' ≡ one_of (beam_at ps (get_or ns l 0)) (found_to stored slots packed (found_of ns cs ps l)) p
TookMet ns cs ps stored slots l packed p false p' = p' ≡ p
