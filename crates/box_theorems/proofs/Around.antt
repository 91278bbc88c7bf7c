-- The box around points: it fits, it holds them, and with a margin it reaches further than they do. Assumes nothing.
use mathlib.Core.Path.{◌≡◌, refl}
use mathlib.Core.Bool.{true}
use mathlib.Core.List.{List, [], ◌∷◌}
use Prim.Native.Nat.{ℕ, ◌+◌, ◌-◌, ◌≤◌, ◌<◌, min}
use native.Mathlib.Omega.{arith}
use borrow.Author.Tests.{le-leb}
use Rattle.util.specs.declared.Vec2.{Vec2}
use Rattle.panel.specs.Limits.{edge_most}
use Rattle.panel.specs.Paths.{box_fits, path_of}
use Rattle.margin.specs.Room.{Inside}
use Rattle.end_tiles.specs.Lines.{tile_at}
use Rattle.box_records.specs.Records.{area_of_word}
use Rattle.boxes.specs.Boxes.{columns, rows, least, past, box_around}
use Rattle.boxes.proofs.WordLaws.{least_most}
use Rattle.box_theorems.specs.Made.{Within, Inner}

-- its first tile is the one given, and its tiles are as many whichever that is
pub first_of : (m : ℕ) (ps : List Vec2) (t : ℕ) → (box_around m ps t).first ≡ t
first_of m [] t = refl
first_of m (p ∷ ps) t = refl

pub area_of : (m : ℕ) (ps : List Vec2) (t : ℕ) → area_of_word (box_around m ps t) ≡ area_of_word (box_around m ps 0)
area_of m [] t = refl
area_of m (p ∷ ps) t = refl

-- no edge is over the limit or the wrong way round
fits_by : (x0 y0 x1 y1 t : ℕ) → x0 ≤ x1 → y0 ≤ y1 → x1 ≤ edge_most → y1 ≤ edge_most → box_fits (path_of x0 y0 x1 y1 t) ≡ true
fits_by x0 y0 x1 y1 t a b c d =
    let e : x0 ≤ edge_most = omega arith in
    let f : y0 ≤ edge_most = omega arith in
    rw (le-leb x0 edge_most e, le-leb y0 edge_most f, le-leb x1 edge_most c, le-leb y1 edge_most d, le-leb x0 x1 a, le-leb y0 y1 b)

order : (e s p m : ℕ) → s ≤ e → s ≤ p → s - m ≤ min (p + m) e
order e s p m h k = omega arith

under : (t : ℕ) (ts : List ℕ) → least (t ∷ ts) ≤ past (t ∷ ts)
under t ts = omega arith

min_most : (a e : ℕ) → min a e ≤ e
min_most a e = omega arith

pub box_fits_lem : (m : ℕ) (ps : List Vec2) (t : ℕ) → box_fits (box_around m ps t) ≡ true
box_fits_lem m [] t = fits_by 0 0 0 0 t (omega arith) (omega arith) (omega arith) (omega arith)
box_fits_lem m (p ∷ ps) t =
    let cs = columns (p ∷ ps) in
    let rs = rows (p ∷ ps) in
    fits_by (least cs - m) (least rs - m) (min (past cs + m) edge_most) (min (past rs + m) edge_most) t
    (order edge_most (least cs) (past cs) m (least_most cs) (under (tile_at p.x) (columns ps)))
    (order edge_most (least rs) (past rs) m (least_most rs) (under (tile_at p.y) (rows ps))) (min_most _ _) (min_most _ _)

-- ---- a point between the first and the last

pub record Between (t : ℕ) (ts : List ℕ) : Type 0 where
  pub low : least ts ≤ t
  pub high : t < past ts

low_by : (s t m : ℕ) → s ≤ t → s - m ≤ t
low_by s t m h = omega arith

high_by : (e p t m : ℕ) → t < p → t < e → t < min (p + m) e
high_by e p t m h k = omega arith

pub held : (m first : ℕ) (ps : List Vec2) (q : Vec2) → Between (tile_at q.x) (columns ps) → Between (tile_at q.y) (rows ps)
    → tile_at q.x < edge_most → tile_at q.y < edge_most → Within (box_around m ps first) q
held m first [] q a b c d = absurd (omega (arith, a.high))
held m first (p ∷ ps) q a b c d =
    record {
      left = low_by (least (columns (p ∷ ps))) (tile_at q.x) m a.low;
      right = high_by edge_most (past (columns (p ∷ ps))) (tile_at q.x) m a.high c;
      top = low_by (least (rows (p ∷ ps))) (tile_at q.y) m b.low;
      bottom = high_by edge_most (past (rows (p ∷ ps))) (tile_at q.y) m b.high d;
    }

room_low : (s t m : ℕ) → 1 ≤ m → 1 ≤ t → s ≤ t → s - m + 1 ≤ t
room_low s t m h k l = omega arith

room_high : (e p t m : ℕ) → 1 ≤ m → t + 2 ≤ e → t < p → t + 2 ≤ min (p + m) e
room_high e p t m h k l = omega arith

pub roomy : (m first : ℕ) → 1 ≤ m → (ps : List Vec2) (q : Vec2) → Between (tile_at q.x) (columns ps) → Between (tile_at q.y) (rows ps) → Inner q
    → Inside (box_around m ps first) q
roomy m first h [] q a b i = absurd (omega (arith, a.high))
roomy m first h (p ∷ ps) q a b i =
    record {
      left = room_low (least (columns (p ∷ ps))) (tile_at q.x) m h i.left a.low;
      right = room_high edge_most (past (columns (p ∷ ps))) (tile_at q.x) m h i.right a.high;
      top = room_low (least (rows (p ∷ ps))) (tile_at q.y) m h i.top b.low;
      bottom = room_high edge_most (past (rows (p ∷ ps))) (tile_at q.y) m h i.bottom b.high;
    }
