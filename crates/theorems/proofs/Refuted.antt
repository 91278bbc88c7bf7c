-- What the theorems don't say, refuted: statements near theirs that are false, each shown so by an instance. Assumes nothing.
use mathlib.Core.Path.{◌≡◌, refl, sym, ap, ◌∙◌}
use mathlib.Core.List.Perm
use mathlib.Core.List.{List, [], ◌∷◌, ◌++◌, Perm}
use mathlib.Core.Bool.{true}
use Prim.Native.Nat.{ℕ, suc, ◌*◌, ◌/◌, ◌≤◌, ◌<◌, ◌^◌}
use native.Mathlib.Omega.{arith}
use lib.Dec.{leb}
use lib.ListN.{length, get_or, replicate}
use lib.IntN.{ℤ, pos, negsuc}
use lib.Ieee.{Float, binary32, neg, of_bits}
use borrow.Author.Tests.{leb-true}
use Rattle.util.specs.declared.Vec2.{Vec2}
use Rattle.lists.specs.Run.{All}
use Rattle.lists.specs.Tally.{zeros}
use Rattle.panel.specs.Paths.{boxed, stamped}
use Rattle.panel.specs.Limits.{coord_most}
use Rattle.panel.specs.Refusals.{no_room_word}
use Rattle.panel.specs.Widths.{line_floats, segment_floats}
use Rattle.panel.specs.Pieces.{Pieces, pieces}
use Rattle.panel.specs.Kinds.{running_of}
use Rattle.panel.specs.declared.kinds.Running.{Running}
use Rattle.panel.specs.Answer as Answer
use Rattle.walk.specs.Lent.{line_at, Reached}
use Rattle.walk.specs.Page.{line_of}
use Rattle.path_count.specs.Count.{Told, counted}
use Rattle.hand_out.specs.HandOut as HandOut
use Rattle.looks.specs.Look.{lent}
use Rattle.path_tiling.specs.Tiling.{slots_of, call_of, Tiled, tiled, tiled_of, TileMet}
use Rattle.frame.specs.Frame.{out_of, frame_of}
use Rattle.frame.specs.declared.kinds.Stage.TheVariants as Stage
use Rattle.frame.specs.Framed.{Refused}
use Rattle.theorems.specs.Drawn.{drawn, drawn_at}
use Rattle.theorems.specs.Refs.{from_zero, AllCounted}
use Rattle.theorems.specs.Batches.{Rising, last_of}
use Rattle.theorems.specs.Starred.{floats_of}
use Rattle.theorems.proofs.StarredTable.{computing}
use Rattle.theorems.proofs.FrameTraces.{no_slot}

-- the box 0,0,2,2; (8,8)-(8,24), which makes two references there; (5,5)-(5,5), which makes none; and a line that is refused with 6
abbrev box : List ℕ
box = boxed 0 0 2 2 0

abbrev none : List ℕ
none = 0 ∷ 0 ∷ 0 ∷ 0 ∷ []

abbrev down_then_point : List Float
down_then_point = floats_of (8 ∷ 8 ∷ 8 ∷ 24 ∷ 5 ∷ 5 ∷ 5 ∷ 5 ∷ [])

abbrev point_then_down : List Float
point_then_down = floats_of (5 ∷ 5 ∷ 5 ∷ 5 ∷ 8 ∷ 8 ∷ 8 ∷ 24 ∷ [])

abbrev infinity : Float
infinity = of_bits binary32 0x7f80_0000

abbrev down_then_bad : List Float
down_then_bad = of_bits binary32 0x4100_0000 ∷ of_bits binary32 0x4100_0000 ∷ of_bits binary32 0x4100_0000 ∷ of_bits binary32 0x41c0_0000 ∷ infinity ∷ infinity ∷ infinity ∷ infinity ∷ []

abbrev bad_then_down : List Float
bad_then_down = infinity ∷ infinity ∷ infinity ∷ infinity ∷ of_bits binary32 0x4100_0000 ∷ of_bits binary32 0x4100_0000 ∷ of_bits binary32 0x4100_0000 ∷ of_bits binary32 0x41c0_0000 ∷ []

-- ---- the order of lines: references do change

abbrev SameReferences : Type 0
SameReferences =
    (paths : List ℕ) (n b : ℕ) (nos : List ℕ) (coords : List Float) (refs : List ℕ) (bs : List ℤ) (cs rs : List ℕ) (m : ℕ)
    (nos' : List ℕ) (coords' : List Float) (bs' : List ℤ) (cs' rs' : List ℕ) (m' : ℕ)
    → AllCounted b nos coords paths n refs bs cs rs m → AllCounted b nos' coords' paths n refs bs' cs' rs' m'
    → Perm (drawn nos coords b) (drawn nos' coords' b) → rs ≡ rs'

down_first : AllCounted 2 (0 ∷ 0 ∷ []) down_then_point box 4 none (pos 0 ∷ pos 0 ∷ pos 0 ∷ negsuc 0 ∷ []) (1 ∷ 0 ∷ 1 ∷ 0 ∷ []) (0 ∷ 0 ∷ 0 ∷ 1 ∷ []) 2
unfolding computing
down_first = refl

point_first : AllCounted 2 (0 ∷ 0 ∷ []) point_then_down box 4 none (pos 0 ∷ pos 0 ∷ pos 0 ∷ negsuc 0 ∷ []) (1 ∷ 0 ∷ 1 ∷ 0 ∷ []) (1 ∷ 0 ∷ 1 ∷ 1 ∷ []) 2
unfolding computing
point_first = refl

turned : Perm (drawn (0 ∷ 0 ∷ []) down_then_point 2) (drawn (0 ∷ 0 ∷ []) point_then_down 2)
unfolding line_at
turned = Perm.swap (drawn_at (0 ∷ 0 ∷ []) down_then_point 1) (drawn_at (0 ∷ 0 ∷ []) down_then_point 0) []

pub references_change : SameReferences → ⊥
references_change f =
    let e : ◌≡◌ {A = List ℕ} (0 ∷ 0 ∷ 0 ∷ 1 ∷ []) (1 ∷ 0 ∷ 1 ∷ 1 ∷ []) =
    f box 4 2 (0 ∷ 0 ∷ []) down_then_point none (pos 0 ∷ pos 0 ∷ pos 0 ∷ negsuc 0 ∷ []) (1 ∷ 0 ∷ 1 ∷ 0 ∷ []) (0 ∷ 0 ∷ 0 ∷ 1 ∷ []) 2
    (0 ∷ 0 ∷ []) point_then_down (pos 0 ∷ pos 0 ∷ pos 0 ∷ negsuc 0 ∷ []) (1 ∷ 0 ∷ 1 ∷ 0 ∷ []) (1 ∷ 0 ∷ 1 ∷ 1 ∷ []) 2 down_first point_first turned in
    let z : ◌≡◌ {A = ℕ} 0 1 = cc in omega arith

-- ---- the order of lines where one is refused: those after it aren't counted

abbrev SameCounts : Type 0
SameCounts =
    (paths : List ℕ) (n b : ℕ) (nos : List ℕ) (coords : List Float) (refs nos' : List ℕ) (coords' : List Float)
    → Perm (drawn nos coords b) (drawn nos' coords' b) → (from_zero b nos coords paths n refs).counts ≡ (from_zero b nos' coords' paths n refs).counts

down_stands : (from_zero 2 (0 ∷ 0 ∷ []) down_then_bad box 4 none).counts ≡ 1 ∷ 0 ∷ 1 ∷ 0 ∷ []
unfolding computing
down_stands = refl

down_lost : (from_zero 2 (0 ∷ 0 ∷ []) bad_then_down box 4 none).counts ≡ none
unfolding computing
down_lost = refl

bad_turned : Perm (drawn (0 ∷ 0 ∷ []) down_then_bad 2) (drawn (0 ∷ 0 ∷ []) bad_then_down 2)
unfolding line_at
bad_turned = Perm.swap (drawn_at (0 ∷ 0 ∷ []) down_then_bad 1) (drawn_at (0 ∷ 0 ∷ []) down_then_bad 0) []

pub refused_order_counts : SameCounts → ⊥
refused_order_counts f =
    let e : ◌≡◌ {A = List ℕ} (1 ∷ 0 ∷ 1 ∷ 0 ∷ []) none = sym down_stands ∙ f box 4 2 (0 ∷ 0 ∷ []) down_then_bad none (0 ∷ 0 ∷ []) bad_then_down bad_turned ∙ down_lost in
    let z : ◌≡◌ {A = ℕ} 1 0 = cc in omega arith

-- ---- batches that go on past a line refused

abbrev on_any_paper : List ℕ → Told → (Running → List ℤ → List ℕ → List ℕ → Told) → Told
on_any_paper [] t k = t
on_any_paper (n ∷ []) t k = t
on_any_paper (n ∷ l ∷ []) t k = t
on_any_paper (n ∷ l ∷ r ∷ []) t k = k (running_of l r) t.backs t.counts t.refs
on_any_paper (n ∷ item ∷ l ∷ r ∷ more) t k = k (running_of (suc l) r) t.backs t.counts t.refs

abbrev going_on : List ℕ → Told → (nos : List ℕ) (coords : List Float) (paths : List ℕ) → Told
going_on [] t nos coords paths = t
going_on (e ∷ es) t nos coords paths = on_any_paper t.paper t (λ r bs cs rs. going_on es (counted r e nos coords paths bs cs rs) nos coords paths)

abbrev PastRefused : Type 0
PastRefused =
    (nos : List ℕ) (coords : List Float) (paths : List ℕ) (n : ℕ) (refs : List ℕ) (e : ℕ) (es : List ℕ) → Rising 0 (e ∷ es) → last_of e es ≤ length coords / line_floats
    → going_on es (counted (running_of 0 0) e nos coords paths (replicate n (pos 0)) (zeros n) refs) nos coords paths ≡ from_zero (last_of e es) nos coords paths n refs

went_on : (going_on (2 ∷ []) (counted (running_of 0 0) 1 (0 ∷ 0 ∷ []) bad_then_down box (replicate 4 (pos 0)) (zeros 4) none) (0 ∷ 0 ∷ []) bad_then_down box).counts ≡ 1 ∷ 0 ∷ 1 ∷ 0 ∷ []
unfolding computing
went_on = refl

pub past_a_refused_line : PastRefused → ⊥
past_a_refused_line f =
    let e : ◌≡◌ {A = List ℕ} (1 ∷ 0 ∷ 1 ∷ 0 ∷ []) none =
    sym went_on ∙ ap (λ (t : Told). t.counts) (f (0 ∷ 0 ∷ []) bad_then_down box 4 none 1 (2 ∷ []) (omega arith, (omega arith, tt)) (omega arith)) ∙ down_lost in
    let z : ◌≡◌ {A = ℕ} 1 0 = cc in omega arith

-- ---- a write's path is its line's, and not that of the line whose number is the reference's

abbrev PathOfReference : Type 0
PathOfReference =
    (b : ℕ) (nos : List ℕ) (coords : List Float) (paths : List ℕ) (n : ℕ) (refs : List ℕ) (bs : List ℤ) (cs rs : List ℕ) (m room : ℕ) (kept ws tl : List ℕ) (p : Pieces)
    → AllCounted b nos coords paths n refs bs cs rs m → HandOut.hand_out_of room cs kept ≡ HandOut.out_of Answer.Done ws tl
    → All (λ w. w.path ≡ get_or nos w.ref 0) (call_of 0 m (lent nos coords paths ws rs) p).writes

-- a point of path 1, then (8,8)-(8,24) of path 0
two_paths : AllCounted 2 (1 ∷ 0 ∷ []) point_then_down (boxed 0 0 2 2 0 ++ boxed 0 0 1 1 4) 5 none
    (pos 0 ∷ pos 0 ∷ pos 0 ∷ negsuc 0 ∷ pos 0 ∷ []) (1 ∷ 0 ∷ 1 ∷ 0 ∷ 0 ∷ []) (1 ∷ 0 ∷ 1 ∷ 1 ∷ []) 2
unfolding computing
two_paths = refl

two_handed : HandOut.hand_out_of 2 (1 ∷ 0 ∷ 1 ∷ 0 ∷ 0 ∷ []) (0 ∷ 0 ∷ 0 ∷ 0 ∷ 0 ∷ []) ≡ HandOut.out_of Answer.Done (4294967295 ∷ 0 ∷ 4294967294 ∷ 0 ∷ 0 ∷ []) (1 ∷ 0 ∷ 1 ∷ 0 ∷ 0 ∷ [])
unfolding computing
two_handed = refl

pub path_of_the_line : PathOfReference → ⊥
unfolding computing
path_of_the_line f =
    let h = f 2 (1 ∷ 0 ∷ []) point_then_down (boxed 0 0 2 2 0 ++ boxed 0 0 1 1 4) 5 none (pos 0 ∷ pos 0 ∷ pos 0 ∷ negsuc 0 ∷ pos 0 ∷ []) (1 ∷ 0 ∷ 1 ∷ 0 ∷ 0 ∷ [])
    (1 ∷ 0 ∷ 1 ∷ 1 ∷ []) 2 2 (0 ∷ 0 ∷ 0 ∷ 0 ∷ 0 ∷ []) (4294967295 ∷ 0 ∷ 4294967294 ∷ 0 ∷ 0 ∷ []) (1 ∷ 0 ∷ 1 ∷ 0 ∷ 0 ∷ [])
    (pieces (replicate (2 * segment_floats) (of_bits binary32 0)) (0 ∷ 0 ∷ [])) two_paths two_handed in
    let z : ◌≡◌ {A = ℕ} 0 1 = h.0 in omega arith

-- ---- a reference that is skipped for an empty tile leaves the tags: a program that writes its line's number there breaks tiling's promise

abbrev no_floats : List Float
no_floats = replicate segment_floats (of_bits binary32 0)

-- whatever is stored, slot 0 gets the number 7 of (8,8)-(8,24)'s path
abbrev TaggedWhereSkipped : Type 0
TaggedWhereSkipped =
    (stored : List ℕ) (tag : ℕ)
    → TileMet 0 1 (lent (0 ∷ []) (floats_of (8 ∷ 8 ∷ 8 ∷ 24 ∷ [])) (stamped 0 0 2 2 0 7) stored (0 ∷ 0 ∷ [])) (pieces no_floats (tag ∷ [])) Answer.Done
    (pieces no_floats (7 ∷ []))

skipped : tiled_of 0 1 (lent (0 ∷ []) (floats_of (8 ∷ 8 ∷ 8 ∷ 24 ∷ [])) (stamped 0 0 2 2 0 7) (zeros 4) (0 ∷ 0 ∷ [])) (pieces no_floats (9 ∷ []))
    ≡ tiled Answer.Done (pieces no_floats (9 ∷ []))
unfolding computing
skipped = refl

pub skipped_keeps_its_tag : TaggedWhereSkipped → ⊥
skipped_keeps_its_tag f =
    let z : ◌≡◌ {A = ℕ} 7 9 = ap (λ (t : Tiled). get_or t.pieces.tags 0 0) (f (zeros 4) 9 ∙ skipped) in omega arith

-- ---- a frame that hand-out refuses has more references than segments, and not fewer

abbrev RoomTheOtherWay : Type 0
RoomTheOtherWay =
    (nos : List ℕ) (coords : List Float) (paths : List ℕ) (backs : List ℤ) (stored tally refs : List ℕ) (p : Pieces) (s : Running) (bs : List ℤ) (ts ks rs : List ℕ) (sg : Pieces)
    → frame_of nos coords paths backs stored tally refs p ≡ out_of (Refused Stage.HandOut no_room_word 0 s) bs ts ks rs sg → s.refs < slots_of (length p.segments)

pub room_this_way : RoomTheOtherWay → ⊥
room_this_way f = let h : 2 < 1 = f _ _ _ _ _ _ _ _ _ _ _ _ _ _ no_slot in omega arith

-- ---- step numbers: a checked line has fewer than 2 ^ 15 steps, and not fewer than 2 ^ 13

abbrev FewerSteps : Type 0
FewerSteps = (p0 p1 : Vec2) → Reached p0 p1 → (line_of p0 p1).k.count < 2 ^ 13

-- from one corner of what coordinates reach to the other
abbrev low : Vec2
low = record { x = neg coord_most; y = neg coord_most }

abbrev high : Vec2
high = record { x = coord_most; y = coord_most }

all_reached : Reached low high
unfolding computing
all_reached = refl

many_steps : leb (2 ^ 13) (line_of low high).k.count ≡ true
unfolding computing
many_steps = refl

pub steps_are_many : FewerSteps → ⊥
steps_are_many f =
    let h : (line_of low high).k.count < 2 ^ 13 = f low high all_reached in
    let g : 2 ^ 13 ≤ (line_of low high).k.count = leb-true _ _ many_steps in
    omega arith
