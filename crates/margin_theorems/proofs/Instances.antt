-- The premise of a whole call can be met: the panel of the examples, drawn a tile further in and with boxes that have a margin, without the faulty channel.
-- By computation. Assumes nothing.
--     panel_counted   all its lines are counted
--     panel_drawn     as a frame it is drawn, or refused with 12
use mathlib.Core.Path.{◌≡◌, refl}
use mathlib.Core.Logic.{◌⊎◌}
use mathlib.Core.Bool.{true}
use mathlib.Core.List.{List, [], ◌∷◌, ◌++◌}
use Prim.Native.Nat.{ℕ, ◌*◌}
use lib.Dec.{leb}
use lib.IntN.{ℤ, pos}
use lib.ListN.{replicate}
use lib.Ieee.{Float, binary32, of_bits}
use Rattle.panel.specs.Pieces.{Pieces, pieces}
use Rattle.panel.specs.Widths.{segment_floats}
use borrow.Author.Tests.{leb-true}
use Rattle.panel.specs.Refusals.{crooked}
use Rattle.panel.specs.Paths.{boxed}
use Rattle.panel.specs.declared.kinds.Running.{Running}
use Rattle.panel.specs.Answer.{Done}
use Rattle.path_count.specs.Count.{call_answer}
use Rattle.path_tiling.specs.Tiling.{slots_of}
use Rattle.frame.specs.Frame.{checks_of}
use Rattle.frame.specs.declared.kinds.Stage.TheVariants as Stage
use Rattle.frame.specs.Framed.{Framed}
use Rattle.theorems.specs.Promises.{FrameMet}
use Rattle.theorems.specs.Refs.{AllCounted}
use Rattle.theorems.specs.Starred.{floats_of}
use Rattle.theorems.proofs.StarredTable.{computing}
use Rattle.theorems.proofs.SumLaws.{start_of}
use Rattle.margin_theorems.specs.Fit.{steps_of, room_of}
use Rattle.margin_theorems.proofs.Tests.{all_fit, fit_all}
use Rattle.margin_theorems.proofs.Counts.{count_all}
use Rattle.margin_theorems.proofs.Frames.{frame_drawn}

-- a triangle and a bar
abbrev nos : List ℕ
nos = 0 ∷ 0 ∷ 0 ∷ 1 ∷ 1 ∷ 1 ∷ 1 ∷ []

abbrev triangle : List ℕ
triangle = 20 ∷ 44 ∷ 32 ∷ 20 ∷ 32 ∷ 20 ∷ 44 ∷ 44 ∷ 44 ∷ 44 ∷ 20 ∷ 44 ∷ []

abbrev bar : List ℕ
bar = 36 ∷ 28 ∷ 60 ∷ 28 ∷ 60 ∷ 28 ∷ 60 ∷ 36 ∷ 60 ∷ 36 ∷ 36 ∷ 36 ∷ 36 ∷ 36 ∷ 36 ∷ 28 ∷ []

abbrev coords : List Float
coords = floats_of (triangle ++ bar)

-- three columns and two rows, and a tile more on every side
abbrev paths : List ℕ
paths = boxed 0 0 5 4 0 ++ boxed 0 0 5 4 20 ++ boxed 0 0 5 4 40

abbrev refs : List ℕ
refs = replicate 128 0

fits : all_fit nos coords paths 7 ≡ true
unfolding computing
fits = refl

passes : call_answer nos coords paths 0 7 (start_of 60 refs) ≡ Done
unfolding computing
passes = refl

few : leb (steps_of nos coords paths 7) (room_of refs) ≡ true
unfolding computing
few = refl

pub panel_counted : (bs : List ℤ) × (cs : List ℕ) × (rs : List ℕ) × (m : ℕ) × AllCounted 7 nos coords paths 60 refs bs cs rs m
panel_counted = count_all 7 nos coords paths 60 refs passes (fit_all nos coords paths 7 fits) (leb-true (steps_of nos coords paths 7) (room_of refs) few)

-- ---- as a frame, with room for as many segments

abbrev backs : List ℤ
backs = replicate 60 (pos 0)

abbrev words : List ℕ
words = replicate 60 0

abbrev slots : ℕ
slots = 64

abbrev empty : Pieces
empty = pieces (replicate (slots * segment_floats) (of_bits binary32 0)) (replicate slots 0)

passes_frame : checks_of nos coords paths backs words words refs empty ≡ Done
unfolding computing checks_of
passes_frame = refl

few_segments : leb (steps_of nos coords paths 7) (slots_of (slots * segment_floats)) ≡ true
unfolding computing
few_segments = refl

pub panel_drawn : (r : Framed) (bs : List ℤ) (ts ks rs : List ℕ) (sg : Pieces) → FrameMet nos coords paths backs words words refs empty r bs ts ks rs sg
    → (s : Running) × (s.lines ≡ 7) × ((r ≡ Framed.Done s) ⊎ ((k : ℕ) × (r ≡ Framed.Refused Stage.Tile crooked k s)))
panel_drawn r bs ts ks rs sg met =
    frame_drawn nos coords paths backs words words refs empty passes_frame (fit_all nos coords paths 7 fits) r bs ts ks rs sg met
    (leb-true (steps_of nos coords paths 7) (room_of refs) few) (leb-true (steps_of nos coords paths 7) (slots_of (slots * segment_floats)) few_segments)
