-- Boxes made from lines: one answer only of what a caller in C or Rust sees; and no cheat meets the call's promise. Assumes nothing.
use mathlib.Core.Path.{◌≡◌, refl, sym, ap, ◌∙◌}
use mathlib.Core.List.{List, [], ◌∷◌}
use Prim.Native.Nat.{ℕ}
use native.Mathlib.Omega.{arith}
use lib.ListN.{get_or, replicate}
use lib.Ieee.{Float}
use Rattle.ranges.specs.Ranges.{cleared_of}
use Rattle.panel.specs.Paths.{stamped}
use Rattle.panel.specs.Refusals.{not_whole}
use Rattle.end_tiles.specs.Lines.{in_tiles, line_answer, lines_from}
use Rattle.path_reach.specs.Room.{box_words}
use Rattle.boxes.specs.Boxes.{ends_from, asked_of, boxes_of, BoxesMet}
use Rattle.boxes.specs.Boxed.{Boxed, Done, Refused}
use Rattle.box_theorems.proofs.Ways.{one_boxes}
use Rattle.groatpocket.specs.CallBoxes.{BoxesSeen, GpBoxesMet}
use Rattle.theorems.specs.Starred.{floats_of}
use Rattle.theorems.proofs.StarredTable.{computing}
use Rattle.call_theorems.specs.Cheats.{Once, Shut, RefusesBoxes}
use Rattle.call_theorems.proofs.Cheats.{shut}

pub one_gp_boxes : (nos : List ℕ) (coords : List Float) (beams : List ℕ) (m : ℕ) (paths work : List ℕ) (r s t₁ t₂ i j : ℕ) (ps₁ ps₂ ws₁ ws₂ : List ℕ)
    → GpBoxesMet nos coords beams m paths work r t₁ i ps₁ ws₁ → GpBoxesMet nos coords beams m paths work s t₂ j ps₂ ws₂
    → (r ≡ s) × (t₁ ≡ t₂) × (i ≡ j) × (ps₁ ≡ ps₂) × (ws₁ ≡ ws₂)
one_gp_boxes nos coords beams m paths work r s t₁ t₂ i j ps₁ ps₂ ws₁ ws₂ p q =
    let e = p ∙ sym q in (
      ap (λ (x : BoxesSeen). x.number) e,
      ap (λ (x : BoxesSeen). x.tiles) e,
      ap (λ (x : BoxesSeen). x.item) e,
      ap (λ (x : BoxesSeen). x.paths) e,
      ap (λ (x : BoxesSeen). x.work) e,
    )

-- (40,40)-(40,56) with a margin of a tile, into a record that held 9; and coordinates that are no whole line
abbrev BoxesMemory : Type 0
BoxesMemory = List ℕ × List ℕ

abbrev before : BoxesMemory
before = (replicate 6 9, replicate box_words 7)

abbrev BoxesAt : (coords : List Float) → Boxed → BoxesMemory → Type 0
BoxesAt coords a m = BoxesMet (0 ∷ []) coords (5 ∷ []) 1 before.0 before.1 a m.0 m.1

abbrev upright : List Float
upright = floats_of (40 ∷ 40 ∷ 40 ∷ 56 ∷ [])

abbrev short : List Float
short = floats_of (40 ∷ 40 ∷ 40 ∷ [])

once_at : (coords : List Float) → Once Boxed BoxesMemory (BoxesAt coords)
once_at coords a b m n p q =
    let e = one_boxes (0 ∷ []) coords (5 ∷ []) 1 before.0 before.1 a b m.0 n.0 m.1 n.1 p q in
    (e.0, λ i. (e.1 i, e.2 i))

pub boxes_shut : Shut Boxed BoxesMemory RefusesBoxes (BoxesAt upright) (BoxesAt short) before
unfolding computing cleared_of in_tiles line_answer lines_from ends_from asked_of boxes_of
boxes_shut =
    shut Boxed BoxesMemory RefusesBoxes (BoxesAt upright) (BoxesAt short) before
    (Done 12) (Refused not_whole 0) (stamped 1 1 4 5 0 5, replicate box_words 0) before (once_at upright) (once_at short)
    refl refl (λ h. h) tt (λ e. let z : ◌≡◌ {A = ℕ} 1 9 = ap (λ (m : BoxesMemory). get_or m.0 0 0) e in omega arith)
