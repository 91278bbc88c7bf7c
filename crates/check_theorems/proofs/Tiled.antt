-- The call that tiles another's tables after a yes: no stray piece, or nothing is written. Assumes nothing.
use mathlib.Core.Path.{◌≡◌, refl}
use mathlib.Core.Logic.{◌⊎◌, inl, inr}
use mathlib.Core.Bool.{Bool, true, false, cond}
use mathlib.Core.List.{List, []}
use Prim.Native.Nat.{ℕ, ◌-◌}
use native.Mathlib.Omega.{arith}
use lib.ListN.{length}
use lib.IntN.{ℤ}
use lib.Ieee.{Float}
use Rattle.panel.specs.Pieces.{Pieces}
use Rattle.panel.specs.Refusals.{not_whole}
use Rattle.panel.specs.Paths.{paths_answer}
use Rattle.panel.specs.Answer.{Done, Refused}
use Rattle.looks.specs.Look.{Lent, lent}
use Rattle.path_tiling.specs.Tiling.{range, range_of, slots_of, checks_of, checked_then, call_of}
use Rattle.path_tiling.proofs.CallLaws as CallLaws
use Rattle.tile_check.specs.Faults.{ref_count}
use Rattle.tile_check.specs.Tables.{CheckMet}
use Rattle.tile_check.specs.Checked.{Yes}
use Rattle.check_theorems.specs.Good.{AsGood}
use Rattle.check_theorems.specs.Stray.{NoStray}
use Rattle.check_theorems.proofs.Sound.{sound}
use Rattle.check_theorems.proofs.Stray.{no_stray}

-- After a yes, one call tiles all references over the tables that were checked. What is lent isn't whole, and nothing is written; or no piece is stray
pub tiled_after : (nos : List ℕ) (coords : List Float) (paths refs counts : List ℕ) (backs : List ℤ) (stored : List ℕ) (room : ℕ) (work work' : List ℕ)
    → CheckMet nos coords paths refs counts backs stored room work Yes work' → (p : Pieces)
    → (call_of 0 (ref_count refs) (lent nos coords paths stored refs) p ≡ range [] (Refused not_whole 0))
    ⊎ NoStray nos coords paths refs counts stored room (slots_of (length p.segments)) (call_of 0 (ref_count refs) (lent nos coords paths stored refs) p)
unfolding call_of checks_of
tiled_after nos coords paths refs counts backs stored room work work' met p = go (CallLaws.Whole 0 (ref_count refs) L p)
  where
    g : AsGood nos coords paths refs counts backs stored room
    g = sound nos coords paths refs counts backs stored room work work' met

    L : Lent
    L = lent nos coords paths stored refs

    same : paths_answer paths (length stored) ≡ Done
    same = rw g.paired g.paths_good

    slots : ℕ
    slots = slots_of (length p.segments)

    go : (w : Bool) → (checked_then (cond w (paths_answer paths (length stored)) (Refused not_whole 0)) (range_of L slots (ref_count refs - 0) 0) ≡ range [] (Refused not_whole 0))
        ⊎ NoStray nos coords paths refs counts stored room slots
        (checked_then (cond w (paths_answer paths (length stored)) (Refused not_whole 0)) (range_of L slots (ref_count refs - 0) 0))
    go true =
        let z : ref_count refs - 0 ≡ ref_count refs = omega arith in
        inr (rw (same, z) (no_stray nos coords paths refs counts backs stored room g slots))
    go false = inl refl
