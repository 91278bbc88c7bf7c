-- The tiles of the box that the working room tells of, and its first. Assumes nothing.
use mathlib.Core.Path.{◌≡◌, refl}
use mathlib.Core.Bool.{Bool, true, false, cond}
use mathlib.Core.List.{List}
use Prim.Native.Nat.{ℕ, ◌+◌, ◌-◌, ◌*◌, ◌≤◌, ◌^◌, min}
use native.Mathlib.Omega.{arith}
use lib.Dec.{eqb}
use lib.ListN.{get_or}
use Rattle.panel.specs.Limits.{edge_most}
use Rattle.panel.specs.Paths.{path_of}
use Rattle.panel.proofs.LimitLaws.{box_small}
use Rattle.path_reach.specs.Room.{box_words}
use Rattle.box_records.specs.Records.{area_of_word}
use Rattle.box_records.specs.Told.{box_in}

module _ (ws : List ℕ) (m k first : ℕ) where
  pub area_same : area_of_word (box_in ws m k first) ≡ area_of_word (box_in ws m k 0)
  unfolding box_in
  area_same = go (eqb (get_or ws (k * box_words + 2) 0) 0)
    where
      go : (t : Bool) → area_of_word (cond t (path_of 0 0 0 0 first) (path_of (edge_most - get_or ws (k * box_words) 0 - m) (edge_most - get_or ws (k * box_words + 1) 0 - m)
          (min (get_or ws (k * box_words + 2) 0 + m) edge_most) (min (get_or ws (k * box_words + 3) 0 + m) edge_most) first))
          ≡ area_of_word (cond t (path_of 0 0 0 0 0) (path_of (edge_most - get_or ws (k * box_words) 0 - m) (edge_most - get_or ws (k * box_words + 1) 0 - m)
          (min (get_or ws (k * box_words + 2) 0 + m) edge_most) (min (get_or ws (k * box_words + 3) 0 + m) edge_most) 0))
      go true = refl
      go false = refl

  pub area_most : area_of_word (box_in ws m k first) ≤ 2 ^ 24
  unfolding box_in
  area_most = go (eqb (get_or ws (k * box_words + 2) 0) 0)
    where
      go : (t : Bool) → area_of_word (cond t (path_of 0 0 0 0 first) (path_of (edge_most - get_or ws (k * box_words) 0 - m) (edge_most - get_or ws (k * box_words + 1) 0 - m)
          (min (get_or ws (k * box_words + 2) 0 + m) edge_most) (min (get_or ws (k * box_words + 3) 0 + m) edge_most) first)) ≤ 2 ^ 24
      go true = omega arith
      go false =
          box_small (min (get_or ws (k * box_words + 2) 0 + m) edge_most - (edge_most - get_or ws (k * box_words) 0 - m))
          (min (get_or ws (k * box_words + 3) 0 + m) edge_most - (edge_most - get_or ws (k * box_words + 1) 0 - m)) (omega arith) (omega arith)

  pub first_is : (box_in ws m k first).first ≡ first
  unfolding box_in
  first_is = go (eqb (get_or ws (k * box_words + 2) 0) 0)
    where
      go : (t : Bool) → (cond t (path_of 0 0 0 0 first) (path_of (edge_most - get_or ws (k * box_words) 0 - m) (edge_most - get_or ws (k * box_words + 1) 0 - m)
          (min (get_or ws (k * box_words + 2) 0 + m) edge_most) (min (get_or ws (k * box_words + 3) 0 + m) edge_most) first)).first ≡ first
      go true = refl
      go false = refl
