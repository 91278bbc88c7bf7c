-- What the working room holds after all lines, by the ends of a path's lines; and the box that it tells of. Assumes nothing.
use mathlib.Core.Path.{◌≡◌, sym, ap, ◌∙◌}
use mathlib.Core.Bool.{false, cond}
use mathlib.Core.List.{List, [], ◌∷◌, map}
use Prim.Native.Nat.{ℕ, zero, suc, ◌+◌, ◌-◌, ◌*◌, ◌≤◌, min, max}
use native.Mathlib.Nat.{zero-max}
use native.Mathlib.Decide.{ℕ_discrete}
use native.Mathlib.Omega.{arith}
use lib.Dec.{eqb}
use lib.ListN.{length, get_or}
use lib.Ieee.{Float}
use borrow.Author.Tests.{eq-eqb, ne_eqb}
use Rattle.util.specs.declared.Vec2.{Vec2}
use Rattle.panel.specs.Limits.{edge_most}
use Rattle.panel.specs.Lines.{line_at}
use Rattle.end_tiles.specs.Lines.{tile_at}
use Rattle.path_reach.specs.Room.{box_words}
use Rattle.path_reach.specs.Words.{line_reach, gather_from}
use Rattle.path_reach.proofs.WordLaws.{Told, left_by, top_by, right_by, bottom_by, length_line, line_own, line_other}
use Rattle.box_records.specs.Told.{box_in}
use Rattle.boxes.specs.Boxes.{ends_from, columns, rows, least, past, box_around}

-- ---- all lines

-- the largest of a and of what f makes of points
unfoldable pub far : (Vec2 → ℕ) → ℕ → List Vec2 → ℕ
far f a [] = a
far f a (p ∷ ps) = far f (max a (f p)) ps

-- path k's words after points ps
abbrev pub ToldOf : List ℕ → ℕ → (a b c d : ℕ) → List Vec2 → Type 0
ToldOf ws k a b c d ps = Told ws k (far left_by a ps) (far top_by b ps) (far right_by c ps) (far bottom_by d ps)

module _ (nos : List ℕ) (coords : List Float) where
  -- and after all lines
  pub gather_told : (k : ℕ) (more l : ℕ) (ws : List ℕ) (a b c d : ℕ) → k * box_words + box_words ≤ length ws → Told ws k a b c d
      → ToldOf (gather_from nos coords more l ws) k a b c d (ends_from nos coords k more l)
  unfolding gather_from ends_from far
  gather_told k zero l ws a b c d h t = t
  gather_told k (suc more) l ws a b c d h t = go (ℕ_discrete (get_or nos l 0) k) (gather_told k more (suc l))
    where
      go : Dec (get_or nos l 0 ≡ k)
          → ((us : List ℕ) (a b c d : ℕ) → k * box_words + box_words ≤ length us → Told us k a b c d
          → ToldOf (gather_from nos coords more (suc l) us) k a b c d (ends_from nos coords k more (suc l)))
          → ToldOf (gather_from nos coords more (suc l) (line_reach nos coords l ws)) k a b c d
          (cond (eqb (get_or nos l 0) k) ((line_at coords l).p0 ∷ (line_at coords l).p1 ∷ ends_from nos coords k more (suc l)) (ends_from nos coords k more (suc l)))
      go (yes e) ih =
          let p = (line_at coords l).p0 in
          let q = (line_at coords l).p1 in
          let long : k * box_words + box_words ≤ length (line_reach nos coords l ws) = omega (arith, length_line nos coords l ws) in
          rw (eq-eqb (get_or nos l 0) k e) (ih (line_reach nos coords l ws) (max (max a (left_by p)) (left_by q)) (max (max b (top_by p)) (top_by q))
          (max (max c (right_by p)) (right_by q)) (max (max d (bottom_by p)) (bottom_by q)) long (line_own nos coords k l ws a b c d e h t))
      go (no e) ih =
          let long : k * box_words + box_words ≤ length (line_reach nos coords l ws) = omega (arith, length_line nos coords l ws) in
          rw (ne_eqb (get_or nos l 0) k e) (ih (line_reach nos coords l ws) a b c d long (line_other nos coords k l ws a b c d (λ r. e (sym r)) t))

-- ---- the box

pub least_most : (ts : List ℕ) → least ts ≤ edge_most
least_most [] = omega arith
least_most (t ∷ ts) = omega (arith, least_most ts)

far_past : (f : Vec2 → ℕ) (a : ℕ) (ps : List Vec2) → far (λ p. f p + 1) a ps ≡ max a (past (map f ps))
unfolding far
far_past f a [] = omega arith
far_past f a (p ∷ ps) = far_past f (max a (f p + 1)) ps ∙ omega arith

less_by : (e a t : ℕ) → e - max a (e - t) ≡ min (e - a) (min t e)
less_by e a t = omega arith

least_by : (e x t s : ℕ) → s ≤ e → min (min x (min t e)) s ≡ min x (min t s)
least_by e x t s h = omega arith

far_least : (f : Vec2 → ℕ) (a : ℕ) (ps : List Vec2) → edge_most - far (λ p. edge_most - f p) a ps ≡ min (edge_most - a) (least (map f ps))
unfolding far
far_least f a [] = omega arith
far_least f a (p ∷ ps) =
    far_least f (max a (edge_most - f p)) ps
    ∙ ap (λ (x : ℕ). min x (least (map f ps))) (less_by edge_most a (f p))
    ∙ least_by edge_most (edge_most - a) (f p) (least (map f ps)) (least_most (map f ps))

from_zero : (e s : ℕ) → s ≤ e → min (e - 0) s ≡ s
from_zero e s h = omega arith

past_some : (t : ℕ) (ts : List ℕ) (w : ℕ) → w ≡ past (t ∷ ts) → w ≡ 0 → ⊥
past_some t ts w e z = omega arith

pub box_told : (ws : List ℕ) (m k first : ℕ) (ps : List Vec2) → ToldOf ws k 0 0 0 0 ps → box_in ws m k first ≡ box_around m ps first
unfolding box_in
box_told ws m k first [] t = unfold far in rw t.right
box_told ws m k first (p ∷ ps) t =
    let x0 : edge_most - get_or ws (k * box_words) 0 ≡ least (columns (p ∷ ps)) =
    ap (λ (w : ℕ). edge_most - w) t.left ∙ far_least (λ q. tile_at q.x) 0 (p ∷ ps) ∙ from_zero edge_most _ (least_most (columns (p ∷ ps))) in
    let y0 : edge_most - get_or ws (k * box_words + 1) 0 ≡ least (rows (p ∷ ps)) =
    ap (λ (w : ℕ). edge_most - w) t.top ∙ far_least (λ q. tile_at q.y) 0 (p ∷ ps) ∙ from_zero edge_most _ (least_most (rows (p ∷ ps))) in
    let x1 : get_or ws (k * box_words + 2) 0 ≡ past (columns (p ∷ ps)) = t.right ∙ far_past (λ q. tile_at q.x) 0 (p ∷ ps) ∙ zero-max _ in
    let y1 : get_or ws (k * box_words + 3) 0 ≡ past (rows (p ∷ ps)) = t.bottom ∙ far_past (λ q. tile_at q.y) 0 (p ∷ ps) ∙ zero-max _ in
    let some : eqb (get_or ws (k * box_words + 2) 0) 0 ≡ false = ne_eqb _ _ (past_some (tile_at p.x) (columns ps) _ x1) in
    rw (some, x0, y0, x1, y1)
