-- A line in a box with a margin is never refused with 10, when counting. Assumes nothing.
--     walked_few      its last step number is its count at most
--     margin_line     one line, whatever was counted before it
--     margin_batch    so no batch of such lines stops with 10
use mathlib.Core.Path.{◌≡◌, refl, sym, subst}
use mathlib.Core.Bool.{Bool, true, false, cond, ◌||◌}
use mathlib.Core.List.{List}
use Prim.Native.Nat.{ℕ, ◌≤◌, ◌<◌}
use native.Mathlib.Omega.{arith}
use lib.Dec.{ltb}
use lib.ListN.{get_or}
use lib.IntN.{ℤ}
use lib.Ieee.{Float}
use Rattle.lists.specs.Run.{halted}
use Rattle.util.specs.declared.Vec2.{Vec2}
use Rattle.panel.specs.Refusals.{coordinate, no_such, outside}
use Rattle.panel.specs.Paths.{path_at, path_count}
use Rattle.panel.specs.declared.kinds.Path.{Path}
use Rattle.panel.specs.declared.kinds.TileNo.{TileNo}
use Rattle.walk.specs.Setup.{ends_of}
use Rattle.walk.specs.Page.{line_of}
use Rattle.walk.specs.Skip.{flat_of, past_of}
use Rattle.walk.specs.Lent.{line_at, reached_of, walked_of, walk_at}
use Rattle.walk.specs.Step.{Boxed, step_of}
use Rattle.walk.specs.declared.kinds.Walk.{Walk}
use Rattle.walk.specs.Walked.{Walked, Refused, Skipped, Line}
use Rattle.walk.specs.Stepped as On
use Rattle.walk.proofs.Walks.{line_told}
use Rattle.clip.specs.Page.{clipped_of}
use Rattle.acts.specs.Acts.{St, Act, mark, visit, stop, delta_of}
use Rattle.acts.specs.Line.{Refusal}
use Rattle.walked_lines.specs.Line.{plan_of, line_step}
use Rattle.margin.specs.Room.{HasTile}
use Rattle.margin.proofs.Margin.{margin_tile}
use Rattle.margin.proofs.Clips.{clip_few}
use Rattle.theorems.specs.Margins.{MarginLine}
use Rattle.theorems.specs.Refusing.{ActWhy, LineWhy, BatchWhy, five, six, seven, eight, nine, ten, stops}
use Rattle.theorems.proofs.Grounds.{step_exact}
use Rattle.theorems.proofs.Exact.{line_exact}

-- ---- a line that is walked isn't flat
module _ (nos : List ℕ) (coords : List Float) (paths : List ℕ) (l : ℕ) where
  abbrev p0 : Vec2
  p0 = (line_at coords l).p0

  abbrev p1 : Vec2
  p1 = (line_at coords l).p1

  abbrev n : ℕ
  n = get_or nos l 0

  not_flat : (w : Walk) (b : Path) → walk_at nos coords paths l ≡ Line w b → flat_of (ends_of p0 p1).s0 (ends_of p0 p1).s1 ≡ false
  unfolding walk_at walked_of
  not_flat w b e =
      go (flat_of (ends_of p0 p1).s0 (ends_of p0 p1).s1) (reached_of p0 p1) (ltb n (path_count paths)) (past_of (ends_of p0 p1).s0 (ends_of p0 p1).s1 (path_at paths n)) e
    where
      none : (v : Walked) → v ≡ Line w b → v ≡ Skipped → ⊥
      none v p q = let z : ◌≡◌ {A = ℕ} 0 1 = cc in omega arith

      no : (v : Walked) (m : ℕ) → v ≡ Line w b → v ≡ Refused m → ⊥
      no v m p q = let z : ◌≡◌ {A = ℕ} 0 1 = cc in omega arith

      go : (f r i p : Bool) → cond r (cond i (cond (f || p) Skipped (Line (line_of p0 p1) (path_at paths n))) (Refused no_such)) (Refused coordinate) ≡ Line w b → f ≡ false
      go false r i p e = refl
      go true true true p e = absurd (none Skipped e refl)
      go true true false p e = absurd (no (Refused no_such) no_such e refl)
      go true false i p e = absurd (no (Refused coordinate) coordinate e refl)

-- ---- so every step of it has its tile
module _ (nos : List ℕ) (coords : List Float) (paths : List ℕ) (l : ℕ) (k : Boxed (path_at paths (get_or nos l 0))) (m : MarginLine nos coords paths l) where
  abbrev own : Walk
  own = line_of (line_at coords l).p0 (line_at coords l).p1

  abbrev box : Path
  box = path_at paths (get_or nos l 0)

  plan_is : (w : Walk) (b : Path) → (plan_of w b).imax ≡ (clipped_of w b).imax
  unfolding plan_of
  plan_is w b = refl

  tile_clash : (w : Walk) (b : Path) (i : ℕ) → step_of w.pace b i ≡ On.Refused → (t : TileNo) (x y : ℕ) (z : Float) → step_of w.pace b i ≡ On.Tile t x y z → ⊥
  tile_clash w b i p t x y z q = let c : ◌≡◌ {A = ℕ} 0 1 = cc in omega arith

  -- it isn't clipped: its last step number is its count at most
  pub walked_few : (w : Walk) (b : Path) → walk_at nos coords paths l ≡ Line w b → (plan_of w b).imax ≤ w.k.count
  walked_few w b e =
      let t = line_told nos coords paths l w b e in
      let ew : own ≡ w = sym t.walk_is in
      let eb : box ≡ b = sym t.path_is in
      let c : (clipped_of w b).imax ≤ w.k.count =
      subst (λ (v : Walk). (clipped_of v b).imax ≤ v.k.count) ew
      (subst (λ (x : Path). (clipped_of own x).imax ≤ own.k.count) eb (clip_few (line_at coords l).p0 (line_at coords l).p1 box k t.reached m.0 m.1)) in
      omega (arith, plan_is w b)

  walked_tile : (w : Walk) (b : Path) → walk_at nos coords paths l ≡ Line w b → (i : ℕ) → i < (plan_of w b).imax → step_of w.pace b i ≡ On.Refused → ⊥
  walked_tile w b e i h r =
      let t = line_told nos coords paths l w b e in
      let f = not_flat nos coords paths l w b e in
      let ew : own ≡ w = sym t.walk_is in
      let eb : box ≡ b = sym t.path_is in
      let g : i < w.k.count → HasTile w.pace b i =
      subst (λ (v : Walk). i < v.k.count → HasTile v.pace b i) ew
      (subst (λ (x : Path). i < own.k.count → HasTile own.pace x i) eb (margin_tile (line_at coords l).p0 (line_at coords l).p1 box k t.reached m.0 m.1 f i)) in
      let q = g (omega (arith, walked_few w b e)) in
      tile_clash w b i r q.t q.x q.y q.z q.is

  -- line l, counted after whatever was counted before, isn't refused with 10
  pub margin_line : (room : ℕ) (s : St) → line_step nos coords paths room l l s ≡ halted outside → ⊥
  margin_line room s e = go ((line_exact nos coords paths room l s outside).0 e)
    where
      act : (δ : ℤ) (u : St) (a : Act) → ActWhy δ u a outside → ⊥
      act δ u (mark t) q = let f = q.0 in omega arith
      act δ u (visit t i) q = let f = q.0 in omega arith
      act δ u (stop j) q = q

      go : LineWhy nos coords paths room l s outside → ⊥
      go (five q h) = omega arith
      go (six q h r) = omega arith
      go (seven q h r p) = omega arith
      go (eight q w b h i j) = omega arith
      go (nine q w b h i j) = omega arith
      go (ten q w b h f g u i low high ran o) = walked_tile w b h.1 i high ((step_exact w.pace b i).1 o)
      go (stops w b h f g u a st q) = act (delta_of (plan_of w b).up) u a q

-- ---- where a batch of lines stops, it isn't for 10
pub margin_batch : (nos : List ℕ) (coords : List Float) (paths : List ℕ) (room a b : ℕ) (s u : St) (why : Refusal)
    → ((l : ℕ) → a ≤ l → l < b → Boxed (path_at paths (get_or nos l 0)) × MarginLine nos coords paths l) → BatchWhy nos coords paths room a b s u why → why.no ≡ outside → ⊥
margin_batch nos coords paths room a b s u why f w e =
    let m = f why.line w.from_a w.below_b in
    margin_line nos coords paths why.line m.0 m.1 room u (subst (λ (n : ℕ). line_step nos coords paths room why.line why.line u ≡ halted n) e w.halts)
