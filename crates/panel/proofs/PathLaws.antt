-- Paths that pass the checks: their boxes and their tiles' ranges. A tile number belongs to at most one path, and a tile of a path's box lies
-- in its own path's range. Assumes nothing.
use mathlib.Core.Path.{◌≡◌, refl, sym, ap, ◌∙◌}
use mathlib.Core.Bool.{Bool, true, ◌&&◌}
use mathlib.Core.List.{List}
use Prim.Native.Nat.{ℕ, zero, suc, ◌+◌, ◌-◌, ◌*◌, ◌/◌, ◌%◌, ◌≤◌, ◌<◌, ◌^◌}
use native.Mathlib.Nat.{mul-le-mul_right, mul-le-mul, mul_comm, add-mul}
use native.Mathlib.Decide.{ℕ_discrete, dec_lt}
use native.Mathlib.Numerals.{add-one}
use native.Mathlib.Omega.{arith}
use lib.Dec.{leb}
use lib.ListN.{length}
use borrow.Author.Tests.{leb-true, eqb-true}
use Rattle.panel.specs.Limits.{most_paths, most_tiles, edge_most}
use Rattle.panel.specs.Widths.{path_words}
use Rattle.panel.specs.Checks.{first_no, unless}
use Rattle.panel.specs.Paths.{path_at, path_count, width_of, height_of, end_of, tile_of, box_fits, path_checks, paths_from, lent_checks, paths_answer}
use Rattle.panel.specs.declared.kinds.Path.{Path}
use Rattle.panel.specs.Verdict.{Fine, Against}
use Rattle.panel.specs.Answer.{Done, Refused}
use Rattle.panel.proofs.BoolLaws.{both}
use Rattle.panel.proofs.CheckLaws.{all_ok, unless_no, unless_fine, unless_done}

-- ---- rows of a grid that is w wide

-- row a, column b of h rows
pub cell_in : (w h a b : ℕ) → a < h → b < w → a * w + b < w * h
cell_in w h a b p q = omega (arith, mul-le-mul_right {m = suc a} {n = h} w p, add-mul 1 a w, mul_comm w h)

pub cell_once : (w a b c d : ℕ) → b < w → d < w → a * w + b ≡ c * w + d → (a ≡ c) × (b ≡ d)
cell_once w a b c d p q e = go (ℕ_discrete a c) (dec_lt a c)
  where
    go : Dec (a ≡ c) → Dec (a < c) → (a ≡ c) × (b ≡ d)
    go (yes s) l = (s, omega (arith, ap (λ (n : ℕ). n * w) s))
    go (no s) (yes l) = absurd (omega (arith, mul-le-mul_right {m = suc a} {n = c} w l, add-mul 1 a w))
    go (no s) (no l) = absurd (omega (arith, mul-le-mul_right {m = suc c} {n = a} w (omega arith), add-mul 1 c w))

-- a product of two 32-bit numbers leaves room for one more in 64 bits
pub wide : (a b : ℕ) → a < 2 ^ 32 → b < 2 ^ 32 → a * b + 2 ^ 32 ≤ 2 ^ 64
wide a b p q = omega (arith, mul-le-mul {n₁ = a} {m₁ = b} {n₂ = 2 ^ 32 - 1} {m₂ = 2 ^ 32 - 1} (omega arith) (omega arith))

-- ---- one path

pub record Fits (p : Path) (tiles : ℕ) : Type 0 where
  pub across : p.x0 ≤ p.x1
  pub right : p.x1 ≤ edge_most
  pub down : p.y0 ≤ p.y1
  pub bottom : p.y1 ≤ edge_most
  pub within : end_of p ≤ tiles

-- column x and row y lie in the box
pub record InBox (p : Path) (x y : ℕ) : Type 0 where
  pub left : p.x0 ≤ x
  pub right : x < p.x1
  pub top : p.y0 ≤ y
  pub bottom : y < p.y1

-- tile t lies in the path's range
abbrev pub Holds : Path → ℕ → Type 0
Holds p t = (p.first ≤ t) × (t < end_of p)

pub own_tile : (p : Path) (x y : ℕ) → InBox p x y → Holds p (tile_of p x y)
own_tile p x y b =
    let c = cell_in (width_of p) (height_of p) (y - p.y0) (x - p.x0) (omega arith) (omega arith) in
    (omega arith, omega (arith, c))

pub tile_once : (p : Path) (x y u v : ℕ) → InBox p x y → InBox p u v → tile_of p x y ≡ tile_of p u v → (x ≡ u) × (y ≡ v)
tile_once p x y u v b d e =
    let c = cell_once (width_of p) (y - p.y0) (x - p.x0) (v - p.y0) (u - p.x0) (omega arith) (omega arith) (omega arith) in
    (omega (arith, c.1), omega (arith, c.0))

all_six : (a b c d e f : Bool) → a && b && c && d && e && f ≡ true → (c ≡ true) × (d ≡ true) × (e ≡ true) × (f ≡ true)
all_six a b c d e f h =
    let i = both (a && b && c && d && e) f h in
    let j = both (a && b && c && d) e i.0 in
    let k = both (a && b && c) d j.0 in
    ((both (a && b) c k.0).1, k.1, j.1, i.1)

pub box_fits_lem : (p : Path) → box_fits p ≡ true → (p.x0 ≤ p.x1) × (p.x1 ≤ edge_most) × (p.y0 ≤ p.y1) × (p.y1 ≤ edge_most)
box_fits_lem p e =
    let t = all_six (leb p.x0 edge_most) (leb p.y0 edge_most) (leb p.x1 edge_most) (leb p.y1 edge_most) (leb p.x0 p.x1) (leb p.y0 p.y1) e in
    (leb-true p.x0 p.x1 t.2, leb-true p.x1 edge_most t.0, leb-true p.y0 p.y1 t.3, leb-true p.y1 edge_most t.1)

pub path_fine : (p : Path) (end tiles : ℕ) → first_no (path_checks p end tiles) ≡ Fine → Fits p tiles × (end ≤ p.first)
path_fine p end tiles e =
    let k = all_ok (path_checks p end tiles) e in
    let b = box_fits_lem p k.0 in
    (record { across = b.0; right = b.1; down = b.2; bottom = b.3; within = leb-true (end_of p) tiles k.1.1.0 }, leb-true end p.first k.1.0)

-- ---- path after path

module _ (ws : List ℕ) (tiles : ℕ) where
  from_suc : (n k end : ℕ) → paths_from ws tiles (suc n) k end ≡ unless (first_no (path_checks (path_at ws k) end tiles)) k (paths_from ws tiles n (suc k) (end_of (path_at ws k)))
  unfolding paths_from
  from_suc n k end = refl

  from_done : (n k end : ℕ) → paths_from ws tiles (suc n) k end ≡ Done
      → (Fits (path_at ws k) tiles) × (end ≤ (path_at ws k).first) × (paths_from ws tiles n (suc k) (end_of (path_at ws k)) ≡ Done)
  from_done n k end e =
      let u = unless_done (first_no (path_checks (path_at ws k) end tiles)) k (paths_from ws tiles n (suc k) (end_of (path_at ws k))) (sym (from_suc n k end) ∙ e) in
      let f = path_fine (path_at ws k) end tiles u.0 in
      (f.0, f.1, u.1)

  -- a turn of the loop over the first n paths
  pub from_turn : (n k end : ℕ) → k < n → first_no (path_checks (path_at ws k) end tiles) ≡ Fine
      → paths_from ws tiles (n - k) k end ≡ paths_from ws tiles (n - (k + 1)) (k + 1) (end_of (path_at ws k))
  from_turn n k end h e =
      let one_more : n - k ≡ suc (n - suc k) = omega arith in
      rw (one_more, add-one) (from_suc (n - suc k) k end ∙ unless_fine _ k _ e)

  pub from_no : (n k end why : ℕ) → k < n → first_no (path_checks (path_at ws k) end tiles) ≡ Against why
      → paths_from ws tiles (n - k) k end ≡ Refused why k
  from_no n k end why h e =
      let one_more : n - k ≡ suc (n - suc k) = omega arith in
      rw one_more (from_suc (n - suc k) k end ∙ unless_no _ why k _ e)

  pub from_end : (n k end : ℕ) → n ≤ k → paths_from ws tiles (n - k) k end ≡ Done
  unfolding paths_from
  from_end n k end h = let none_left : n - k ≡ 0 = omega arith in rw none_left

  -- each path from k on fits, and starts at or past `end`
  each_fits : (n k end : ℕ) → paths_from ws tiles n k end ≡ Done → (j : ℕ) → k ≤ j → j < k + n → Fits (path_at ws j) tiles × (end ≤ (path_at ws j).first)
  each_fits zero k end e j p q = absurd (omega arith)
  each_fits (suc n) k end e j p q = go (from_done n k end e) (each_fits n (suc k) (end_of (path_at ws k))) (ℕ_discrete k j)
    where
      go : (Fits (path_at ws k) tiles) × (end ≤ (path_at ws k).first) × (paths_from ws tiles n (suc k) (end_of (path_at ws k)) ≡ Done)
          → (paths_from ws tiles n (suc k) (end_of (path_at ws k)) ≡ Done → (i : ℕ) → suc k ≤ i → i < suc k + n → Fits (path_at ws i) tiles × (end_of (path_at ws k) ≤ (path_at ws i).first))
          → Dec (k ≡ j) → Fits (path_at ws j) tiles × (end ≤ (path_at ws j).first)
      go f ih (yes s) = rw (← s) (f.0, f.1)
      go f ih (no s) =
          let r = ih f.2 j (omega arith) (omega arith) in
          (r.0, omega (arith, r.1, f.1))

  -- of two paths the later starts at or past the end of the earlier
  each_apart : (n k end : ℕ) → paths_from ws tiles n k end ≡ Done → (i j : ℕ) → k ≤ i → i < j → j < k + n → end_of (path_at ws i) ≤ (path_at ws j).first
  each_apart zero k end e i j p l q = absurd (omega arith)
  each_apart (suc n) k end e i j p l q = go (from_done n k end e) (each_apart n (suc k) (end_of (path_at ws k))) (ℕ_discrete k i)
    where
      go : (Fits (path_at ws k) tiles) × (end ≤ (path_at ws k).first) × (paths_from ws tiles n (suc k) (end_of (path_at ws k)) ≡ Done)
          → (paths_from ws tiles n (suc k) (end_of (path_at ws k)) ≡ Done → (i j : ℕ) → suc k ≤ i → i < j → j < suc k + n → end_of (path_at ws i) ≤ (path_at ws j).first)
          → Dec (k ≡ i) → end_of (path_at ws i) ≤ (path_at ws j).first
      go f ih (yes s) = rw (← s) (each_fits n (suc k) (end_of (path_at ws k)) f.2 j (omega arith) (omega arith)).1
      go f ih (no s) = ih f.2 i j (omega arith) l (omega arith)

-- ---- paths checked

-- the record of each path counted is there
pub path_there : (ws : List ℕ) (k : ℕ) → k < path_count ws → k * path_words + path_words ≤ length ws
path_there ws k h = omega arith

-- what the checks of the paths lent tell where none fails
pub record Checked (ws : List ℕ) (tiles : ℕ) : Type 0 where
  pub whole : path_count ws * path_words ≡ length ws
  pub few : path_count ws ≤ most_paths
  pub tiled : tiles ≤ most_tiles
  pub fits : (k : ℕ) → k < path_count ws → Fits (path_at ws k) tiles
  pub apart : (i j : ℕ) → i < j → j < path_count ws → end_of (path_at ws i) ≤ (path_at ws j).first

pub lent_few : (words tiles : ℕ) → first_no (lent_checks words tiles) ≡ Fine → words / path_words ≤ most_paths
lent_few words tiles e = leb-true (words / path_words) most_paths (all_ok (lent_checks words tiles) e).1.0

pub checked : (ws : List ℕ) (tiles : ℕ) → paths_answer ws tiles ≡ Done → Checked ws tiles
unfolding paths_answer
checked ws tiles e =
    let u = unless_done (first_no (lent_checks (length ws) tiles)) 0 (paths_from ws tiles (path_count ws) 0 0) e in
    let k = all_ok (lent_checks (length ws) tiles) u.0 in
    record {
      whole = omega (arith, eqb-true (length ws % path_words) 0 k.0);
      few = leb-true (path_count ws) most_paths k.1.0;
      tiled = leb-true tiles most_tiles k.1.1.0;
      fits = λ j h. (each_fits ws tiles (path_count ws) 0 0 u.1 j (omega arith) (omega arith)).0;
      apart = λ i j l h. each_apart ws tiles (path_count ws) 0 0 u.1 i j (omega arith) l (omega arith);
    }

-- a tile number belongs to at most one path
pub one_path : (ws : List ℕ) (tiles : ℕ) → Checked ws tiles → (i j t : ℕ) → i < path_count ws → j < path_count ws
    → Holds (path_at ws i) t → Holds (path_at ws j) t → i ≡ j
one_path ws tiles c i j t p q a b = go (dec_lt i j) (dec_lt j i)
  where
    go : Dec (i < j) → Dec (j < i) → i ≡ j
    go (yes l) r = absurd (omega (arith, c.apart i j l q))
    go (no l) (yes r) = absurd (omega (arith, c.apart j i r p))
    go (no l) (no r) = omega arith

-- so two tiles of boxes are one tile only where path, column and row are the same
pub tiles_apart : (ws : List ℕ) (tiles : ℕ) → Checked ws tiles → (i j x y u v : ℕ) → i < path_count ws → j < path_count ws
    → InBox (path_at ws i) x y → InBox (path_at ws j) u v → tile_of (path_at ws i) x y ≡ tile_of (path_at ws j) u v → (i ≡ j) × (x ≡ u) × (y ≡ v)
tiles_apart ws tiles c i j x y u v p q a b e =
    let own : Holds (path_at ws j) (tile_of (path_at ws i) x y) = rw e (own_tile (path_at ws j) u v b) in
    let same : i ≡ j = one_path ws tiles c i j (tile_of (path_at ws i) x y) p q (own_tile (path_at ws i) x y a) own in
    let d = tile_once (path_at ws i) x y u v a (rw same b) (e ∙ rw same) in
    (same, d.0, d.1)
