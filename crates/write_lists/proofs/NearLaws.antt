-- A path that misses a row, or a block of columns, puts nothing there: so the paths kept put what all of them put. Assumes nothing.
use mathlib.Core.Path.{◌≡◌, refl, sym, ap, subst, ◌∙◌}
use mathlib.Core.Bool.{Bool, true, false, ◌&&◌}
use mathlib.Core.List.{List, [], ◌∷◌, ◌++◌}
use Prim.Native.Nat.{ℕ, ◌+◌, ◌-◌, ◌/◌, ◌%◌, ◌≤◌, ◌<◌}
use native.Mathlib.Omega.{arith}
use borrow.Author.Tests.{lt-ltb}
use lib.Dec.{leb, ltb}
use lib.ListN.{length}
use Rattle.lists.specs.Run.{All}
use Rattle.lists.specs.Sums.{from}
use Rattle.panel.specs.Paths.{path_at, path_count}
use Rattle.panel.specs.declared.kinds.Path.{Path}
use Rattle.panel.proofs.PathLaws.{checked}
use Rattle.near.specs.Near.{kept, has_row, has_columns, block_start, row_paths, column_paths, block_paths, wide_columns, narrow_columns, near_of, Boxed, Listed}
use Rattle.near.specs.declared.Listings.{Listings}
use Rattle.near.proofs.NearLaws.{kept_yes, kept_no, row_there, column_there}
use Rattle.pairs.specs.Pairs.{Tables, in_box, on_path, pairs_of, tile_pairs}
use Rattle.pairs.specs.Ready.{Ready}
use Rattle.tile_list.specs.Near.{Near}
use Rattle.pairs.specs.declared.Pair.{Pair}
use Rattle.pairs.proofs.PairLaws.{box_in, path_outside}

module _ (f : ℕ → Bool) where
  -- what is left out puts nothing there
  kept_pairs : (s : Tables) (x y : ℕ) → ((p : ℕ) → f p ≡ false → on_path s x y p ≡ []) → (ps : List ℕ) → pairs_of s x y (kept f ps) ≡ pairs_of s x y ps
  kept_pairs s x y g [] = refl
  kept_pairs s x y g (p ∷ ps) = go (f p) refl (kept_pairs s x y g ps)
    where
      go : (b : Bool) → f p ≡ b → pairs_of s x y (kept f ps) ≡ pairs_of s x y ps → pairs_of s x y (kept f (p ∷ ps)) ≡ on_path s x y p ++ pairs_of s x y ps
      go true e ih = ap (pairs_of s x y) (kept_yes f p ps e) ∙ ap (λ (l : List Pair). on_path s x y p ++ l) ih
      go false e ih = ap (pairs_of s x y) (kept_no f p ps e) ∙ ih ∙ ap (λ (l : List Pair). l ++ pairs_of s x y ps) (sym (g p e))

-- ---- a path that misses puts nothing

and_miss : (a b c d : Bool) → c && d ≡ false → a && b && c && d ≡ false
and_miss true true c d e = e
and_miss true false c d e = refl
and_miss false b c d e = refl

miss_row : (p : Path) (x y : ℕ) → has_row p y ≡ false → in_box p x y ≡ false
miss_row p x y e = and_miss (leb p.x0 x) (ltb x p.x1) (leb p.y0 y) (ltb y p.y1) e

miss_columns : (p : Path) (x y a b : ℕ) → a ≤ x → x < b → has_columns p a b ≡ false → in_box p x y ≡ false
miss_columns p x y a b h k e = go (in_box p x y) refl
  where
    go : (v : Bool) → in_box p x y ≡ v → in_box p x y ≡ false
    go false q = q
    go true q =
        let i = box_in p x y q in
        let left : ltb p.x0 b ≡ true = lt-ltb p.x0 b (omega (arith, i.left)) in
        let right : ltb a p.x1 ≡ true = lt-ltb a p.x1 (omega (arith, i.right)) in
        let z : ◌≡◌ {A = Bool} true false = sym (rw (left, right) refl) ∙ e in
        absurd (let w : ◌≡◌ {A = ℕ} 0 1 = cc in omega arith)

module _ (s : Tables) (x y : ℕ) where
  pub row_pairs : pairs_of s x y (row_paths s.paths y) ≡ pairs_of s x y (from 0 (path_count s.paths))
  unfolding row_paths
  row_pairs =
      kept_pairs (λ p. has_row (path_at s.paths p) y) s x y (λ p e. sym (path_outside s x y p (miss_row (path_at s.paths p) x y e))) (from 0 (path_count s.paths))

  pub column_pairs : (a b : ℕ) → a ≤ x → x < b → (ps : List ℕ) → pairs_of s x y (column_paths s.paths a b ps) ≡ pairs_of s x y ps
  unfolding column_paths
  column_pairs a b h k ps =
      kept_pairs (λ p. has_columns (path_at s.paths p) a b) s x y (λ p e. sym (path_outside s x y p (miss_columns (path_at s.paths p) x y a b h k e))) ps

-- ---- the three lists together

pub listed_near : (s : Tables) (cols t : ℕ) (h : Listings) → Listed s.paths (t % cols) (t / cols) h → Near s cols t (near_of h)
unfolding tile_pairs
listed_near s cols t h l =
    let x = t % cols in
    let y = t / cols in
    let rows = row_paths s.paths y in
    let wides = block_paths s.paths wide_columns x rows in
    let here = column_pairs s x y (block_start narrow_columns x) (block_start narrow_columns x + narrow_columns) (omega arith) (omega arith) wides in
    let there = column_pairs s x y (block_start wide_columns x) (block_start wide_columns x + wide_columns) (omega arith) (omega arith) rows in
    let a = column_there s.paths (block_start wide_columns x) (block_start wide_columns x + wide_columns) rows (row_there s.paths y) in
    let b = column_there s.paths (block_start narrow_columns x) (block_start narrow_columns x + narrow_columns) wides a in
    record {
      all = ap (pairs_of s x y) l.narrow.same ∙ here ∙ there ∙ row_pairs s x y;
      there = subst (λ (ps : List ℕ). All (λ p. p < path_count s.paths) ps) (sym l.narrow.same) b;
    }

-- the paths of a call that passed 1 to 4
pub ready_boxed : (s : Tables) → Ready s → Boxed s.paths
ready_boxed s r = let c = checked s.paths (length s.backdrops) r.passed in record { few = c.few; across = λ p h. (c.fits p h).across; low = λ p h. (c.fits p h).bottom }
