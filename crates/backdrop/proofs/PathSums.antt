-- Path after path: a turn of the loop, and what the call comes to after its checks. Assumes nothing.
use mathlib.Core.Path.{◌≡◌, refl, ◌∙◌}
use mathlib.Core.Bool.{true, false}
use mathlib.Core.List.{List}
use Prim.Native.Nat.{ℕ, zero, suc, ◌+◌, ◌-◌, ◌≤◌, ◌<◌}
use native.Mathlib.Numerals.{add-one}
use native.Mathlib.Omega.{arith}
use lib.IntN.{ℤ, pos}
use lib.ListN.{length}
use Rattle.panel.specs.Refusals.{sum_over}
use Rattle.panel.specs.Paths.{path_at, path_count, paths_answer, width_of, height_of}
use Rattle.panel.specs.declared.kinds.Path.{Path}
use Rattle.panel.specs.Answer.{Done, Refused}
use Rattle.backdrop.specs.Backdrop.{row_sums, rows_sums, path_sums, path_fits, out_of, sum_paths, backdrop_of}
use Rattle.backdrop.proofs.RowLaws.{length_row}

pub length_rows : (h w at : ℕ) (bs : List ℤ) → length (rows_sums h w at bs) ≡ length bs
unfolding rows_sums
length_rows zero w at bs = refl
length_rows (suc h) w at bs = length_rows h w (at + w) (row_sums w at (pos 0) bs) ∙ length_row w at (pos 0) bs

pub length_path : (p : Path) (bs : List ℤ) → length (path_sums p bs) ≡ length bs
length_path p bs = length_rows (height_of p) (width_of p) p.first bs

module _ (ws : List ℕ) (n k : ℕ) (bs : List ℤ) where
  pub paths_turn : k < n → path_fits (path_at ws k) bs ≡ true → sum_paths ws (n - k) k bs ≡ sum_paths ws (n - (k + 1)) (k + 1) (path_sums (path_at ws k) bs)
  unfolding sum_paths
  paths_turn h e =
      let one_more : n - k ≡ suc (n - suc k) = omega arith in
      rw (one_more, add-one, e)

  pub paths_no : k < n → path_fits (path_at ws k) bs ≡ false → sum_paths ws (n - k) k bs ≡ out_of (Refused sum_over k) bs
  unfolding sum_paths
  paths_no h e =
      let one_more : n - k ≡ suc (n - suc k) = omega arith in
      rw (one_more, e)

  pub paths_end : n ≤ k → sum_paths ws (n - k) k bs ≡ out_of Done bs
  unfolding sum_paths
  paths_end h = let none_left : n - k ≡ 0 = omega arith in rw none_left

-- the call, by what its checks answer
module _ (ws : List ℕ) (bs : List ℤ) where
  pub call_done : paths_answer ws (length bs) ≡ Done → backdrop_of ws bs ≡ sum_paths ws (path_count ws) 0 bs
  unfolding backdrop_of
  call_done e = rw e
