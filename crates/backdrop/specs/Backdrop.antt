-- backdrop.rs: running sums along the tile rows of each path, over the whole numbers, and where they leave i32. docs/RULES.md, refusal 11.
-- Definitions only.
use Rattle.std.specs.Prelude.{◌≡◌, Bool, true, cond, ◌&&◌, List, ℕ, zero, suc, ◌+◌, ℤ, pos, ◌+ℤ◌, length, get_or, set}
use Rattle.panel.specs.Refusals.{sum_over}
use Rattle.panel.specs.Kinds.{paper_of}
use Rattle.panel.specs.Paths.{path_at, path_count, width_of, height_of, paths_answer}
use Rattle.panel.specs.declared.kinds.Path.{Path}
use Rattle.panel.specs.Answer.{Answer}
use Rattle.panel.specs.Answer.{Done, Refused}
use Rattle.panel.specs.Signed.{in_i32}

-- what stands at tile t
abbrev pub backdrop_at : List ℤ → ℕ → ℤ
backdrop_at bs t = get_or bs t (pos 0)

-- `sum += tile.backdrop; tile.backdrop = sum`, for n tiles from tile `at` on
unfoldable pub row_sums : ℕ → ℕ → ℤ → List ℤ → List ℤ
row_sums zero at sum bs = bs
row_sums (suc n) at sum bs = row_sums n (suc at) (sum +ℤ backdrop_at bs at) (set bs at (sum +ℤ backdrop_at bs at))

-- no running sum of those leaves i32
unfoldable pub row_fits : ℕ → ℕ → ℤ → List ℤ → Bool
row_fits zero at sum bs = true
row_fits (suc n) at sum bs = in_i32 (sum +ℤ backdrop_at bs at) && row_fits n (suc at) (sum +ℤ backdrop_at bs at) bs

-- h rows, each w tiles wide, the first from tile `at` on; every row starts at 0
unfoldable pub rows_sums : ℕ → ℕ → ℕ → List ℤ → List ℤ
rows_sums zero w at bs = bs
rows_sums (suc h) w at bs = rows_sums h w (at + w) (row_sums w at (pos 0) bs)

unfoldable pub rows_fit : ℕ → ℕ → ℕ → List ℤ → Bool
rows_fit zero w at bs = true
rows_fit (suc h) w at bs = row_fits w at (pos 0) bs && rows_fit h w (at + w) bs

abbrev pub path_sums : Path → List ℤ → List ℤ
path_sums p bs = rows_sums (height_of p) (width_of p) p.first bs

abbrev pub path_fits : Path → List ℤ → Bool
path_fits p bs = rows_fit (height_of p) (width_of p) p.first bs

-- what a call leaves: its answer on paper, and the backdrops
pub record Out : Type 0 where
  pub paper : List ℕ
  pub backs : List ℤ

abbrev pub out_of : Answer → List ℤ → Out
out_of a bs = record { paper = paper_of a; backs = bs }

-- n paths from path k on: it stops before the first whose sums leave i32, and that path is as it was
unfoldable pub sum_paths : List ℕ → ℕ → ℕ → List ℤ → Out
sum_paths ws zero k bs = out_of Done bs
sum_paths ws (suc n) k bs =
    cond (path_fits (path_at ws k) bs) (sum_paths ws n (suc k) (path_sums (path_at ws k) bs)) (out_of (Refused sum_over k) bs)

-- paths that are refused change nothing
abbrev pub on_done : Answer → List ℤ → Out → Out
on_done Done bs next = next
on_done (Refused n item) bs next = out_of (Refused n item) bs

unfoldable pub backdrop_of : List ℕ → List ℤ → Out
backdrop_of ws bs = on_done (paths_answer ws (length bs)) bs (sum_paths ws (path_count ws) 0 bs)

-- the call's promise: the answer r and the backdrops afterwards are these
abbrev pub BackdropMet : (paths : List ℕ) (bs : List ℤ) → Answer → (bs' : List ℤ) → Type 0
BackdropMet paths bs r bs' = out_of r bs' ≡ backdrop_of paths bs
