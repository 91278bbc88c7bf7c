-- What each tile holds after the sums: in a path's box the sum of its row up to it, and in no path's range what it held. Assumes nothing.
use mathlib.Core.Path.{◌≡◌, refl, sym, ap, ◌∙◌}
use mathlib.Core.Bool.{Bool, true, false, cond}
use mathlib.Core.List.{List}
use Prim.Native.Nat.{ℕ, zero, suc, ◌+◌, ◌-◌, ◌*◌, ◌≤◌, ◌<◌}
use native.Mathlib.Nat.{add-zero, add-mul, mul_comm}
use native.Mathlib.Decide.{ℕ_discrete, dec_lt}
use native.Mathlib.Omega.{arith}
use lib.IntN.{ℤ, pos, ◌+ℤ◌, +ℤ_idl, +ℤ_idr, +ℤ_assoc}
use lib.ListN.{length, set, length-set}
use lib.Seq.{get_or-set_same, get_or-set_other}
use Rattle.panel.specs.Refusals.{sum_over}
use Rattle.panel.specs.Paths.{path_at, path_count, paths_answer, width_of, height_of, end_of, tile_of}
use Rattle.panel.specs.declared.kinds.Path.{Path}
use Rattle.panel.specs.Answer.{Answer}
use Rattle.panel.specs.Answer.{Done, Refused}
use Rattle.panel.proofs.KindLaws.{paper_once}
use Rattle.panel.proofs.PathLaws.{InBox, Holds, checked, cell_in, own_tile}
use Rattle.backdrop.specs.Backdrop.{backdrop_at, row_sums, rows_sums, path_sums, path_fits, Out, out_of, sum_paths, on_done, backdrop_of}
use Rattle.backdrop.proofs.RowLaws.{length_row, row_before, row_after}
use Rattle.backdrop.proofs.PathSums.{length_path}

-- the sum of m backdrops from tile `at` on
unfoldable pub sum_of : List ℤ → ℕ → ℕ → ℤ
sum_of bs at zero = pos 0
sum_of bs at (suc m) = backdrop_at bs at +ℤ sum_of bs (suc at) m

pub sum_of_same : (m at : ℕ) (cs bs : List ℤ) → ((t : ℕ) → at ≤ t → t < at + m → backdrop_at cs t ≡ backdrop_at bs t) → sum_of cs at m ≡ sum_of bs at m
unfolding sum_of
sum_of_same zero at cs bs e = refl
sum_of_same (suc m) at cs bs e =
    rw (e at (omega arith) (omega arith), sum_of_same m (suc at) cs bs (λ t g h. e t (omega arith) (omega arith)))

-- ---- a row

pub row_cell : (n at : ℕ) (sum : ℤ) (bs : List ℤ) (j : ℕ) → j < n → at + n ≤ length bs
    → backdrop_at (row_sums n at sum bs) (at + j) ≡ sum +ℤ sum_of bs at (suc j)
unfolding row_sums sum_of
row_cell zero at sum bs j h k = absurd (omega arith)
row_cell (suc n) at sum bs zero h k =
    let v : ℤ = sum +ℤ backdrop_at bs at in
    rw (add-zero at)
    (row_before n (suc at) v (set bs at v) at (omega arith) ∙ get_or-set_same bs at v (pos 0) (omega arith) ∙ ap (λ (z : ℤ). sum +ℤ z) (sym (+ℤ_idr (backdrop_at bs at))))
row_cell (suc n) at sum bs (suc j) h k =
    let v : ℤ = sum +ℤ backdrop_at bs at in
    let next : at + suc j ≡ suc at + j = omega arith in
    let same = sum_of_same (suc j) (suc at) (set bs at v) bs (λ t p q. get_or-set_other bs at t v (pos 0) (omega arith)) in
    ap (λ (t : ℕ). backdrop_at (row_sums n (suc at) v (set bs at v)) t) next
    ∙ row_cell n (suc at) v (set bs at v) j (omega arith) (omega (arith, length-set bs at v))
    ∙ ap (λ (z : ℤ). v +ℤ z) same
    ∙ +ℤ_assoc sum (backdrop_at bs at) (sum_of bs (suc at) (suc j))

-- ---- the rows of a path

pub rows_before : (h w at : ℕ) (bs : List ℤ) (t : ℕ) → t < at → backdrop_at (rows_sums h w at bs) t ≡ backdrop_at bs t
unfolding rows_sums
rows_before zero w at bs t g = refl
rows_before (suc h) w at bs t g = rows_before h w (at + w) (row_sums w at (pos 0) bs) t (omega arith) ∙ row_before w at (pos 0) bs t g

pub rows_after : (h w at : ℕ) (bs : List ℤ) (t : ℕ) → at + h * w ≤ t → backdrop_at (rows_sums h w at bs) t ≡ backdrop_at bs t
unfolding rows_sums
rows_after zero w at bs t g = refl
rows_after (suc h) w at bs t g =
    rows_after h w (at + w) (row_sums w at (pos 0) bs) t (omega (arith, add-mul 1 h w)) ∙ row_after w at (pos 0) bs t (omega (arith, add-mul 1 h w))

pub rows_cell : (h w at : ℕ) (bs : List ℤ) (y x : ℕ) → y < h → x < w → at + h * w ≤ length bs
    → backdrop_at (rows_sums h w at bs) (at + y * w + x) ≡ sum_of bs (at + y * w) (suc x)
unfolding rows_sums
rows_cell zero w at bs y x g k l = absurd (omega arith)
rows_cell (suc h) w at bs zero x g k l =
    let here : at + 0 * w ≡ at = omega arith in
    rw here
    (rows_before h w (at + w) (row_sums w at (pos 0) bs) (at + x) (omega arith)
    ∙ row_cell w at (pos 0) bs x k (omega (arith, add-mul 1 h w))
    ∙ +ℤ_idl (sum_of bs at (suc x)))
rows_cell (suc h) w at bs (suc y) x g k l =
    let there : at + suc y * w ≡ at + w + y * w = omega (arith, add-mul 1 y w) in
    rw there
    (rows_cell h w (at + w) (row_sums w at (pos 0) bs) y x (omega arith) k (omega (arith, add-mul 1 h w, length_row w at (pos 0) bs))
    ∙ sum_of_same (suc x) (at + w + y * w) (row_sums w at (pos 0) bs) bs (λ t p q. row_after w at (pos 0) bs t (omega arith)))

-- where the row of a path's box that row y is starts
abbrev pub row_start : Path → ℕ → ℕ
row_start p y = p.first + (y - p.y0) * width_of p

pub path_cell : (p : Path) (bs : List ℤ) (x y : ℕ) → InBox p x y → end_of p ≤ length bs
    → backdrop_at (path_sums p bs) (tile_of p x y) ≡ sum_of bs (row_start p y) (suc (x - p.x0))
path_cell p bs x y b l =
    rows_cell (height_of p) (width_of p) p.first bs (y - p.y0) (x - p.x0) (omega arith) (omega arith) (omega (arith, mul_comm (width_of p) (height_of p)))

-- a tile that isn't in the path's range keeps what it held
pub path_elsewhere : (p : Path) (bs : List ℤ) (t : ℕ) → (Holds p t → ⊥) → backdrop_at (path_sums p bs) t ≡ backdrop_at bs t
path_elsewhere p bs t n = go (dec_lt t p.first) (dec_lt t (end_of p))
  where
    go : Dec (t < p.first) → Dec (t < end_of p) → backdrop_at (path_sums p bs) t ≡ backdrop_at bs t
    go (yes h) k = rows_before (height_of p) (width_of p) p.first bs t h
    go (no h) (yes k) = absurd (n (omega arith, k))
    go (no h) (no k) = rows_after (height_of p) (width_of p) p.first bs t (omega (arith, mul_comm (width_of p) (height_of p)))

-- the tiles of a row of the box, up to one of it, lie in the path's range
pub row_held : (p : Path) (x y t : ℕ) → InBox p x y → row_start p y ≤ t → t < row_start p y + suc (x - p.x0) → Holds p t
row_held p x y t b g h =
    let c = cell_in (width_of p) (height_of p) (y - p.y0) (x - p.x0) (omega arith) (omega arith) in
    (omega arith, omega (arith, c))

-- ---- path after path

module _ (ws : List ℕ) where
  -- a tile in no path's range keeps what it held, refused or not
  pub paths_elsewhere : (n k : ℕ) (bs : List ℤ) (t : ℕ) → ((j : ℕ) → k ≤ j → j < k + n → Holds (path_at ws j) t → ⊥)
      → backdrop_at (sum_paths ws n k bs).backs t ≡ backdrop_at bs t
  unfolding sum_paths
  paths_elsewhere zero k bs t h = refl
  paths_elsewhere (suc n) k bs t h =
      go (path_fits (path_at ws k) bs) (paths_elsewhere n (suc k) (path_sums (path_at ws k) bs) t (λ j p q. h j (omega arith) (omega arith)))
    where
      go : (b : Bool) → backdrop_at (sum_paths ws n (suc k) (path_sums (path_at ws k) bs)).backs t ≡ backdrop_at (path_sums (path_at ws k) bs) t
          → backdrop_at (cond b (sum_paths ws n (suc k) (path_sums (path_at ws k) bs)) (out_of (Refused sum_over k) bs)).backs t ≡ backdrop_at bs t
      go true ih = ih ∙ path_elsewhere (path_at ws k) bs t (h k (omega arith) (omega arith))
      go false ih = refl

  pub paths_length : (n k : ℕ) (bs : List ℤ) → length (sum_paths ws n k bs).backs ≡ length bs
  unfolding sum_paths
  paths_length zero k bs = refl
  paths_length (suc n) k bs = go (path_fits (path_at ws k) bs) (paths_length n (suc k) (path_sums (path_at ws k) bs))
    where
      go : (b : Bool) → length (sum_paths ws n (suc k) (path_sums (path_at ws k) bs)).backs ≡ length (path_sums (path_at ws k) bs)
          → length (cond b (sum_paths ws n (suc k) (path_sums (path_at ws k) bs)) (out_of (Refused sum_over k) bs)).backs ≡ length bs
      go true ih = ih ∙ length_path (path_at ws k) bs
      go false ih = refl

  -- where none is refused, a tile of a path's box holds the sum of its row up to it
  paths_cell : (n k : ℕ) (bs cs : List ℤ) → ((i j : ℕ) → i < j → j < k + n → end_of (path_at ws i) ≤ (path_at ws j).first)
      → ((j : ℕ) → j < k + n → end_of (path_at ws j) ≤ length bs) → sum_paths ws n k bs ≡ out_of Done cs
      → (j x y : ℕ) → k ≤ j → j < k + n → InBox (path_at ws j) x y
      → backdrop_at cs (tile_of (path_at ws j) x y) ≡ sum_of bs (row_start (path_at ws j) y) (suc (x - (path_at ws j).x0))
  unfolding sum_paths
  paths_cell zero k bs cs apart fits e j x y p q b = absurd (omega arith)
  paths_cell (suc n) k bs cs apart fits e j x y p q b =
      go (path_fits (path_at ws k) bs) e (ℕ_discrete k j)
      (λ d g. paths_cell n (suc k) bs' cs (λ i l r s. apart i l r (omega arith)) (λ l s. omega (arith, fits l (omega arith), length_path pk bs)) d j x y g (omega arith) b)
    where
      pk : Path
      pk = path_at ws k

      pj : Path
      pj = path_at ws j

      bs' : List ℤ
      bs' = path_sums pk bs

      go : (f : Bool) → cond f (sum_paths ws n (suc k) bs') (out_of (Refused sum_over k) bs) ≡ out_of Done cs → Dec (k ≡ j)
          → (sum_paths ws n (suc k) bs' ≡ out_of Done cs → suc k ≤ j → backdrop_at cs (tile_of pj x y) ≡ sum_of bs' (row_start pj y) (suc (x - pj.x0)))
          → backdrop_at cs (tile_of pj x y) ≡ sum_of bs (row_start pj y) (suc (x - pj.x0))
      go false d s ih = let z : Refused sum_over k ≡ Done = paper_once (Refused sum_over k) Done (ap (λ (o : Out). o.paper) d) in let w : ◌≡◌ {A = ℕ} 0 1 = cc in absurd (omega arith)
      go true d (yes s) ih =
          let t : ℕ = tile_of pj x y in
          let own = own_tile pj x y b in
          ap (λ (o : Out). backdrop_at o.backs t) (sym d)
          ∙ paths_elsewhere n (suc k) bs' t (λ i g h held. omega (arith, apart j i (omega arith) (omega arith), own.1, held.0))
          ∙ ap (λ (i : ℕ). backdrop_at (path_sums (path_at ws i) bs) t) s
          ∙ path_cell pj bs x y b (fits j q)
      go true d (no s) ih =
          ih d (omega arith)
          ∙ sum_of_same (suc (x - pj.x0)) (row_start pj y) bs' bs
          (λ t g h. path_elsewhere pk bs t (λ held. omega (arith, apart k j (omega arith) q, (row_held pj x y t b g h).0, held.1)))

-- ---- the call

module _ (ws : List ℕ) (bs : List ℤ) where
  -- a call that is done: each tile of a path's box
  pub backdrop_cell : (cs : List ℤ) → backdrop_of ws bs ≡ out_of Done cs → (k x y : ℕ) → k < path_count ws → InBox (path_at ws k) x y
      → backdrop_at cs (tile_of (path_at ws k) x y) ≡ sum_of bs (row_start (path_at ws k) y) (suc (x - (path_at ws k).x0))
  unfolding backdrop_of
  backdrop_cell cs e k x y h b = go (paths_answer ws (length bs)) refl e
    where
      go : (a : Answer) → paths_answer ws (length bs) ≡ a → on_done a bs (sum_paths ws (path_count ws) 0 bs) ≡ out_of Done cs
          → backdrop_at cs (tile_of (path_at ws k) x y) ≡ sum_of bs (row_start (path_at ws k) y) (suc (x - (path_at ws k).x0))
      go Done q d =
          let c = checked ws (length bs) q in
          paths_cell ws (path_count ws) 0 bs cs (λ i j r s. c.apart i j r (omega arith)) (λ j s. (c.fits j (omega arith)).within) d k x y (omega arith) (omega arith) b
      go (Refused n i) q d = let z : Refused n i ≡ Done = paper_once (Refused n i) Done (ap (λ (o : Out). o.paper) d) in let w : ◌≡◌ {A = ℕ} 0 1 = cc in absurd (omega arith)

  -- any call: a tile in no path's range keeps what it held, and there are as many tiles as there were
  pub backdrop_gap : (t : ℕ) → ((k : ℕ) → k < path_count ws → Holds (path_at ws k) t → ⊥) → backdrop_at (backdrop_of ws bs).backs t ≡ backdrop_at bs t
  unfolding backdrop_of
  backdrop_gap t h = go (paths_answer ws (length bs))
    where
      go : (a : Answer) → backdrop_at (on_done a bs (sum_paths ws (path_count ws) 0 bs)).backs t ≡ backdrop_at bs t
      go Done = paths_elsewhere ws (path_count ws) 0 bs t (λ k p q. h k (omega arith))
      go (Refused n i) = refl

  pub backdrop_length : length (backdrop_of ws bs).backs ≡ length bs
  unfolding backdrop_of
  backdrop_length = go (paths_answer ws (length bs))
    where
      go : (a : Answer) → length (on_done a bs (sum_paths ws (path_count ws) 0 bs)).backs ≡ length bs
      go Done = paths_length ws (path_count ws) 0 bs
      go (Refused n i) = refl

-- the promise admits one answer only, and one list
pub out_once : (a b : Answer) (cs ds : List ℤ) → out_of a cs ≡ out_of b ds → (a ≡ b) × (cs ≡ ds)
out_once a b cs ds e = (paper_once a b (ap (λ (o : Out). o.paper) e), ap (λ (o : Out). o.backs) e)
