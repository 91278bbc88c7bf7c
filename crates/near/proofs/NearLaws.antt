-- Numbers kept of a list; the paths of a row and of a block of columns, from column to column. Assumes nothing.
use mathlib.Core.Path.{◌≡◌, refl, sym, ap, subst, ◌∙◌}
use mathlib.Core.Bool.{Bool, true, false, ◌&&◌, and-true}
use mathlib.Core.List.{List, [], ◌∷◌, ◌++◌, append_assoc, append-nil}
use Prim.Native.Nat.{ℕ, zero, suc, ◌+◌, ◌-◌, ◌/◌, ◌%◌, ◌≤◌, ◌<◌}
use native.Mathlib.Nat.{div-add-mod', mod-lt, zero-mod}
use native.Mathlib.Numerals.{add-one}
use native.Mathlib.Omega.{arith}
use borrow.Author.Tests.{lt-ltb, le-ltb, le-leb, lt-leb, ltb-true, ltb-false}
use lib.Dec.{leb, ltb}
use lib.ListN.{length, get_or, take, drop, set, drop_of_length-le}
use Rattle.std.proofs.lemmas.List.{length-take}
use lib.Seq.{take-suc-set, take-set-le, drop-cons}
use Rattle.lists.specs.Run.{All}
use Rattle.lists.specs.Sums.{from}
use Rattle.panel.specs.Limits.{most_paths, edge_most}
use Rattle.panel.specs.Paths.{path_at, path_count}
use Rattle.panel.specs.declared.kinds.Path.{Path}
use Rattle.panel.proofs.PathLaws.{cell_once}
use Rattle.near.specs.Near.{one_if, kept, has_row, has_columns, block_start, row_paths, column_paths, block_paths, wide_columns, narrow_columns, listed, Boxed, Lists, Listed}
use Rattle.near.specs.declared.Listing.{Listing}
use Rattle.near.specs.declared.Listings.{Listings}

-- ---- numbers kept

module _ (f : ℕ → Bool) where
  pub kept_yes : (p : ℕ) (ps : List ℕ) → f p ≡ true → kept f (p ∷ ps) ≡ p ∷ kept f ps
  kept_yes p ps e = rw e

  pub kept_no : (p : ℕ) (ps : List ℕ) → f p ≡ false → kept f (p ∷ ps) ≡ kept f ps
  kept_no p ps e = rw e

  -- a loop's turn: the number is stored, and stays where it is kept
  pub keep_turn : (out : List ℕ) (m p : ℕ) (rest : List ℕ) (b : Bool) → b ≡ f p → m < length out
      → take (m + one_if b) (set out m p) ++ kept f rest ≡ take m out ++ kept f (p ∷ rest)
  keep_turn out m p rest true e h =
      let next : m + 1 ≡ suc m = omega arith in
      ap (λ (k : ℕ). take k (set out m p) ++ kept f rest) next ∙ ap (λ (l : List ℕ). l ++ kept f rest) (take-suc-set out m p h)
      ∙ append_assoc (take m out) (p ∷ []) (kept f rest) ∙ ap (λ (l : List ℕ). take m out ++ l) (sym (kept_yes p rest (sym e)))
  keep_turn out m p rest false e h =
      let same : m + 0 ≡ m = omega arith in
      ap (λ (k : ℕ). take k (set out m p) ++ kept f rest) same ∙ ap (λ (l : List ℕ). l ++ kept f rest) (take-set-le m out m p (omega arith))
      ∙ ap (λ (l : List ℕ). take m out ++ l) (sym (kept_no p rest (sym e)))

  pub keep_end : (out : List ℕ) (m : ℕ) (rest : List ℕ) → rest ≡ [] → take m out ≡ take m out ++ kept f rest
  keep_end out m rest e = sym (ap (λ (l : List ℕ). take m out ++ kept f l) e ∙ append-nil (take m out))

  kept_none : (ps : List ℕ) → All (λ p. f p ≡ false) ps → kept f ps ≡ []
  kept_none [] a = refl
  kept_none (p ∷ ps) a = kept_no p ps a.0 ∙ kept_none ps a.1

  all_kept : (n : ℕ) (ps : List ℕ) → All (λ p. p < n) ps → All (λ p. p < n) (kept f ps)
  all_kept n [] a = a
  all_kept n (p ∷ ps) a = go (f p) refl (all_kept n ps a.1)
    where
      go : (b : Bool) → f p ≡ b → All (λ q. q < n) (kept f ps) → All (λ q. q < n) (kept f (p ∷ ps))
      go true e ih = subst (λ (l : List ℕ). All (λ q. q < n) l) (sym (kept_yes p ps e)) (a.0, ih)
      go false e ih = subst (λ (l : List ℕ). All (λ q. q < n) l) (sym (kept_no p ps e)) ih

all_from : (a n b : ℕ) → a + n ≤ b → All (λ p. p < b) (from a n)
all_from a zero b h = tt
all_from a (suc n) b h = (omega arith, all_from (suc a) n b (omega arith))

-- ---- a loop over the numbers of a range

pub from_turn : (k n : ℕ) → k < n → from k (n - k) ≡ k ∷ from (k + 1) (n - (k + 1))
from_turn k n h =
    let more : n - k ≡ suc (n - (k + 1)) = omega arith in
    let next : k + 1 ≡ suc k = omega arith in
    ap (from k) more ∙ ap (λ (j : ℕ). k ∷ from j (n - (k + 1))) (sym next)

pub from_end : (k n : ℕ) → n ≤ k → from k (n - k) ≡ []
from_end k n h = let none : n - k ≡ 0 = omega arith in ap (from k) none

pub from_all : (n : ℕ) → from 0 (n - 0) ≡ from 0 n
from_all n = let all : n - 0 ≡ n = omega arith in ap (from 0) all

-- ---- a loop over the numbers of a list

pub list_turn : (l : List ℕ) (j : ℕ) → j < length l → drop j l ≡ get_or l j 0 ∷ drop (j + 1) l
list_turn l j h = rw (add-one, drop-cons l j 0)

pub list_there : (b : ℕ) (l : List ℕ) (j : ℕ) → All (λ p. p < b) l → j < length l → get_or l j 0 < b
list_there b [] j a h = absurd (omega arith)
list_there b (p ∷ ps) zero a h = a.0
list_there b (p ∷ ps) (suc j) a h = list_there b ps j a.1 (omega arith)

pub list_end : (l : List ℕ) (j : ℕ) → length l ≤ j → drop j l ≡ []
list_end l j h = drop_of_length-le l h

-- ---- what is listed is there

pub row_there : (ws : List ℕ) (y : ℕ) → All (λ p. p < path_count ws) (row_paths ws y)
unfolding row_paths
row_there ws y = all_kept (λ p. has_row (path_at ws p) y) (path_count ws) (from 0 (path_count ws)) (all_from 0 (path_count ws) (path_count ws) (omega arith))

pub column_there : (ws : List ℕ) (a b : ℕ) (ps : List ℕ) → All (λ p. p < path_count ws) ps → All (λ p. p < path_count ws) (column_paths ws a b ps)
unfolding column_paths
column_there ws a b ps h = all_kept (λ p. has_columns (path_at ws p) a b) (path_count ws) ps h

-- from the limit on a row has no path
and_none : (a b : Bool) → b ≡ false → a && b ≡ false
and_none true b e = e
and_none false b e = refl

rows_none : (ws : List ℕ) (y : ℕ) → Boxed ws → edge_most ≤ y → (a n : ℕ) → a + n ≤ path_count ws → All (λ p. has_row (path_at ws p) y ≡ false) (from a n)
rows_none ws y b h a zero k = tt
rows_none ws y b h a (suc n) k =
    let low = b.low a (omega arith) in
    let out : ltb y (path_at ws a).y1 ≡ false = le-ltb y (path_at ws a).y1 (omega (arith, low)) in
    (and_none (leb (path_at ws a).y0 y) (ltb y (path_at ws a).y1) out, rows_none ws y b h (suc a) n (omega arith))

pub row_none : (ws : List ℕ) (y : ℕ) → Boxed ws → edge_most ≤ y → [] ≡ row_paths ws y
unfolding row_paths
row_none ws y b h = sym (kept_none (λ p. has_row (path_at ws p) y) (from 0 (path_count ws)) (rows_none ws y b h 0 (path_count ws) (omega arith)))

-- ---- a block's paths, from column to column

pub block_same : (ws : List ℕ) (size x : ℕ) (ps : List ℕ) → x % size ≡ 0 → column_paths ws x (x + size) ps ≡ block_paths ws size x ps
block_same ws size x ps e = let at : x ≡ x - x % size = omega (arith, e) in ap (λ (a : ℕ). column_paths ws a (a + size) ps) at

pub block_next : (ws : List ℕ) (size x : ℕ) (ps : List ℕ) → block_start size (x - 1) ≡ block_start size x → block_paths ws size (x - 1) ps ≡ block_paths ws size x ps
block_next ws size x ps e = ap (λ (a : ℕ). column_paths ws a (a + size) ps) e

-- from a screen tile to the next one of its row
pub next_column : (cols t : ℕ) → 0 < cols → 0 < (t + 1) % cols → (t % cols ≡ (t + 1) % cols - 1) × (t / cols ≡ (t + 1) / cols)
next_column cols t h k =
    let p = div-add-mod' t cols in
    let q = div-add-mod' (t + 1) cols in
    let e = cell_once cols (t / cols) (t % cols) ((t + 1) / cols) ((t + 1) % cols - 1) (mod-lt t h) (omega (arith, mod-lt (t + 1) h)) (omega (arith, p, q)) in
    (e.1, e.0)

pub one_small : (b : Bool) → one_if b ≤ 1
one_small true = omega arith
one_small false = omega arith

-- whether a box has one of the columns, by its start and its end
pub by_ends : (p : Path) (a b m : ℕ) → p.x0 ≤ p.x1 → a < b → m + one_if (ltb p.x0 b) ≡ m + one_if (has_columns p a b) + one_if (leb p.x1 a)
by_ends p a b m h k = go (ltb a p.x1) refl
  where
    go : (v : Bool) → ltb a p.x1 ≡ v → m + one_if (ltb p.x0 b) ≡ m + one_if (ltb p.x0 b && ltb a p.x1) + one_if (leb p.x1 a)
    go true e =
        let on : leb p.x1 a ≡ false = lt-leb p.x1 a (ltb-true a p.x1 e) in
        let both : ltb p.x0 b && true ≡ ltb p.x0 b = and-true (ltb p.x0 b) in
        rw (e, on, both) (omega arith)
    go false e =
        let low = ltb-false a p.x1 e in
        let off : leb p.x1 a ≡ true = le-leb p.x1 a low in
        let left : ltb p.x0 b ≡ true = lt-ltb p.x0 b (omega (arith, low, h, k)) in
        rw (e, off, left) (omega arith)

-- ---- one list after another

pub block_there : (ws : List ℕ) (size x : ℕ) (ps : List ℕ) → All (λ p. p < path_count ws) ps → All (λ p. p < path_count ws) (block_paths ws size x ps)
block_there ws size x ps h = column_there ws (block_start size x) (block_start size x + size) ps h

pub lists_there : (b : ℕ) (l : Listing) (ps : List ℕ) → Lists l ps → All (λ p. p < b) ps → All (λ p. p < b) (listed l)
lists_there b l ps h a = subst (λ (qs : List ℕ). All (λ p. p < b) qs) (sym h.same) a

pub lists_few : (l : Listing) (ps : List ℕ) → Lists l ps → length (listed l) ≤ most_paths
lists_few l ps h = omega (arith, h.few, length-take l.len l.numbers)

-- a block's list for the column before is its list for this one, of the same paths
pub lists_on : (ws : List ℕ) (size x : ℕ) (m l : Listing) (ps : List ℕ) → Lists m ps → block_start size (x - 1) ≡ block_start size x
    → Lists l (block_paths ws size (x - 1) ps) → Lists l (block_paths ws size x (listed m))
lists_on ws size x m l ps h e i =
    record { few = i.few; same = i.same ∙ block_next ws size x ps e ∙ ap (block_paths ws size x) (sym h.same) }

-- a narrow block lies in one wide block
pub lists_narrow : (ws : List ℕ) (x y : ℕ) (l : Listing) → 0 < x % narrow_columns
    → Lists l (block_paths ws narrow_columns (x - 1) (block_paths ws wide_columns (x - 1) (row_paths ws y)))
    → Lists l (block_paths ws narrow_columns (x - 1) (block_paths ws wide_columns x (row_paths ws y)))
lists_narrow ws x y l h i =
    let e : block_start wide_columns (x - 1) ≡ block_start wide_columns x = omega (arith, h) in
    record { few = i.few; same = i.same ∙ ap (block_paths ws narrow_columns (x - 1)) (block_next ws wide_columns x (row_paths ws y) e) }

-- between the first columns of narrow blocks the lists stay as they are
pub listed_on : (ws : List ℕ) (x y : ℕ) (h : Listings) → 0 < x % narrow_columns → Listed ws (x - 1) y h → Listed ws x y h
listed_on ws x y h k l =
    let wide : block_start wide_columns (x - 1) ≡ block_start wide_columns x = omega (arith, k) in
    let narrow : block_start narrow_columns (x - 1) ≡ block_start narrow_columns x = omega (arith, k) in
    let n = lists_narrow ws x y h.narrow k l.narrow in
    record {
      row = l.row;
      wide = record { few = l.wide.few; same = l.wide.same ∙ block_next ws wide_columns x (row_paths ws y) wide };
      narrow = record { few = n.few; same = n.same ∙ block_next ws narrow_columns x (block_paths ws wide_columns x (row_paths ws y)) narrow };
    }

-- ---- from tile to tile

-- tile 0 is in its row's first column, so nothing is asked of the lists there
pub listed_first : (ws : List ℕ) (cols : ℕ) (h : Listings) → 0 < 0 % cols → Listed ws (0 % cols - 1) (0 / cols) h
listed_first ws cols h k = absurd (omega (arith, k, zero-mod cols))

pub listed_next : (ws : List ℕ) (cols t : ℕ) (h : Listings) → 0 < cols → Listed ws (t % cols) (t / cols) h → 0 < (t + 1) % cols
    → Listed ws ((t + 1) % cols - 1) ((t + 1) / cols) h
listed_next ws cols t h c l k =
    let e = next_column cols t c k in
    subst (λ (x : ℕ). Listed ws x ((t + 1) / cols) h) e.0 (subst (λ (y : ℕ). Listed ws (t % cols) y h) e.1 l)
