-- Flat rows: what is done to a row's first pixel, or to each of its pixels once it isn't flat, is done to the row as it is meant. Assumes nothing.
use mathlib.Core.Path.{◌≡◌, refl, sym, ap, subst, ◌∙◌}
use mathlib.Core.Bool.{Bool, true, false, cond, ◌&&◌}
use mathlib.Core.List.{List, [], ◌∷◌}
use mathlib.Core.Logic.{⊎_elim}
use Prim.Native.Nat.{ℕ, zero, suc, ◌+◌, ◌/◌, ◌≤◌, ◌<◌}
use native.Mathlib.Omega.{arith}
use lib.Dec.{leb, ltb}
use lib.ListN.{length, get_or, set}
use lib.Seq.{get_or-set_other}
use lib.Ieee.{Float, nan}
use borrow.Author.Tests.{le-leb, lt-leb, le-ltb, lt-ltb}
use Rattle.lists.specs.Grid.{mapi, within}
use Rattle.lists.specs.GridLaws.{le_or_lt, length_mapi, get_d_mapi, mapi_is}
use Rattle.sides.specs.Tile.{tile_width, tile_height, tile_size, row_start, row_end}
use Rattle.colours.specs.Colour.{over_of}
use Rattle.colours.specs.Layer.{share_of, mix_of, mixed, each, onto, spread, meant, Level}
use Rattle.colours.proofs.LayerLaws.{over_mix, at_level}

pub meant_length : (flat : List Bool) (l : List (List Float)) → length (meant flat l) ≡ length l
unfolding meant
meant_length flat l = length_mapi (spread flat l) l

-- ---- inside a part, and outside
module _ (f : ℕ → List Float → List Float) (a b k : ℕ) (x : List Float) where
  inside : a ≤ k → k < b → within a b f k x ≡ f k x
  inside p q = simp (le-leb a k p, lt-ltb k b q)

  before : k < a → within a b f k x ≡ x
  before p = simp (lt-leb a k p)

  after : b ≤ k → within a b f k x ≡ x
  after p = go (leb a k)
    where
      go : (t : Bool) → cond (t && ltb k b) (f k x) x ≡ x
      go true = simp (le-ltb k b p)
      go false = refl

-- which row k is in
row_of_lem : (y k : ℕ) → row_start y ≤ k → k < row_end y → k / tile_width ≡ y
row_of_lem y k p q = omega arith

-- ---- one row's change, by g at the places from a to b of row y, is f at the row as it is meant
module _ (f g : ℕ → List Float → List Float) (y a b : ℕ) (flat flat' : List Bool) (l m : List (List Float))
    (lo : row_start y ≤ a) (hi : b ≤ row_end y) (e : m ≡ mapi (within a b g) l)
    (others : (j : ℕ) → (j ≡ y → ⊥) → get_or flat' j false ≡ get_or flat j false) where
  as_long : length m ≡ length l
  as_long = ap length e ∙ length_mapi (within a b g) l

  at : (k : ℕ) → k < length l → get_or m k [] ≡ within a b g k (get_or l k [])
  at k h = ap (λ (z : List (List Float)). get_or z k []) e ∙ get_d_mapi (within a b g) l k [] [] h

  off : (k : ℕ) → k < length l → (k / tile_width ≡ y → ⊥) → get_or m k [] ≡ get_or l k []
  off k h n =
      at k h
      ∙ ⊎_elim (λ (p : a ≤ k). after g a b k (get_or l k []) (past p)) (λ (p : k < a). before g a b k (get_or l k []) p) (le_or_lt a k)
    where
      past : a ≤ k → b ≤ k
      past p = ⊎_elim (λ (q : b ≤ k). q) (λ (q : k < b). absurd (n (row_of_lem y k (omega (arith, lo, p)) (omega (arith, hi, q))))) (le_or_lt b k)

  kept : (k : ℕ) → k < length l → (k / tile_width ≡ y → ⊥) → spread flat' m k (get_or m k []) ≡ spread flat l k (get_or l k [])
  kept k h n =
      let s = row_start (k / tile_width) in
      let first : s < length l = omega (arith, h) in
      let again : s / tile_width ≡ k / tile_width = omega arith in
      ap (λ (t : Bool). cond t (get_or m s []) (get_or m k [])) (others (k / tile_width) n)
      ∙ ap (λ (z : List Float). cond (get_or flat (k / tile_width) false) z (get_or m k [])) (off s first (λ q. n (sym again ∙ q)))
      ∙ ap (cond (get_or flat (k / tile_width) false) (get_or l s [])) (off k h n)

  pub row_meant : ((k : ℕ) → k < length l → row_start y ≤ k → k < row_end y → spread flat' m k (get_or m k []) ≡ f k (spread flat l k (get_or l k [])))
      → meant flat' m ≡ mapi (within (row_start y) (row_end y) f) (meant flat l)
  unfolding meant
  row_meant h =
      mapi_is (within (row_start y) (row_end y) f) (meant flat l) (meant flat' m) [] []
      (meant_length flat' m ∙ as_long ∙ sym (meant_length flat l))
      (λ k q.
      let i : k < length l = subst (λ (n : ℕ). k < n) (meant_length flat l) q in
      let j : k < length m = subst (λ (n : ℕ). k < n) (sym as_long) i in
      get_d_mapi (spread flat' m) m k [] [] j ∙ step k i ∙ ap (within (row_start y) (row_end y) f k) (sym (get_d_mapi (spread flat l) l k [] [] i)))
    where
      step : (k : ℕ) → k < length l → spread flat' m k (get_or m k []) ≡ within (row_start y) (row_end y) f k (spread flat l k (get_or l k []))
      step k i =
          let x = spread flat l k (get_or l k []) in
          ⊎_elim
          (λ (p : row_start y ≤ k). ⊎_elim (λ (q : row_end y ≤ k). kept k i (λ z. omega (arith, q, z)) ∙ sym (after f (row_start y) (row_end y) k x q))
          (λ (q : k < row_end y). h k i p q ∙ sym (inside f (row_start y) (row_end y) k x p q)) (le_or_lt (row_end y) k))
          (λ (p : k < row_start y). kept k i (λ z. omega (arith, p, z)) ∙ sym (before f (row_start y) (row_end y) k x p))
          (le_or_lt (row_start y) k)

-- ---- a row's pixels, as they are meant
set_off : (flat : List Bool) (y : ℕ) → get_or (set flat y false) y false ≡ false
set_off [] y = refl
set_off (t ∷ flat) zero = refl
set_off (t ∷ flat) (suc y) = set_off flat y

module _ (flat : List Bool) (l : List (List Float)) (y k : ℕ) (x : List Float) (row : k / tile_width ≡ y) where
  pub of_first : get_or flat y false ≡ true → spread flat l k x ≡ get_or l (row_start y) []
  of_first on = ap (λ (j : ℕ). cond (get_or flat j false) (get_or l (row_start j) []) x) row ∙ ap (λ (t : Bool). cond t (get_or l (row_start y) []) x) on

  pub of_own : get_or flat y false ≡ false → spread flat l k x ≡ x
  of_own off = ap (λ (j : ℕ). cond (get_or flat j false) (get_or l (row_start j) []) x) row ∙ ap (λ (t : Bool). cond t (get_or l (row_start y) []) x) off

placed : (g : ℕ → List Float → List Float) (a b k : ℕ) (l m : List (List Float)) → m ≡ mapi (within a b g) l → k < length l → a ≤ k → k < b → get_or m k [] ≡ g k (get_or l k [])
placed g a b k l m e h lo hi =
    ap (λ (z : List (List Float)). get_or z k []) e ∙ get_d_mapi (within a b g) l k [] [] h ∙ inside g a b k (get_or l k []) lo hi

-- ---- the row that is changed
module _ (area fg : List Float) (y : ℕ) (flat : List Bool) (l m : List (List Float)) (n : length l ≡ tile_size) (hy : y < tile_height) where
  begins : row_start y < length l
  begins = subst (λ (z : ℕ). row_start y < z) (sym n) (omega (arith, hy))

  -- flat, and of one area: the first pixel alone
  pub stays_flat : (more : List Float) → get_or flat y false ≡ true → Level area (row_start y) → more ≡ share_of fg (get_or area (row_start y) nan)
      → m ≡ mapi (within (row_start y) (row_start y + 1) (mixed more)) l → meant flat m ≡ mapi (within (row_start y) (row_end y) (each area fg)) (meant flat l)
  stays_flat more on level s e =
      row_meant (each area fg) (mixed more) y (row_start y) (row_start y + 1) flat flat l m (omega arith) (omega arith) e (λ j h. refl)
      (λ k h lo hi.
      let row = row_of_lem y k lo hi in
      of_first flat m y k (get_or m k []) row on
      ∙ placed (mixed more) (row_start y) (row_start y + 1) (row_start y) l m e begins (omega arith) (omega arith)
      ∙ ap (λ (z : List Float). mix_of z (get_or l (row_start y) [])) (at_level area fg more (row_start y) level s k lo hi)
      ∙ over_mix fg (get_or area k nan) (get_or l (row_start y) [])
      ∙ ap (over_of fg (get_or area k nan)) (sym (of_first flat l y k (get_or l k []) row on)))

  -- flat, and of several areas: each pixel from the first, and the row isn't flat then
  pub ends_flat : (one : List Float) → get_or flat y false ≡ true → one ≡ get_or l (row_start y) []
      → m ≡ mapi (within (row_start y) (row_end y) (onto area fg one)) l → meant (set flat y false) m ≡ mapi (within (row_start y) (row_end y) (each area fg)) (meant flat l)
  ends_flat one on s e =
      row_meant (each area fg) (onto area fg one) y (row_start y) (row_end y) flat (set flat y false) l m (omega arith) (omega arith) e
      (λ j h. get_or-set_other flat y j false false h)
      (λ k h lo hi.
      let row = row_of_lem y k lo hi in
      of_own (set flat y false) m y k (get_or m k []) row (set_off flat y)
      ∙ placed (onto area fg one) (row_start y) (row_end y) k l m e h lo hi
      ∙ ap (over_of fg (get_or area k nan)) (s ∙ sym (of_first flat l y k (get_or l k []) row on)))

  -- not flat: each pixel
  pub not_flat : get_or flat y false ≡ false → m ≡ mapi (within (row_start y) (row_end y) (each area fg)) l
      → meant flat m ≡ mapi (within (row_start y) (row_end y) (each area fg)) (meant flat l)
  not_flat off e =
      row_meant (each area fg) (each area fg) y (row_start y) (row_end y) flat flat l m (omega arith) (omega arith) e (λ j h. refl)
      (λ k h lo hi.
      let row = row_of_lem y k lo hi in
      of_own flat m y k (get_or m k []) row off
      ∙ placed (each area fg) (row_start y) (row_end y) k l m e h lo hi
      ∙ ap (over_of fg (get_or area k nan)) (sym (of_own flat l y k (get_or l k []) row off)))

pub changed_length : (g : ℕ → List Float → List Float) (a b : ℕ) (l m : List (List Float)) → length l ≡ tile_size → m ≡ mapi (within a b g) l → length m ≡ tile_size
changed_length g a b l m n e = ap length e ∙ length_mapi (within a b g) l ∙ n
