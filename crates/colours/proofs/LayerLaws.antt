-- A colour over a tile's pixels, row by row: parts of a row one after the other, and a row of one area. Assumes nothing.
use mathlib.Core.Path.{◌≡◌, refl, sym, ap, subst, ◌∙◌}
use mathlib.Core.Bool.{Bool, true, ◌&&◌}
use mathlib.Core.List.{List, []}
use mathlib.Core.Logic.{⊎_elim}
use Prim.Native.Nat.{ℕ, ◌+◌, ◌-◌, ◌≤◌, ◌<◌}
use native.Mathlib.Nat.{eq-or-lt_of_le}
use native.Mathlib.Omega.{arith}
use lib.ListN.{get_or, set}
use lib.Ieee.{Float, nan}
use Rattle.float32.proofs.Tests.{first, second}
use Rattle.lists.specs.Grid.{mapi, within}
use Rattle.lists.specs.GridLaws.{le_or_lt, within_none, within_join, within_cong}
use Rattle.ranges.proofs.Turn.{Done, turned, turned_to}
use Rattle.sides.specs.Tile.{tile_width, row_start, row_end}
use Rattle.colours.specs.Colour.{over_of}
use Rattle.colours.specs.Layer.{share_of, mix_of, mixed, each, Level}

-- ---- parts of the list one after the other
pub one_set : (f : ℕ → List Float → List Float) (i : ℕ) (l : List (List Float)) (v : List Float) → v ≡ f i (get_or l i []) → set l i v ≡ mapi (within i (i + 1) f) l
one_set f i l v e = (turned f [] i i l l v (omega arith) (refl, sym (within_none f i [] l)) e).1

module _ (f : ℕ → List Float → List Float) where
  -- four parts, from a to b, to c, to d, to e
  pub four_on : (a b c d e b' c' d' e' : ℕ) (l₀ l₁ l₂ l₃ l₄ : List (List Float)) → a ≤ b → b ≤ c → c ≤ d → d ≤ e → b' ≡ b → c' ≡ c → d' ≡ d → e' ≡ e
      → l₁ ≡ mapi (within a b' f) l₀ → l₂ ≡ mapi (within b c' f) l₁ → l₃ ≡ mapi (within c d' f) l₂ → l₄ ≡ mapi (within d e' f) l₃ → l₄ ≡ mapi (within a e f) l₀
  four_on a b c d e b' c' d' e' l₀ l₁ l₂ l₃ l₄ ab bc cd de p q r s g h i j =
      let two = on a b c c' l₀ l₁ l₂ ab bc q (g ∙ ap (λ (z : ℕ). mapi (within a z f) l₀) p) h in
      let three = on a c d d' l₀ l₂ l₃ (omega arith) cd r two i in
      on a d e e' l₀ l₃ l₄ (omega arith) de s three j
    where
      on : (a b c c' : ℕ) (l₀ l₁ l₂ : List (List Float)) → a ≤ b → b ≤ c → c' ≡ c → l₁ ≡ mapi (within a b f) l₀ → l₂ ≡ mapi (within b c' f) l₁ → l₂ ≡ mapi (within a c f) l₀
      on a b c c' l₀ l₁ l₂ ab bc q g h = h ∙ ap (λ (z : ℕ). mapi (within b z f) l₁) q ∙ ap (mapi (within b c f)) g ∙ within_join f a b c [] l₀ ab bc

  -- one more row
  pub row_on : (y : ℕ) (l₀ l m : List (List Float)) → Done f 0 (row_start y) l₀ l → m ≡ mapi (within (row_start y) (row_end y) f) l → Done f 0 (row_start (y + 1)) l₀ m
  row_on y l₀ l m done e =
      let n : row_end y ≡ row_start (y + 1) = omega arith in
      subst (λ (b : ℕ). Done f 0 b l₀ m) n (turned_to f [] 0 (row_start y) (row_end y) l₀ l m (omega arith) (omega arith) done e)

-- ---- what is added, and the pixel after that
pub over_mix : (fg : List Float) (ai : Float) (px : List Float) → mix_of (share_of fg ai) px ≡ over_of fg ai px
unfolding over_of mix_of share_of
over_mix fg ai px = refl

-- the same is added to each pixel from a to b, and it is each one's own
pub painted : (area fg more : List Float) (a b : ℕ) (l m : List (List Float)) → ((k : ℕ) → a ≤ k → k < b → more ≡ share_of fg (get_or area k nan))
    → m ≡ mapi (within a b (mixed more)) l → m ≡ mapi (within a b (each area fg)) l
painted area fg more a b l m h e =
    e ∙ within_cong (mixed more) (each area fg) a b [] l (λ k px lo hi. ap (λ (z : List Float). mix_of z px) (h k lo hi) ∙ over_mix fg (get_or area k nan) px)

-- in a row of one area
pub at_level : (area fg more : List Float) (i : ℕ) → Level area i → more ≡ share_of fg (get_or area i nan)
    → (k : ℕ) → i ≤ k → k < i + tile_width → more ≡ share_of fg (get_or area k nan)
at_level area fg more i level e k lo hi = go (k - i) (omega (arith, lo, hi)) (omega (arith, lo))
  where
    go : (x : ℕ) → x < tile_width → i + x ≡ k → more ≡ share_of fg (get_or area k nan)
    go x hx q = e ∙ ap (share_of fg) (sym (level x hx) ∙ ap (λ (z : ℕ). get_or area z nan) q)

-- ---- whether a row has one area
pub all_four : (p q r s : Bool) (A B C D : Type 0) → (p ≡ true → A) → (q ≡ true → B) → (r ≡ true → C) → (s ≡ true → D) → (((p && q) && r) && s) ≡ true → A × B × C × D
all_four p q r s A B C D f g h i e =
    let t = first ((p && q) && r) s e in
    let u = first (p && q) r t in
    (f (first p q u), g (second p q u), h (second (p && q) r t), i (second ((p && q) && r) s e))

abbrev pub Quarter : List Float → ℕ → Float → Type 0
Quarter area i v = (get_or area i nan ≡ v) × (get_or area (i + 1) nan ≡ v) × (get_or area (i + 2) nan ≡ v) × (get_or area (i + 3) nan ≡ v)

module _ (area : List Float) (v : Float) where
  is_at : (a k : ℕ) → a ≤ k → get_or area a nan ≡ v → (a < k → get_or area k nan ≡ v) → get_or area k nan ≡ v
  is_at a k h e rest = ⊎_elim (λ q. subst (λ (n : ℕ). get_or area n nan ≡ v) q e) (λ l. rest l) (eq-or-lt_of_le h)

  in_quarter : (i k : ℕ) → Quarter area i v → i ≤ k → k < i + 4 → get_or area k nan ≡ v
  in_quarter i k q lo hi =
      is_at i k lo q.0
      (λ a. is_at (i + 1) k (omega (arith, a)) q.1
      (λ b. is_at (i + 2) k (omega (arith, b)) q.2
      (λ c. is_at (i + 3) k (omega (arith, c)) q.3 (λ d. absurd (omega (arith, d, hi))))))

  pub four_quarters : (i : ℕ) → v ≡ get_or area i nan → Quarter area i v × Quarter area (i + 4) v × Quarter area (i + 8) v × Quarter area (i + 12) v → Level area i
  four_quarters i e q x hx =
      ⊎_elim
      (λ (a : 8 ≤ x). ⊎_elim (λ (b : 12 ≤ x). in_quarter (i + 12) (i + x) q.3 (omega (arith, b)) (omega (arith, hx)))
      (λ (b : x < 12). in_quarter (i + 8) (i + x) q.2 (omega (arith, a)) (omega (arith, b))) (le_or_lt 12 x))
      (λ (a : x < 8). ⊎_elim (λ (b : 4 ≤ x). in_quarter (i + 4) (i + x) q.1 (omega (arith, b)) (omega (arith, a)))
      (λ (b : x < 4). in_quarter i (i + x) q.0 (omega arith) (omega (arith, b))) (le_or_lt 4 x))
      (le_or_lt 8 x)
      ∙ e
