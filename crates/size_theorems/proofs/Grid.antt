-- Sums over the tiles of a screen: how many of them a box has. Assumes nothing.
use mathlib.Core.Path.{◌≡◌, refl, sym, ap, ap₂, ◌∙◌}
use mathlib.Core.Bool.{Bool, true, false, ◌&&◌}
use Prim.Native.Nat.{ℕ, zero, suc, ◌+◌, ◌*◌, ◌/◌, ◌%◌, ◌≤◌, ◌<◌}
use native.Mathlib.Nat.{add-zero, mul-suc, mul-add, add-mul, mul-add-mod_self_left, mod-eq_of_lt, mul-add-div, div-eq_of_lt}
use native.Mathlib.Omega.{arith}
use lib.Dec.{leb, ltb}
use borrow.Author.Tests.{leb-true, leb-false, ltb-true, ltb-false}
use Rattle.panel.specs.declared.kinds.Path.{Path}
use Rattle.pairs.specs.Pairs.{in_box}
use Rattle.sizes.specs.Words.{on_screen, screen_pairs}

-- f at 0, 1, .., n - 1
unfoldable pub sum_to : (ℕ → ℕ) → ℕ → ℕ
sum_to f zero = 0
sum_to f (suc n) = sum_to f n + f n

pub sum_zero : (f : ℕ → ℕ) → sum_to f 0 ≡ 0
unfolding sum_to
sum_zero f = refl

pub sum_suc : (f : ℕ → ℕ) (n : ℕ) → sum_to f (suc n) ≡ sum_to f n + f n
unfolding sum_to
sum_suc f n = refl

pub sum_le : (f g : ℕ → ℕ) (n : ℕ) → ((k : ℕ) → k < n → f k ≤ g k) → sum_to f n ≤ sum_to g n
sum_le f g zero h = omega (arith, sum_zero f, sum_zero g)
sum_le f g (suc n) h = omega (arith, sum_suc f n, sum_suc g n, h n (omega arith), sum_le f g n (λ k l. h k (omega arith)))

pub sum_same : (f g : ℕ → ℕ) (n : ℕ) → ((k : ℕ) → k < n → f k ≡ g k) → sum_to f n ≡ sum_to g n
sum_same f g zero h = omega (arith, sum_zero f, sum_zero g)
sum_same f g (suc n) h = omega (arith, sum_suc f n, sum_suc g n, h n (omega arith), sum_same f g n (λ k l. h k (omega arith)))

pub sum_add : (f g : ℕ → ℕ) (n : ℕ) → sum_to (λ k. f k + g k) n ≡ sum_to f n + sum_to g n
sum_add f g zero = omega (arith, sum_zero (λ k. f k + g k), sum_zero f, sum_zero g)
sum_add f g (suc n) = omega (arith, sum_suc (λ k. f k + g k) n, sum_suc f n, sum_suc g n, sum_add f g n)

pub sum_none : (n : ℕ) → sum_to (λ k. 0) n ≡ 0
sum_none zero = sum_zero (λ k. 0)
sum_none (suc n) = omega (arith, sum_suc (λ k. 0) n, sum_none n)

sum_split : (f : ℕ → ℕ) (a n : ℕ) → sum_to f (a + n) ≡ sum_to f a + sum_to (λ k. f (a + k)) n
sum_split f a zero = let z : a + 0 ≡ a = omega arith in rw z (omega (arith, sum_zero (λ k. f (a + k))))
sum_split f a (suc n) =
    let z : a + suc n ≡ suc (a + n) = omega arith in
    rw z (omega (arith, sum_suc f (a + n), sum_suc (λ k. f (a + k)) n, sum_split f a n))

sum_scale : (f : ℕ → ℕ) (c n : ℕ) → sum_to (λ k. f k * c) n ≡ sum_to f n * c
sum_scale f c zero = omega (arith, sum_zero (λ k. f k * c), ap (λ (m : ℕ). m * c) (sum_zero f))
sum_scale f c (suc n) = omega (arith, sum_suc (λ k. f k * c) n, ap (λ (m : ℕ). m * c) (sum_suc f n), add-mul (sum_to f n) (f n) c, sum_scale f c n)

-- ---- rows of a screen

-- row y's tiles
row_tile : (cols y x : ℕ) → x < cols → ((cols * y + x) % cols ≡ x) × ((cols * y + x) / cols ≡ y)
row_tile cols y x h = (
  mul-add-mod_self_left cols y x ∙ mod-eq_of_lt h,
  mul-add-div {m = cols} (omega arith) y x ∙ ap (λ (k : ℕ). y + k) (div-eq_of_lt h) ∙ add-zero y,
)

module _ (f g : ℕ → ℕ) (cols : ℕ) where
  pub grid_sum : (rows : ℕ) → sum_to (λ t. f (t % cols) * g (t / cols)) (cols * rows) ≡ sum_to f cols * sum_to g rows
  grid_sum zero =
      let z : cols * 0 ≡ 0 = omega arith in
      let y : sum_to f cols * 0 ≡ 0 = omega arith in
      rw z (sum_zero (λ t. f (t % cols) * g (t / cols))) ∙ sym (ap (λ (k : ℕ). sum_to f cols * k) (sum_zero g) ∙ y)
  grid_sum (suc rows) =
      let z : cols * suc rows ≡ cols * rows + cols = mul-suc cols rows in
      let row : sum_to (λ k. f ((cols * rows + k) % cols) * g ((cols * rows + k) / cols)) cols ≡ sum_to (λ k. f k * g rows) cols =
      sum_same (λ k. f ((cols * rows + k) % cols) * g ((cols * rows + k) / cols)) (λ k. f k * g rows) cols
      (λ k h. let t = row_tile cols rows k h in ap₂ (λ (a b : ℕ). f a * g b) t.0 t.1) in
      let all = sum_split (λ t. f (t % cols) * g (t / cols)) (cols * rows) cols in
      let more : sum_to f cols * sum_to g (suc rows) ≡ sum_to f cols * sum_to g rows + sum_to f cols * g rows =
      ap (λ (k : ℕ). sum_to f cols * k) (sum_suc g rows) ∙ mul-add (sum_to f cols) (sum_to g rows) (g rows) in
      rw z (omega (arith, all, row, sum_scale f (g rows) cols, more, grid_sum rows))

-- ---- a box

abbrev pub bit : Bool → ℕ
bit true = 1
bit false = 0

-- the columns, or rows, from a up to b among the first n
within : (a b n : ℕ) → sum_to (λ k. bit (leb a k && ltb k b)) n ≡ on_screen a b n
within a b zero = omega (arith, sum_zero (λ k. bit (leb a k && ltb k b)))
within a b (suc n) = go (leb a n) refl (ltb n b) refl (within a b n)
  where
    last : (p : Bool) → leb a n ≡ p → (q : Bool) → ltb n b ≡ q → bit (leb a n && ltb n b) ≡ bit (p && q)
    last p e q f = rw (e, f)

    go : (p : Bool) → leb a n ≡ p → (q : Bool) → ltb n b ≡ q → sum_to (λ k. bit (leb a k && ltb k b)) n ≡ on_screen a b n
        → sum_to (λ k. bit (leb a k && ltb k b)) (suc n) ≡ on_screen a b (suc n)
    go true e true f ih = omega (arith, sum_suc (λ k. bit (leb a k && ltb k b)) n, last true e true f, ih, leb-true a n e, ltb-true n b f)
    go true e false f ih = omega (arith, sum_suc (λ k. bit (leb a k && ltb k b)) n, last true e false f, ih, leb-true a n e, ltb-false n b f)
    go false e true f ih = omega (arith, sum_suc (λ k. bit (leb a k && ltb k b)) n, last false e true f, ih, leb-false a n e, ltb-true n b f)
    go false e false f ih = omega (arith, sum_suc (λ k. bit (leb a k && ltb k b)) n, last false e false f, ih, leb-false a n e, ltb-false n b f)

in_box_lem : (p : Path) (x y : ℕ) → bit (in_box p x y) ≡ bit (leb p.x0 x && ltb x p.x1) * bit (leb p.y0 y && ltb y p.y1)
in_box_lem p x y = go (leb p.x0 x && ltb x p.x1) (leb p.y0 y) (ltb y p.y1)
  where
    go : (a b c : Bool) → bit (a && b && c) ≡ bit a * bit (b && c)
    go true true true = refl
    go true true false = refl
    go true false c = refl
    go false b c = omega arith

-- the tiles of a screen that a box has
pub box_tiles : (p : Path) (cols rows : ℕ) → sum_to (λ t. bit (in_box p (t % cols) (t / cols))) (cols * rows) ≡ screen_pairs p cols rows
box_tiles p cols rows =
    sum_same (λ t. bit (in_box p (t % cols) (t / cols)))
    (λ t. bit (leb p.x0 (t % cols) && ltb (t % cols) p.x1) * bit (leb p.y0 (t / cols) && ltb (t / cols) p.y1)) (cols * rows)
    (λ t h. in_box_lem p (t % cols) (t / cols))
    ∙ grid_sum (λ x. bit (leb p.x0 x && ltb x p.x1)) (λ y. bit (leb p.y0 y && ltb y p.y1)) cols rows
    ∙ ap₂ (λ (a b : ℕ). a * b) (within p.x0 p.x1 cols) (within p.y0 p.y1 rows)
