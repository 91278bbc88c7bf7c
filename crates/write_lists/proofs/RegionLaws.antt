-- How many regions the lists of a screen take. A path puts at most one pair on a screen tile, and none outside its box; paths' tiles are apart. So
-- pairs are at most as many as tiles, fresh regions too, and a JUMP's operand can name each. Assumes nothing.
use mathlib.Core.Path.{◌≡◌, refl, ap, ◌∙◌}
use mathlib.Core.Bool.{Bool, true, false, cond}
use mathlib.Core.List.{List, [], ◌∷◌, ◌++◌}
use Prim.Native.Nat.{ℕ, zero, suc, ◌+◌, ◌-◌, ◌*◌, ◌/◌, ◌%◌, ◌≤◌, ◌<◌}
use native.Mathlib.Nat.{mul-add-div, mul-add-mod_self_left, mod-eq_of_lt, div-eq_of_lt, mul-suc, mul-le-mul_left}
use native.Mathlib.Omega.{arith}
use lib.Dec.{ltb}
use lib.IntN.{ℤ, pos}
use lib.ListN.{length, get_or, length-append}
use Rattle.lists.specs.Sums.{from, from_add}
use Rattle.panel.specs.Limits.{most_tiles}
use Rattle.panel.specs.Paths.{path_at, path_count, width_of, height_of, end_of, tile_of}
use Rattle.panel.specs.Slots.{not32}
use Rattle.panel.specs.declared.kinds.Path.{Path}
use Rattle.panel.specs.Answer.{Done}
use Rattle.panel.proofs.LimitLaws.{small}
use Rattle.panel.proofs.PathLaws.{Checked, checked}
use Rattle.commands.specs.Numbers.{tile_words}
use Rattle.commands.specs.Pixel.{even_odd_of}
use Rattle.pairs.specs.Pairs.{Tables, colour_at, rule_at, in_box, covers, bits_of, on_tile, by_path, on_path, pairs_of, tile_pairs}
use Rattle.lay_pairs.specs.Layout.{fits, left_after, jumps_of, own_words}
use Rattle.write_lists.specs.Lists.{call_answer, fresh_of}
use Rattle.lay_pairs.specs.Room.{words_named}
use Rattle.pairs.specs.declared.Pair.{Pair}
use Rattle.pairs.specs.declared.Pair.TheVariants.{Fill, Solid}
use Rattle.lay_pairs.proofs.SizeLaws.{jump_small}
use Rattle.pairs.proofs.PairLaws.{box_in}
use Rattle.write_lists.proofs.TileLaws.{call_ready}

-- ---- a sum over a list

abbrev total : (ℕ → ℕ) → List ℕ → ℕ
total f [] = 0
total f (x ∷ xs) = f x + total f xs

total_append : (f : ℕ → ℕ) (xs ys : List ℕ) → total f (xs ++ ys) ≡ total f xs + total f ys
total_append f [] ys = omega arith
total_append f (x ∷ xs) ys = omega (arith, total_append f xs ys)

total_le : (f g : ℕ → ℕ) (xs : List ℕ) → ((x : ℕ) → f x ≤ g x) → total f xs ≤ total g xs
total_le f g [] h = omega arith
total_le f g (x ∷ xs) h = omega (arith, h x, total_le f g xs h)

total_none : (xs : List ℕ) → total (λ x. 0) xs ≡ 0
total_none [] = refl
total_none (x ∷ xs) = omega (arith, total_none xs)

total_sum : (f g : ℕ → ℕ) (xs : List ℕ) → total (λ x. f x + g x) xs ≡ total f xs + total g xs
total_sum f g [] = omega arith
total_sum f g (x ∷ xs) = omega (arith, total_sum f g xs)

-- over two lists, in either order
total_swap : (f : ℕ → ℕ → ℕ) (xs ys : List ℕ) → total (λ x. total (f x) ys) xs ≡ total (λ y. total (λ x. f x y) xs) ys
total_swap f [] ys = omega (arith, total_none ys)
total_swap f (x ∷ xs) ys = omega (arith, total_swap f xs ys, total_sum (f x) (λ y. total (λ z. f z y) xs) ys)

-- ---- pairs

abbrev bit : Bool → ℕ
bit true = 1
bit false = 0

one_pair : (colour rule count stored : ℕ) (b : ℤ) → length (on_tile colour rule count stored b) ≤ 1
unfolding on_tile
one_pair colour rule count stored b = go (ltb 0 count) (covers (even_odd_of rule) b) (Fill count rule (not32 stored) (bits_of b) colour) (Solid colour)
  where
    go : (t u : Bool) (p q : Pair) → length (cond t (p ∷ []) (cond u (q ∷ []) [])) ≤ 1
    go true u p q = omega arith
    go false true p q = omega arith
    go false false p q = omega arith

module _ (s : Tables) where
  -- 1 where the path's box has that column and row
  abbrev hit : ℕ → ℕ → ℕ → ℕ
  hit x y p = bit (in_box (path_at s.paths p) x y)

  path_pairs : (x y p : ℕ) → length (on_path s x y p) ≤ hit x y p
  unfolding on_path
  path_pairs x y p =
      let t = tile_of (path_at s.paths p) x y in
      go (in_box (path_at s.paths p) x y) (by_path s p t)
      (one_pair (colour_at s.paints p) (rule_at s.paints p) (get_or s.tally t 0) (get_or s.stored t 0) (get_or s.backdrops t (pos 0)))
    where
      go : (t : Bool) (l : List Pair) → length l ≤ 1 → length (cond t l []) ≤ bit t
      go true l h = h
      go false l h = omega arith

  paths_pairs : (x y : ℕ) (ps : List ℕ) → length (pairs_of s x y ps) ≤ total (hit x y) ps
  paths_pairs x y [] = omega arith
  paths_pairs x y (p ∷ ps) =
      omega (arith, length-append (on_path s x y p) (pairs_of s x y ps), path_pairs x y p, paths_pairs x y ps)

  jumps_few : (left : ℕ) (ps : List Pair) → jumps_of left ps ≤ length ps
  jumps_few left [] = omega arith
  jumps_few left (p ∷ ps) = omega (arith, jump_small (fits p left), jumps_few (left_after p left) ps)

  module _ (cols : ℕ) where
    abbrev tile_hits : ℕ → ℕ
    tile_hits t = total (hit (t % cols) (t / cols)) (from 0 (path_count s.paths))

    tile_jumps : (t : ℕ) → jumps_of own_words (tile_pairs s cols t) ≤ tile_hits t
    unfolding tile_pairs
    tile_jumps t =
        let ps = from 0 (path_count s.paths) in
        omega (arith, jumps_few own_words (pairs_of s (t % cols) (t / cols) ps), paths_pairs (t % cols) (t / cols) ps)

    fresh_hits : (ts : List ℕ) → fresh_of s cols ts ≤ total tile_hits ts
    fresh_hits [] = omega arith
    fresh_hits (t ∷ ts) = omega (arith, tile_jumps t, fresh_hits ts)

-- ---- a box on a screen

module _ (b : Path) (cols : ℕ) where
  abbrev seen : ℕ → ℕ
  seen t = bit (in_box b (t % cols) (t / cols))

  -- tile x of row y
  seen_at : (y x : ℕ) → x < cols → seen (cols * y + x) ≡ bit (in_box b x y)
  seen_at y x h =
      let col : (cols * y + x) % cols ≡ x = mul-add-mod_self_left cols y x ∙ mod-eq_of_lt h in
      let row : (cols * y + x) / cols ≡ y = mul-add-div (omega arith) y x ∙ ap (λ (n : ℕ). y + n) (div-eq_of_lt h) ∙ omega arith in
      rw (col, row)

  record Row (y n m : ℕ) : Type 0 where
    sofar : m ≤ n - b.x0
    most : m ≤ width_of b
    inside : 0 < m → (b.y0 ≤ y) × (y < b.y1)

  -- the first n tiles of row y
  row : (y n : ℕ) → n ≤ cols → Row y n (total seen (from (cols * y) n))
  row y zero h = record { sofar = omega arith; most = omega arith; inside = λ k. absurd (omega arith) }
  row y (suc n) h = go (in_box b n y) refl (row y n (omega arith))
    where
      more : (m : ℕ) → bit (in_box b n y) ≡ m → total seen (from (cols * y) (suc n)) ≡ total seen (from (cols * y) n) + m
      more m e =
          let one : suc n ≡ n + 1 = omega arith in
          ap (λ (k : ℕ). total seen (from (cols * y) k)) one
          ∙ ap (total seen) (from_add (cols * y) n 1)
          ∙ total_append seen (from (cols * y) n) ((cols * y + n) ∷ [])
          ∙ omega (arith, seen_at y n h, e)

      go : (t : Bool) → in_box b n y ≡ t → Row y n (total seen (from (cols * y) n)) → Row y (suc n) (total seen (from (cols * y) (suc n)))
      go true e r =
          let i = box_in b n y e in
          let z = more 1 (ap bit e) in
          record { sofar = omega (arith, z, r.sofar, i.left); most = omega (arith, z, r.sofar, i.left, i.right); inside = λ k. (i.top, i.bottom) }
      go false e r =
          let z = more 0 (ap bit e) in
          record { sofar = omega (arith, z, r.sofar); most = omega (arith, z, r.most); inside = λ k. r.inside (omega (arith, z)) }

  -- the first n rows
  record Rows (n m : ℕ) : Type 0 where
    sofar : m ≤ width_of b * (n - b.y0)
    most : m ≤ width_of b * height_of b

  rows_of : (n : ℕ) → Rows n (total seen (from 0 (cols * n)))
  rows_of zero = let none : cols * 0 ≡ 0 = omega arith in rw none record { sofar = omega arith; most = omega arith }
  rows_of (suc n) = go (total seen (from (cols * n) cols)) refl (row n cols (omega arith)) (rows_of n)
    where
      w : ℕ
      w = width_of b

      more : total seen (from 0 (cols * suc n)) ≡ total seen (from 0 (cols * n)) + total seen (from (cols * n) cols)
      more =
          ap (λ (k : ℕ). total seen (from 0 k)) (mul-suc cols n)
          ∙ ap (total seen) (from_add 0 (cols * n) cols)
          ∙ total_append seen (from 0 (cols * n)) (from (0 + cols * n) cols)
          ∙ ap (λ (k : ℕ). total seen (from 0 (cols * n)) + total seen (from k cols)) (omega arith)

      go : (m : ℕ) → total seen (from (cols * n) cols) ≡ m → Row n cols m → Rows n (total seen (from 0 (cols * n))) → Rows (suc n) (total seen (from 0 (cols * suc n)))
      go zero e r i =
          let up = mul-le-mul_left {m = n - b.y0} {n = suc n - b.y0} w (omega arith) in
          record { sofar = omega (arith, more, e, up, i.sofar); most = omega (arith, more, e, i.most) }
      go (suc m) e r i =
          let y = r.inside (omega arith) in
          let next : suc n - b.y0 ≡ suc (n - b.y0) = omega (arith, y.0) in
          let up : w * (suc n - b.y0) ≡ w * (n - b.y0) + w = ap (λ (k : ℕ). w * k) next ∙ mul-suc w (n - b.y0) in
          let all = mul-le-mul_left {m = suc n - b.y0} {n = height_of b} w (omega (arith, y.0, y.1)) in
          record { sofar = omega (arith, more, e, up, i.sofar, r.most); most = omega (arith, more, e, up, all, i.sofar, r.most) }

-- ---- paths' tiles are apart

module _ (ws : List ℕ) (tiles : ℕ) (c : Checked ws tiles) where
  abbrev area : ℕ → ℕ
  area p = width_of (path_at ws p) * height_of (path_at ws p)

  areas : (n k end : ℕ) → k + n ≤ path_count ws → end ≤ tiles → ((j : ℕ) → k ≤ j → j < path_count ws → end ≤ (path_at ws j).first) → end + total area (from k n) ≤ tiles
  areas zero k end h e f = omega arith
  areas (suc n) k end h e f =
      let rest = areas n (suc k) (end_of (path_at ws k)) (omega arith) (c.fits k (omega arith)).within (λ j a b. c.apart k j (omega arith) b) in
      omega (arith, f k (omega arith) (omega arith), rest)

-- ---- so many fresh regions at most

module _ (s : Tables) (cols rows : ℕ) where
  fresh_few : (tiles : ℕ) → Checked s.paths tiles → fresh_of s cols (from 0 (cols * rows)) ≤ tiles
  fresh_few tiles c =
      let ts = from 0 (cols * rows) in
      let ps = from 0 (path_count s.paths) in
      let each = total_le (λ p. total (λ t. hit s (t % cols) (t / cols) p) ts) (area s.paths tiles c) ps (λ p. (rows_of (path_at s.paths p) cols rows).most) in
      let turned = total_swap (λ t p. hit s (t % cols) (t / cols) p) ts ps in
      let apart = areas s.paths tiles c (path_count s.paths) 0 0 (omega arith) (omega arith) (λ j a b. omega arith) in
      omega (arith, fresh_hits s cols ts, turned, each, apart)

  -- the words of all regions, where 1 to 4 have passed
  pub regions_named : call_answer s cols rows ≡ Done → tile_words * (cols * rows + fresh_of s cols (from 0 (cols * rows))) ≤ words_named
  regions_named e =
      let z = call_ready s cols rows e in
      let c = checked s.paths (length s.backdrops) z.0.passed in
      omega (arith, z.1, c.tiled, fresh_few (length s.backdrops) c, small.tiles)
