-- What the working room holds after an end, a line and all lines. Assumes nothing.
use mathlib.Core.Path.{◌≡◌, refl, ap, ◌∙◌}
use mathlib.Core.Logic.{◌≢◌}
use mathlib.Core.List.{List}
use Prim.Native.Nat.{ℕ, zero, suc, ◌+◌, ◌-◌, ◌*◌, ◌≤◌, ◌<◌, max}
use native.Mathlib.Numerals.{add-one}
use native.Mathlib.Omega.{arith}
use lib.ListN.{length, get_or, length-set}
use lib.Seq.{get_or-set_same, get_or-set_other}
use lib.Ieee.{Float}
use Rattle.util.specs.declared.Vec2.{Vec2}
use Rattle.panel.specs.Limits.{edge_most}
use Rattle.panel.specs.Lines.{line_at}
use Rattle.end_tiles.specs.Lines.{tile_at}
use Rattle.path_reach.specs.Room.{box_words}
use Rattle.path_reach.specs.Words.{raised_at, end_reach, line_reach, gather_from}

-- ---- a word

module _ (at v : ℕ) (ws : List ℕ) where
  pub length_raised : length (raised_at at v ws) ≡ length ws
  unfolding raised_at
  length_raised = length-set ws at (max (get_or ws at 0) v)

  raised_same : at < length ws → get_or (raised_at at v ws) at 0 ≡ max (get_or ws at 0) v
  unfolding raised_at
  raised_same h = get_or-set_same ws at (max (get_or ws at 0) v) 0 h

  raised_other : (j : ℕ) → j ≢ at → get_or (raised_at at v ws) j 0 ≡ get_or ws j 0
  unfolding raised_at
  raised_other j n = get_or-set_other ws at j (max (get_or ws at 0) v) 0 n

-- ---- an end

-- path k's words
pub record Told (ws : List ℕ) (k a b c d : ℕ) : Type 0 where
  pub left : get_or ws (k * box_words) 0 ≡ a
  pub top : get_or ws (k * box_words + 1) 0 ≡ b
  pub right : get_or ws (k * box_words + 2) 0 ≡ c
  pub bottom : get_or ws (k * box_words + 3) 0 ≡ d

module _ (k : ℕ) (p : Vec2) (ws : List ℕ) where
  w1 : List ℕ
  w1 = raised_at (k * box_words) (edge_most - tile_at p.x) ws

  w2 : List ℕ
  w2 = raised_at (k * box_words + 1) (edge_most - tile_at p.y) w1

  w3 : List ℕ
  w3 = raised_at (k * box_words + 2) (tile_at p.x + 1) w2

  end_is : end_reach k p ws ≡ raised_at (k * box_words + 3) (tile_at p.y + 1) w3
  unfolding end_reach w1 w2 w3
  end_is = refl

  len1 : length w1 ≡ length ws
  unfolding w1
  len1 = length_raised _ _ _

  len2 : length w2 ≡ length ws
  unfolding w2
  len2 = length_raised _ _ _ ∙ len1

  len3 : length w3 ≡ length ws
  unfolding w3
  len3 = length_raised _ _ _ ∙ len2

  pub length_end : length (end_reach k p ws) ≡ length ws
  length_end = rw end_is (length_raised _ _ _ ∙ len3)

  -- any other word stays
  other : (j : ℕ) → j ≢ k * box_words → j ≢ k * box_words + 1 → j ≢ k * box_words + 2 → j ≢ k * box_words + 3 → get_or (end_reach k p ws) j 0 ≡ get_or ws j 0
  unfolding w1 w2 w3
  other j a b c d = rw end_is (raised_other _ _ w3 j d ∙ raised_other _ _ w2 j c ∙ raised_other _ _ w1 j b ∙ raised_other _ _ ws j a)

  pub end_out : (j : ℕ) → k * box_words + box_words ≤ j → get_or (end_reach k p ws) j 0 ≡ get_or ws j 0
  end_out j h = other j (omega arith) (omega arith) (omega arith) (omega arith)

  pub end_other : (i a b c d : ℕ) → i ≢ k → Told ws i a b c d → Told (end_reach k p ws) i a b c d
  end_other i a b c d n t =
      record {
        left = other (i * box_words) (omega arith) (omega arith) (omega arith) (omega arith) ∙ t.left;
        top = other (i * box_words + 1) (omega arith) (omega arith) (omega arith) (omega arith) ∙ t.top;
        right = other (i * box_words + 2) (omega arith) (omega arith) (omega arith) (omega arith) ∙ t.right;
        bottom = other (i * box_words + 3) (omega arith) (omega arith) (omega arith) (omega arith) ∙ t.bottom;
      }

  pub end_own : (a b c d : ℕ) → k * box_words + box_words ≤ length ws → Told ws k a b c d
      → Told (end_reach k p ws) k (max a (edge_most - tile_at p.x)) (max b (edge_most - tile_at p.y)) (max c (tile_at p.x + 1)) (max d (tile_at p.y + 1))
  unfolding w1 w2 w3
  end_own a b c d h t =
      record {
        left =
            rw end_is (raised_other _ _ w3 (k * box_words) (omega arith)
            ∙ raised_other _ _ w2 (k * box_words) (omega arith)
            ∙ raised_other _ _ w1 (k * box_words) (omega arith)
            ∙ raised_same _ _ ws (omega arith)
            ∙ ap (λ (x : ℕ). max x (edge_most - tile_at p.x)) t.left);
        top =
            rw end_is (raised_other _ _ w3 (k * box_words + 1) (omega arith)
            ∙ raised_other _ _ w2 (k * box_words + 1) (omega arith)
            ∙ raised_same _ _ w1 (omega (arith, len1))
            ∙ ap (λ (x : ℕ). max x (edge_most - tile_at p.y)) (raised_other _ _ ws (k * box_words + 1) (omega arith) ∙ t.top));
        right =
            rw end_is (raised_other _ _ w3 (k * box_words + 2) (omega arith)
            ∙ raised_same _ _ w2 (omega (arith, len2))
            ∙ ap (λ (x : ℕ). max x (tile_at p.x + 1))
            (raised_other _ _ w1 (k * box_words + 2) (omega arith) ∙ raised_other _ _ ws (k * box_words + 2) (omega arith) ∙ t.right));
        bottom =
            rw end_is (raised_same _ _ w3 (omega (arith, len3))
            ∙ ap (λ (x : ℕ). max x (tile_at p.y + 1))
            (raised_other _ _ w2 (k * box_words + 3) (omega arith)
            ∙ raised_other _ _ w1 (k * box_words + 3) (omega arith)
            ∙ raised_other _ _ ws (k * box_words + 3) (omega arith)
            ∙ t.bottom));
      }

-- ---- all lines

-- what each word takes of a point
abbrev pub left_by : Vec2 → ℕ
left_by p = edge_most - tile_at p.x

abbrev pub top_by : Vec2 → ℕ
top_by p = edge_most - tile_at p.y

abbrev pub right_by : Vec2 → ℕ
right_by p = tile_at p.x + 1

abbrev pub bottom_by : Vec2 → ℕ
bottom_by p = tile_at p.y + 1

module _ (nos : List ℕ) (coords : List Float) where
  pub length_line : (l : ℕ) (ws : List ℕ) → length (line_reach nos coords l ws) ≡ length ws
  unfolding line_reach
  length_line l ws = length_end _ _ _ ∙ length_end _ _ _

  pub length_gather : (more l : ℕ) (ws : List ℕ) → length (gather_from nos coords more l ws) ≡ length ws
  unfolding gather_from
  length_gather zero l ws = refl
  length_gather (suc more) l ws = length_gather more (suc l) (line_reach nos coords l ws) ∙ length_line l ws

  -- a turn of the loop over all lines
  pub gather_turn : (all l : ℕ) (ws : List ℕ) → l < all → gather_from nos coords (all - l) l ws ≡ gather_from nos coords (all - (l + 1)) (l + 1) (line_reach nos coords l ws)
  unfolding gather_from
  gather_turn all l ws h = let one_more : all - l ≡ suc (all - suc l) = omega arith in rw (one_more, add-one)

  pub gather_end : (all l : ℕ) (ws : List ℕ) → all ≤ l → gather_from nos coords (all - l) l ws ≡ ws
  unfolding gather_from
  gather_end all l ws h = let none_left : all - l ≡ 0 = omega arith in rw none_left

  -- words past those of n paths stay, where each line is of one of them
  pub gather_out : (n more l : ℕ) (ws : List ℕ) → ((i : ℕ) → l ≤ i → i < l + more → get_or nos i 0 < n) → (j : ℕ) → n * box_words ≤ j
      → get_or (gather_from nos coords more l ws) j 0 ≡ get_or ws j 0
  unfolding gather_from line_reach
  gather_out n zero l ws f j h = refl
  gather_out n (suc more) l ws f j h =
      let k : get_or nos l 0 < n = f l (omega arith) (omega arith) in
      gather_out n more (suc l) (line_reach nos coords l ws) (λ i p q. f i (omega arith) (omega arith)) j h
      ∙ end_out (get_or nos l 0) (line_at coords l).p1 (end_reach (get_or nos l 0) (line_at coords l).p0 ws) j (omega arith)
      ∙ end_out (get_or nos l 0) (line_at coords l).p0 ws j (omega arith)

  -- path k's words, after a line of it and after another
  pub line_own : (k l : ℕ) (ws : List ℕ) (a b c d : ℕ) → get_or nos l 0 ≡ k → k * box_words + box_words ≤ length ws → Told ws k a b c d
      → Told (line_reach nos coords l ws) k (max (max a (left_by (line_at coords l).p0)) (left_by (line_at coords l).p1))
      (max (max b (top_by (line_at coords l).p0)) (top_by (line_at coords l).p1)) (max (max c (right_by (line_at coords l).p0)) (right_by (line_at coords l).p1))
      (max (max d (bottom_by (line_at coords l).p0)) (bottom_by (line_at coords l).p1))
  unfolding line_reach
  line_own k l ws a b c d e h t =
      let p = (line_at coords l).p0 in
      let long : k * box_words + box_words ≤ length (end_reach k p ws) = omega (arith, length_end k p ws) in
      rw e (end_own k (line_at coords l).p1 (end_reach k p ws) (max a (left_by p)) (max b (top_by p)) (max c (right_by p)) (max d (bottom_by p)) long
      (end_own k p ws a b c d h t))

  pub line_other : (k l : ℕ) (ws : List ℕ) (a b c d : ℕ) → k ≢ get_or nos l 0 → Told ws k a b c d → Told (line_reach nos coords l ws) k a b c d
  unfolding line_reach
  line_other k l ws a b c d n t =
      end_other (get_or nos l 0) (line_at coords l).p1 (end_reach (get_or nos l 0) (line_at coords l).p0 ws) k a b c d n
      (end_other (get_or nos l 0) (line_at coords l).p0 ws k a b c d n t)
