-- The words of tiles as counting's state has them: a backdrop's word, one more and one less; what a store does to the state.
-- Assumes nothing.
use mathlib.Core.Path.{◌≡◌, refl, sym, ap, ap₂, ◌∙◌}
use mathlib.Core.Bool.{Bool, true, false, cond}
use mathlib.Core.Logic.{◌⊎◌, inl, inr}
use mathlib.Core.List.{List, [], ◌∷◌, map}
use Prim.Native.Nat.{ℕ, zero, suc, ◌+◌, ◌-◌, ◌≤◌, ◌<◌, ◌^◌}
use native.Mathlib.Nat.{not-suc-le-zero, le_of_suc-le-suc}
use native.Mathlib.Omega.{arith}
use lib.Dec.{ltb}
use lib.ListN.{length, get_or, set, take, drop, replicate, length-set, length-take, length-drop, length-map, length-replicate, get_or-replicate}
use lib.Seq.{get_or-set_same, get_or-set_other, take-set-le, take-set-lt, drop-set-lt, drop-set-add, get_or-take, get_or-drop, ext_get_or}
use lib.IntN.{ℤ, pos, negsuc, suc_ℤ, pred_ℤ, ◌+ℤ◌, +ℤ_one, -ℤ_one, pred-suc}
use borrow.Author.Tests.{ltb-true, ltb-false}
use Rattle.float32.proofs.Tests.{below_or_not}
use Rattle.panel.specs.Signed.{in_i32}
use Rattle.panel.proofs.SignLaws.{mag_in}
use Rattle.acts.specs.Acts.{st_of}
use Rattle.own_count.specs.Own.{zeroed}
use Rattle.own_count.specs.View.{zero_back, back_of, view_of, KeptFrom, Filled}

-- ---- a backdrop's word

pub back_suc : (w : ℕ) → back_of (w + 1) ≡ suc_ℤ (back_of w)
unfolding back_of
back_suc w = go (ltb w zero_back) refl (ltb (w + 1) zero_back) refl
  where
    go : (a : Bool) → ltb w zero_back ≡ a → (b : Bool) → ltb (w + 1) zero_back ≡ b
        → cond b (negsuc (zero_back - suc (w + 1))) (pos (w + 1 - zero_back)) ≡ suc_ℤ (cond a (negsuc (zero_back - suc w)) (pos (w - zero_back)))
    go true e true f = let g : zero_back - suc w ≡ suc (zero_back - suc (w + 1)) = omega (arith, ltb-true (w + 1) zero_back f) in rw g
    go true e false f =
        let g : zero_back - suc w ≡ 0 = omega (arith, ltb-false (w + 1) zero_back f) in
        let h : w + 1 - zero_back ≡ 0 = omega (arith, ltb-true w zero_back e) in
        rw (g, h)
    go false e true f = absurd (omega (arith, ltb-false w zero_back e, ltb-true (w + 1) zero_back f))
    go false e false f = let g : w + 1 - zero_back ≡ suc (w - zero_back) = omega (arith, ltb-false w zero_back e) in rw g

pub back_up : (w : ℕ) → back_of w +ℤ pos 1 ≡ back_of (w + 1)
back_up w = +ℤ_one (back_of w) ∙ sym (back_suc w)

pub back_down : (w : ℕ) → back_of (w + 1) +ℤ negsuc 0 ≡ back_of w
back_down w = -ℤ_one (back_of (w + 1)) ∙ ap pred_ℤ (back_suc w) ∙ pred-suc (back_of w)

pub back_in : (w : ℕ) → w < 2 ^ 32 → in_i32 (back_of w) ≡ true
unfolding back_of
back_in w h = go (ltb w zero_back) refl
  where
    go : (a : Bool) → ltb w zero_back ≡ a → in_i32 (cond a (negsuc (zero_back - suc w)) (pos (w - zero_back))) ≡ true
    go true e = mag_in (negsuc (zero_back - suc w)) (omega arith)
    go false e = mag_in (pos (w - zero_back)) (omega (arith, ltb-false w zero_back e))

-- at the ends
pub back_top : in_i32 (back_of 4294967295 +ℤ pos 1) ≡ false
unfolding back_of
back_top = refl

pub back_bottom : in_i32 (back_of 0 +ℤ negsuc 0) ≡ false
unfolding back_of
back_bottom = refl

pub back_zero : back_of zero_back ≡ pos 0
unfolding back_of
back_zero = refl

-- ---- the state that words show

map_at : (ws : List ℕ) (t : ℕ) → t < length ws → get_or (map back_of ws) t (pos 0) ≡ back_of (get_or ws t 0)
map_at [] t h = absurd (not-suc-le-zero h)
map_at (w ∷ ws) zero h = refl
map_at (w ∷ ws) (suc t) h = map_at ws t (le_of_suc-le-suc h)

map_set : (ws : List ℕ) (t v : ℕ) → map back_of (set ws t v) ≡ set (map back_of ws) t (back_of v)
map_set [] t v = refl
map_set (w ∷ ws) zero v = refl
map_set (w ∷ ws) (suc t) v = ap (λ (l : List ℤ). back_of w ∷ l) (map_set ws t v)

module _ (n : ℕ) (ws : List ℕ) (m : ℕ) (fits : n + n ≤ length ws) where
  pub count_at : (t : ℕ) → t < n → get_or (view_of n ws m).counts t 0 ≡ get_or ws t 0
  unfolding view_of
  count_at t h = get_or-take n ws t 0 h

  pub back_at : (t : ℕ) → t < n → get_or (view_of n ws m).backs t (pos 0) ≡ back_of (get_or ws (n + t) 0)
  unfolding view_of
  back_at t h =
      map_at (take n (drop n ws)) t (simp (length-take, length-drop) (omega arith))
      ∙ ap back_of (get_or-take n (drop n ws) t 0 h ∙ get_or-drop n ws t 0)

  backs_long : length (view_of n ws m).backs ≡ n
  unfolding view_of
  backs_long = length-map (take n (drop n ws)) back_of ∙ length-take n (drop n ws) ∙ simp length-drop (omega arith)

  counts_long : length (view_of n ws m).counts ≡ n
  unfolding view_of
  counts_long = length-take n ws ∙ omega arith

  shown : view_of n ws m ≡ st_of (view_of n ws m).backs (view_of n ws m).counts [] m
  unfolding view_of
  shown = refl

  -- a store to a tile's backdrop
  pub view_back : (t v : ℕ) → t < n → view_of n (set ws (n + t) v) m ≡ st_of (set (view_of n ws m).backs t (back_of v)) (view_of n ws m).counts [] m
  unfolding view_of
  view_back t v h =
      ap₂ (λ (bs : List ℤ) (cs : List ℕ). st_of bs cs [] m)
      (ap (λ (l : List ℕ). map back_of (take n l)) (drop-set-add n ws t v)
      ∙ ap (map back_of) (take-set-lt n (drop n ws) t v h)
      ∙ map_set (take n (drop n ws)) t v)
      (take-set-le n ws (n + t) v (omega arith))

  -- and to its count
  pub view_count : (t v : ℕ) → t < n → view_of n (set ws t v) m ≡ st_of (view_of n ws m).backs (set (view_of n ws m).counts t v) [] m
  unfolding view_of
  view_count t v h =
      ap₂ (λ (bs : List ℤ) (cs : List ℕ). st_of bs cs [] m)
      (ap (λ (l : List ℕ). map back_of (take n l)) (drop-set-lt n ws t v h))
      (take-set-lt n ws t v h)

  -- and to a word behind them
  pub view_kept : (k v : ℕ) → n + n ≤ k → view_of n (set ws k v) m ≡ view_of n ws m
  unfolding view_of
  view_kept k v h =
      let e : n + (k - n) ≡ k = omega arith in
      ap₂ (λ (bs : List ℤ) (cs : List ℕ). st_of bs cs [] m)
      (ap (λ (j : ℕ). map back_of (take n (drop n (set ws j v)))) (sym e)
      ∙ ap (λ (l : List ℕ). map back_of (take n l)) (drop-set-add n ws (k - n) v)
      ∙ ap (map back_of) (take-set-le n (drop n ws) (k - n) v (omega arith)))
      (take-set-le n ws k v (omega arith))

  -- all counts 0, and all backdrops
  pub view_zero : ((t : ℕ) → t < n → get_or ws t 0 ≡ 0) → ((t : ℕ) → t < n → get_or ws (n + t) 0 ≡ zero_back) → m ≡ 0 → view_of n ws m ≡ zeroed n
  view_zero zc zb e =
      shown
      ∙ ap₂ (λ (bs : List ℤ) (cs : List ℕ). st_of bs cs [] m)
      (ext_get_or (pos 0) (view_of n ws m).backs (replicate n (pos 0)) (backs_long ∙ sym (length-replicate n (pos 0)))
      (λ t h. let g : t < n = omega (arith, backs_long) in back_at t g ∙ ap back_of (zb t g) ∙ back_zero ∙ sym (get_or-replicate n t (pos 0) (pos 0) g)))
      (ext_get_or 0 (view_of n ws m).counts (replicate n 0) (counts_long ∙ sym (length-replicate n 0))
      (λ t h. let g : t < n = omega (arith, counts_long) in count_at t g ∙ zc t g ∙ sym (get_or-replicate n t 0 0 g)))
      ∙ ap (st_of (replicate n (pos 0)) (replicate n 0) []) e

-- ---- words behind a place stay

pub kept_refl : (a : ℕ) (ws : List ℕ) → KeptFrom a ws ws
kept_refl a ws = record { same_length = refl; kept = λ k h. refl }

pub kept_set : (a : ℕ) (ws : List ℕ) (i v : ℕ) → i < a → KeptFrom a ws (set ws i v)
kept_set a ws i v h = record { same_length = length-set ws i v; kept = λ k g. get_or-set_other ws i k v 0 (λ e. absurd (omega arith)) }

pub kept_then : (a : ℕ) (us vs ws : List ℕ) → KeptFrom a us vs → KeptFrom a vs ws → KeptFrom a us ws
kept_then a us vs ws p q = record { same_length = q.same_length ∙ p.same_length; kept = λ k h. q.kept k h ∙ p.kept k h }

-- ---- words that are filled

pub fill_none : (a v : ℕ) (ws : List ℕ) → Filled a 0 v ws ws
fill_none a v ws = record { same_length = refl; filled = λ k h. absurd (not-suc-le-zero h); before = λ k h. refl }

pub fill_more : (a k v : ℕ) (us ws : List ℕ) → a + k < length ws → Filled a k v us ws → Filled a (k + 1) v us (set ws (a + k) v)
fill_more a k v us ws h f =
    record {
      same_length = length-set ws (a + k) v ∙ f.same_length;
      filled = λ j g. go j g (below_or_not j k);
      before = λ j g. get_or-set_other ws (a + k) j v 0 (λ e. absurd (omega arith)) ∙ f.before j g;
    }
  where
    go : (j : ℕ) → j < k + 1 → (j < k) ⊎ (k ≤ j) → get_or (set ws (a + k) v) (a + j) 0 ≡ v
    go j g (inl p) = get_or-set_other ws (a + k) (a + j) v 0 (λ e. absurd (omega arith)) ∙ f.filled j p
    go j g (inr p) = let e : j ≡ k = omega arith in rw e (get_or-set_same ws (a + k) v 0 h)
