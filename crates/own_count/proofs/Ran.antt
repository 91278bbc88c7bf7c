-- Acts on the words of tiles: one act, and acts one after another.
-- Assumes nothing.
use mathlib.Core.Path.{◌≡◌, refl, sym, ap, ◌∙◌, subst}
use mathlib.Core.Bool.{Bool, true, false}
use mathlib.Core.List.{List, [], ◌∷◌, ◌++◌}
use Prim.Native.Nat.{ℕ, ◌+◌, ◌-◌, ◌≤◌, ◌<◌, ◌^◌}
use native.Mathlib.Nat.{add-zero, add_assoc}
use native.Mathlib.Omega.{arith}
use lib.ListN.{length, get_or, set}
use lib.IntN.{ℤ, pos, negsuc, ◌+ℤ◌}
use borrow.Author.Tests.{lt-ltb, le-ltb}
use Rattle.lists.specs.Run.{Ran, done, refused, and_then}
use Rattle.panel.specs.Limits.{most_count}
use Rattle.panel.specs.Refusals.{count_over, sum_over, outside}
use Rattle.panel.specs.Signed.{in_i32}
use Rattle.panel.specs.Verdict.{Verdict}
use Rattle.panel.specs.Verdict.{Fine, Against}
use Rattle.acts.specs.Acts.{St, Act, mark, visit, Hit, off, step_acts, run_acts, verdict_of, delta_of}
use Rattle.acts.proofs.Laws.{runs_append}
use Rattle.own_count.specs.View.{back_of, view_of, KeptFrom, ActsRan, Acted}
use Rattle.own_count.proofs.Shown.{back_up, back_down, back_in, back_top, back_bottom, count_at, back_at, view_back, view_count, kept_refl, kept_set, kept_then}

-- ---- no act; an act that is refused

pub acts_none : (δ : ℤ) (n : ℕ) (ws : List ℕ) (k : ℕ) → k ≡ 0 → Acted δ [] n ws ws k Fine
unfolding run_acts
acts_none δ n ws k e = record { ran = λ l m. let z : m ≡ m + k = omega arith in ap (λ (j : ℕ). done (view_of n ws j)) z; above = kept_refl (n + n) ws }

pub acts_off : (δ : ℤ) (h : Hit) (i n : ℕ) (ws : List ℕ) (k : ℕ) → h ≡ off → Acted δ (step_acts h i) n ws ws k (Against outside)
unfolding run_acts
acts_off δ h i n ws k e = record { ran = λ l m. rw e; above = kept_refl (n + n) ws }

-- ---- one after another

said : (o : Ran St ℕ) (k : St → Ran St ℕ) (why : ℕ) → verdict_of o ≡ Against why → verdict_of (and_then o k) ≡ Against why
said (done s) k why e = let z : ◌≡◌ {A = ℕ} 0 1 = cc in absurd (omega arith)
said (refused s m) k why e = e

module _ (δ : ℤ) (xs ys : List Act) (n : ℕ) (us vs ws : List ℕ) where
  pub acts_then : (j k : ℕ) (v : Verdict) → Acted δ xs n us vs j Fine → Acted δ ys n vs ws k v → Acted δ (xs ++ ys) n us ws (j + k) v
  acts_then j k v a b = record { ran = go v b.ran; above = kept_then (n + n) us vs ws a.above b.above }
    where
      both : (l m : ℕ) → run_acts δ l (xs ++ ys) (view_of n us m) ≡ run_acts δ l ys (view_of n vs (m + j))
      both l m = runs_append δ l xs ys (view_of n us m) ∙ ap (λ (o : Ran St ℕ). and_then o (run_acts δ l ys)) (a.ran l m)

      go : (v : Verdict) → ActsRan δ ys n vs ws k v → ActsRan δ (xs ++ ys) n us ws (j + k) v
      go Fine r = λ l m. both l m ∙ r l (m + j) ∙ ap (λ (i : ℕ). done (view_of n ws i)) (add_assoc m j k)
      go (Against why) r = λ l m. ap verdict_of (both l m) ∙ r l (m + j)

  -- a refusal is kept
  pub acts_stop : (j k why : ℕ) → Acted δ xs n us vs j (Against why) → KeptFrom (n + n) vs ws → Acted δ (xs ++ ys) n us ws k (Against why)
  acts_stop j k why a b =
      record {
        ran = λ l m. ap verdict_of (runs_append δ l xs ys (view_of n us m)) ∙ said (run_acts δ l xs (view_of n us m)) (run_acts δ l ys) why (a.ran l m);
        above = kept_then (n + n) us vs ws a.above b;
      }

-- the same acts, and as many references, by other names
pub acts_same : (δ : ℤ) (xs ys : List Act) (n : ℕ) (us ws : List ℕ) (j k : ℕ) (v : Verdict) → xs ≡ ys → j ≡ k → Acted δ xs n us ws j v → Acted δ ys n us ws k v
acts_same δ xs ys n us ws j k v e f a = subst (λ (i : ℕ). Acted δ ys n us ws i v) f (subst (λ (zs : List Act). Acted δ zs n us ws j v) e a)

-- a refusal makes none
pub acts_any : (δ : ℤ) (xs : List Act) (n : ℕ) (us ws : List ℕ) (j k why : ℕ) → Acted δ xs n us ws j (Against why) → Acted δ xs n us ws k (Against why)
acts_any δ xs n us ws j k why a = record { ran = a.ran; above = a.above }

-- ---- a mark

module _ (δ : ℤ) (n t : ℕ) (ws : List ℕ) (h : t < n) (fits : n + n ≤ length ws) where
  -- backdrops that go to the word v
  pub mark_goes : (v : ℕ) → back_of (get_or ws (n + t) 0) +ℤ δ ≡ back_of v → v < 2 ^ 32 → Acted δ (mark t ∷ []) n ws (set ws (n + t) v) 0 Fine
  unfolding run_acts view_of
  mark_goes v e g = record { ran = λ l m. went l m; above = kept_set (n + n) ws (n + t) v (omega arith) }
    where
      sum : (m : ℕ) → get_or (view_of n ws m).backs t (pos 0) +ℤ δ ≡ back_of v
      sum m = ap (λ (b : ℤ). b +ℤ δ) (back_at n ws m fits t h) ∙ e

      went : (l m : ℕ) → run_acts δ l (mark t ∷ []) (view_of n ws m) ≡ done (view_of n (set ws (n + t) v) (m + 0))
      went l m =
          rw (sum m, back_in v g)
          (ap done (sym (view_back n ws m fits t v h)) ∙ ap (λ (j : ℕ). done (view_of n (set ws (n + t) v) j)) (sym (add-zero m)))

  -- or leave i32
  pub mark_stops : in_i32 (back_of (get_or ws (n + t) 0) +ℤ δ) ≡ false → Acted δ (mark t ∷ []) n ws ws 0 (Against sum_over)
  unfolding run_acts
  mark_stops e = record { ran = λ l m. stopped l m; above = kept_refl (n + n) ws }
    where
      stopped : (l m : ℕ) → verdict_of (run_acts δ l (mark t ∷ []) (view_of n ws m)) ≡ Against sum_over
      stopped l m = rw (back_at n ws m fits t h, e)

module _ (up : Bool) (n t : ℕ) (ws : List ℕ) (h : t < n) (fits : n + n ≤ length ws) (w : ℕ) (is : w ≡ get_or ws (n + t) 0) (small : w < 2 ^ 32) where
  pub up_goes : up ≡ true → (w ≡ 4294967295 → ⊥) → Acted (delta_of up) (mark t ∷ []) n ws (set ws (n + t) (w + 1)) 0 Fine
  up_goes e g =
      let k : w + 1 < 2 ^ 32 = omega (arith, g) in
      rw e (mark_goes (pos 1) n t ws h fits (w + 1) (ap (λ (x : ℕ). back_of x +ℤ pos 1) (sym is) ∙ back_up w) k)

  pub up_stops : up ≡ true → w ≡ 4294967295 → Acted (delta_of up) (mark t ∷ []) n ws ws 0 (Against sum_over)
  up_stops e g = rw e (mark_stops (pos 1) n t ws h fits (ap (λ (x : ℕ). in_i32 (back_of x +ℤ pos 1)) (sym is ∙ g) ∙ back_top))

  pub down_goes : up ≡ false → (w ≡ 0 → ⊥) → Acted (delta_of up) (mark t ∷ []) n ws (set ws (n + t) (w - 1)) 0 Fine
  down_goes e g =
      let k : w - 1 + 1 ≡ w = omega (arith, g) in
      rw e (mark_goes (negsuc 0) n t ws h fits (w - 1) (ap (λ (x : ℕ). back_of x +ℤ negsuc 0) (sym is ∙ sym k) ∙ back_down (w - 1)) (omega arith))

  pub down_stops : up ≡ false → w ≡ 0 → Acted (delta_of up) (mark t ∷ []) n ws ws 0 (Against sum_over)
  down_stops e g = rw e (mark_stops (negsuc 0) n t ws h fits (ap (λ (x : ℕ). in_i32 (back_of x +ℤ negsuc 0)) (sym is ∙ g) ∙ back_bottom))

-- ---- a visit

module _ (δ : ℤ) (i n t : ℕ) (ws : List ℕ) (h : t < n) (fits : n + n ≤ length ws) (w : ℕ) (is : w ≡ get_or ws t 0) where
  pub visit_goes : w < most_count → Acted δ (visit t i ∷ []) n ws (set ws t (w + 1)) 1 Fine
  unfolding run_acts view_of
  visit_goes g = record { ran = λ l m. went l m; above = kept_set (n + n) ws t (w + 1) (omega arith) }
    where
      at : (m : ℕ) → get_or (view_of n ws m).counts t 0 ≡ w
      at m = count_at n ws m fits t h ∙ sym is

      went : (l m : ℕ) → run_acts δ l (visit t i ∷ []) (view_of n ws m) ≡ done (view_of n (set ws t (w + 1)) (m + 1))
      went l m = rw (at m, lt-ltb w most_count g) (ap done (sym (view_count n ws (m + 1) fits t (w + 1) h)))

  pub visit_stops : most_count ≤ w → Acted δ (visit t i ∷ []) n ws ws 1 (Against count_over)
  unfolding run_acts
  visit_stops g = record { ran = λ l m. stopped l m; above = kept_refl (n + n) ws }
    where
      stopped : (l m : ℕ) → verdict_of (run_acts δ l (visit t i ∷ []) (view_of n ws m)) ≡ Against count_over
      stopped l m = rw (count_at n ws m fits t h ∙ sym is, le-ltb w most_count g)

-- ---- a turn: zs is to do, xs is done of it with the answer v, and ys is left

module _ (δ : ℤ) (xs ys zs : List Act) (n : ℕ) (us vs : List ℕ) (j : ℕ) (v : Verdict) (z : zs ≡ xs ++ ys) (a : Acted δ xs n us vs j v) where
  pub turn_goes : v ≡ Fine → (ws : List ℕ) (k m : ℕ) (u : Verdict) → j + k ≡ m → Acted δ ys n vs ws k u → Acted δ zs n us ws m u
  turn_goes e ws k m u f b =
      acts_same δ (xs ++ ys) zs n us ws (j + k) m u (sym z) f (acts_then δ xs ys n us vs ws j k u (subst (Acted δ xs n us vs j) e a) b)

  pub turn_stops : (why : ℕ) → v ≡ Against why → (m : ℕ) → Acted δ zs n us vs m (Against why)
  turn_stops why e m =
      acts_same δ (xs ++ ys) zs n us vs m m (Against why) (sym z) refl
      (acts_stop δ xs ys n us vs vs j m why (subst (Acted δ xs n us vs j) e a) (kept_refl (n + n) vs))

-- nothing is left
pub turn_ends : (δ : ℤ) (zs : List Act) (n : ℕ) (ws : List ℕ) (m : ℕ) → zs ≡ [] → m ≡ 0 → Acted δ zs n ws ws m Fine
turn_ends δ zs n ws m z e = acts_same δ [] zs n ws ws 0 m Fine (sym z) (sym e) (acts_none δ n ws 0 refl)
