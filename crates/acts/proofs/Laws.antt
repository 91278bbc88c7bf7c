-- Runs and checks of acts: of two lists one after another, of one turn of a loop, of row marks alone.
-- Assumes nothing.
use mathlib.Core.Path.{◌≡◌, refl, sym, ap, ◌∙◌}
use mathlib.Core.Bool.{Bool, true, false, not, cond, ◌&&◌}
use mathlib.Core.Logic.{◌⊎◌, inl, inr, ⊎_elim}
use mathlib.Core.List.{List, [], ◌∷◌, ◌++◌, append_assoc}
use Prim.Native.Nat.{ℕ, zero, suc, ◌+◌, ◌-◌, ◌*◌, ◌<◌, ◌≤◌}
use native.Mathlib.Nat.{mul-le-mul_right, suc-mul, mul_comm, zero-add, add-zero, suc-add, add-suc}
use native.Mathlib.Numerals.{add-one}
use native.Mathlib.Omega.{arith}
use lib.Dec.{ltb}
use lib.ListN.{get_or, set}
use lib.IntN.{ℤ, pos, ◌+ℤ◌}
use borrow.Author.Tests.{lt-ltb, le-ltb, ltb-true}
use Rattle.lists.specs.Run.{Ran, done, refused, and_then, on_step, run_append}
use Rattle.panel.specs.Limits.{most_count}
use Rattle.panel.specs.Refusals.{count_over, outside, sum_over}
use Rattle.panel.specs.Refs.{put_ref}
use Rattle.panel.specs.Verdict.{Verdict}
use Rattle.panel.specs.Verdict.{Fine, Against}
use Rattle.panel.specs.Signed.{in_i32}
use Rattle.panel.proofs.BoolLaws.{both}
use Rattle.acts.specs.Acts.{St, st_of, Act, mark, Hit, on, off, row_acts, cross_acts, step_acts, steps_acts, marked, packed, visited, take_if, act, run_acts, or_else, act_no, check_no, is_done}
use Rattle.acts.specs.Rows.{RowsIn}
use Rattle.acts.specs.declared.rows.Rows.{Rows}

pub false_true : false ≡ true → ⊥
false_true e = let z : ◌≡◌ {A = ℕ} 0 1 = cc in omega arith

-- ---- two lists, one after the other

pub runs_append : (δ : ℤ) (l : ℕ) (xs ys : List Act) (s : St) → run_acts δ l (xs ++ ys) s ≡ and_then (run_acts δ l xs s) (run_acts δ l ys)
unfolding run_acts
runs_append δ l xs ys s = run_append (act δ l) xs ys s

else_assoc : (a b c : Verdict) → or_else a (or_else b c) ≡ or_else (or_else a b) c
else_assoc Fine b c = refl
else_assoc (Against n) b c = refl

pub check_append : (δ : ℤ) (xs ys : List Act) (bs : List ℤ) (cs : List ℕ) → check_no δ (xs ++ ys) bs cs ≡ or_else (check_no δ xs bs cs) (check_no δ ys bs cs)
unfolding check_no
check_append δ [] ys bs cs = refl
check_append δ (a ∷ xs) ys bs cs =
    ap (or_else (act_no δ a bs cs)) (check_append δ xs ys bs cs)
    ∙ else_assoc (act_no δ a bs cs) (check_no δ xs bs cs) (check_no δ ys bs cs)

-- ---- one turn of a loop: zs is left, xs is what the turn does, and ys is left after it

module _ (f : ℕ → Hit) (i to : ℕ) where
  steps_next : (k : ℕ) → k ≡ suc (to - (i + 1)) → steps_acts f k i ≡ step_acts (f i) i ++ steps_acts f (to - (i + 1)) (i + 1)
  unfolding steps_acts
  steps_next k e = rw (e, add-one i)

  pub steps_turn : i < to → steps_acts f (to - i) i ≡ step_acts (f i) i ++ steps_acts f (to - (i + 1)) (i + 1)
  steps_turn h = steps_next (to - i) (omega arith)

  pub steps_end : to ≤ i → steps_acts f (to - i) i ≡ []
  unfolding steps_acts
  steps_end h = let e : to - i ≡ 0 = omega arith in rw e

-- the steps up to a middle, and then the rest
pub steps_split : (f : ℕ → Hit) (j k i : ℕ) → steps_acts f (j + k) i ≡ steps_acts f j i ++ steps_acts f k (i + j)
unfolding steps_acts
steps_split f zero k i = rw (zero-add k, add-zero i)
steps_split f (suc j) k i =
    rw (suc-add j k, steps_split f j k (suc i), suc-add i j, add-suc i j) (append_back (step_acts (f i) i) (steps_acts f j (suc i)) (steps_acts f k (suc (i + j))))
  where
    append_back : (a b c : List Act) → a ++ (b ++ c) ≡ (a ++ b) ++ c
    append_back a b c = sym (append_assoc a b c)

pub steps_halves : (f : ℕ → Hit) (a b c : ℕ) → a ≤ b → b ≤ c → steps_acts f (c - a) a ≡ steps_acts f (b - a) a ++ steps_acts f (c - b) b
steps_halves f a b c h k =
    let e : c - a ≡ b - a + (c - b) = omega arith in
    let g : a + (b - a) ≡ b = omega arith in
    ap (λ (n : ℕ). steps_acts f n a) e ∙ steps_split f (b - a) (c - b) a ∙ ap (λ (n : ℕ). steps_acts f (b - a) a ++ steps_acts f (c - b) n) g

-- steps that fall the same have the same acts
pub steps_same : (f g : ℕ → Hit) (k i : ℕ) → ((j : ℕ) → i ≤ j → j < i + k → f j ≡ g j) → steps_acts f k i ≡ steps_acts g k i
unfolding steps_acts
steps_same f g zero i h = refl
steps_same f g (suc k) i h =
    ap (λ (x : Hit). step_acts x i ++ steps_acts f k (suc i)) (h i (omega arith) (omega arith))
    ∙ ap (λ (r : List Act). step_acts (g i) i ++ r) (steps_same f g k (suc i) (λ j p q. h j (omega arith) (omega arith)))

module _ (first top width y : ℕ) where
  rows_next : (k m : ℕ) → k ≡ suc m → row_acts first top width k y ≡ (mark (first + (y - top) * width) ∷ []) ++ row_acts first top width m (y + 1)
  unfolding row_acts
  rows_next k m e = rw (e, add-one y)

  pub rows_turn : (high : ℕ) → y < high → row_acts first top width (high - y) y ≡ (mark (first + (y - top) * width) ∷ []) ++ row_acts first top width (high - (y + 1)) (y + 1)
  rows_turn high p = rows_next (high - y) (high - (y + 1)) (omega arith)

  pub rows_end : (high : ℕ) → high ≤ y → row_acts first top width (high - y) y ≡ []
  unfolding row_acts
  rows_end high p = let e : high - y ≡ 0 = omega arith in rw e

module _ (δ : ℤ) (xs ys zs : List Act) (z : zs ≡ xs ++ ys) where
  module _ (bs : List ℤ) (cs : List ℕ) (v all : Verdict) (inv : check_no δ zs bs cs ≡ all) (e : v ≡ check_no δ xs bs cs) where
    split : or_else v (check_no δ ys bs cs) ≡ all
    split =
        ap (λ (u : Verdict). or_else u (check_no δ ys bs cs)) e
        ∙ sym (check_append δ xs ys bs cs)
        ∙ ap (λ (l : List Act). check_no δ l bs cs) (sym z)
        ∙ inv

    pub check_goes : v ≡ Fine → check_no δ ys bs cs ≡ all
    check_goes f = ap (λ (u : Verdict). or_else u (check_no δ ys bs cs)) (sym f) ∙ split

    pub check_stops : (n : ℕ) → v ≡ Against n → v ≡ all
    check_stops n f = f ∙ ap (λ (u : Verdict). or_else u (check_no δ ys bs cs)) (sym f) ∙ split

  module _ (l : ℕ) (s : St) where
    parts : run_acts δ l zs s ≡ and_then (run_acts δ l xs s) (run_acts δ l ys)
    parts = ap (λ (a : List Act). run_acts δ l a s) z ∙ runs_append δ l xs ys s

    pub run_goes : (o : Ran St ℕ) (s' : St) → run_acts δ l zs s ≡ o → done s' ≡ run_acts δ l xs s → run_acts δ l ys s' ≡ o
    run_goes o s' inv e = ap (λ (u : Ran St ℕ). and_then u (run_acts δ l ys)) e ∙ sym parts ∙ inv

    pub run_first : is_done (run_acts δ l zs s) ≡ true → is_done (run_acts δ l xs s) ≡ true
    run_first h = go (run_acts δ l xs s) (ap is_done (sym parts) ∙ h)
      where
        go : (o : Ran St ℕ) → is_done (and_then o (run_acts δ l ys)) ≡ true → is_done o ≡ true
        go (refused s' n) f = f
        go (done s') f = refl

pub check_ends : (δ : ℤ) (zs : List Act) (bs : List ℤ) (cs : List ℕ) (all : Verdict) → zs ≡ [] → check_no δ zs bs cs ≡ all → Fine ≡ all
unfolding check_no
check_ends δ zs bs cs all z inv = sym (ap (λ (a : List Act). check_no δ a bs cs) z) ∙ inv

pub run_ends : (δ : ℤ) (l : ℕ) (zs : List Act) (s : St) (o : Ran St ℕ) → zs ≡ [] → run_acts δ l zs s ≡ o → done s ≡ o
unfolding run_acts
run_ends δ l zs s o z inv = sym (ap (λ (a : List Act). run_acts δ l a s) z) ∙ inv

-- ---- what a step's check says

flip : (b c : Bool) → c ≡ not b → c ≡ true → b ≡ false
flip false c e f = refl
flip true c e f = absurd (false_true (sym e ∙ f))

flop : (b c : Bool) → c ≡ not b → c ≡ false → b ≡ true
flop true c e f = refl
flop false c e f = absurd (false_true (sym f ∙ e))

module _ (δ : ℤ) (s : Hit) (i : ℕ) (bs : List ℤ) (cs : List ℕ) where
  pub check_off : s ≡ off → Against outside ≡ check_no δ (step_acts s i) bs cs
  unfolding check_no
  check_off e = rw e

  module _ (t : ℕ) (x : Bool) (e : s ≡ on t x) where
    pub check_full : most_count ≤ get_or cs t 0 → Against count_over ≡ check_no δ (step_acts s i) bs cs
    unfolding check_no
    check_full h = rw (e, le-ltb _ _ h)

    pub check_leaves : (c : Bool) → get_or cs t 0 < most_count → x ≡ true → c ≡ not (in_i32 (get_or bs (t + 1) (pos 0) +ℤ δ)) → c ≡ true → Against sum_over ≡ check_no δ (step_acts s i) bs cs
    unfolding check_no
    check_leaves c h f p q = rw (e, f, lt-ltb _ _ h, flip (in_i32 (get_or bs (t + 1) (pos 0) +ℤ δ)) c p q)

    pub check_cross : (c : Bool) → get_or cs t 0 < most_count → x ≡ true → c ≡ not (in_i32 (get_or bs (t + 1) (pos 0) +ℤ δ)) → c ≡ false → Fine ≡ check_no δ (step_acts s i) bs cs
    unfolding check_no
    check_cross c h f p q = rw (e, f, lt-ltb _ _ h, flop (in_i32 (get_or bs (t + 1) (pos 0) +ℤ δ)) c p q)

    pub check_plain : get_or cs t 0 < most_count → x ≡ false → Fine ≡ check_no δ (step_acts s i) bs cs
    unfolding check_no
    check_plain h f = rw (e, f, lt-ltb _ _ h)

-- ---- what the writes of a step lean on and come to

picked : (b : Bool) (s t : St) (n : ℕ) (k : St → Ran St ℕ) → is_done (on_step (take_if b t n) s k) ≡ true → b ≡ true
picked true s t n k h = refl
picked false s t n k h = h

module _ (δ : ℤ) (l : ℕ) (p : Hit) (i : ℕ) (bs : List ℤ) (cs rs : List ℕ) (at : ℕ) (h : is_done (run_acts δ l (step_acts p i) (st_of bs cs rs at)) ≡ true) where
  pub write_off : p ≡ off → ⊥
  unfolding run_acts
  write_off e = false_true (rw e at h)

  module _ (t : ℕ) (x : Bool) (e : p ≡ on t x) where
    on_done : is_done (run_acts δ l (step_acts (on t x) i) (st_of bs cs rs at)) ≡ true
    on_done = rw e at h

    pub write_count : get_or cs t 0 < most_count
    unfolding run_acts
    write_count = ltb-true _ _ (picked (ltb (get_or cs t 0) most_count) (st_of bs cs rs at) (visited l t i (st_of bs cs rs at)) count_over (run_acts δ l (cross_acts x t)) on_done)

    counted : run_acts δ l (step_acts (on t x) i) (st_of bs cs rs at) ≡ run_acts δ l (cross_acts x t) (visited l t i (st_of bs cs rs at))
    unfolding run_acts
    counted = rw (lt-ltb _ _ write_count)

    pub write_bump : x ≡ true → in_i32 (get_or bs (t + 1) (pos 0) +ℤ δ) ≡ true
    unfolding run_acts
    write_bump f =
        picked (in_i32 (get_or bs (t + 1) (pos 0) +ℤ δ)) (visited l t i (st_of bs cs rs at)) (marked δ (t + 1) (visited l t i (st_of bs cs rs at))) sum_over done
        (rw f at (ap is_done (sym counted) ∙ on_done))

    module _ (bs' : List ℤ) (cs' rs' : List ℕ) (ec : cs' ≡ set cs t (get_or cs t 0 + 1)) (er : rs' ≡ put_ref at l (packed (get_or cs t 0) i) rs) where
      pub write_cross : x ≡ true → bs' ≡ set bs (t + 1) (get_or bs (t + 1) (pos 0) +ℤ δ) → done (st_of bs' cs' rs' (at + 1)) ≡ run_acts δ l (step_acts p i) (st_of bs cs rs at)
      unfolding run_acts
      write_cross f eb = rw (e, counted, f, write_bump f, eb, ec, er)

      pub write_plain : x ≡ false → bs' ≡ bs → done (st_of bs' cs' rs' (at + 1)) ≡ run_acts δ l (step_acts p i) (st_of bs cs rs at)
      unfolding run_acts
      write_plain f eb = rw (e, counted, f, eb, ec, er)

-- ---- the same where the mark is tested, and made, without a branch

either_way : (x c : Bool) → (x && c) ≡ false → (x ≡ false) ⊎ ((x ≡ true) × (c ≡ false))
either_way false c e = inl refl
either_way true c e = inr (refl, e)

module _ (δ : ℤ) (s : Hit) (i : ℕ) (bs : List ℤ) (cs : List ℕ) (t : ℕ) (x : Bool) (e : s ≡ on t x) (c : Bool) (h : get_or cs t 0 < most_count)
    (p : c ≡ not (in_i32 (get_or bs (cond x (t + 1) t) (pos 0) +ℤ δ))) where
  pub check_marked : (x && c) ≡ true → Against sum_over ≡ check_no δ (step_acts s i) bs cs
  check_marked q = let b = both x c q in check_leaves δ s i bs cs t x e c h b.0 (rw b.0 at p) b.1

  pub check_passes : (x && c) ≡ false → Fine ≡ check_no δ (step_acts s i) bs cs
  check_passes q =
      ⊎_elim (λ f. check_plain δ s i bs cs t x e h f) (λ f. check_cross δ s i bs cs t x e c h f.0 (rw f.0 at p) f.1) (either_way x c q)

pub write_hit : (δ : ℤ) (l : ℕ) (p : Hit) (i : ℕ) (bs : List ℤ) (cs rs : List ℕ) (at : ℕ) → is_done (run_acts δ l (step_acts p i) (st_of bs cs rs at)) ≡ true
    → (t : ℕ) (x : Bool) → p ≡ on t x → (bs' : List ℤ) (cs' rs' : List ℕ) → cs' ≡ set cs t (get_or cs t 0 + 1)
    → rs' ≡ put_ref at l (packed (get_or cs t 0) i) rs
    → bs' ≡ cond x (set bs (t + 1) (get_or bs (t + 1) (pos 0) +ℤ δ)) bs → done (st_of bs' cs' rs' (at + 1)) ≡ run_acts δ l (step_acts p i) (st_of bs cs rs at)
write_hit δ l p i bs cs rs at h t true e bs' cs' rs' ec er eb = write_cross δ l p i bs cs rs at h t true e bs' cs' rs' ec er refl eb
write_hit δ l p i bs cs rs at h t false e bs' cs' rs' ec er eb = write_plain δ l p i bs cs rs at h t false e bs' cs' rs' ec er refl eb

-- a step's own tile is among so many where the one that it marks, or its own where it marks none, is
pub own_below : (marks : Bool) (t n : ℕ) → cond marks (t + 1) t < n → t < n
own_below true t n h = omega arith
own_below false t n h = h

-- ---- tiles of a box

-- a tile of a box lies within its range
pub tile_below : (w h y x : ℕ) → y < h → x < w → y * w + x < w * h
tile_below w h y x p q =
    let a : suc y * w ≤ h * w = mul-le-mul_right w p in
    let b : y * w + w ≡ suc y * w = sym (suc-mul y w) in
    omega (arith, mul_comm w h)

-- ---- row marks

pub row_below : (r : Rows) (n y : ℕ) → RowsIn r n → r.low ≤ y → y < r.high → r.first + (y - r.top) * r.width < n
row_below r n y k l h =
    let b : (y - r.top) * r.width + 0 < r.width * (k.bottom - r.top) = tile_below _ _ _ _ (omega (arith, k.above_bottom, k.below_top)) k.wide in
    omega (arith, k.tiles)

module _ (δ : ℤ) (t : ℕ) (bs : List ℤ) where
  pub row_leaves : (cs : List ℕ) (c : Bool) → c ≡ not (in_i32 (get_or bs t (pos 0) +ℤ δ)) → c ≡ true → Against sum_over ≡ check_no δ (mark t ∷ []) bs cs
  unfolding check_no
  row_leaves cs c p q = rw (flip (in_i32 (get_or bs t (pos 0) +ℤ δ)) c p q)

  pub row_stays : (cs : List ℕ) (c : Bool) → c ≡ not (in_i32 (get_or bs t (pos 0) +ℤ δ)) → c ≡ false → Fine ≡ check_no δ (mark t ∷ []) bs cs
  unfolding check_no
  row_stays cs c p q = rw (flop (in_i32 (get_or bs t (pos 0) +ℤ δ)) c p q)

  module _ (l : ℕ) (cs rs : List ℕ) (n : ℕ) where
    pub mark_ok : is_done (run_acts δ l (mark t ∷ []) (st_of bs cs rs n)) ≡ true → in_i32 (get_or bs t (pos 0) +ℤ δ) ≡ true
    unfolding run_acts
    mark_ok h = picked (in_i32 (get_or bs t (pos 0) +ℤ δ)) (st_of bs cs rs n) (marked δ t (st_of bs cs rs n)) sum_over done h

    pub mark_done : (bs' : List ℤ) → in_i32 (get_or bs t (pos 0) +ℤ δ) ≡ true → bs' ≡ set bs t (get_or bs t (pos 0) +ℤ δ) → done (st_of bs' cs rs n) ≡ run_acts δ l (mark t ∷ []) (st_of bs cs rs n)
    unfolding run_acts
    mark_done bs' h e = rw (h, e)

-- row marks look at the backdrops alone
abbrev with_rest : List ℕ → List ℕ → ℕ → Ran St ℕ → Ran St ℕ
with_rest cs rs n (done s) = done (st_of s.backs cs rs n)
with_rest cs rs n (refused s m) = refused (st_of s.backs cs rs n) m

row_turn : (b : Bool) (ds bs : List ℤ) (cs rs : List ℕ) (n : ℕ) (f g : St → Ran St ℕ) → f (st_of bs cs rs n) ≡ with_rest cs rs n (g (st_of bs [] [] 0))
    → on_step (take_if b (st_of bs cs rs n) sum_over) (st_of ds cs rs n) f ≡ with_rest cs rs n (on_step (take_if b (st_of bs [] [] 0) sum_over) (st_of ds [] [] 0) g)
row_turn true ds bs cs rs n f g e = e
row_turn false ds bs cs rs n f g e = refl

module _ (δ : ℤ) (l first top width : ℕ) where
  rows_frame : (k y : ℕ) (bs : List ℤ) (cs rs : List ℕ) (n : ℕ)
      → run_acts δ l (row_acts first top width k y) (st_of bs cs rs n) ≡ with_rest cs rs n (run_acts δ 0 (row_acts first top width k y) (st_of bs [] [] 0))
  unfolding run_acts row_acts
  rows_frame zero y bs cs rs n = refl
  rows_frame (suc k) y bs cs rs n =
      let t = first + (y - top) * width in
      row_turn (in_i32 (get_or bs t (pos 0) +ℤ δ)) bs (set bs t (get_or bs t (pos 0) +ℤ δ)) cs rs n
      (run_acts δ l (row_acts first top width k (suc y))) (run_acts δ 0 (row_acts first top width k (suc y)))
      (rows_frame k (suc y) (set bs t (get_or bs t (pos 0) +ℤ δ)) cs rs n)

  pub rows_done : (k y : ℕ) (bs : List ℤ) (cs rs : List ℕ) (n : ℕ)
      → is_done (run_acts δ l (row_acts first top width k y) (st_of bs cs rs n)) ≡ is_done (run_acts δ 0 (row_acts first top width k y) (st_of bs [] [] 0))
  rows_done k y bs cs rs n =
      ap is_done (rows_frame k y bs cs rs n) ∙ go (run_acts δ 0 (row_acts first top width k y) (st_of bs [] [] 0))
    where
      go : (o : Ran St ℕ) → is_done (with_rest cs rs n o) ≡ is_done o
      go (refused s m) = refl
      go (done s) = refl

  pub rows_out : (k y : ℕ) (bs bs' : List ℤ) (cs rs : List ℕ) (n : ℕ)
      → done (st_of bs' [] [] 0) ≡ run_acts δ 0 (row_acts first top width k y) (st_of bs [] [] 0)
      → done (st_of bs' cs rs n) ≡ run_acts δ l (row_acts first top width k y) (st_of bs cs rs n)
  rows_out k y bs bs' cs rs n e = ap (with_rest cs rs n) e ∙ sym (rows_frame k y bs cs rs n)
