-- Beam isolation: a line changes no tile but its own path's, so a path's counts and backdrops hang on its own lines alone. And the order of lines:
-- it changes neither. Assumes nothing.
use mathlib.Core.Path.{◌≡◌, refl, sym, ap, ◌∙◌}
use mathlib.Core.Logic.{◌≢◌}
use mathlib.Core.Bool.{Bool, true, false}
use mathlib.Core.List.{List, [], ◌∷◌, Perm}
use Prim.Native.Nat.{ℕ, zero, suc, ◌+◌, ◌-◌, ◌<◌}
use native.Mathlib.Decide.{ℕ_discrete}
use native.Mathlib.Omega.{arith}
use lib.ListN.{length, get_or, replicate, length-set, length-replicate}
use lib.Seq.{get_or-set_same, get_or-set_other}
use lib.IntN.{ℤ, pos, ◌+ℤ◌}
use lib.Ieee.{Float}
use borrow.Author.Tests.{eqb-false}
use Rattle.lists.specs.Run.{taken, All, act_all, sift, keep_if}
use Rattle.lists.specs.Occ.{is, occ, is_same, is_other, occ_none}
use Rattle.lists.specs.Tally.{tally, tally_at, length_tally, zeros}
use Rattle.lists.specs.Order as Order
use Rattle.lists.specs.Order.{add_at_word, counts_any_order, backs_any_order}
use Rattle.panel.specs.Paths.{path_at, path_count, tile_of, paths_answer}
use Rattle.panel.specs.Answer.{Done}
use Rattle.panel.proofs.PathLaws.{Checked, checked, one_path, InBox}
use Rattle.backdrop.specs.Backdrop.{backdrop_at, backdrop_of, out_of}
use Rattle.backdrop.proofs.CellLaws.{backdrop_cell, sum_of_same, row_start, row_held}
use Rattle.acts.specs.Acts.{St}
use Rattle.walked_lines.specs.Line.{line_step}
use Rattle.theorems.specs.Drawn.{Drawn, drawn_at, drawn, tiles_of, marks_of, is_of, of_path, InPath, OwnLine}
use Rattle.theorems.specs.Refs.{AllCounted}
use Rattle.theorems.proofs.Counting.{lined}
use Rattle.theorems.proofs.SumLaws.{passed, counted_all}

-- ---- one tile seen

-- what marks add at tile t
abbrev pub add_if : ℕ → ℤ → ℤ → ℤ
add_if zero v w = w
add_if (suc k) v w = w +ℤ v

abbrev pub marks_at : ℕ → List (ℕ × ℤ) → ℤ → ℤ
marks_at t [] w = w
marks_at t (m ∷ ms) w = marks_at t ms (add_if (is m.0 t) m.1 w)

add_at : (t : ℕ) (m : ℕ × ℤ) (l : List ℤ) → t < length l → get_or (add_at_word (pos 0) ◌+ℤ◌ m l) t (pos 0) ≡ add_if (is m.0 t) m.1 (get_or l t (pos 0))
add_at t m l h = go (ℕ_discrete m.0 t)
  where
    go : Dec (m.0 ≡ t) → get_or (add_at_word (pos 0) ◌+ℤ◌ m l) t (pos 0) ≡ add_if (is m.0 t) m.1 (get_or l t (pos 0))
    go (yes e) = rw (is_same m.0 t e, e, get_or-set_same l t (get_or l t (pos 0) +ℤ m.1) (pos 0) h)
    go (no e) = rw (is_other m.0 t e) (get_or-set_other l m.0 t (get_or l m.0 (pos 0) +ℤ m.1) (pos 0) (λ q. e (sym q)))

marks_at_lem : (t : ℕ) (ms : List (ℕ × ℤ)) (l : List ℤ) → t < length l
    → (get_or (Order.mark ms l) t (pos 0) ≡ marks_at t ms (get_or l t (pos 0))) × (length (Order.mark ms l) ≡ length l)
marks_at_lem t [] l h = (refl, refl)
marks_at_lem t (m ∷ ms) l h =
    let e : length (add_at_word (pos 0) ◌+ℤ◌ m l) ≡ length l = length-set l m.0 (get_or l m.0 (pos 0) +ℤ m.1) in
    let r = marks_at_lem t ms (add_at_word (pos 0) ◌+ℤ◌ m l) (omega arith) in
    (r.0 ∙ ap (marks_at t ms) (add_at t m l h), r.1 ∙ e)

-- marks elsewhere add nothing
pub marks_none : (t : ℕ) (ms : List (ℕ × ℤ)) → All (λ m. m.0 ≢ t) ms → (w : ℤ) → marks_at t ms w ≡ w
marks_none t [] h w = refl
marks_none t (m ∷ ms) h w = rw (is_other m.0 t h.0) (marks_none t ms h.1 w)

module _ (paths : List ℕ) (t : ℕ) where
  pub count_seen : (ds : List Drawn) (c : List ℕ) → t < length c
      → get_or (act_all (λ d c. tally c (tiles_of paths d)) ds c) t 0 ≡ act_all (λ d w. w + occ t (tiles_of paths d)) ds (get_or c t 0)
  count_seen [] c h = refl
  count_seen (d ∷ ds) c h =
      count_seen ds (tally c (tiles_of paths d)) (omega (arith, length_tally c (tiles_of paths d)))
      ∙ ap (act_all (λ d w. w + occ t (tiles_of paths d)) ds) (tally_at c (tiles_of paths d) t h)

  pub back_seen : (ds : List Drawn) (b : List ℤ) → t < length b
      → get_or (act_all (λ d. Order.mark (marks_of paths d)) ds b) t (pos 0) ≡ act_all (λ d. marks_at t (marks_of paths d)) ds (get_or b t (pos 0))
  back_seen [] b h = refl
  back_seen (d ∷ ds) b h =
      let r = marks_at_lem t (marks_of paths d) b h in
      back_seen ds (Order.mark (marks_of paths d) b) (omega (arith, r.1)) ∙ ap (act_all (λ d. marks_at t (marks_of paths d)) ds) r.0

-- records that do nothing where the test fails: then only the others count
pub only : {A W : Type 0} (act : A → W → W) (keep : A → Bool) (xs : List A) → All (λ x. keep x ≡ false → (w : W) → act x w ≡ w) xs → (w : W)
    → act_all act xs w ≡ act_all act (sift keep xs) w
only act keep [] h w = refl
only {A} {W} act keep (x ∷ xs) h w = go (only act keep xs h.1) (keep x) refl
  where
    go : ((v : W) → act_all act xs v ≡ act_all act (sift keep xs) v) → (b : Bool) → keep x ≡ b → act_all act xs (act x w) ≡ act_all act (keep_if b x (sift keep xs)) w
    go ih true e = ih (act x w)
    go ih false e = ap (act_all act xs) (h.0 e w) ∙ ih w

-- ---- lines of another path

module _ (paths : List ℕ) (n : ℕ) (c : Checked paths n) (p t : ℕ) (tin : InPath paths p t) where
  -- a tile of another path is not t
  apart : (q u : ℕ) → q ≢ p → InPath paths q u → u ≢ t
  apart q u h i e = h (one_path paths n c q p t i.0 tin.0 (rw e at i.1, rw e at i.2) (tin.1, tin.2))

  visits_apart : (q : ℕ) → q ≢ p → (ts : List ℕ) → All (InPath paths q) ts → All (λ u. u ≢ t) ts
  visits_apart q h [] o = tt
  visits_apart q h (u ∷ ts) o = (apart q u h o.0, visits_apart q h ts o.1)

  marks_apart : (q : ℕ) → q ≢ p → (ms : List (ℕ × ℤ)) → All (λ m. InPath paths q m.0) ms → All (λ m. m.0 ≢ t) ms
  marks_apart q h [] o = tt
  marks_apart q h (m ∷ ms) o = (apart q m.0 h o.0, marks_apart q h ms o.1)

  no_visits : (ds : List Drawn) → All (OwnLine paths) ds → All (λ d. is_of p d ≡ false → (w : ℕ) → w + occ t (tiles_of paths d) ≡ w) ds
  no_visits [] o = tt
  no_visits (d ∷ ds) o = (
    (λ e w. omega (arith, occ_none t (tiles_of paths d) (visits_apart d.path (eqb-false d.path p e) (tiles_of paths d) o.0.visits))),
    no_visits ds o.1,
  )

  no_marks : (ds : List Drawn) → All (OwnLine paths) ds → All (λ d. is_of p d ≡ false → (w : ℤ) → marks_at t (marks_of paths d) w ≡ w) ds
  no_marks [] o = tt
  no_marks (d ∷ ds) o = (
    (λ e w. marks_none t (marks_of paths d) (marks_apart d.path (eqb-false d.path p e) (marks_of paths d) o.0.marks) w),
    no_marks ds o.1,
  )

-- ---- a line leaves what is not its path's alone

module _ (nos : List ℕ) (coords : List Float) (paths : List ℕ) (n : ℕ) (passed : paths_answer paths n ≡ Done) (room l : ℕ) (s u : St)
    (e : line_step nos coords paths room l l s ≡ taken u) where
  not_own : (t : ℕ) → (InPath paths (get_or nos l 0) t → ⊥) → (v : ℕ) → InPath paths (get_or nos l 0) v → v ≢ t
  not_own t h v i q = h (rw q at i)

  -- every tile of any path but its own, and every tile of none, keeps its count and its backdrop
  pub line_elsewhere : (t : ℕ) → (InPath paths (get_or nos l 0) t → ⊥) → t < length s.counts → t < length s.backs
      → (get_or u.counts t 0 ≡ get_or s.counts t 0) × (get_or u.backs t (pos 0) ≡ get_or s.backs t (pos 0))
  line_elsewhere t h k j =
      let r = lined nos coords paths n passed room l s u e in
      let d = drawn_at nos coords l in (
        ap (λ (c : List ℕ). get_or c t 0) r.counts ∙ tally_at s.counts (tiles_of paths d) t k
            ∙ omega (arith, occ_none t (tiles_of paths d) (all_not (tiles_of paths d) r.line.visits)),
        ap (λ (c : List ℤ). get_or c t (pos 0)) r.backs ∙ (marks_at_lem t (marks_of paths d) s.backs j).0
            ∙ marks_none t (marks_of paths d) (marks_not (marks_of paths d) r.line.marks) (get_or s.backs t (pos 0)),
      )
    where
      all_not : (ts : List ℕ) → All (InPath paths (get_or nos l 0)) ts → All (λ v. v ≢ t) ts
      all_not [] o = tt
      all_not (v ∷ ts) o = (not_own t h v o.0, all_not ts o.1)

      marks_not : (ms : List (ℕ × ℤ)) → All (λ m. InPath paths (get_or nos l 0) m.0) ms → All (λ m. m.0 ≢ t) ms
      marks_not [] o = tt
      marks_not (m ∷ ms) o = (not_own t h m.0 o.0, marks_not ms o.1)

-- ---- two runs

pub zero_at : (k t : ℕ) → get_or (replicate k (pos 0)) t (pos 0) ≡ pos 0
zero_at zero t = refl
zero_at (suc k) zero = refl
zero_at (suc k) (suc t) = zero_at k t

module _ (b : ℕ) (nos : List ℕ) (coords : List Float) (paths : List ℕ) (n : ℕ) (refs : List ℕ) (bs : List ℤ) (cs rs : List ℕ) (m : ℕ)
    (all : AllCounted b nos coords paths n refs bs cs rs m) where
  pub seen_count : (p t : ℕ) → InPath paths p t → t < n → get_or cs t 0 ≡ act_all (λ d w. w + occ t (tiles_of paths d)) (of_path p (drawn nos coords b)) 0
  seen_count p t i h =
      let r = counted_all b nos coords paths n refs bs cs rs m all in
      let c = checked paths n (passed b nos coords paths n refs bs cs rs m all) in
      let z : get_or (zeros n) t 0 ≡ 0 = Rattle.lists.specs.Tally.zeros_at n t in
      let k : length (zeros n) ≡ n = length-replicate n 0 in
      ap (λ (l : List ℕ). get_or l t 0) r.counts ∙ count_seen paths t (drawn nos coords b) (zeros n) (omega arith)
      ∙ ap (act_all (λ d w. w + occ t (tiles_of paths d)) (drawn nos coords b)) z
      ∙ only (λ d w. w + occ t (tiles_of paths d)) (is_of p) (drawn nos coords b) (no_visits paths n c p t i (drawn nos coords b) r.lines) 0

  pub seen_back : (p t : ℕ) → InPath paths p t → t < n → get_or bs t (pos 0) ≡ act_all (λ d. marks_at t (marks_of paths d)) (of_path p (drawn nos coords b)) (pos 0)
  seen_back p t i h =
      let r = counted_all b nos coords paths n refs bs cs rs m all in
      let c = checked paths n (passed b nos coords paths n refs bs cs rs m all) in
      let k : length (replicate n (pos 0)) ≡ n = length-replicate n (pos 0) in
      ap (λ (l : List ℤ). get_or l t (pos 0)) r.backs ∙ back_seen paths t (drawn nos coords b) (replicate n (pos 0)) (omega arith)
      ∙ ap (act_all (λ d. marks_at t (marks_of paths d)) (drawn nos coords b)) (zero_at n t)
      ∙ only (λ d. marks_at t (marks_of paths d)) (is_of p) (drawn nos coords b) (no_marks paths n c p t i (drawn nos coords b) r.lines) (pos 0)

  in_tiles : (p t : ℕ) → InPath paths p t → t < n
  in_tiles p t i =
      let f = (checked paths n (passed b nos coords paths n refs bs cs rs m all)).fits p i.0 in
      omega (arith, i.2, f.within)

module _
    (paths : List ℕ) (n : ℕ)
    (b : ℕ) (nos : List ℕ) (coords : List Float) (refs : List ℕ) (bs : List ℤ) (cs rs : List ℕ) (m : ℕ)
    (b' : ℕ) (nos' : List ℕ) (coords' : List Float) (refs' : List ℕ) (bs' : List ℤ) (cs' rs' : List ℕ) (m' : ℕ)
    (all : AllCounted b nos coords paths n refs bs cs rs m)
    (all' : AllCounted b' nos' coords' paths n refs' bs' cs' rs' m')
  where
    -- Beam isolation: two lists whose lines of path p are the same, in order, whatever the lines of other paths; no line is refused in either. Then
    -- path p's counts and backdrops are alike
    pub isolated : (p : ℕ) → of_path p (drawn nos coords b) ≡ of_path p (drawn nos' coords' b') → (t : ℕ) → InPath paths p t
        → (get_or cs t 0 ≡ get_or cs' t 0) × (get_or bs t (pos 0) ≡ get_or bs' t (pos 0))
    isolated p e t i =
        let h = in_tiles b nos coords paths n refs bs cs rs m all p t i in (
          seen_count b nos coords paths n refs bs cs rs m all p t i h
              ∙ ap (λ (ds : List Drawn). act_all (λ d w. w + occ t (tiles_of paths d)) ds 0) e
              ∙ sym (seen_count b' nos' coords' paths n refs' bs' cs' rs' m' all' p t i h),
          seen_back b nos coords paths n refs bs cs rs m all p t i h
              ∙ ap (λ (ds : List Drawn). act_all (λ d. marks_at t (marks_of paths d)) ds (pos 0)) e
              ∙ sym (seen_back b' nos' coords' paths n refs' bs' cs' rs' m' all' p t i h),
        )

    -- and so are its backdrops after the sums, where those are done
    pub isolated_sums : (p : ℕ) → of_path p (drawn nos coords b) ≡ of_path p (drawn nos' coords' b') → p < path_count paths
        → (ds ds' : List ℤ) → backdrop_of paths bs ≡ out_of Done ds → backdrop_of paths bs' ≡ out_of Done ds'
        → (x y : ℕ) → InBox (path_at paths p) x y → backdrop_at ds (tile_of (path_at paths p) x y) ≡ backdrop_at ds' (tile_of (path_at paths p) x y)
    isolated_sums p e k ds ds' f g x y i =
        backdrop_cell paths bs ds f p x y k i
        ∙ sum_of_same (suc (x - (path_at paths p).x0)) (row_start (path_at paths p) y) bs bs'
        (λ t lo hi. let r = row_held (path_at paths p) x y t i lo hi in (isolated p e t (k, r.0, r.1)).1)
        ∙ sym (backdrop_cell paths bs' ds' g p x y k i)

    -- The order of lines: the same lines in two orders, none refused in either, leave the same counts and the same backdrops, and so the same sums
    pub any_order : Perm (drawn nos coords b) (drawn nos' coords' b') → (cs ≡ cs') × (bs ≡ bs') × (backdrop_of paths bs ≡ backdrop_of paths bs')
    any_order o =
        let r = counted_all b nos coords paths n refs bs cs rs m all in
        let r' = counted_all b' nos' coords' paths n refs' bs' cs' rs' m' all' in
        let e : bs ≡ bs' = r.backs ∙ backs_any_order (marks_of paths) o (replicate n (pos 0)) ∙ sym r'.backs in
        (r.counts ∙ counts_any_order (tiles_of paths) o (zeros n) ∙ sym r'.counts, e, ap (backdrop_of paths) e)
