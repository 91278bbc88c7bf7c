-- Refusals are exact: where backdrop, a range of references and a range of screen tiles stop. Assumes nothing.
use mathlib.Core.Path.{◌≡◌, refl, sym, ap, ◌∙◌}
use mathlib.Core.Logic.{◌≢◌, ◌↔◌}
use mathlib.Core.Bool.{Bool, true, false, cond}
use mathlib.Core.List.{List}
use Prim.Native.Nat.{ℕ, zero, suc, ◌+◌, ◌-◌, ◌%◌, ◌/◌, ◌≤◌, ◌<◌}
use native.Mathlib.Decide.{ℕ_discrete}
use native.Mathlib.Omega.{arith}
use lib.ListN.{length}
use lib.IntN.{ℤ}
use lib.Ieee.{Float}
use Rattle.lists.specs.Run.{Step, taken, halted, Ran, done, refused, run, on_step, and_then, run_append}
use Rattle.lists.specs.Sums.{from, from_add}
use Rattle.panel.specs.Refusals.{sum_over}
use Rattle.panel.specs.Paths.{path_at, path_count, paths_answer}
use Rattle.panel.specs.Answer.{Answer, Done, Refused}
use Rattle.panel.specs.Verdict.{Verdict}
use Rattle.backdrop.specs.Backdrop.{out_of, path_fits, path_sums, sum_paths, on_done, backdrop_of}
use Rattle.backdrop.proofs.CellLaws.{out_once}
use Rattle.looks.specs.Look.{Lent, look_of}
use Rattle.path_tiling.specs.Tiling.{look_then_word, range_of}
use Rattle.looks.specs.Looked as Lk
use Rattle.looks.specs.Looked.{Put, Empty, Against}
use Rattle.screen_tile.specs.Tile.{ends_at, tile_pixels}
use Rattle.fine.specs.Fine.{No, on_end, tile_step, tiles_of}
use Rattle.theorems.specs.Refusing.{PathsWhy, one, two, three, four, BackdropWhy, RangeWhy, TilesWhy}
use Rattle.theorems.proofs.Exact.{no_clash}
use Rattle.theorems.proofs.ExactPaths.{paths_exact}

-- ---- backdrop

module _ (ws : List ℕ) where
  record SumsWhy (n k : ℕ) (bs : List ℤ) (item : ℕ) (u : List ℤ) : Type 0 where
    pub at : ℕ
    pub inside : at < n
    pub is : k + at ≡ item
    pub before : sum_paths ws at k bs ≡ out_of Done u
    pub leaves : path_fits (path_at ws item) u ≡ false

  sums_why : (n k : ℕ) (bs : List ℤ) (m item : ℕ) (u : List ℤ) → sum_paths ws n k bs ≡ out_of (Refused m item) u → SumsWhy n k bs item u × (m ≡ sum_over)
  unfolding sum_paths
  sums_why zero k bs m item u e = let o = (out_once Done (Refused m item) bs u e).0 in no_clash cc
  sums_why (suc n) k bs m item u e = go (path_fits (path_at ws k) bs) refl e (sums_why n (suc k) (path_sums (path_at ws k) bs) m item u)
    where
      go : (b : Bool) → path_fits (path_at ws k) bs ≡ b
          → cond b (sum_paths ws n (suc k) (path_sums (path_at ws k) bs)) (out_of (Refused sum_over k) bs) ≡ out_of (Refused m item) u
          → (sum_paths ws n (suc k) (path_sums (path_at ws k) bs) ≡ out_of (Refused m item) u → SumsWhy n (suc k) (path_sums (path_at ws k) bs) item u × (m ≡ sum_over))
          → SumsWhy (suc n) k bs item u × (m ≡ sum_over)
      go true q d ih =
          let r = ih d in (
            record { at = suc r.0.at; inside = omega (arith, r.0.inside); is = omega (arith, r.0.is); before = rw q r.0.before; leaves = r.0.leaves },
            r.1,
          )
      go false q d ih =
          let o = out_once (Refused sum_over k) (Refused m item) bs u d in
          let p = o.0 in
          let i : k ≡ item = cc in
          let w : sum_over ≡ m = cc in
          (record { at = 0; inside = omega arith; is = omega arith; before = ap (out_of Done) o.1; leaves = rw (← i, ← o.1) q }, sym w)

  sums_halt : (n j k : ℕ) (bs u : List ℤ) → j < n → sum_paths ws j k bs ≡ out_of Done u → path_fits (path_at ws (k + j)) u ≡ false
      → sum_paths ws n k bs ≡ out_of (Refused sum_over (k + j)) u
  unfolding sum_paths
  sums_halt zero j k bs u h e f = absurd (omega arith)
  sums_halt (suc n) zero k bs u h e f =
      let z : k + 0 ≡ k = omega arith in
      let s : bs ≡ u = (out_once Done Done bs u e).1 in
      let g : path_fits (path_at ws k) bs ≡ false = rw (s, ← z) f in
      rw (g, z) (ap (out_of (Refused sum_over k)) s)
  sums_halt (suc n) (suc j) k bs u h e f = go (path_fits (path_at ws k) bs) refl e (sums_halt n j (suc k) (path_sums (path_at ws k) bs) u (omega arith))
    where
      z : k + suc j ≡ suc k + j
      z = omega arith

      go : (b : Bool) → path_fits (path_at ws k) bs ≡ b
          → cond b (sum_paths ws j (suc k) (path_sums (path_at ws k) bs)) (out_of (Refused sum_over k) bs) ≡ out_of Done u
          → (sum_paths ws j (suc k) (path_sums (path_at ws k) bs) ≡ out_of Done u → path_fits (path_at ws (suc k + j)) u ≡ false
          → sum_paths ws n (suc k) (path_sums (path_at ws k) bs) ≡ out_of (Refused sum_over (suc k + j)) u)
          → cond b (sum_paths ws n (suc k) (path_sums (path_at ws k) bs)) (out_of (Refused sum_over k) bs) ≡ out_of (Refused sum_over (k + suc j)) u
      go true q d ih = rw z (ih d (rw z at f))
      go false q d ih = let o = (out_once (Refused sum_over k) Done bs u d).0 in no_clash cc

-- 11 is exact
pub backdrop_exact : (ws : List ℕ) (bs : List ℤ) (k : ℕ) (u : List ℤ) → (backdrop_of ws bs ≡ out_of (Refused sum_over k) u) ↔ BackdropWhy ws bs k u
unfolding backdrop_of
backdrop_exact ws bs k u = (why, halts)
  where
    not_four : (n i : ℕ) → n ≡ sum_over → PathsWhy ws (length bs) n i → ⊥
    not_four n i e (one p q h) = omega arith
    not_four n i e (two p q h d) = omega arith
    not_four n i e (three p w h g x) = omega arith
    not_four n i e (four p w h g x y) = omega arith

    why : on_done (paths_answer ws (length bs)) bs (sum_paths ws (path_count ws) 0 bs) ≡ out_of (Refused sum_over k) u → BackdropWhy ws bs k u
    why e = go (paths_answer ws (length bs)) refl e
      where
        go : (a : Answer) → paths_answer ws (length bs) ≡ a → on_done a bs (sum_paths ws (path_count ws) 0 bs) ≡ out_of (Refused sum_over k) u → BackdropWhy ws bs k u
        go Done q d =
            let r = (sums_why ws (path_count ws) 0 bs sum_over k u d).0 in
            let z : r.at ≡ k = omega (arith, r.is) in
            record { passed = q; inside = omega (arith, r.inside); before = rw z at r.before; leaves = r.leaves }
        go (Refused n i) q d =
            let o = (out_once (Refused n i) (Refused sum_over k) bs u d).0 in
            let m : n ≡ sum_over = cc in
            absurd (not_four n i m ((paths_exact ws (length bs) n i).0 q))

    halts : BackdropWhy ws bs k u → on_done (paths_answer ws (length bs)) bs (sum_paths ws (path_count ws) 0 bs) ≡ out_of (Refused sum_over k) u
    halts r =
        let z : 0 + k ≡ k = omega arith in
        rw r.passed (rw z at (sums_halt ws (path_count ws) k 0 bs u r.inside r.before (rw z r.leaves)))

-- ---- a range of references

module _ (L : Lent) (slots : ℕ) where
  range_why : (n k why item : ℕ) → (range_of L slots n k).answer ≡ Refused why item → RangeWhy L slots n k why item
  unfolding range_of
  range_why zero k why item e = no_clash cc
  range_why (suc n) k why item e = go (look_of L slots k) refl e (range_why n (suc k) why item)
    where
      on : (l : Lk.Look) → look_of L slots k ≡ l → ((m : ℕ) → l ≢ Against m) → RangeWhy L slots n (suc k) why item → RangeWhy L slots (suc n) k why item
      on l q f r =
          record { low = omega (arith, r.low); high = omega (arith, r.high); before = λ j p h. pick j (ℕ_discrete k j) p h; halts = r.halts }
        where
          pick : (j : ℕ) → Dec (k ≡ j) → k ≤ j → j < item → (m : ℕ) → look_of L slots j ≢ Against m
          pick j (yes s) p h m d = f m (sym q ∙ ap (look_of L slots) s ∙ d)
          pick j (no s) p h m d = r.before j (omega arith) h m d

      go : (l : Lk.Look) → look_of L slots k ≡ l → (look_then_word L k l (range_of L slots n (suc k))).answer ≡ Refused why item
          → ((range_of L slots n (suc k)).answer ≡ Refused why item → RangeWhy L slots n (suc k) why item) → RangeWhy L slots (suc n) k why item
      go (Put slot s) q d ih = on (Put slot s) q (λ m f. no_clash cc) (ih d)
      go Empty q d ih = on Empty q (λ m f. no_clash cc) (ih d)
      go (Against m) q d ih =
          let i : k ≡ item = cc in
          let w : m ≡ why = cc in
          record { low = omega arith; high = omega arith; before = λ j p h. absurd (omega arith); halts = rw (← i, ← w) q }

  range_halts : (n k why item : ℕ) → RangeWhy L slots n k why item → (range_of L slots n k).answer ≡ Refused why item
  unfolding range_of
  range_halts zero k why item r = absurd (omega (arith, r.low, r.high))
  range_halts (suc n) k why item r = go (ℕ_discrete k item) (look_of L slots k) refl (range_halts n (suc k) why item)
    where
      later : k ≢ item → RangeWhy L slots n (suc k) why item
      later h = record { low = omega (arith, r.low); high = omega (arith, r.high); before = λ j p q. r.before j (omega arith) q; halts = r.halts }

      go : Dec (k ≡ item) → (l : Lk.Look) → look_of L slots k ≡ l → (RangeWhy L slots n (suc k) why item → (range_of L slots n (suc k)).answer ≡ Refused why item)
          → (look_then_word L k l (range_of L slots n (suc k))).answer ≡ Refused why item
      go (yes s) l q ih =
          let e : l ≡ Against why = sym q ∙ ap (look_of L slots) s ∙ r.halts in
          rw (e, s)
      go (no s) (Put slot x) q ih = ih (later s)
      go (no s) Empty q ih = ih (later s)
      go (no s) (Against m) q ih = absurd (r.before k (omega arith) (omega (arith, r.low)) m q)

  -- a range is refused before its first reference that is refused, with that one's number
  pub range_exact : (n k why item : ℕ) → ((range_of L slots n k).answer ≡ Refused why item) ↔ RangeWhy L slots n k why item
  range_exact n k why item = (range_why n k why item, range_halts n k why item)

-- ---- a range of screen tiles

module _ (words : List ℕ) (segs : List Float) (width cols : ℕ) where
  one_tile : (t : ℕ) (u : List ℕ) (n m : ℕ) → ends_at words segs t ≡ Verdict.Against n
      → on_step (tile_step words segs width cols t u) u (run (tile_step words segs width cols) (from (suc t) m)) ≡ refused u (record { number = n; tile = t })
  unfolding tile_step
  one_tile t u n m e = rw e

  step_why : (t : ℕ) (u : List ℕ) (r : No) → tile_step words segs width cols t u ≡ halted r → (ends_at words segs t ≡ Verdict.Against r.number) × (r.tile ≡ t)
  unfolding tile_step
  step_why t u r e = go (ends_at words segs t) e
    where
      go : (v : Verdict) → on_end v t (tile_pixels words segs t width (t % cols) (t / cols) u) ≡ halted r → (v ≡ Verdict.Against r.number) × (r.tile ≡ t)
      go Verdict.Fine d = no_clash cc
      go (Verdict.Against n) d = let w : record { number = n; tile = t } ≡ r = cc in (ap (λ (x : No). Verdict.Against x.number) w, sym (ap (λ (x : No). x.tile) w))

  tiles_from : (n a : ℕ) (pixels u : List ℕ) (r : No) → run (tile_step words segs width cols) (from a n) pixels ≡ refused u r
      → (j : ℕ) × (j < n) × (run (tile_step words segs width cols) (from a j) pixels ≡ done u) × (ends_at words segs (a + j) ≡ Verdict.Against r.number) × (r.tile ≡ a + j)
  tiles_from zero a pixels u r e = no_clash cc
  tiles_from (suc n) a pixels u r e = go (tile_step words segs width cols a pixels) refl e (tiles_from n (suc a))
    where
      go : (o : Step (List ℕ) No) → tile_step words segs width cols a pixels ≡ o
          → on_step o pixels (run (tile_step words segs width cols) (from (suc a) n)) ≡ refused u r
          → ((pixels u : List ℕ) (r : No) → run (tile_step words segs width cols) (from (suc a) n) pixels ≡ refused u r
          → (j : ℕ) × (j < n) × (run (tile_step words segs width cols) (from (suc a) j) pixels ≡ done u) × (ends_at words segs (suc a + j) ≡ Verdict.Against r.number) × (r.tile ≡ suc a + j))
          → (j : ℕ) × (j < suc n) × (run (tile_step words segs width cols) (from a j) pixels ≡ done u) × (ends_at words segs (a + j) ≡ Verdict.Against r.number) × (r.tile ≡ a + j)
      go (taken t) q d ih =
          let w = ih t u r d in
          let z : suc a + w.0 ≡ a + suc w.0 = omega arith in
          (suc w.0, omega (arith, w.1), ap (λ (o : Step (List ℕ) No). on_step o pixels (run (tile_step words segs width cols) (from (suc a) w.0))) q ∙ w.2, rw z at w.3, w.4 ∙ z)
      go (halted r') q d ih =
          let z : a + 0 ≡ a = omega arith in
          let s : pixels ≡ u = cc in
          let w : r' ≡ r = cc in
          let k = step_why a pixels r (q ∙ ap halted w) in
          (0, omega arith, ap done s, rw z k.0, k.1 ∙ sym z)

  -- a range of screen tiles is refused before its first tile that is refused, with the first refusal that its commands meet
  pub tiles_exact : (a b : ℕ) (pixels u : List ℕ) (why tile : ℕ)
      → (tiles_of words segs width cols a b pixels ≡ refused u (record { number = why; tile = tile })) ↔ TilesWhy words segs width cols a b pixels u why tile
  unfolding tiles_of
  tiles_exact a b pixels u why tile = (told, back)
    where
      told : run (tile_step words segs width cols) (from a (b - a)) pixels ≡ refused u (record { number = why; tile = tile }) → TilesWhy words segs width cols a b pixels u why tile
      told e =
          let w = tiles_from (b - a) a pixels u (record { number = why; tile = tile }) e in
          let z : a + w.0 ≡ tile = sym w.4 in
          let y : w.0 ≡ tile - a = omega arith in
          record { low = omega arith; high = omega (arith, w.1); before = rw y at w.2; halts = rw z at w.3 }

      back : TilesWhy words segs width cols a b pixels u why tile → run (tile_step words segs width cols) (from a (b - a)) pixels ≡ refused u (record { number = why; tile = tile })
      back r =
          let n : b - a ≡ (tile - a) + suc (b - suc tile) = omega (arith, r.low, r.high) in
          let m : a + (tile - a) ≡ tile = omega (arith, r.low) in
          let f = tile_step words segs width cols in
          ap (λ (k : ℕ). run f (from a k) pixels) n
          ∙ ap (λ (l : List ℕ). run f l pixels) (from_add a (tile - a) (suc (b - suc tile)))
          ∙ run_append f (from a (tile - a)) (from (a + (tile - a)) (suc (b - suc tile))) pixels
          ∙ ap (λ (o : Ran (List ℕ) No). and_then o (run f (from (a + (tile - a)) (suc (b - suc tile))))) r.before
          ∙ ap (λ (k : ℕ). run f (from k (suc (b - suc tile))) u) m
          ∙ one_tile tile u why (b - suc tile) r.halts
