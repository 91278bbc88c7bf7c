-- Refusals are exact: 1 to 4, of the paths lent, and what each call checks first. Assumes nothing.
use mathlib.Core.Path.{◌≡◌, refl, sym, ap, ◌∙◌}
use mathlib.Core.Logic.{◌≢◌, ◌↔◌, ◌⊎◌, inl, inr}
use mathlib.Core.Bool.{Bool, true, false, cond, false≢true}
use mathlib.Core.List.{List, [], ◌∷◌}
use Prim.Native.Nat.{ℕ, zero, suc, ◌+◌, ◌-◌, ◌%◌, ◌≤◌, ◌<◌}
use native.Mathlib.Decide.{dec_lt, ℕ_discrete}
use native.Mathlib.Omega.{arith}
use lib.Dec.{leb, eqb}
use lib.ListN.{length}
use lib.IntN.{ℤ}
use lib.Ieee.{Float}
use Rattle.panel.specs.Pieces.{Pieces}
use borrow.Author.Tests.{le-leb, lt-leb, leb-true, leb-false, eq-eqb, ne_eqb}
use Rattle.panel.specs.Limits.{most_paths, most_tiles, edge_most}
use Rattle.panel.specs.Refusals.{not_whole, too_many, bad_box, bad_range}
use Rattle.panel.specs.Widths.{path_words}
use Rattle.panel.specs.Checks.{Check, first_no, unless}
use Rattle.panel.specs.Paths.{path_at, path_count, end_of, box_fits, path_checks, paths_from, paths_answer}
use Rattle.panel.specs.declared.kinds.Path.{Path}
use Rattle.panel.specs.Verdict.{Verdict, Fine, Against}
use Rattle.panel.specs.Answer.{Done, Refused}
use Rattle.panel.proofs.PathLaws.{box_fits_lem, from_turn, from_no}
use Rattle.panel.specs.Kinds.{paper_of}
use Rattle.acts.specs.Acts.{St}
use Rattle.looks.specs.Look.{Lent}
use Rattle.path_tiling.specs.Tiling.{checks_of}
use Rattle.path_tiling.proofs.CallLaws.{Whole}
use Rattle.coverage.specs.Fill.{fill_checks, fill_of}
use Rattle.path_count.specs.Count as Count
use Rattle.path_count.specs.Count.{call_answer}
use Rattle.theorems.specs.Refusing.{RowWhy, GoodBox, end_before, PathGood, PathsWhole, PathsWhy, one, two, three, four}
use Rattle.theorems.proofs.Exact.{no_clash, row_exact}

-- the panel's test of a box
pub box_exact : (p : Path) → (box_fits p ≡ true) ↔ GoodBox p
box_exact p = (
  (λ e. let b = box_fits_lem p e in record { across = b.0; right = b.1; down = b.2; bottom = b.3 }),
  (λ g. rw (
    le-leb p.x0 edge_most (omega (arith, g.across, g.right)),
    le-leb p.y0 edge_most (omega (arith, g.down, g.bottom)),
    le-leb p.x1 edge_most g.right,
    le-leb p.y1 edge_most g.bottom,
    le-leb p.x0 p.x1 g.across,
    le-leb p.y0 p.y1 g.down,
  )),
)

-- one path: its three checks
path_good : (p : Path) (end tiles : ℕ) → GoodBox p → end ≤ p.first → end_of p ≤ tiles → first_no (path_checks p end tiles) ≡ Fine
path_good p end tiles g h k = rw ((box_exact p).1 g, le-leb end p.first h, le-leb (end_of p) tiles k)

path_three : (p : Path) (end tiles : ℕ) → (GoodBox p → ⊥) → first_no (path_checks p end tiles) ≡ Against bad_box
path_three p end tiles g = go (box_fits p) refl
  where
    go : (b : Bool) → box_fits p ≡ b → first_no (path_checks p end tiles) ≡ Against bad_box
    go true e = absurd (g ((box_exact p).0 e))
    go false e = rw e

path_four : (p : Path) (end tiles : ℕ) → GoodBox p → ((p.first < end) ⊎ (tiles < end_of p)) → first_no (path_checks p end tiles) ≡ Against bad_range
path_four p end tiles g (inl h) = rw ((box_exact p).1 g, lt-leb end p.first h)
path_four p end tiles g (inr h) = go (leb end p.first)
  where
    go : (b : Bool) → cond (box_fits p) (cond b (cond (leb (end_of p) tiles) Fine (Against bad_range)) (Against bad_range)) (Against bad_box) ≡ Against bad_range
    go true = rw ((box_exact p).1 g, lt-leb (end_of p) tiles h)
    go false = rw ((box_exact p).1 g)

-- which of the three fails
data PathCase (p : Path) (end tiles : ℕ) : Verdict → Type 0 where
  good : GoodBox p → end ≤ p.first → end_of p ≤ tiles → PathCase p end tiles Fine
  box : (GoodBox p → ⊥) → PathCase p end tiles (Against bad_box)
  range : GoodBox p → ((p.first < end) ⊎ (tiles < end_of p)) → PathCase p end tiles (Against bad_range)

path_case : (p : Path) (end tiles : ℕ) → PathCase p end tiles (first_no (path_checks p end tiles))
path_case p end tiles = go (box_fits p) refl (leb end p.first) refl (leb (end_of p) tiles) refl
  where
    go : (a : Bool) → box_fits p ≡ a → (b : Bool) → leb end p.first ≡ b → (c : Bool) → leb (end_of p) tiles ≡ c
        → PathCase p end tiles (cond a (cond b (cond c Fine (Against bad_range)) (Against bad_range)) (Against bad_box))
    go false e b f c g = box (λ h. false≢true (sym e ∙ (box_exact p).1 h))
    go true e false f c g = range ((box_exact p).0 e) (inl (leb-false end p.first f))
    go true e true f false g = range ((box_exact p).0 e) (inr (leb-false (end_of p) tiles g))
    go true e true f true g = good ((box_exact p).0 e) (leb-true end p.first f) (leb-true (end_of p) tiles g)

module _ (ws : List ℕ) (tiles : ℕ) where
  -- paths that are good are passed over
  from_good : (n k : ℕ) → k ≤ n → ((j : ℕ) → j < k → PathGood ws tiles j) → paths_from ws tiles n 0 0 ≡ paths_from ws tiles (n - k) k (end_before ws k)
  from_good n zero h g = let z : n - 0 ≡ n = omega arith in rw z
  from_good n (suc k) h g =
      let here = g k (omega arith) in
      let z : k + 1 ≡ suc k = omega arith in
      from_good n k (omega arith) (λ j q. g j (omega arith))
      ∙ (rw z at (from_turn ws tiles n k (end_before ws k) (omega arith) (path_good (path_at ws k) (end_before ws k) tiles here.box here.after here.within)))

  -- and where the first is not, it is that path's refusal
  record FromWhy (n k why item : ℕ) : Type 0 where
    pub low : k ≤ item
    pub high : item < k + n
    pub before : (j : ℕ) → k ≤ j → j < item → PathGood ws tiles j
    pub halts : first_no (path_checks (path_at ws item) (end_before ws item) tiles) ≡ Against why

  from_why : (n k why item : ℕ) → paths_from ws tiles n k (end_before ws k) ≡ Refused why item → FromWhy n k why item
  unfolding paths_from
  from_why zero k why item e = no_clash cc
  from_why (suc n) k why item e =
      go (first_no (path_checks (path_at ws k) (end_before ws k) tiles)) refl (path_case (path_at ws k) (end_before ws k) tiles) e (from_why n (suc k) why item)
    where
      go : (v : Verdict) → first_no (path_checks (path_at ws k) (end_before ws k) tiles) ≡ v → PathCase (path_at ws k) (end_before ws k) tiles v
          → unless v k (paths_from ws tiles n (suc k) (end_of (path_at ws k))) ≡ Refused why item
          → (paths_from ws tiles n (suc k) (end_before ws (suc k)) ≡ Refused why item → FromWhy n (suc k) why item) → FromWhy (suc n) k why item
      go Fine q (good a b c) d ih =
          let r = ih d in
          record {
            low = omega (arith, r.low);
            high = omega (arith, r.high);
            before = λ j p h. pick j (ℕ_discrete k j) p h r.before;
            halts = r.halts;
          }
        where
          pick : (j : ℕ) → Dec (k ≡ j) → k ≤ j → j < item → ((i : ℕ) → suc k ≤ i → i < item → PathGood ws tiles i) → PathGood ws tiles j
          pick j (yes s) p h f = rw (← s) record { box = a; after = b; within = c }
          pick j (no s) p h f = f j (omega arith) h
      go (Against m) q c d ih =
          let i : k ≡ item = cc in
          let w : m ≡ why = cc in
          record { low = omega arith; high = omega arith; before = λ j p h. absurd (omega arith); halts = rw (← i, ← w) q }

  -- the checks of the whole
  lent_one : length ws % path_words ≢ 0 → paths_answer ws tiles ≡ Refused not_whole 0
  unfolding paths_answer
  lent_one h = rw (ne_eqb (length ws % path_words) 0 h)

  lent_two : length ws % path_words ≡ 0 → ((most_paths < path_count ws) ⊎ (most_tiles < tiles)) → paths_answer ws tiles ≡ Refused too_many 0
  unfolding paths_answer
  lent_two h (inl k) = rw (eq-eqb (length ws % path_words) 0 h, lt-leb (path_count ws) most_paths k)
  lent_two h (inr k) = go (leb (path_count ws) most_paths)
    where
      go : (b : Bool)
          → unless (cond (eqb (length ws % path_words) 0) (cond b (cond (leb tiles most_tiles) Fine (Against too_many)) (Against too_many)) (Against not_whole)) 0 (paths_from ws tiles (path_count ws) 0 0)
          ≡ Refused too_many 0
      go true = rw (eq-eqb (length ws % path_words) 0 h, lt-leb tiles most_tiles k)
      go false = rw (eq-eqb (length ws % path_words) 0 h)

  lent_fine : PathsWhole ws tiles → paths_answer ws tiles ≡ paths_from ws tiles (path_count ws) 0 0
  unfolding paths_answer
  lent_fine w = rw (eq-eqb (length ws % path_words) 0 w.whole, le-leb (path_count ws) most_paths w.few, le-leb tiles most_tiles w.tiled)

  -- Refusals 1 to 4 are exact
  pub paths_exact : (n k : ℕ) → (paths_answer ws tiles ≡ Refused n k) ↔ PathsWhy ws tiles n k
  paths_exact n k = (why, halts)
    where
      at_path : PathsWhole ws tiles → FromWhy (path_count ws) 0 n k → PathsWhy ws tiles n k
      at_path w r = go (first_no (path_checks (path_at ws k) (end_before ws k) tiles)) (path_case (path_at ws k) (end_before ws k) tiles) r.halts
        where
          good_before : (j : ℕ) → j < k → PathGood ws tiles j
          good_before j h = r.before j (omega arith) h

          inside : k < path_count ws
          inside = omega (arith, r.high)

          go : (v : Verdict) → PathCase (path_at ws k) (end_before ws k) tiles v → v ≡ Against n → PathsWhy ws tiles n k
          go Fine c e = no_clash cc
          go (Against m) (box g) e = three (cc) w inside good_before g
          go (Against m) (range g h) e = four (cc) w inside good_before g h

      why : paths_answer ws tiles ≡ Refused n k → PathsWhy ws tiles n k
      why e = go (ℕ_discrete (length ws % path_words) 0) (dec_lt most_paths (path_count ws)) (dec_lt most_tiles tiles)
        where
          go : Dec (length ws % path_words ≡ 0) → Dec (most_paths < path_count ws) → Dec (most_tiles < tiles) → PathsWhy ws tiles n k
          go (no a) b c = let f : Refused not_whole 0 ≡ Refused n k = sym (lent_one a) ∙ e in one (cc) (cc) a
          go (yes a) (yes b) c = let f : Refused too_many 0 ≡ Refused n k = sym (lent_two a (inl b)) ∙ e in two (cc) (cc) a (inl b)
          go (yes a) (no b) (yes c) = let f : Refused too_many 0 ≡ Refused n k = sym (lent_two a (inr c)) ∙ e in two (cc) (cc) a (inr c)
          go (yes a) (no b) (no c) =
              let w : PathsWhole ws tiles = record { whole = a; few = omega arith; tiled = omega arith } in
              at_path w (from_why (path_count ws) 0 n k (sym (lent_fine w) ∙ e))

      at_k : (m : ℕ) → PathsWhole ws tiles → k < path_count ws → ((j : ℕ) → j < k → PathGood ws tiles j)
          → first_no (path_checks (path_at ws k) (end_before ws k) tiles) ≡ Against m → paths_answer ws tiles ≡ Refused m k
      at_k m w h g f = lent_fine w ∙ from_good (path_count ws) k (omega arith) g ∙ from_no ws tiles (path_count ws) k (end_before ws k) m h f

      halts : PathsWhy ws tiles n k → paths_answer ws tiles ≡ Refused n k
      halts (one p q h) = lent_one h ∙ rw (p, q)
      halts (two p q h d) = lent_two h d ∙ rw (p, q)
      halts (three p w h g x) = at_k bad_box w h g (path_three (path_at ws k) (end_before ws k) tiles x) ∙ rw p
      halts (four p w h g x y) = at_k bad_range w h g (path_four (path_at ws k) (end_before ws k) tiles x y) ∙ rw p

-- ---- what counting checks before its first line: 1 of the lengths lent and of the range, then the paths

pub call_exact : (nos : List ℕ) (coords : List Float) (paths : List ℕ) (a b : ℕ) (s : St) (n item : ℕ)
    → (call_answer nos coords paths a b s ≡ Refused n item)
    ↔ ((RowWhy n (Count.lent_checks (length nos) (length coords) (length s.backs) (length s.counts) (length s.refs) a b) × (item ≡ 0))
    ⊎ ((first_no (Count.lent_checks (length nos) (length coords) (length s.backs) (length s.counts) (length s.refs) a b) ≡ Fine)
    × PathsWhy paths (length s.counts) n item))
unfolding call_answer
call_exact nos coords paths a b s n item = (why (first_no row) refl, halts)
  where
    row : List Check
    row = Count.lent_checks (length nos) (length coords) (length s.backs) (length s.counts) (length s.refs) a b

    why : (v : Verdict) → first_no row ≡ v → unless v 0 (paths_answer paths (length s.counts)) ≡ Refused n item
        → (RowWhy n row × (item ≡ 0)) ⊎ ((first_no row ≡ Fine) × PathsWhy paths (length s.counts) n item)
    why Fine q e = inr (q, (paths_exact paths (length s.counts) n item).0 e)
    why (Against m) q e =
        let w : m ≡ n = cc in
        let z : 0 ≡ item = cc in
        inl ((row_exact n row).0 (q ∙ ap Against w), sym z)

    halts : (RowWhy n row × (item ≡ 0)) ⊎ ((first_no row ≡ Fine) × PathsWhy paths (length s.counts) n item)
        → unless (first_no row) 0 (paths_answer paths (length s.counts)) ≡ Refused n item
    halts (inl h) = rw ((row_exact n row).1 h.0, h.1)
    halts (inr h) = rw h.0 ((paths_exact paths (length s.counts) n item).1 h.1)

-- ---- what tiling checks before its first reference: 1 of the lengths lent and of the range, then the paths

pub tiling_exact : (from to : ℕ) (L : Lent) (p : Pieces) (n item : ℕ)
    → (checks_of from to L p ≡ Refused n item)
    ↔ (((Whole from to L p ≡ false) × (n ≡ not_whole) × (item ≡ 0)) ⊎ ((Whole from to L p ≡ true) × PathsWhy L.paths (length L.stored) n item))
unfolding checks_of
tiling_exact from to L p n item = (why (Whole from to L p) refl, halts)
  where
    why : (b : Bool) → Whole from to L p ≡ b → cond b (paths_answer L.paths (length L.stored)) (Refused not_whole 0) ≡ Refused n item
        → ((Whole from to L p ≡ false) × (n ≡ not_whole) × (item ≡ 0)) ⊎ ((Whole from to L p ≡ true) × PathsWhy L.paths (length L.stored) n item)
    why true q e = inr (q, (paths_exact L.paths (length L.stored) n item).0 e)
    why false q e =
        let w : not_whole ≡ n = cc in
        let z : 0 ≡ item = cc in
        inl (q, sym w, sym z)

    halts : ((Whole from to L p ≡ false) × (n ≡ not_whole) × (item ≡ 0)) ⊎ ((Whole from to L p ≡ true) × PathsWhy L.paths (length L.stored) n item)
        → cond (Whole from to L p) (paths_answer L.paths (length L.stored)) (Refused not_whole 0) ≡ Refused n item
    halts (inl h) = rw (h.0, h.1, h.2)
    halts (inr h) = rw h.0 ((paths_exact L.paths (length L.stored) n item).1 h.1)

-- ---- coverage: 1, then 13

pub fill_exact : (segs : List Float) (first m : ℕ) (even_odd : Bool) (backdrop : ℤ) (x y : Float) (area : List Float) (n : ℕ)
    → ((fill_of segs first m even_odd backdrop x y area).answer ≡ n ∷ 0 ∷ []) ↔ RowWhy n (fill_checks segs (length area) first m)
unfolding fill_of
fill_exact segs first m even_odd backdrop x y area n = (why (first_no row) refl, halts)
  where
    row : List Check
    row = fill_checks segs (length area) first m

    why : (v : Verdict) → first_no row ≡ v → paper_of (unless v 0 Done) ≡ n ∷ 0 ∷ [] → RowWhy n row
    why Fine q e = no_clash cc
    why (Against k) q e = let w : k ≡ n = cc in (row_exact n row).0 (q ∙ ap Against w)

    halts : RowWhy n row → paper_of (unless (first_no row) 0 Done) ≡ n ∷ 0 ∷ []
    halts h = rw ((row_exact n row).1 h)
