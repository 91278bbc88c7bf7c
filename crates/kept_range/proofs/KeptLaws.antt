-- The range of a path that is there, kept, cleared and given back, by what its lines come to. Assumes nothing.
use mathlib.Core.Path.{◌≡◌, refl, sym, ap, ap₂, ◌∙◌}
use mathlib.Core.List.{List, [], ◌∷◌}
use Prim.Native.Nat.{ℕ, ◌+◌, ◌/◌, ◌<◌, ◌≤◌}
use native.Mathlib.Omega.{arith}
use lib.ListN.{length, get_or}
use lib.IntN.{ℤ, pos}
use lib.Ieee.{Float}
use mathlib.Core.Bool.{true, false}
use Rattle.std.proofs.Common.{Result, Ok, Err}
use Rattle.std.specs.Result.{is_err}
use Rattle.lists.specs.Run.{Ran, done, refused}
use Rattle.ranges.specs.Ranges.{cleared_of, copied_of}
use Rattle.panel.specs.Refusals.{done_no}
use Rattle.panel.specs.Widths.{ref_words}
use Rattle.panel.specs.Paths.{path_at, path_count}
use Rattle.panel.specs.declared.kinds.Path.{Path}
use Rattle.panel.proofs.PathLaws.{checked}
use Rattle.acts.specs.Acts.{St, st_of}
use Rattle.acts.specs.Line.{Refusal}
use Rattle.walked_lines.specs.Line.{Lent}
use Rattle.path_count.specs.Count.{Told, told_of}
use Rattle.new_lines.specs.Own.{paper_of, made_of, lines_told, lines_ran}
use Rattle.new_lines.specs.Recounted.{Recounted}
use Rattle.new_lines.specs.Recounted.{Done, Refused}
use Rattle.kept_range.specs.Kept.{out_of, tiles_in, cleared_for, kept_from, ran_out, redrawn_of}

-- ---- the range of a path that is there

module _ (p : ℕ) (paths : List ℕ) (nb nt : ℕ) (lent : Lent paths nb nt) (h : p < path_count paths) where
  -- its box is in order
  pub in_order : ((path_at paths p).x0 ≤ (path_at paths p).x1) × ((path_at paths p).y0 ≤ (path_at paths p).y1)
  in_order = let f = (checked paths nt lent.passed).fits p h in (f.across, f.down)

  -- n tiles from tile a on, among as many backdrops and counts as are lent
  module _ (a n : ℕ) (ea : a ≡ (path_at paths p).first) (en : n ≡ tiles_in (path_at paths p)) where
    pub in_counts : a + n ≤ nt
    in_counts = rw (ea, en) ((checked paths nt lent.passed).fits p h).within

    pub in_backs : a + n ≤ nb
    in_backs = rw lent.paired in_counts

    -- a slice as long as the range has room for it
    pub in_kept : (k : ℕ) → k ≡ tiles_in (path_at paths p) → 0 + n ≤ k
    in_kept k e = omega (arith, en, e)

-- ---- after the lines

module _ (line_nos : List ℕ) (b : Path) (kb : List ℤ) (kc : List ℕ) (r : Recounted) (bs : List ℤ) (cs rs : List ℕ) where
  ran_done : (m : ℕ) → r ≡ Done m → (o : Ran St Refusal) → told_of (paper_of r) (st_of bs cs rs (made_of r)) ≡ lines_told line_nos o
      → out_of r bs cs rs kb kc ≡ ran_out line_nos b kb kc o
  ran_done m q (done s) e = λ i. record { paper = (e i).paper; backs = (e i).backs; counts = (e i).counts; refs = (e i).refs; kept_backs = kb; kept_counts = kc }
  ran_done m q (refused s why) e =
      let f : done_no ∷ m ∷ [] ≡ why.no ∷ get_or line_nos why.line 0 ∷ s.made ∷ [] = sym (ap paper_of q) ∙ ap (λ (t : Told). t.paper) e in
      let z : ◌≡◌ {A = ℕ} 0 1 = cc in absurd (omega arith)

  ran_refused : (n item m : ℕ) → r ≡ Refused n item m → (bs' : List ℤ) → bs' ≡ copied_of (pos 0) kb 0 b.first (tiles_in b) bs
      → (cs' : List ℕ) → cs' ≡ copied_of 0 kc 0 b.first (tiles_in b) cs → (o : Ran St Refusal)
      → told_of (paper_of r) (st_of bs cs rs (made_of r)) ≡ lines_told line_nos o → out_of (Refused n item m) bs' cs' rs kb kc ≡ ran_out line_nos b kb kc o
  ran_refused n item m q bs' eb cs' ec (done s) e =
      let f : n ∷ item ∷ m ∷ [] ≡ done_no ∷ s.made ∷ [] = sym (ap paper_of q) ∙ ap (λ (t : Told). t.paper) e in
      let z : ◌≡◌ {A = ℕ} 0 1 = cc in absurd (omega arith)
  ran_refused n item m q bs' eb cs' ec (refused s why) e =
      let f : n ∷ item ∷ m ∷ [] ≡ why.no ∷ get_or line_nos why.line 0 ∷ s.made ∷ [] = sym (ap paper_of q) ∙ ap (λ (t : Told). t.paper) e in
      let x : bs' ≡ copied_of (pos 0) kb 0 b.first (tiles_in b) s.backs = eb ∙ ap (λ (t : Told). copied_of (pos 0) kb 0 b.first (tiles_in b) t.backs) e in
      let y : cs' ≡ copied_of 0 kc 0 b.first (tiles_in b) s.counts = ec ∙ ap (λ (t : Told). copied_of 0 kc 0 b.first (tiles_in b) t.counts) e in
      λ i. record { paper = f i; backs = x i; counts = y i; refs = (e i).refs; kept_backs = kb; kept_counts = kc }

-- the whole of it, by the numbers that the code has of the path's range
module _ (p : ℕ) (line_nos nos : List ℕ) (coords : List Float) (paths : List ℕ) (bs : List ℤ) (cs rs : List ℕ) (kb : List ℤ) (kc : List ℕ)
    (a n : ℕ) (ea : a ≡ (path_at paths p).first) (en : n ≡ tiles_in (path_at paths p))
    (kb' : List ℤ) (ekb : kb' ≡ copied_of (pos 0) bs a 0 n kb) (kc' : List ℕ) (ekc : kc' ≡ copied_of 0 cs a 0 n kc)
    (bs₀ : List ℤ) (ebs : bs₀ ≡ cleared_of (pos 0) a n bs) (cs₀ : List ℕ) (ecs : cs₀ ≡ cleared_of 0 a n cs)
    (r : Recounted) (bs₁ : List ℤ) (cs₁ rs₁ : List ℕ)
    (e : told_of (paper_of r) (st_of bs₁ cs₁ rs₁ (made_of r)) ≡ lines_told line_nos (lines_ran p line_nos nos coords paths (length rs / ref_words) (st_of bs₀ cs₀ rs 0))) where
  -- what the lines come to, from the range cleared
  abbrev ran : Ran St Refusal
  ran = lines_ran p line_nos nos coords paths (length rs / ref_words) (cleared_for (path_at paths p) bs cs rs)

  cleared_backs : bs₀ ≡ cleared_of (pos 0) (path_at paths p).first (tiles_in (path_at paths p)) bs
  cleared_backs = ebs ∙ ap₂ (λ (x y : ℕ). cleared_of (pos 0) x y bs) ea en

  cleared_counts : cs₀ ≡ cleared_of 0 (path_at paths p).first (tiles_in (path_at paths p)) cs
  cleared_counts = ecs ∙ ap₂ (λ (x y : ℕ). cleared_of 0 x y cs) ea en

  from_cleared : told_of (paper_of r) (st_of bs₁ cs₁ rs₁ (made_of r)) ≡ lines_told line_nos ran
  from_cleared =
      e ∙ ap₂ (λ (x : List ℤ) (y : List ℕ). lines_told line_nos (lines_ran p line_nos nos coords paths (length rs / ref_words) (st_of x y rs 0))) cleared_backs cleared_counts

  same_backs : kb' ≡ kept_from (pos 0) (path_at paths p) bs kb
  same_backs = ekb ∙ ap₂ (λ (x y : ℕ). copied_of (pos 0) bs x 0 y kb) ea en

  same_counts : kc' ≡ kept_from 0 (path_at paths p) cs kc
  same_counts = ekc ∙ ap₂ (λ (x y : ℕ). copied_of 0 cs x 0 y kc) ea en

  pub redrawn_done : (m : ℕ) → r ≡ Done m → out_of r bs₁ cs₁ rs₁ kb' kc' ≡ redrawn_of p line_nos nos coords paths bs cs rs kb kc
  unfolding redrawn_of
  redrawn_done m q =
      ran_done line_nos (path_at paths p) kb' kc' r bs₁ cs₁ rs₁ m q ran from_cleared
      ∙ ap₂ (λ (x : List ℤ) (y : List ℕ). ran_out line_nos (path_at paths p) x y ran) same_backs same_counts

  pub redrawn_refused : (why item m : ℕ) → r ≡ Refused why item m → (bs₂ : List ℤ) → bs₂ ≡ copied_of (pos 0) kb' 0 a n bs₁
      → (cs₂ : List ℕ) → cs₂ ≡ copied_of 0 kc' 0 a n cs₁ → out_of (Refused why item m) bs₂ cs₂ rs₁ kb' kc' ≡ redrawn_of p line_nos nos coords paths bs cs rs kb kc
  unfolding redrawn_of
  redrawn_refused why item m q bs₂ eb cs₂ ec =
      ran_refused line_nos (path_at paths p) kb' kc' r bs₁ cs₁ rs₁ why item m q bs₂ (rw (ea, en) at eb) cs₂ (rw (ea, en) at ec) ran from_cleared
      ∙ ap₂ (λ (x : List ℤ) (y : List ℕ). ran_out line_nos (path_at paths p) x y ran) same_backs same_counts

-- ---- an answer, by the test whether it is a refusal

pub at_err : {T E : Type 0} (r : Result T E) → is_err r ≡ true → (e : E) × (r ≡ Err e)
at_err (Ok m) h = let z : ◌≡◌ {A = ℕ} 0 1 = cc in absurd (omega arith)
at_err (Err e) h = (e, refl)

pub at_ok : {T E : Type 0} (r : Result T E) → is_err r ≡ false → (m : T) × (r ≡ Ok m)
at_ok (Ok m) h = (m, refl)
at_ok (Err e) h = let z : ◌≡◌ {A = ℕ} 0 1 = cc in absurd (omega arith)
