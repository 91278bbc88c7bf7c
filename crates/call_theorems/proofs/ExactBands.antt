-- Exact at the call: a band of the screen. Its promise is met where one of its ways holds, and nowhere else; it leaves one answer only, and no cheat
-- meets it. Assumes nothing.
use mathlib.Core.Path.{◌≡◌, refl, sym, ap, ◌∙◌}
use mathlib.Core.Logic.{◌↔◌}
use mathlib.Core.List.{List, []}
use Prim.Native.Nat.{ℕ, zero, suc, ◌+◌, ◌-◌, ◌*◌, ◌%◌, ◌/◌, ◌<◌}
use native.Mathlib.Omega.{arith}
use lib.ListN.{replicate}
use lib.Ieee.{Float}
use Rattle.lists.specs.Run.{Step, taken, halted, Ran, done, refused, run, on_step, and_then, run_append}
use Rattle.lists.specs.Sums.{from, from_add}
use Rattle.panel.specs.Checks.{first_no}
use Rattle.panel.specs.Refusals.{not_whole}
use Rattle.panel.specs.Answer.{Answer, Done, Refused}
use Rattle.panel.specs.Verdict.{Verdict, Fine, Against}
use Rattle.sides.specs.Tile.{tile_width, tile_size}
use Rattle.screen_tile.specs.Tile.{ends_at, tile_pixels}
use Rattle.fine.specs.Fine.{No, Shown, on_end}
use Rattle.bands.specs.Bands.{band_step, band_tiles, band_of, BandMet}
use Rattle.theorems.proofs.Exact.{no_clash, row_exact}
use Rattle.theorems.proofs.ExactCommands.{tile_exact}
use Rattle.theorems.proofs.StarredTable.{computing}
use Rattle.panel.proofs.KindLaws.{paper_once}
use Rattle.call_theorems.specs.Cheats.{Once, Shut, Refuses}
use Rattle.call_theorems.specs.BandWays.{band_row, BandWay, band_refused, tile_refused, band_shown}
use Rattle.call_theorems.proofs.Cheats.{shut, one_list, apart}

-- ---- one answer only

pub one_band : (words : List ℕ) (segs : List Float) (width cols rows first end : ℕ) (pixels : List ℕ) (a b : Answer) (pixels₁ pixels₂ : List ℕ)
    → BandMet words segs width cols rows first end pixels a pixels₁ → BandMet words segs width cols rows first end pixels b pixels₂ → (a ≡ b) × (pixels₁ ≡ pixels₂)
one_band words segs width cols rows first end pixels a b pixels₁ pixels₂ p q =
    let e = p ∙ sym q in
    (paper_once a b (ap (λ (t : Shown). t.answer) e), ap (λ (t : Shown). t.pixels) e)

-- ---- where a band's tiles stop

module _ (words : List ℕ) (segs : List Float) (width cols base : ℕ) where
  abbrev step : ℕ → List ℕ → Step (List ℕ) No
  step = band_step words segs width cols base

  halts : (k : ℕ) (u : List ℕ) (n m : ℕ) → ends_at words segs (base + k) ≡ Against n
      → on_step (step k u) u (run step (from (suc k) m)) ≡ refused u (record { number = n; tile = base + k })
  unfolding band_step
  halts k u n m e = rw e

  step_why : (k : ℕ) (u : List ℕ) (r : No) → step k u ≡ halted r → (ends_at words segs (base + k) ≡ Against r.number) × (r.tile ≡ base + k)
  unfolding band_step
  step_why k u r e = go (ends_at words segs (base + k)) e
    where
      go : (v : Verdict) → on_end v (base + k) (tile_pixels words segs (base + k) width (k % cols) (k / cols) u) ≡ halted r → (v ≡ Against r.number) × (r.tile ≡ base + k)
      go Fine d = no_clash cc
      go (Against n) d = let w : record { number = n; tile = base + k } ≡ r = cc in (ap (λ (x : No). Against x.number) w, sym (ap (λ (x : No). x.tile) w))

  -- tile a + j, of n from a on, is the first refused
  record Stops (n a : ℕ) (pixels u : List ℕ) (r : No) : Type 0 where
    pub j : ℕ
    pub inside : j < n
    pub before : run step (from a j) pixels ≡ done u
    pub ends : ends_at words segs (base + (a + j)) ≡ Against r.number
    pub is : r.tile ≡ base + (a + j)

  stops : (n a : ℕ) (pixels u : List ℕ) (r : No) → run step (from a n) pixels ≡ refused u r → Stops n a pixels u r
  stops zero a pixels u r e = no_clash cc
  stops (suc n) a pixels u r e = go (step a pixels) refl e (stops n (suc a))
    where
      go : (o : Step (List ℕ) No) → step a pixels ≡ o → on_step o pixels (run step (from (suc a) n)) ≡ refused u r
          → ((pixels u : List ℕ) (r : No) → run step (from (suc a) n) pixels ≡ refused u r → Stops n (suc a) pixels u r) → Stops (suc n) a pixels u r
      go (taken t) q d ih =
          let w = ih t u r d in
          let z : base + (suc a + w.j) ≡ base + (a + suc w.j) = omega arith in
          record {
            j = suc w.j;
            inside = omega (arith, w.inside);
            before = ap (λ (o : Step (List ℕ) No). on_step o pixels (run step (from (suc a) w.j))) q ∙ w.before;
            ends = rw z at w.ends;
            is = w.is ∙ z;
          }
      go (halted r') q d ih =
          let z : base + (a + 0) ≡ base + a = omega arith in
          let s : pixels ≡ u = cc in
          let w : r' ≡ r = cc in
          let k = step_why a pixels r (q ∙ ap halted w) in
          record { j = 0; inside = omega arith; before = ap done s; ends = rw z k.0; is = k.1 ∙ sym z }

  abbrev tiles : ℕ → List ℕ → Ran (List ℕ) No
  tiles to pixels = band_tiles words segs width cols base 0 to pixels

  first_refused : (to : ℕ) (pixels u : List ℕ) (r : No) → tiles to pixels ≡ refused u r
      → (k : ℕ) × (k < to) × (tiles k pixels ≡ done u) × (ends_at words segs (base + k) ≡ Against r.number) × (r.tile ≡ base + k)
  unfolding band_tiles
  first_refused to pixels u r e =
      let w = stops (to - 0) 0 pixels u r e in
      let z : base + (0 + w.j) ≡ base + w.j = omega arith in
      let y : w.j ≡ w.j - 0 = omega arith in
      (w.j, omega (arith, w.inside), ap (λ (m : ℕ). run step (from 0 m) pixels) (sym y) ∙ w.before, rw z at w.ends, w.is ∙ z)

  refused_there : (to k n : ℕ) (pixels u : List ℕ) → k < to → tiles k pixels ≡ done u → ends_at words segs (base + k) ≡ Against n
      → tiles to pixels ≡ refused u (record { number = n; tile = base + k })
  unfolding band_tiles
  refused_there to k n pixels u h e f =
      let m : to - 0 ≡ (k - 0) + suc (to - suc k) = omega arith in
      let z : 0 + (k - 0) ≡ k = omega arith in
      ap (λ (i : ℕ). run step (from 0 i) pixels) m
      ∙ ap (λ (l : List ℕ). run step l pixels) (from_add 0 (k - 0) (suc (to - suc k)))
      ∙ run_append step (from 0 (k - 0)) (from (0 + (k - 0)) (suc (to - suc k))) pixels
      ∙ ap (λ (o : Ran (List ℕ) No). and_then o (run step (from (0 + (k - 0)) (suc (to - suc k))))) e
      ∙ ap (λ (i : ℕ). run step (from i (suc (to - suc k))) u) z
      ∙ halts k u n (to - suc k) f

-- ---- the call

module _ (words : List ℕ) (segs : List Float) (width cols rows first end : ℕ) (pixels : List ℕ) (x : Answer) (pixels' : List ℕ) where
  abbrev Met : Answer → List ℕ → Type 0
  Met a after = BandMet words segs width cols rows first end pixels a after

  abbrev row : Verdict
  row = first_no (band_row segs width cols rows first end pixels)

  abbrev all : Ran (List ℕ) No
  all = band_tiles words segs width cols (cols * first) 0 (cols * (end - first)) pixels

  met_no : (n : ℕ) → row ≡ Against n → Met (Refused n 0) pixels
  unfolding band_of
  met_no n e = rw e

  met_tile : row ≡ Fine → (u : List ℕ) (r : No) → all ≡ refused u r → Met (Refused r.number r.tile) u
  unfolding band_of
  met_tile ok u r e = rw (ok, e)

  met_shown : row ≡ Fine → (u : List ℕ) → all ≡ done u → Met Done u
  unfolding band_of
  met_shown ok u e = rw (ok, e)

  pub band_exact : Met x pixels' ↔ BandWay words segs width cols rows first end pixels x pixels'
  band_exact = (why, back)
    where
      why : Met x pixels' → BandWay words segs width cols rows first end pixels x pixels'
      why p = go row refl all refl
        where
          go : (v : Verdict) → row ≡ v → (o : Ran (List ℕ) No) → all ≡ o → BandWay words segs width cols rows first end pixels x pixels'
          go (Against n) q o h =
              let e = one_band words segs width cols rows first end pixels x (Refused n 0) pixels' pixels p (met_no n q) in
              band_refused n e.0 ((row_exact n (band_row segs width cols rows first end pixels)).0 q) e.1
          go Fine q (refused u r) h =
              let e = one_band words segs width cols rows first end pixels x (Refused r.number r.tile) pixels' u p (met_tile q u r h) in
              let w = first_refused words segs width cols (cols * first) (cols * (end - first)) pixels u r h in
              tile_refused r.number w.0 (e.0 ∙ ap (Refused r.number) w.4) q w.1 (w.2 ∙ ap done (sym e.1))
              ((tile_exact words segs (cols * first + w.0) r.number).0 w.3)
          go Fine q (done u) h =
              let e = one_band words segs width cols rows first end pixels x Done pixels' u p (met_shown q u h) in
              band_shown e.0 q (h ∙ ap done (sym e.1))

      back : BandWay words segs width cols rows first end pixels x pixels' → Met x pixels'
      back (band_refused n ex w ea) = rw (ex, ea) (met_no n ((row_exact n (band_row segs width cols rows first end pixels)).1 w))
      back (tile_refused n k ex ok h ran w) =
          rw ex
          (met_tile ok pixels' (record { number = n; tile = cols * first + k })
          (refused_there words segs width cols (cols * first) (cols * (end - first)) k n pixels pixels' h ran ((tile_exact words segs (cols * first + k) n).1 w)))
      back (band_shown ex ok ran) = rw ex (met_shown ok pixels' ran)

-- ---- no cheat: SOLID and COLOR 204060ff on a screen of one tile; and a band past it

abbrev BandAt : (end : ℕ) → Answer → List ℕ → Type 0
BandAt end a m = BandMet one_list [] tile_width 1 1 0 end (replicate tile_size 0) a m

once_band : (end : ℕ) → Once Answer (List ℕ) (BandAt end)
once_band end a b m n p q = one_band one_list [] tile_width 1 1 0 end (replicate tile_size 0) a b m n p q

pub band_shut : Shut Answer (List ℕ) Refuses (BandAt 1) (BandAt 2) (replicate tile_size 0)
unfolding computing band_of band_tiles band_step
band_shut =
    shut Answer (List ℕ) Refuses (BandAt 1) (BandAt 2) (replicate tile_size 0)
    Done (Refused not_whole 0) (replicate tile_size 0xff60_4020) (replicate tile_size 0) (once_band 1) (once_band 2)
    refl refl (λ h. h) tt (apart (replicate tile_size 0xff60_4020) (replicate tile_size 0) 0 (λ z. omega arith))
