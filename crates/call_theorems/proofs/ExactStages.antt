-- Exact at the call: backdrop, hand-out, coverage and fine. A promise is met where one of the call's ways holds, and nowhere else. Assumes nothing.
use mathlib.Core.Path.{◌≡◌, refl, sym, ap, ◌∙◌}
use mathlib.Core.Logic.{◌↔◌, ◌⊎◌, inl, inr}
use mathlib.Core.Bool.{Bool, true, false, cond}
use mathlib.Core.List.{List}
use Prim.Native.Nat.{ℕ, zero, suc}
use native.Mathlib.Omega.{arith}
use lib.ListN.{length}
use lib.IntN.{ℤ}
use lib.Ieee.{Float}
use Rattle.lists.specs.Run.{Ran, done, refused}
use Rattle.panel.specs.Refusals.{not_whole, too_many, no_room_word, sum_over}
use Rattle.panel.specs.Checks.{first_no}
use Rattle.panel.specs.Paths.{path_at, path_count, paths_answer}
use Rattle.panel.specs.Answer.{Answer, Done, Refused}
use Rattle.panel.specs.Verdict.{Verdict, Fine, Against}
use Rattle.backdrop.specs.Backdrop.{out_of, path_fits, path_sums, sum_paths, backdrop_of, BackdropMet}
use Rattle.hand_out.specs.HandOut.{hand, HandMet}
use Rattle.coverage.specs.Coverage.{coverage_of}
use Rattle.coverage.specs.Fill.{fill_checks, fill_of, FillMet}
use Rattle.fine.specs.Fine.{No, tiles_of, fine_of, FineMet}
use Rattle.theorems.proofs.OneAnswer.{one_backdrop, one_hand, one_fill, one_fine}
use Rattle.theorems.proofs.Exact.{row_exact, HandCase, hand_case}
use Rattle.theorems.proofs.Exact as Cases
use Rattle.theorems.proofs.ExactPaths.{paths_exact}
use Rattle.theorems.proofs.ExactStops.{backdrop_exact, tiles_exact}
use Rattle.theorems.proofs.ExactCommands.{tile_exact}
use Rattle.call_theorems.specs.Ways.{BackdropWay, paths_refused, path_refused, all_summed, HandWay, unpaired, many, over, handed, FillWay, fill_refused, filled, fine_row, FineWay, screen_refused, tile_refused, all_shown}

-- ---- backdrop

-- the sums are done, or one path's are refused with 11
sums_said : (ws : List ℕ) (n k : ℕ) (bs : List ℤ) → ((u : List ℤ) × (sum_paths ws n k bs ≡ out_of Done u)) ⊎ ((u : List ℤ) × (j : ℕ) × (sum_paths ws n k bs ≡ out_of (Refused sum_over j) u))
unfolding sum_paths
sums_said ws zero k bs = inl (bs, refl)
sums_said ws (suc n) k bs = go (path_fits (path_at ws k) bs) (sums_said ws n (suc k) (path_sums (path_at ws k) bs))
  where
    go : (b : Bool)
        → ((u : List ℤ) × (sum_paths ws n (suc k) (path_sums (path_at ws k) bs) ≡ out_of Done u))
        ⊎ ((u : List ℤ) × (j : ℕ) × (sum_paths ws n (suc k) (path_sums (path_at ws k) bs) ≡ out_of (Refused sum_over j) u))
        → ((u : List ℤ) × (cond b (sum_paths ws n (suc k) (path_sums (path_at ws k) bs)) (out_of (Refused sum_over k) bs) ≡ out_of Done u))
        ⊎ ((u : List ℤ) × (j : ℕ) × (cond b (sum_paths ws n (suc k) (path_sums (path_at ws k) bs)) (out_of (Refused sum_over k) bs) ≡ out_of (Refused sum_over j) u))
    go true h = h
    go false h = inr (bs, k, refl)

module _ (ws : List ℕ) (bs : List ℤ) (x : Answer) (bs' : List ℤ) where
  met_paths : (n item : ℕ) → paths_answer ws (length bs) ≡ Refused n item → BackdropMet ws bs (Refused n item) bs
  unfolding backdrop_of
  met_paths n item e = rw e

  met_sums : paths_answer ws (length bs) ≡ Done → (a : Answer) (u : List ℤ) → sum_paths ws (path_count ws) 0 bs ≡ out_of a u → BackdropMet ws bs a u
  unfolding backdrop_of
  met_sums ok a u e = rw (ok, e)

  pub backdrop_call_exact : BackdropMet ws bs x bs' ↔ BackdropWay ws bs x bs'
  backdrop_call_exact = (why, back)
    where
      why : BackdropMet ws bs x bs' → BackdropWay ws bs x bs'
      why p = go (paths_answer ws (length bs)) refl (sums_said ws (path_count ws) 0 bs)
        where
          go : (v : Answer) → paths_answer ws (length bs) ≡ v
              → ((u : List ℤ) × (sum_paths ws (path_count ws) 0 bs ≡ out_of Done u)) ⊎ ((u : List ℤ) × (j : ℕ) × (sum_paths ws (path_count ws) 0 bs ≡ out_of (Refused sum_over j) u))
              → BackdropWay ws bs x bs'
          go (Refused n item) q o =
              let e = one_backdrop ws bs x (Refused n item) bs' bs p (met_paths n item q) in
              paths_refused n item e.0 ((paths_exact ws (length bs) n item).0 q) e.1
          go Done q (inl o) =
              let e = one_backdrop ws bs x Done bs' o.0 p (met_sums q Done o.0 o.1) in
              all_summed e.0 q (o.1 ∙ ap (out_of Done) (sym e.1))
          go Done q (inr o) =
              let m = met_sums q (Refused sum_over o.1) o.0 o.2 in
              let e = one_backdrop ws bs x (Refused sum_over o.1) bs' o.0 p m in
              path_refused o.1 e.0 ((backdrop_exact ws bs o.1 bs').0 (sym m ∙ ap (out_of (Refused sum_over o.1)) (sym e.1)))

      back : BackdropWay ws bs x bs' → BackdropMet ws bs x bs'
      back (paths_refused n item ex w eb) = rw (ex, eb) (met_paths n item ((paths_exact ws (length bs) n item).1 w))
      back (path_refused k ex w) = rw ex (sym ((backdrop_exact ws bs k bs').1 w))
      back (all_summed ex ok ran) = rw ex (met_sums ok Done bs' ran)

-- ---- hand-out

module _ (room : ℕ) (ns kept : List ℕ) (x : Answer) (ns' kept' : List ℕ) where
  pub hand_call_exact : HandMet room ns kept x ns' kept' ↔ HandWay room ns kept x ns' kept'
  hand_call_exact = ((λ p. why p (hand_case room ns kept)), (λ w. back w (hand_case room ns kept)))
    where
      why : HandMet room ns kept x ns' kept' → HandCase room ns kept → HandWay room ns kept x ns' kept'
      why p (Cases.unpaired a e) = let f = one_hand room ns kept x (Refused not_whole 0) ns' ns kept' kept p (sym e) in unpaired f.0 a f.1 f.2
      why p (Cases.many a b e) = let f = one_hand room ns kept x (Refused too_many 0) ns' ns kept' kept p (sym e) in many f.0 a b f.1 f.2
      why p (Cases.over a b c e) = let f = one_hand room ns kept x (Refused no_room_word 0) ns' ns kept' kept p (sym e) in over f.0 a b c f.1 f.2
      why p (Cases.fine a b c e) = let f = one_hand room ns kept x Done ns' (hand 0 ns) kept' ns p (sym e) in handed f.0 a b c f.1 f.2

      back : HandWay room ns kept x ns' kept' → HandCase room ns kept → HandMet room ns kept x ns' kept'
      back (unpaired ex a en ek) (Cases.unpaired a' e) = rw (ex, en, ek) (sym e)
      back (unpaired ex a en ek) (Cases.many a' b' e) = absurd (a a')
      back (unpaired ex a en ek) (Cases.over a' b' c' e) = absurd (a a')
      back (unpaired ex a en ek) (Cases.fine a' b' c' e) = absurd (a a')
      back (many ex a b en ek) (Cases.unpaired a' e) = absurd (a' a)
      back (many ex a b en ek) (Cases.many a' b' e) = rw (ex, en, ek) (sym e)
      back (many ex a b en ek) (Cases.over a' b' c' e) = absurd (omega arith)
      back (many ex a b en ek) (Cases.fine a' b' c' e) = absurd (omega arith)
      back (over ex a b c en ek) (Cases.unpaired a' e) = absurd (a' a)
      back (over ex a b c en ek) (Cases.many a' b' e) = absurd (omega arith)
      back (over ex a b c en ek) (Cases.over a' b' c' e) = rw (ex, en, ek) (sym e)
      back (over ex a b c en ek) (Cases.fine a' b' c' e) = absurd (omega arith)
      back (handed ex a b c en ek) (Cases.unpaired a' e) = absurd (a' a)
      back (handed ex a b c en ek) (Cases.many a' b' e) = absurd (omega arith)
      back (handed ex a b c en ek) (Cases.over a' b' c' e) = absurd (omega arith)
      back (handed ex a b c en ek) (Cases.fine a' b' c' e) = rw (ex, en, ek) (sym e)

-- ---- coverage

module _ (segs : List Float) (first n : ℕ) (even_odd : Bool) (backdrop : ℤ) (x y : Float) (area : List Float) (a : Answer) (area' : List Float) where
  met_fill_no : (k : ℕ) → first_no (fill_checks segs (length area) first n) ≡ Against k → FillMet segs first n even_odd backdrop x y area (Refused k 0) area
  unfolding fill_of
  met_fill_no k e = rw e

  met_fill : first_no (fill_checks segs (length area) first n) ≡ Fine
      → FillMet segs first n even_odd backdrop x y area Done (coverage_of segs first n even_odd backdrop x y)
  unfolding fill_of
  met_fill e = rw e

  pub fill_call_exact : FillMet segs first n even_odd backdrop x y area a area' ↔ FillWay segs first n even_odd backdrop x y area a area'
  fill_call_exact = (why, back)
    where
      why : FillMet segs first n even_odd backdrop x y area a area' → FillWay segs first n even_odd backdrop x y area a area'
      why p = go (first_no (fill_checks segs (length area) first n)) refl
        where
          go : (v : Verdict) → first_no (fill_checks segs (length area) first n) ≡ v → FillWay segs first n even_odd backdrop x y area a area'
          go Fine q = let e = one_fill segs first n even_odd backdrop x y area a Done area' (coverage_of segs first n even_odd backdrop x y) p (met_fill q) in filled e.0 q e.1
          go (Against k) q =
              let e = one_fill segs first n even_odd backdrop x y area a (Refused k 0) area' area p (met_fill_no k q) in
              fill_refused k e.0 ((row_exact k (fill_checks segs (length area) first n)).0 q) e.1

      back : FillWay segs first n even_odd backdrop x y area a area' → FillMet segs first n even_odd backdrop x y area a area'
      back (fill_refused k ex w ea) = rw (ex, ea) (met_fill_no k ((row_exact k (fill_checks segs (length area) first n)).1 w))
      back (filled ex ok ea) = rw (ex, ea) (met_fill ok)

-- ---- fine

module _ (words : List ℕ) (segs : List Float) (width cols rows from to : ℕ) (pixels : List ℕ) (x : Answer) (pixels' : List ℕ) where
  abbrev Met : Answer → List ℕ → Type 0
  Met a after = FineMet words segs width cols rows from to pixels a after

  abbrev row : Verdict
  row = first_no (fine_row segs width cols rows from to pixels)

  met_screen : (n : ℕ) → row ≡ Against n → Met (Refused n 0) pixels
  unfolding fine_of
  met_screen n e = rw e

  met_tile : row ≡ Fine → (u : List ℕ) (r : No) → tiles_of words segs width cols from to pixels ≡ refused u r → Met (Refused r.number r.tile) u
  unfolding fine_of
  met_tile ok u r e = rw (ok, e)

  met_shown : row ≡ Fine → (u : List ℕ) → tiles_of words segs width cols from to pixels ≡ done u → Met Done u
  unfolding fine_of
  met_shown ok u e = rw (ok, e)

  pub fine_call_exact : Met x pixels' ↔ FineWay words segs width cols rows from to pixels x pixels'
  fine_call_exact = (why, back)
    where
      why : Met x pixels' → FineWay words segs width cols rows from to pixels x pixels'
      why p = go row refl (tiles_of words segs width cols from to pixels) refl
        where
          go : (v : Verdict) → row ≡ v → (o : Ran (List ℕ) No) → tiles_of words segs width cols from to pixels ≡ o → FineWay words segs width cols rows from to pixels x pixels'
          go (Against n) q o h =
              let e = one_fine words segs width cols rows from to pixels x (Refused n 0) pixels' pixels p (met_screen n q) in
              screen_refused n e.0 ((row_exact n (fine_row segs width cols rows from to pixels)).0 q) e.1
          go Fine q (refused u r) h =
              let e = one_fine words segs width cols rows from to pixels x (Refused r.number r.tile) pixels' u p (met_tile q u r h) in
              let w = (tiles_exact words segs width cols from to pixels u r.number r.tile).0 h in
              tile_refused r.number r.tile e.0 q w.low w.high (w.before ∙ ap done (sym e.1)) ((tile_exact words segs r.tile r.number).0 w.halts)
          go Fine q (done u) h =
              let e = one_fine words segs width cols rows from to pixels x Done pixels' u p (met_shown q u h) in
              all_shown e.0 q (h ∙ ap done (sym e.1))

      back : FineWay words segs width cols rows from to pixels x pixels' → Met x pixels'
      back (screen_refused n ex w ea) = rw (ex, ea) (met_screen n ((row_exact n (fine_row segs width cols rows from to pixels)).1 w))
      back (tile_refused n t ex ok low high ran w) =
          rw ex
          (met_tile ok pixels' (record { number = n; tile = t })
          ((tiles_exact words segs width cols from to pixels pixels' n t).1 (record { low = low; high = high; before = ran; halts = (tile_exact words segs t n).1 w })))
      back (all_shown ex ok ran) = rw ex (met_shown ok pixels' ran)
