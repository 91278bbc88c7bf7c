-- Exact at the call: tiling. Its promise is met where one of its ways holds, and nowhere else; the segments left are those of the references before the one
-- refused. Assumes nothing.
use mathlib.Core.Path.{◌≡◌, refl, sym, ap, ◌∙◌}
use mathlib.Core.Logic.{◌≢◌, ◌↔◌}
use mathlib.Core.Bool.{Bool, true, false}
use Prim.Native.Nat.{ℕ, zero, suc, ◌+◌, ◌-◌, ◌≤◌, ◌<◌}
use native.Mathlib.Decide.{ℕ_discrete}
use native.Mathlib.Omega.{arith}
use lib.ListN.{length}
use Rattle.panel.specs.Pieces.{Pieces}
use Rattle.panel.specs.Refusals.{not_whole}
use Rattle.panel.specs.Paths.{paths_answer}
use Rattle.panel.specs.Answer.{Answer, Done, Refused}
use Rattle.looks.specs.Look.{Lent, look_of}
use Rattle.path_tiling.specs.Tiling.{Range, range, look_then_word, range_of, slots_of, applied, tiled, range_tiled, TileMet}
use Rattle.looks.specs.Looked as Lk
use Rattle.looks.specs.Looked.{Put, Empty, Against}
use Rattle.path_tiling.proofs.CallLaws.{not_whole_lem, bad_paths, called}
use Rattle.theorems.specs.Refusing.{RangeWhy}
use Rattle.theorems.proofs.OneAnswer.{one_tile}
use Rattle.theorems.proofs.Exact.{no_clash}
use Rattle.theorems.proofs.ExactPaths.{paths_exact}
use Rattle.theorems.proofs.ExactLooks.{look_exact}
use Rattle.theorems.proofs.ExactStops.{range_exact}
use Rattle.call_theorems.specs.Ways.{tile_whole, TileWay, unwhole, paths_refused, ref_refused, all_tiled}

module _ (L : Lent) (slots : ℕ) where
  -- a range that is refused at a reference has the writes of those before it
  pub writes_before : (n k why item : ℕ) → RangeWhy L slots n k why item → range_of L slots n k ≡ range (range_of L slots (item - k) k).writes (Refused why item)
  unfolding range_of
  writes_before zero k why item r = absurd (omega (arith, r.low, r.high))
  writes_before (suc n) k why item r = go (ℕ_discrete k item) (look_of L slots k) refl (item - k) refl (writes_before n (suc k) why item)
    where
      later : k ≢ item → RangeWhy L slots n (suc k) why item
      later h = record { low = omega (arith, r.low); high = omega (arith, r.high); before = λ j p q. r.before j (omega arith) q; halts = r.halts }

      go : Dec (k ≡ item) → (l : Lk.Look) → look_of L slots k ≡ l → (d : ℕ) → item - k ≡ d
          → (RangeWhy L slots n (suc k) why item → range_of L slots n (suc k) ≡ range (range_of L slots (item - suc k) (suc k)).writes (Refused why item))
          → look_then_word L k l (range_of L slots n (suc k)) ≡ range (range_of L slots d k).writes (Refused why item)
      go (yes s) l q zero z ih =
          let e : l ≡ Against why = sym q ∙ ap (look_of L slots) s ∙ r.halts in
          rw (e, s)
      go (yes s) l q (suc d) z ih = absurd (omega arith)
      go (no s) l q zero z ih = absurd (omega (arith, r.low))
      go (no s) (Put slot x) q (suc d) z ih =
          let y : item - suc k ≡ d = omega arith in
          let e = ih (later s) in
          rw (q, e, y)
      go (no s) Empty q (suc d) z ih =
          let y : item - suc k ≡ d = omega arith in
          let e = ih (later s) in
          rw (q, e, y)
      go (no s) (Against m) q (suc d) z ih = absurd (r.before k (omega arith) (omega (arith, r.low)) m q)

  -- none is refused where none of them is
  range_goes : (n k : ℕ) → ((j m : ℕ) → k ≤ j → j < k + n → look_of L slots j ≢ Against m) → (range_of L slots n k).answer ≡ Done
  unfolding range_of
  range_goes zero k h = refl
  range_goes (suc n) k h = go (look_of L slots k) refl (range_goes n (suc k) (λ j m p q. h j m (omega arith) (omega arith)))
    where
      go : (l : Lk.Look) → look_of L slots k ≡ l → (range_of L slots n (suc k)).answer ≡ Done → (look_then_word L k l (range_of L slots n (suc k))).answer ≡ Done
      go (Put slot x) q ih = ih
      go Empty q ih = ih
      go (Against m) q ih = absurd (h k m (omega arith) (omega arith) q)

  goes_none : (n k : ℕ) → (range_of L slots n k).answer ≡ Done → (j m : ℕ) → k ≤ j → j < k + n → look_of L slots j ≢ Against m
  unfolding range_of
  goes_none zero k e j m p q d = absurd (omega arith)
  goes_none (suc n) k e j m p q d = go (ℕ_discrete k j) (look_of L slots k) refl e (goes_none n (suc k))
    where
      go : Dec (k ≡ j) → (l : Lk.Look) → look_of L slots k ≡ l → (look_then_word L k l (range_of L slots n (suc k))).answer ≡ Done
          → ((range_of L slots n (suc k)).answer ≡ Done → (j m : ℕ) → suc k ≤ j → j < suc k + n → look_of L slots j ≢ Against m) → ⊥
      go (yes s) (Put slot x) z f ih = let y : Put slot x ≡ Against m = sym z ∙ ap (look_of L slots) s ∙ d in no_clash cc
      go (yes s) Empty z f ih = let y : Empty ≡ Against m = sym z ∙ ap (look_of L slots) s ∙ d in no_clash cc
      go (yes s) (Against i) z f ih = no_clash cc
      go (no s) (Put slot x) z f ih = ih f j m (omega arith) (omega arith) d
      go (no s) Empty z f ih = ih f j m (omega arith) (omega arith) d
      go (no s) (Against i) z f ih = no_clash cc

module _ (from to : ℕ) (L : Lent) (lent : Pieces) where
  abbrev slots : ℕ
  slots = slots_of (length lent.segments)

  -- the call over its range, whole and with good paths
  module _ (w : tile_whole from to L lent ≡ true) (ok : paths_answer L.paths (length L.stored) ≡ Done) where
    met_range : (a : Answer) → (range_of L slots (to - from) from).answer ≡ a → TileMet from to L lent a (applied (range_of L slots (to - from) from).writes lent)
    met_range a e = ap (λ (x : Answer). tiled x (applied (range_of L slots (to - from) from).writes lent)) (sym e) ∙ called from to L lent w ok

    met_ref : (n k : ℕ) → RangeWhy L slots (to - from) from n k → TileMet from to L lent (Refused n k) (applied (range_of L slots (k - from) from).writes lent)
    met_ref n k r = ap (λ (x : Range). range_tiled x lent) (sym (writes_before L slots (to - from) from n k r)) ∙ called from to L lent w ok

  module _ (x : Answer) (left : Pieces) where
    why : TileMet from to L lent x left → TileWay from to L lent x left
    why p = go (tile_whole from to L lent) refl (paths_answer L.paths (length L.stored)) refl (range_of L slots (to - from) from).answer refl
      where
        go : (b : Bool) → tile_whole from to L lent ≡ b → (v : Answer) → paths_answer L.paths (length L.stored) ≡ v → (a : Answer) → (range_of L slots (to - from) from).answer ≡ a
            → TileWay from to L lent x left
        go false w v q a h = let e = one_tile from to L lent x (Refused not_whole 0) left lent p (not_whole_lem from to L lent w) in unwhole e.0 w e.1
        go true w (Refused n item) q a h =
            let e = one_tile from to L lent x (Refused n item) left lent p (bad_paths from to L lent n item w q) in
            paths_refused n item e.0 w ((paths_exact L.paths (length L.stored) n item).0 q) e.1
        go true w Done q (Refused n k) h =
            let r = (range_exact L slots (to - from) from n k).0 h in
            let e = one_tile from to L lent x (Refused n k) left (applied (range_of L slots (k - from) from).writes lent) p (met_ref w q n k r) in
            ref_refused n k e.0 w q r.low (omega (arith, r.low, r.high)) (λ j m a b c. r.before j a b m ((look_exact L slots j m).1 c)) ((look_exact L slots k n).0 r.halts) e.1
        go true w Done q Done h =
            let e = one_tile from to L lent x Done left (applied (range_of L slots (to - from) from).writes lent) p (met_range w q Done h) in
            all_tiled e.0 w q (λ j m a b c. goes_none L slots (to - from) from h j m a (omega arith) ((look_exact L slots j m).1 c)) e.1

    back : TileWay from to L lent x left → TileMet from to L lent x left
    back (unwhole ex w es) = rw (ex, es) (not_whole_lem from to L lent w)
    back (paths_refused n item ex w k es) = rw (ex, es) (bad_paths from to L lent n item w ((paths_exact L.paths (length L.stored) n item).1 k))
    back (ref_refused n k ex w ok low high none h es) =
        rw (ex, es)
        (met_ref w ok n k
        (record { low = low; high = omega arith; before = λ j p q m d. none j m p q ((look_exact L slots j m).0 d); halts = (look_exact L slots k n).1 h }))
    back (all_tiled ex w ok none es) =
        rw (ex, es) (met_range w ok Done (range_goes L slots (to - from) from (λ j m p q d. none j m p (omega arith) ((look_exact L slots j m).0 d))))

    -- Tiling is exact
    pub tile_call_exact : TileMet from to L lent x left ↔ TileWay from to L lent x left
    tile_call_exact = (why, back)
