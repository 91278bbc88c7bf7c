-- The tags: where no reference that counting made is refused, each slot below their number has the beam number of the path of the line that its reference
-- names. So every slot of a tile in a path's range carries that path's beam number, after the calls one by one and after a frame; and two frames over the
-- same paths give a path's slots the same number, whatever the other paths' lines. Assumes nothing.
use mathlib.Core.Path.{◌≡◌, refl, sym, ap, subst, ◌∙◌}
use mathlib.Core.List.{List, [], ◌∷◌}
use Prim.Native.Nat.{ℕ, ◌+◌, ◌≤◌, ◌<◌}
use native.Mathlib.Decide.{ℕ_discrete}
use native.Mathlib.Omega.{arith}
use lib.ListN.{length, get_or}
use lib.IntN.{ℤ}
use lib.Ieee.{Float}
use Rattle.lists.specs.Run.{All}
use Rattle.lists.specs.Sums.{sum, first, first_within, placed_once}
use Rattle.lists.specs.Occ.{occ, is_other}
use Rattle.panel.specs.Paths.{path_at, end_of, beam_at, paths_answer}
use Rattle.panel.specs.Pieces.{Pieces}
use Rattle.panel.specs.declared.kinds.Running.{Running}
use Rattle.panel.specs.Answer.{Done}
use Rattle.panel.proofs.PathLaws.{checked, one_path}
use Rattle.hand_out.specs.HandOut.{hand_out_of, out_of}
use Rattle.looks.specs.Look.{lent}
use Rattle.path_tiling.specs.Tiling.{Write, Range, applied, call_of}
use Rattle.frame.specs.Frame as Frame
use Rattle.frame.specs.Framed as Framed
use Rattle.theorems.specs.Drawn.{InPath}
use Rattle.theorems.specs.Refs.{ref_tile, AllCounted}
use Rattle.theorems.specs.Stray.{tag_at, written_to, OwnWrite, NoStray, SlotTag, Carries}
use Rattle.theorems.proofs.SumLaws.{sums, passed}
use Rattle.theorems.proofs.StrayLaws.{no_stray}
use Rattle.theorems.proofs.Framing.{frame_done}

module _ (nos : List ℕ) (coords : List Float) (paths cs rs : List ℕ) (m : ℕ) where
  -- the write that goes to slot k
  record Wrote (p : Pieces) (k : ℕ) : Type 0 where
    pub write : Write
    pub own : OwnWrite nos coords paths cs rs m write
    pub slot : write.slot ≡ k
    pub tag : tag_at p k ≡ write.tag

  among : (us : List Write) (p : Pieces) (k : ℕ) → All (OwnWrite nos coords paths cs rs m) us → All (λ w. tag_at p w.slot ≡ w.tag) us
      → 0 < occ k (written_to us) → Wrote p k
  among [] p k own kept h = absurd (omega arith)
  among (w ∷ us) p k own kept h = go (ℕ_discrete w.slot k) (among us p k own.1 kept.1)
    where
      go : Dec (w.slot ≡ k) → (0 < occ k (written_to us) → Wrote p k) → Wrote p k
      go (yes e) ih = record { write = w; own = own.0; slot = e; tag = subst (λ (i : ℕ). tag_at p i ≡ w.tag) e kept.0 }
      go (no e) ih = ih (omega (arith, is_other w.slot k e, h))

  module _ (p : Pieces) (r : Range) (s : NoStray nos coords paths cs rs m p r) (e : r.answer ≡ Done) where
    wrote : (k : ℕ) → k < m → Wrote (applied r.writes p) k
    wrote k h = among r.writes (applied r.writes p) k s.each s.tagged (omega (arith, s.once e k h))

    -- the number at a slot is that of the path of the line that its reference names
    pub slot_tag : (k : ℕ) → k < m → SlotTag nos paths rs m (applied r.writes p) k
    slot_tag k h =
        let w = wrote k h in
        let o = w.own in
        record {
          ref = w.write.ref;
          counted = o.counted;
          tag = w.tag ∙ o.tag ∙ ap (beam_at paths) (o.path ∙ ap (λ (l : ℕ). get_or nos l 0) o.line);
        }

    pub carries : (n : ℕ) → paths_answer paths n ≡ Done → sum cs ≡ m → Carries paths cs (applied r.writes p)
    carries n ok total q t j in_path h =
        let k = first cs t + j in
        let inside : k < m = omega (arith, first_within cs t, total) in
        let w = wrote k inside in
        let o = w.own in
        let u = ref_tile nos coords paths rs w.write.ref in
        let at = w.slot in
        let same : u ≡ t = placed_once cs k u t (omega (arith, o.slot_low, at)) (omega (arith, o.slot_high, at)) (omega arith) (omega arith) in
        let held : ((path_at paths w.write.path).first ≤ t) × (t < end_of (path_at paths w.write.path)) =
        subst (λ (v : ℕ). ((path_at paths w.write.path).first ≤ v) × (v < end_of (path_at paths w.write.path))) same
        (o.tile_low, o.tile_high) in
        let mine_held : ((path_at paths q).first ≤ t) × (t < end_of (path_at paths q)) = (in_path.1, in_path.2) in
        let mine : w.write.path ≡ q = one_path paths n (checked paths n ok) w.write.path q t o.path_there in_path.0 held mine_held in
        w.tag ∙ o.tag ∙ ap (beam_at paths) mine

-- the calls one by one: lines are counted into n zeroed tiles with no refusal, their slots are handed out, and all m references are tiled with no refusal
pub tiled_carries : (b : ℕ) (nos : List ℕ) (coords : List Float) (paths : List ℕ) (n : ℕ) (refs : List ℕ) (bs : List ℤ) (cs rs : List ℕ) (m : ℕ)
    (room : ℕ) (kept ws tl : List ℕ) (p : Pieces) → AllCounted b nos coords paths n refs bs cs rs m → hand_out_of room cs kept ≡ out_of Done ws tl
    → (call_of 0 m (lent nos coords paths ws rs) p).answer ≡ Done → Carries paths cs (applied (call_of 0 m (lent nos coords paths ws rs) p).writes p)
tiled_carries b nos coords paths n refs bs cs rs m room kept ws tl p all out e =
    carries nos coords paths cs rs m p (call_of 0 m (lent nos coords paths ws rs) p) (no_stray b nos coords paths n refs bs cs rs m room kept ws tl p all out) e n
    (passed b nos coords paths n refs bs cs rs m all) (sums b nos coords paths n refs bs cs rs m all).total

-- a frame that is done
module _ (nos : List ℕ) (coords : List Float) (paths : List ℕ) (backs : List ℤ) (stored tally refs : List ℕ) (p : Pieces)
    (s : Running) (bs : List ℤ) (ts ks rs : List ℕ) (q : Pieces)
    (e : Frame.frame_of nos coords paths backs stored tally refs p ≡ Frame.out_of (Framed.Done s) bs ts ks rs q) where
  pub frame_carries : Carries paths ks q
  frame_carries =
      let f = frame_done nos coords paths backs stored tally refs p bs ts ks rs q s e in
      let c = f.counts in
      let ok = passed (length nos) nos coords paths (length stored) refs c.marks ks rs s.refs c.all in
      subst (λ (x : Pieces). Carries paths ks x) (sym f.pieces)
      (carries nos coords paths ks rs s.refs p (Rattle.path_tiling.specs.Tiling.range f.writes Done) f.stray refl (length stored) ok f.sums.total)

-- Beam isolation says of tags: two done frames over the same paths give the slots of path p's tile t the same number, whatever lines they have
pub tags_isolated : (paths : List ℕ)
    (nos : List ℕ) (coords : List Float) (backs : List ℤ) (stored tally refs : List ℕ) (p : Pieces) (s : Running) (bs : List ℤ) (ts ks rs : List ℕ) (q : Pieces)
    (nos' : List ℕ) (coords' : List Float) (backs' : List ℤ) (stored' tally' refs' : List ℕ) (p' : Pieces) (s' : Running) (bs' : List ℤ) (ts' ks' rs' : List ℕ) (q' : Pieces)
    → Frame.frame_of nos coords paths backs stored tally refs p ≡ Frame.out_of (Framed.Done s) bs ts ks rs q
    → Frame.frame_of nos' coords' paths backs' stored' tally' refs' p' ≡ Frame.out_of (Framed.Done s') bs' ts' ks' rs' q'
    → (k t i j : ℕ) → InPath paths k t → i < get_or ks t 0 → j < get_or ks' t 0 → tag_at q (first ks t + i) ≡ tag_at q' (first ks' t + j)
tags_isolated paths nos coords backs stored tally refs p s bs ts ks rs q nos' coords' backs' stored' tally' refs' p' s' bs' ts' ks' rs' q' e e' k t i j h a b =
    frame_carries nos coords paths backs stored tally refs p s bs ts ks rs q e k t i h a
    ∙ sym (frame_carries nos' coords' paths backs' stored' tally' refs' p' s' bs' ts' ks' rs' q' e' k t j h b)
