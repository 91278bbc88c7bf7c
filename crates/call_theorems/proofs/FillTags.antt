-- Lists that the writer wrote from tables whose slots carry their paths' beam numbers: every slot of a FILL carries the number of the path that the FILL was
-- written for. So after counting, hand-out, tiling and lists with no refusal, and after a done frame and its lists, a panel that holds a slot's tag
-- against the path at drawing time never sees them differ. Assumes nothing.
use mathlib.Core.Path.{◌≡◌, refl, sym, ap, subst, ◌∙◌}
use mathlib.Core.Bool.{Bool, true, false, cond}
use mathlib.Core.List.{List, [], ◌∷◌}
use Prim.Native.Nat.{ℕ, ◌+◌, ◌≤◌, ◌<◌}
use native.Mathlib.Decide.{dec_lt}
use native.Mathlib.Omega.{arith}
use lib.Dec.{ltb}
use lib.IntN.{ℤ, pos}
use lib.ListN.{length, get_or, get_or-eq_default}
use lib.Ieee.{Float}
use borrow.Author.Tests.{ltb-true}
use Rattle.lists.specs.Run.{All}
use Rattle.lists.specs.Sums.{sum}
use Rattle.panel.specs.Limits.{most_slots}
use Rattle.panel.specs.Paths.{path_at, path_count, tile_of, beam_at}
use Rattle.panel.specs.Pieces.{Pieces}
use Rattle.panel.specs.Slots.{not32}
use Rattle.panel.specs.declared.kinds.Running.{Running}
use Rattle.panel.specs.Answer.{Done}
use Rattle.panel.proofs.PathLaws.{own_tile}
use Rattle.hand_out.specs.HandOut.{hand, hand_out_of, out_of}
use Rattle.hand_out.proofs.HandLaws.{reads_back}
use Rattle.looks.specs.Look.{lent}
use Rattle.path_tiling.specs.Tiling.{applied, call_of}
use Rattle.frame.specs.Frame as Frame
use Rattle.frame.specs.Framed as Framed
use Rattle.commands.specs.Pixel.{even_odd_of}
use Rattle.pairs.specs.Pairs.{Tables, tables, colour_at, rule_at, in_box, covers, bits_of, on_tile, on_path}
use Rattle.pairs.specs.declared.Pair.TheVariants.{Fill, Solid}
use Rattle.pairs.proofs.PairLaws.{box_in}
use Rattle.theorems.specs.Drawn.{InPath}
use Rattle.theorems.specs.Refs.{AllCounted}
use Rattle.theorems.specs.Stray.{tag_at, Carries}
use Rattle.theorems.proofs.StrayLaws.{handed_is}
use Rattle.theorems.proofs.SumLaws.{sums, whole}
use Rattle.theorems.proofs.Framing.{frame_done}
use Rattle.theorems.proofs.Tags.{tiled_carries, frame_carries}
use Rattle.call_theorems.specs.Tagged.{Tagged}

-- the slots of cs, handed out, carry their paths' numbers
module _ (paths paints : List ℕ) (backdrops : List ℤ) (cs : List ℕ) (few : sum cs ≤ most_slots) (q : Pieces) (c : Carries paths cs q) where
  abbrev now : Tables
  now = tables paths paints backdrops (hand 0 cs) cs

  on_tile_lem : (p t colour rule : ℕ) (b : ℤ) → InPath paths p t → All (Tagged paths q p) (on_tile colour rule (get_or cs t 0) (get_or (hand 0 cs) t 0) b)
  unfolding on_tile
  on_tile_lem p t colour rule b h = go (ltb 0 (get_or cs t 0)) refl (covers (even_odd_of rule) b)
    where
      inside : 0 < get_or cs t 0 → t < length cs
      inside n = at (dec_lt t (length cs))
        where
          at : Dec (t < length cs) → t < length cs
          at (yes l) = l
          at (no l) =
              let far : length cs ≤ t = omega arith in
              let none : get_or cs t 0 ≡ 0 = get_or-eq_default cs 0 far in
              absurd (omega (arith, n, none))

      carried : 0 < get_or cs t 0 → (j : ℕ) → j < get_or cs t 0 → tag_at q (not32 (get_or (hand 0 cs) t 0) + j) ≡ beam_at paths p
      carried n j k = ap (λ (f : ℕ). tag_at q (f + j)) (reads_back cs few t (inside n) n) ∙ c p t j h k

      go : (f : Bool) → ltb 0 (get_or cs t 0) ≡ f → (v : Bool)
          → All (Tagged paths q p) (cond f (Fill (get_or cs t 0) rule (not32 (get_or (hand 0 cs) t 0)) (bits_of b) colour ∷ []) (cond v (Solid colour ∷ []) []))
      go true e v = (carried (ltb-true 0 (get_or cs t 0) e), tt)
      go false e true = (tt, tt)
      go false e false = tt

  -- every FILL of path p, on every screen tile
  pub path_tagged : (p x y : ℕ) → p < path_count paths → All (Tagged paths q p) (on_path now x y p)
  unfolding on_path
  path_tagged p x y h = go (in_box (path_at paths p) x y) refl
    where
      t : ℕ
      t = tile_of (path_at paths p) x y

      go : (b : Bool) → in_box (path_at paths p) x y ≡ b
          → All (Tagged paths q p)
          (cond b (on_tile (colour_at paints p) (rule_at paints p) (get_or cs t 0) (get_or (hand 0 cs) t 0) (get_or backdrops t (pos 0))) [])
      go true e =
          let o = own_tile (path_at paths p) x y (box_in (path_at paths p) x y e) in
          on_tile_lem p t (colour_at paints p) (rule_at paints p) (get_or backdrops t (pos 0)) (h, o.0, o.1)
      go false e = tt

-- after the calls one by one
pub drawn_tagged : (b : ℕ) (nos : List ℕ) (coords : List Float) (paths : List ℕ) (n : ℕ) (refs : List ℕ) (bs : List ℤ) (cs rs : List ℕ) (m : ℕ)
    (room : ℕ) (kept stored tally : List ℕ) (lent_to : Pieces) (paints : List ℕ) (backdrops : List ℤ)
    → AllCounted b nos coords paths n refs bs cs rs m → hand_out_of room cs kept ≡ out_of Done stored tally → (call_of 0 m (lent nos coords paths stored rs) lent_to).answer ≡ Done
    → (p x y : ℕ) → p < path_count paths
    → All (Tagged paths (applied (call_of 0 m (lent nos coords paths stored rs) lent_to).writes lent_to) p) (on_path (tables paths paints backdrops stored tally) x y p)
drawn_tagged b nos coords paths n refs bs cs rs m room kept stored tally lent_to paints backdrops all out e p x y h =
    let k = handed_is room cs kept stored tally out in
    let c = tiled_carries b nos coords paths n refs bs cs rs m room kept stored tally lent_to all out e in
    let total = (sums b nos coords paths n refs bs cs rs m all).total in
    let few : sum cs ≤ most_slots = omega (arith, total, (whole b nos coords paths n refs bs cs rs m all).few) in
    let after = applied (call_of 0 m (lent nos coords paths stored rs) lent_to).writes lent_to in
    subst (λ (ts : List ℕ). All (Tagged paths after p) (on_path (tables paths paints backdrops stored ts) x y p)) (sym k.1)
    (subst (λ (ss : List ℕ). All (Tagged paths after p) (on_path (tables paths paints backdrops ss cs) x y p)) (sym k.0)
    (path_tagged paths paints backdrops cs few after c p x y h))

-- after a frame that is done
pub frame_tagged : (nos : List ℕ) (coords : List Float) (paths : List ℕ) (backs : List ℤ) (stored tally refs : List ℕ) (lent_to : Pieces)
    (s : Running) (bs : List ℤ) (ts ks rs : List ℕ) (q : Pieces) (paints : List ℕ)
    → Frame.frame_of nos coords paths backs stored tally refs lent_to ≡ Frame.out_of (Framed.Done s) bs ts ks rs q
    → (p x y : ℕ) → p < path_count paths → All (Tagged paths q p) (on_path (tables paths paints bs ts ks) x y p)
frame_tagged nos coords paths backs stored tally refs lent_to s bs ts ks rs q paints e p x y h =
    let f = frame_done nos coords paths backs stored tally refs lent_to bs ts ks rs q s e in
    let c = frame_carries nos coords paths backs stored tally refs lent_to s bs ts ks rs q e in
    let few : sum ks ≤ most_slots = omega (arith, f.sums.total, f.room) in
    subst (λ (ss : List ℕ). All (Tagged paths q p) (on_path (tables paths paints bs ss ks) x y p)) (sym f.handed)
    (path_tagged paths paints bs ks few q c p x y h)
