-- Pixels that are alike stay so until a FILL, and one of them tells of all. Assumes nothing.
use mathlib.Core.Path.{◌≡◌, refl, sym, ap, ◌∙◌}
use mathlib.Core.Bool.{true}
use mathlib.Core.List.{List, []}
use Prim.Native.Nat.{ℕ, suc, ◌+◌, ◌-◌, ◌<◌}
use native.Mathlib.Omega.{arith}
use lib.ListN.{replicate}
use lib.Ieee.{Float}
use Rattle.lists.specs.GridLaws.{mapi_replicate}
use Rattle.panel.specs.Limits.{most_commands}
use Rattle.sides.specs.Tile.{tile_size}
use Rattle.colours.specs.Colour.{colour_of, over_of}
use Rattle.commands.specs.Moves.{Trace, does, trace_of, end_of}
use Rattle.commands.specs.Pixel.{cover, paint, point, point_of, Ran, ran}
use Rattle.commands.specs.Alike.{same_colour, run_from}
use Rattle.commands.specs.declared.steps.Act.{Act}
use Rattle.commands.specs.declared.steps.Act.TheVariants.{Fill, Solid, Color, Jump}
use Rattle.commands.proofs.Acts.{mapi_cong}
use Rattle.on_pixels.specs.One.{alike, cover_one}

one_cover : (act : Act) (segs : List Float) (k : ℕ) (a : Float) → alike act ≡ true → cover act segs k a ≡ cover_one act a
unfolding cover
one_cover (Fill rule first backdrop) segs k a h = let z : ◌≡◌ {A = ℕ} 0 1 = cc in absurd (omega arith)
one_cover Solid segs k a h = refl
one_cover (Color word) segs k a h = refl
one_cover Jump segs k a h = refl

module _ (segs : List Float) where
  pub alike_goes : (act : Act) (t : Trace) (a : Float) (c : List Float) → alike act ≡ true
      → run_from segs (does act t) a (same_colour c) ≡ run_from segs t (cover_one act a) (same_colour (paint act a c))
  unfolding run_from same_colour point_of
  alike_goes act t a c h =
      ap (ran (end_of t))
      (mapi_cong [] [] (λ k x. (point_of segs k t (point (cover act segs k a) (paint act a x))).colour) (λ k x. (point_of segs k t (point (cover_one act a) (paint act a x))).colour) (replicate tile_size c)
      (λ k x lt. ap (λ (z : Float). (point_of segs k t (point z (paint act a x))).colour) (one_cover act segs k a h))
      ∙ mapi_replicate tile_size (λ k x. (point_of segs k t (point (cover_one act a) (paint act a x))).colour) c
      ∙ sym (mapi_replicate tile_size (λ k x. (point_of segs k t (point (cover_one act a) x)).colour) (paint act a c)))

  -- a loop's turn
  pub alike_turn : (ws : List ℕ) (at count : ℕ) (act : Act) (next : ℕ) (a a' : Float) (c c' : List Float) (all : Ran) → count < most_commands
      → all ≡ run_from segs (trace_of (most_commands - count) ws segs at) a (same_colour c)
      → trace_of (suc (most_commands - (count + 1))) ws segs at ≡ does act (trace_of (most_commands - (count + 1)) ws segs next) → alike act ≡ true → a' ≡ cover_one act a
      → c' ≡ paint act a c → all ≡ run_from segs (trace_of (most_commands - (count + 1)) ws segs next) a' (same_colour c')
  alike_turn ws at count act next a a' c c' all h inv e k p q =
      let more : most_commands - count ≡ suc (most_commands - (count + 1)) = omega arith in
      let t = trace_of (most_commands - (count + 1)) ws segs next in
      inv ∙ ap (λ (n : ℕ). run_from segs (trace_of n ws segs at) a (same_colour c)) more ∙ ap (λ (x : Trace). run_from segs x a (same_colour c)) e
      ∙ alike_goes act t a c k ∙ ap (λ (x : Float). run_from segs t x (same_colour (paint act a c))) (sym p) ∙ ap (λ (x : List Float). run_from segs t a' (same_colour x)) (sym q)

-- what a command does to a pixel's colour: nothing, unless it is COLOR
pub paint_color : (act : Act) (word : ℕ) (a : Float) (c fg n : List Float) → act ≡ Color word → fg ≡ colour_of word → n ≡ over_of fg a c → n ≡ paint act a c
unfolding paint
paint_color act word a c fg n e p q = rw e (q ∙ ap (λ (g : List Float). over_of g a c) p)

pub paint_other : (act : Act) (a : Float) (c : List Float) → ((word : ℕ) → act ≡ Color word → ⊥) → c ≡ paint act a c
unfolding paint
paint_other (Fill rule first backdrop) a c h = refl
paint_other Solid a c h = refl
paint_other (Color word) a c h = absurd (h word refl)
paint_other Jump a c h = refl
