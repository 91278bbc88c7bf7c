-- What is left of a tile's commands, at one pixel. Assumes nothing.
use mathlib.Core.Path.{◌≡◌, refl, ap}
use mathlib.Core.List.{List}
use Prim.Native.Nat.{ℕ}
use lib.Ieee.{Float}
use Rattle.panel.specs.Limits.{most_commands}
use Rattle.colours.specs.Colour.{over_of, pack_of}
use Rattle.commands.specs.Numbers.{start_of}
use Rattle.commands.specs.Moves.{Trace, does, trace_of, end_of}
use Rattle.commands.specs.Pixel.{Point, point, cover, paint, point_of}
use Rattle.commands.specs.declared.steps.Act.{Act}
use Rattle.commands.specs.declared.steps.Act.TheVariants.{Fill, Solid, Color, Jump}
use Rattle.screen_tile.specs.Tile.{tile_trace, colour_at}
use Rattle.pixel.specs.Answers.{Paper, answered, unless_no}
use Rattle.pixel.specs.Held.{point_in, nothing_held, laid_on, held_after}
use Rattle.pixel.specs.Colour.{under_list}
use Rattle.pixel.specs.declared.kinds.Held.{Held}

-- what a trace makes of pixel k that is held so
unfoldable pub left : List Float → ℕ → Trace → Held → Paper ℕ
left segs k t p = unless_no (end_of t) (answered (pack_of (point_of segs k t (point_in p)).colour))

-- a command does to what is held as it does to the area and the colour
held_point : (a : Act) (segs : List Float) (k : ℕ) (p : Held) → point (cover a segs k p.area) (paint a p.area (point_in p).colour) ≡ point_in (held_after a segs k p)
unfolding cover paint held_after laid_on over_of
held_point (Fill rule first backdrop) segs k p = refl
held_point Solid segs k p = refl
held_point (Color word) segs k p = refl
held_point Jump segs k p = refl

module _ (segs : List Float) (k : ℕ) where
  pub left_does : (a : Act) (t : Trace) (p : Held) → left segs k (does a t) p ≡ left segs k t (held_after a segs k p)
  unfolding left point_of
  left_does a t p = ap (λ (x : Point). unless_no (end_of t) (answered (pack_of (point_of segs k t x).colour))) (held_point a segs k p)

  pub left_starts : (ws : List ℕ) (t : ℕ) → left segs k (trace_of most_commands ws segs (start_of t)) nothing_held ≡ under_list ws segs t k
  unfolding left under_list colour_at tile_trace
  left_starts ws t = refl
