-- `pixel::run::carry_out` meets its contract: an arm for each command. Assumes nothing.
use mathlib.Core.Path.{◌≡◌, subst, ◌∙◌}
use mathlib.Core.List.{List}
use Prim.Native.Nat.{ℕ}
use lib.IntN.{ℤ}
use lib.ListN.{length}
use lib.Ieee.{Float}
use mir.Syntax.{w32}
use mir.ValLaws.{to_z-of_z}
use Rattle.util.specs.Constants as Number
use Rattle.coverage.specs.Coverage.{pixel_of}
use Rattle.commands.specs.Moves.{count_of}
use Rattle.commands.specs.Pixel.{even_odd_of, signed_of, cover, Within}
use Rattle.commands.specs.declared.steps.Act.{Act}
use Rattle.commands.specs.declared.steps.Act.TheVariants.{Fill, Solid, Color, Jump}
use Rattle.pixel.specs.Held.{covered_by, laid_on, held_after}
use Rattle.pixel.specs.declared.kinds.Held.{Held}
use Rattle.pixel.proofs.run.carry_out.Goals as goal

module _ (act : Act) (segs : List Float) (k : ℕ) (p q : Held) where
  by_fill : (rule first backdrop : ℕ) (z : ℤ) (a : Float) → act ≡ Fill rule first backdrop → z ≡ signed_of backdrop
      → a ≡ pixel_of segs first (count_of rule) (even_odd_of rule) z Number.zero Number.zero k → q ≡ covered_by p a → q ≡ held_after act segs k p
  unfolding held_after cover
  by_fill rule first backdrop z a e f g h = h ∙ rw (e, g, f)

  by_solid : act ≡ Solid → q ≡ covered_by p Number.one → q ≡ held_after act segs k p
  unfolding held_after cover
  by_solid e h = h ∙ rw e

  by_color : (word : ℕ) → act ≡ Color word → q ≡ laid_on word p → q ≡ held_after act segs k p
  unfolding held_after
  by_color word e h = h ∙ rw e

by_jump : (act : Act) (segs : List Float) (k : ℕ) (p : Held) → act ≡ Jump → p ≡ held_after act segs k p
unfolding held_after
by_jump act segs k p e = rw e

pub coverage_of-requires : goal.coverage_of-requires
coverage_of-requires c = (
  subst (λ (a : Act). Within a (length c.args.segments.now)) c.in-Fill.is
      c.requires.0,
  c.requires.1,
  c.requires.2,
)

pub returns-in-Fill : goal.returns-in-Fill
returns-in-Fill c =
    by_fill c.args.act c.args.segments.now _
    c.args.p _ _ _ _ _ _ c.in-Fill.is
    (to_z-of_z w32 _ (record { sfits = c.signed-b.type_inv }) ∙ c.signed-b.ensures) c.coverage_of.ensures c.covered.ensures

pub returns-in-Solid : goal.returns-in-Solid
returns-in-Solid c = by_solid c.args.act c.args.segments.now _ c.args.p _
    c.in-Solid.is c.covered-in-Solid.ensures

pub returns-in-Color : goal.returns-in-Color
returns-in-Color c = by_color c.args.act c.args.segments.now _
    c.args.p _ _ c.in-Color.is c.laid.ensures

pub returns-in-Jump : goal.returns-in-Jump
returns-in-Jump c = by_jump c.args.act c.args.segments.now _ c.args.p c.in-Jump.is
