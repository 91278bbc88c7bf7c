-- `acts::marks::mark` meets its contract.
-- Assumes nothing.
use mathlib.Core.Path.{◌≡◌, ap}
use mathlib.Core.Bool.{Bool, true}
use mathlib.Core.List.{List}
use Prim.Native.Nat.{ℕ}
use lib.ListN.{get_or, set}
use lib.IntN.{ℤ, pos, negsuc, ◌+ℤ◌}
use mir.Syntax.{w32}
use mir.Val.{SFits, to_z, of_z}
use mir.Facts.{to_z-of_z}
use Rattle.panel.specs.Signed.{in_i32}
use Rattle.acts.specs.Acts.{delta_of}
use Rattle.panel.proofs.SignLaws.{in_fits}
use Rattle.acts.proofs.marks.mark.Goals as goal

module _ (bs : List ℤ) (t : ℕ) (f : SFits w32 (get_or bs t (pos 0))) (δ : ℤ) (up : Bool) (d : delta_of up ≡ δ) (e : in_i32 (get_or bs t (pos 0) +ℤ delta_of up) ≡ true) where
  fits : SFits w32 (to_z w32 (of_z w32 (get_or bs t (pos 0))) +ℤ δ)
  fits = rw (to_z-of_z f) (in_fits (get_or bs t (pos 0) +ℤ δ) (rw d at e))

  sets : set bs t (to_z w32 (of_z w32 (to_z w32 (of_z w32 (get_or bs t (pos 0))) +ℤ δ))) ≡ set bs t (get_or bs t (pos 0) +ℤ delta_of up)
  sets = rw (d, to_z-of_z f, to_z-of_z (in_fits (get_or bs t (pos 0) +ℤ δ) (rw d at e)))

pub overflow_add-v : goal.overflow_add-v
overflow_add-v c = fits c.args.backs.now c.args.t (record { sfits = c.b-1.given }) (pos 1)
    c.args.up (ap delta_of c.if-up.true) c.requires.1

pub overflow_sub-v : goal.overflow_sub-v
overflow_sub-v c = fits c.args.backs.now c.args.t (record { sfits = c.b-1.given }) (negsuc 0)
    c.args.up (ap delta_of c.if-up.false) c.requires.1

pub returns-then-up : goal.returns-then-up
returns-then-up c = sets c.args.backs.now c.args.t (record { sfits = c.b-1.given }) (pos 1)
    c.args.up (ap delta_of c.if-up.true) c.requires.1

pub returns-else-up : goal.returns-else-up
returns-else-up c = sets c.args.backs.now c.args.t (record { sfits = c.b-1.given }) (negsuc 0)
    c.args.up (ap delta_of c.if-up.false) c.requires.1
