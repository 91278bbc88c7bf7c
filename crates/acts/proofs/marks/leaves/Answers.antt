-- `acts::marks::leaves` meets its contract. A test `==` of signed numbers tells of their bits, `of_z w32 b`, from which `to_z-of_z` comes back.
-- Assumes nothing.
use mathlib.Core.Path.{◌≡◌, refl, sym, ap, ◌∙◌}
use mathlib.Core.Bool.{Bool, true, false, not}
use Prim.Native.Nat.{ℕ}
use lib.Dec.{eqb}
use lib.IntN.{ℤ, pos, negsuc, ◌+ℤ◌}
use mir.Syntax.{w32}
use mir.Val.{SFits, to_z, of_z}
use mir.Facts.{to_z-of_z}
use borrow.Author.Tests.{eqb-true, eqb-false}
use Rattle.panel.specs.Signed.{in_i32}
use Rattle.acts.specs.Acts.{delta_of}
use Rattle.acts.proofs.Signs.{up_in, down_in}
use Rattle.acts.proofs.marks.leaves.Goals as goal

-- the test against the end z, whose bits are n
at_end : (b : ℤ) → SFits w32 b → (z δ : ℤ) (n : ℕ) (up : Bool) → to_z w32 n ≡ z → of_z w32 z ≡ n → in_i32 (z +ℤ δ) ≡ false → delta_of up ≡ δ
    → ((b ≡ z → ⊥) → in_i32 (b +ℤ δ) ≡ true) → eqb (of_z w32 b) n ≡ not (in_i32 (b +ℤ delta_of up))
at_end b f z δ n up t o e d stays = go (eqb (of_z w32 b) n) refl
  where
    go : (c : Bool) → eqb (of_z w32 b) n ≡ c → c ≡ not (in_i32 (b +ℤ delta_of up))
    go true q = let g : b ≡ z = sym (to_z-of_z f) ∙ ap (to_z w32) (eqb-true (of_z w32 b) n q) ∙ t in rw (d, g, e)
    go false q = rw (d, stays (λ g. eqb-false (of_z w32 b) n q (ap (of_z w32) g ∙ o)))

pub returns-then-up : goal.returns-then-up
returns-then-up c =
    at_end c.args.b c.ranges.b (pos 2147483647) (pos 1) 2147483647 c.args.up refl refl refl
    (ap delta_of c.if-up.true) (up_in c.args.b c.ranges.b)

pub returns-else-up : goal.returns-else-up
returns-else-up c =
    at_end c.args.b c.ranges.b (negsuc 2147483647) (negsuc 0) 2147483648 c.args.up refl refl refl
    (ap delta_of c.if-up.false) (down_in c.args.b c.ranges.b)
