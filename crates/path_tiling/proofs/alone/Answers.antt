-- `path_tiling::alone` meets its contract. Assumes nothing.
use borrow.Author.Tests.{eq-eqb, ne_eqb}
use mathlib.Core.Path.{◌≡◌, sym, ap, ◌∙◌}
use mathlib.Core.Bool.{Bool, true, false, cond, not}
use mathlib.Core.List.{List}
use Prim.Native.Nat.{ℕ, ◌+◌}
use lib.Dec.{eqb}
use Rattle.panel.specs.Refs.{line_at}
use Rattle.path_tiling.specs.Runs.{alone_of}
use Rattle.path_tiling.proofs.alone.Goals as goal

the_last : (refs : List ℕ) (k to : ℕ) → eqb (k + 1) to ≡ true → true ≡ alone_of refs k to
unfolding alone_of
the_last refs k to h = sym (ap (λ (t : Bool). cond t true (not (eqb (line_at refs k) (line_at refs (k + 1))))) h)

another : (refs : List ℕ) (k to a b : ℕ) → eqb (k + 1) to ≡ false → a ≡ line_at refs k → b ≡ line_at refs (k + 1) → not (eqb a b) ≡ alone_of refs k to
unfolding alone_of
another refs k to a b h p q =
    ap (λ (n : ℕ). not (eqb n b)) p
    ∙ ap (λ (n : ℕ). not (eqb (line_at refs k) n)) q
    ∙ sym (ap (λ (t : Bool). cond t true (not (eqb (line_at refs k) (line_at refs (k + 1))))) h)

pub returns-then-from-to : goal.returns-then-from-to
returns-then-from-to c =
    let a = c.args in
    the_last a.refs.now a.from a.to (eq-eqb _ _ c.if-from-to.true)

pub returns : goal.returns
returns c =
    let a = c.args in
    another a.refs.now a.from a.to _ _ (ne_eqb _ _ c.if-from-to.false) c.named_at-named.ensures c.named_at-after.ensures
