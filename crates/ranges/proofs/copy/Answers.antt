-- `ranges::copy` meets its contract. The invariant: the first i of the range are done. Assumes nothing.
use mathlib.Core.Path.{◌≡◌, refl, ap, ◌∙◌}
use mathlib.Core.List.{List}
use Prim.Native.Nat.{ℕ, ◌-◌, ◌+◌, ◌<◌}
use native.Mathlib.Omega.{arith}
use lib.ListN.{length, get_or, length-set}
use Rattle.lists.specs.GridLaws.{get_d_mapi, mapi_is}
use Rattle.ranges.specs.Ranges.{copied_of}
use Rattle.ranges.proofs.Turn.{begun_at, turned_at, ended_at}
use Rattle.ranges.proofs.copy.Goals as goal

-- what is read where an element is, whatever would be read where none is
any_default : {A : Type 0} (l : List A) (k : ℕ) (d e : A) → k < length l → get_or l k e ≡ get_or l k d
any_default l k d e h = ap (λ m. get_or m k e) (mapi_is (λ i x. x) l l e e refl (λ i q. refl)) ∙ get_d_mapi (λ i x. x) l k d e h

pub loop-i-init : goal.loop-i-init
loop-i-init g c = (refl, λ d. begun_at (λ k x. get_or c.args.from.now (c.args.a + (k - c.args.b)) d) d _ _)

pub loop-i-preserved : goal.loop-i-preserved
loop-i-preserved g c =
    let l = c.loop-i in
    let a = c.args in
    let same : l.i ≡ a.b + l.i - a.b = omega arith in
    (length-set l.to _ _ ∙ l.invariant.0, λ d. turned_at (λ k x. get_or a.from.now (a.a + (k - a.b)) d) d a.b l.i _ l.to _ (l.invariant.1 d) (c.index-from-a.is ∙ any_default a.from.now (a.a + l.i) d _ (omega arith) ∙ ap (λ (j : ℕ). get_or a.from.now (a.a + j) d) same))

pub returns : goal.returns
unfolding copied_of
returns g c d =
    let a = c.args in
    ended_at (λ k x. get_or a.from.now (a.a + (k - a.b)) d) d a.b a.n c.loop-i.i _ _ (c.loop-i.invariant.1 d) (omega arith)
