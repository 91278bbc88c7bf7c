-- `on_pixels::begin` meets its contract. The invariant: what is left to do, from the present place on pixels that are alike, gives what the
-- whole gives. Assumes nothing.
use mathlib.Core.Path.{◌≡◌, refl, sym, subst, ◌∙◌}
use mathlib.Core.Bool.{false, ◌||◌, true≢false}
use Prim.Native.Nat.{ℕ, ◌+◌, ◌-◌}
use lib.Dec.{eqb}
use native.Mathlib.Omega.{arith}
use Rattle.panel.specs.Limits.{most_commands}
use Rattle.commands.specs.Numbers.{end_no, fill_no}
use Rattle.commands.proofs.Traced.{found, trace_goes}
use Rattle.on_pixels.proofs.OneLaws.{alike_turn}
use Rattle.on_pixels.proofs.Signs.{zero_plus, one_covered}
use Rattle.on_pixels.proofs.begin.Goals as goal

pub loop-count-init : goal.loop-count-init
loop-count-init c = (refl, zero_plus)

pub returns-in_default : goal.returns-in_default
returns-in_default c = (omega arith, c.loop-count.invariant.0, c.loop-count.invariant.1)

pub returns-then-tag : goal.returns-then-tag
returns-then-tag c =
    let l = c.loop-count in
    (omega arith, l.invariant.0, l.invariant.1)

pub move_at-requires : goal.move_at-requires
move_at-requires c = found c.args.words.now
    c.loop-count.at _
    (sym c.in-Some.ensures)

pub returns-in_default-move_at : goal.returns-in_default-move_at
returns-in_default-move_at c =
    (omega arith, c.loop-count.invariant.0, c.loop-count.invariant.1)

pub returns-then-not-alike : goal.returns-then-not-alike
returns-then-not-alike c =
    (omega arith, c.loop-count.invariant.0, c.loop-count.invariant.1)

-- a word that is neither END nor FILL isn't END
not_end : (tag : ℕ) → (eqb tag end_no || eqb tag fill_no) ≡ false → tag ≡ end_no → ⊥
not_end tag h e = true≢false (subst (λ (t : ℕ). (eqb t end_no || eqb t fill_no) ≡ false) e h)

pub loop-count-preserved : goal.loop-count-preserved
loop-count-preserved c =
    let a = c.args in
    let l = c.loop-count in
    let ws = a.words.now in
    let segs = a.segments.now in
    let goes = trace_goes ws segs l.at _ (sym c.in-Some.ensures)
    (not_end _ c.if-tag.false) _
    c.op_of.ensures _
    c.in-Ok.ensures (most_commands - (l.count + 1)) _ _
    refl in (
      alike_turn segs ws l.at l.count _ _ l.area _ l.px _ _
          (omega arith)
          l.invariant.0 goes (sym c.alike.ensures ∙ c.if-not-alike.false) c.cover_one-area.ensures c.paint_one.ensures,
      one_covered _ _ _ l.area _ goes c.cover_one-area.ensures l.invariant.1,
    )

pub returns : goal.returns
returns c =
    let all : c.loop-count.count ≡ most_commands = omega arith in
    (omega arith, rw all at c.loop-count.invariant.0, c.loop-count.invariant.1)
