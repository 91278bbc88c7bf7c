-- `quick_notes::pass_step` meets its contract.
-- Assumes nothing.
use mathlib.Core.Path.{◌≡◌, sym, ap, ap₂, ◌∙◌, subst}
use mathlib.Core.Bool.{Bool, not, cond, false≢true}
use Prim.Native.Nat.{ℕ, ◌+◌, ◌<◌}
use native.Mathlib.Omega.{arith}
use lib.ListN.{length, get_or}
use lib.IntN.{pos, ◌+ℤ◌}
use Rattle.panel.specs.Limits.{most_count}
use Rattle.panel.specs.Signed.{in_i32}
use Rattle.walk.proofs.Lines.{turned_on}
use Rattle.strides.specs.Words.{word_tile, word_marks, word_next}
use Rattle.acts.specs.Acts.{delta_of}
use Rattle.acts.proofs.Signs.{told}
use Rattle.acts.proofs.Laws.{check_passes, own_below}
use Rattle.hits.proofs.NoteLaws.{none_leaves}
use Rattle.quick_notes.proofs.pass_step.Goals as goal
use Rattle.quick_notes.proofs.pass_step.Goals.{After-leaves, After-word_tile-own}

-- its tile is lent
below : (c : After-word_tile-own) → c.word_tile-own.result < length c.args.counts.now
below c =
    omega (arith, c.word_tile-own.ensures, own_below (word_marks c.args.word) (word_tile c.args.word) (length c.args.backs.now) c.requires.1.below, c.requires.0.paired)

pub bounds-counts-own : goal.bounds-counts-own
bounds-counts-own c = below (goal.at.bounds-counts-own c).After-word_tile-own

pub returns-then-counts-own-ge-MOST_COUNT : goal.returns-then-counts-own-ge-MOST_COUNT
returns-then-counts-own-ge-MOST_COUNT c = λ e. absurd (false≢true e)

-- the tile that it marks, or its own
next : (word : ℕ) {m : Bool} {t q : ℕ} → q ≡ cond m (t + 1) t → m ≡ word_marks word → t ≡ word_tile word → q ≡ word_next word
next word q_is m_is t_is = q_is ∙ ap₂ (λ (m : Bool) (t : ℕ). cond m (t + 1) t) m_is t_is

pub offset_bounds-backs-q : goal.offset_bounds-backs-q
offset_bounds-backs-q c = omega (arith, next c.args.word c.next_if-q.ensures c.word_marks.ensures c.word_tile-own.ensures, c.requires.1.below, c.requires.0.few, c.requires.0.paired)

pub bounds-backs-q : goal.bounds-backs-q
bounds-backs-q c = omega (arith, next c.args.word c.next_if-q.ensures c.word_marks.ensures c.word_tile-own.ensures, c.requires.1.below)

-- what `leaves` says of the backdrop itself
said : (c : After-leaves) →
    c.leaves.result ≡ not (in_i32 (get_or c.args.backs.now (word_next c.args.word) (pos 0) +ℤ delta_of c.args.up))
said c =
    told (get_or c.args.backs.now c.next_if-q.result (pos 0)) (delta_of c.args.up) c.leaves.result c.leaves-arg-1.given c.leaves.ensures
    ∙ ap (λ (q : ℕ). not (in_i32 (get_or c.args.backs.now q (pos 0) +ℤ delta_of c.args.up))) (next c.args.word c.next_if-q.ensures c.word_marks.ensures c.word_tile-own.ensures)

pub returns : goal.returns
returns c =
    let h = subst (λ (t : ℕ). get_or c.args.counts.now t 0 < most_count) c.word_tile-own.ensures c.if-counts-own-ge-MOST_COUNT.false in
    λ e.
    sym (check_passes _ _ _ _ _ _ _ c.requires.1.falls c.leaves.result h (said c)
    (none_leaves (word_marks c.args.word) c.leaves.result (turned_on c.leaves.result e)))
