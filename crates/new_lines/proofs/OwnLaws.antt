-- A new line, where it is of the path counted again and where it isn't. Assumes nothing.
use mathlib.Core.Path.{◌≡◌, refl, sym, ap, ap₂, ◌∙◌}
use mathlib.Core.Bool.{Bool, true, false, cond}
use mathlib.Core.List.{List}
use Prim.Native.Nat.{ℕ, ◌+◌, ◌*◌, ◌<◌, ◌^◌}
use native.Mathlib.Nat.{add-zero}
use native.Mathlib.Decide.{ℕ_discrete}
use native.Mathlib.Omega.{arith}
use lib.Dec.{leb}
use lib.ListN.{get_or, drop}
use lib.Seq.{get_or-drop}
use lib.Ieee.{Float, nan}
use borrow.Author.Tests.{eq-eqb, ne_eqb, lt-ltb}
use Rattle.lists.specs.Run.{taken, halted}
use Rattle.panel.specs.Limits.{most_lines}
use Rattle.panel.specs.Refusals.{line_number, coordinate, no_such}
use Rattle.panel.specs.Widths.{line_floats}
use Rattle.panel.specs.Paths.{path_count}
use Rattle.panel.specs.Lines.{line_at}
use Rattle.walk.specs.Lent.{reached_of, walk_at}
use Rattle.panel.specs.declared.lines.LineEnds.{LineEnds}
use Rattle.walk.specs.Walked as Walked
use Rattle.acts.specs.Acts.{St}
use Rattle.acts.specs.Line.{halt_if}
use Rattle.walked_lines.specs.Line.{walked_step, line_step}
use Rattle.walked_lines.proofs.Lines.{line_made}
use Rattle.stretches.specs.Stretches.{other_no}
use Rattle.new_lines.specs.Own.{own_walk, own_step}

-- ---- a part of the lines lent, from line k on: its line j is line k + j

line_part : (coords : List Float) (k j : ℕ) → line_at (drop (k * line_floats) coords) j ≡ line_at coords (k + j)
unfolding line_at
line_part coords k j =
    let n = k * line_floats in
    let m = j * line_floats in
    let at : (i : ℕ) → n + (m + i) ≡ (k + j) * line_floats + i = λ i. omega arith in
    let first : n + m ≡ (k + j) * line_floats = omega arith in
    let x0 = get_or-drop n coords m nan ∙ ap (λ (i : ℕ). get_or coords i nan) first in
    let y0 = get_or-drop n coords (m + 1) nan ∙ ap (λ (i : ℕ). get_or coords i nan) (at 1) in
    let x1 = get_or-drop n coords (m + 2) nan ∙ ap (λ (i : ℕ). get_or coords i nan) (at 2) in
    let y1 = get_or-drop n coords (m + 3) nan ∙ ap (λ (i : ℕ). get_or coords i nan) (at 3) in
    λ i. record { p0 = record { x = x0 i; y = y0 i }; p1 = record { x = x1 i; y = y1 i } }

-- its path number
number_part : (nos ns : List ℕ) (k j : ℕ) → ns ≡ drop k nos → get_or ns j 0 ≡ get_or nos (k + j) 0
number_part nos ns k j e = ap (λ (xs : List ℕ). get_or xs j 0) e ∙ get_or-drop k nos j 0

-- and of the first, why it is refused where it is of another path
pub other_part : (coords : List Float) (l k : ℕ) (fs : List Float) → fs ≡ drop (k * line_floats) coords → other_no l (line_at fs 0) ≡ other_no l (line_at coords k)
other_part coords l k fs e = ap (other_no l) (ap (λ (xs : List Float). line_at xs 0) e ∙ line_part coords k 0 ∙ ap (line_at coords) (add-zero k))

own_part : (p : ℕ) (nos : List ℕ) (coords : List Float) (paths : List ℕ) (room l k j : ℕ) (s : St) (ns : List ℕ) (fs : List Float) → ns ≡ drop k nos → fs ≡ drop (k * line_floats) coords
    → own_step p ns fs paths room l j s ≡ own_step p nos coords paths room l (k + j) s
unfolding own_step
own_part p nos coords paths room l k j s ns fs en ef =
    ap₂ (λ (q : ℕ) (e : LineEnds). halt_if (leb most_lines l) line_number (walked_step room l (own_walk p paths q e) s))
    (number_part nos ns k j en) (ap (λ (xs : List Float). line_at xs j) ef ∙ line_part coords k j)

module _ (p : ℕ) (nos : List ℕ) (coords : List Float) (paths : List ℕ) (room l k : ℕ) (s : St) where
  -- ---- a line of the path named is counting's own

  pub own_same : p < path_count paths → get_or nos k 0 ≡ p → own_step p nos coords paths room l k s ≡ line_step nos coords paths room l k s
  unfolding own_step own_walk line_step walk_at
  own_same h e = rw (e, eq-eqb p p refl, lt-ltb p (path_count paths) h)

  -- ---- one of another path is refused

  pub own_other : (get_or nos k 0 ≡ p → ⊥) → own_step p nos coords paths room l k s ≡ halted (other_no l (line_at coords k))
  unfolding own_step own_walk
  own_other h = rw (ne_eqb (get_or nos k 0) p h) (go (leb most_lines l) (reached_of (line_at coords k).p0 (line_at coords k).p1))
    where
      go : (a b : Bool) → halt_if a line_number (walked_step room l (cond b (Walked.Refused no_such) (Walked.Refused coordinate)) s)
          ≡ halted (cond a line_number (cond b no_such coordinate))
      go true b = refl
      go false true = refl
      go false false = refl

  -- a line that is taken is of the path named
  pub own_taken : (u : St) → own_step p nos coords paths room l k s ≡ taken u → get_or nos k 0 ≡ p
  own_taken u e = go (ℕ_discrete (get_or nos k 0) p)
    where
      go : Dec (get_or nos k 0 ≡ p) → get_or nos k 0 ≡ p
      go (yes q) = q
      go (no q) =
          let f : taken u ≡ halted (other_no l (line_at coords k)) = sym e ∙ own_other q in
          let z : ◌≡◌ {A = ℕ} 0 1 = cc in absurd (omega arith)

  -- and leaves the references within 32 bits
  pub own_made : p < path_count paths → s.made < 2 ^ 32 → (u : St) → own_step p nos coords paths room l k s ≡ taken u → u.made < 2 ^ 32
  own_made h m u e = line_made nos coords paths room l k s u m (sym (own_same h (own_taken u e)) ∙ e)

-- ---- a line of the path named is counting's own line of a part of the lines

pub own_rest : (p : ℕ) (nos : List ℕ) (coords : List Float) (paths : List ℕ) (room l k j : ℕ) (s : St) → p < path_count paths → get_or nos (k + j) 0 ≡ p
    → (ns : List ℕ) (fs : List Float) → ns ≡ drop k nos → fs ≡ drop (k * line_floats) coords
    → line_step ns fs paths room l j s ≡ own_step p nos coords paths room l (k + j) s
own_rest p nos coords paths room l k j s h e ns fs en ef =
    sym (own_same p ns fs paths room l j s h (number_part nos ns k j en ∙ e)) ∙ own_part p nos coords paths room l k j s ns fs en ef
