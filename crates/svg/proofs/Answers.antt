-- Which case of the definitions holds, from what the call's tests show. Assumes nothing.
use mathlib.Core.Path.{◌≡◌, refl, sym, ap, ◌∙◌, subst}
use mathlib.Core.Bool.{Bool, true, false, cond}
use mathlib.Core.List.{List, ◌++◌}
use Prim.Native.Nat.{ℕ, ◌+◌, ◌*◌, ◌/◌, ◌%◌, ◌≤◌, ◌<◌}
use native.Mathlib.Omega.{arith}
use lib.Dec.{eqb, leb}
use lib.ListN.{length, replicate, take, drop, length-replicate}
use lib.Seq.{sets, sets-eq, length-take-le}
use lib.Ieee.{Float}
use borrow.Author.Tests.{le-leb, lt-leb, leb-true, eqb-true}
use Rattle.panel.specs.Refusals.{not_whole, no_room_word, bad_text, too_deep}
use Rattle.panel.specs.Widths.{line_floats}
use Rattle.svg_path.specs.declared.State.TheVariants.{Start}
use Rattle.svg_path.specs.Verdict.{Verdict}
use Rattle.svg_path.specs.Verdict.{Fine, Refused as Against}
use Rattle.svg_path.specs.Machine.{verdict_of}
use Rattle.svg_path.proofs.Sound.{and_both}
use Rattle.svg_outline.specs.Outline.{depth_most}
use Rattle.svg_outline.specs.Strokes.{text_lines}
use Rattle.svg_outline.specs.Counts.{text_count, sum_of}
use Rattle.svg_outline.specs.Sum.{Sum}
use Rattle.svg_outline.specs.Sum.{Lines, Over}
use Rattle.svg_outline.proofs.Texts.{text_count_lem}
use Rattle.svg.specs.Answer.{Done}
use Rattle.svg.specs.Lines.{paper_of, Left, refused, paired_of, drawn_of, on_verdict, lines_of}

-- ---- four coordinates to each path number
pub paired_is : (n f : ℕ) (b : Bool) → b ≡ paired_of n f → b ≡ true → f ≡ line_floats * n
unfolding paired_of
paired_is n f b e t = go (and_both (eqb (f % line_floats) 0) (eqb (f / line_floats) n) (sym e ∙ t))
  where
    go : (eqb (f % line_floats) 0 ≡ true) × (eqb (f / line_floats) n ≡ true) → f ≡ line_floats * n
    go p = let a : f % line_floats ≡ 0 = eqb-true (f % line_floats) 0 p.0 in let c : f / line_floats ≡ n = eqb-true (f / line_floats) n p.1 in omega arith

-- ---- the path's number, stored
pub named : (ps q : List ℕ) (n p : ℕ) → n ≤ length ps → q ≡ replicate (length (take n ps)) p → q ++ drop n ps ≡ sets ps 0 (replicate n p)
named ps q n p h e =
    let l : length (replicate n p) ≡ n = length-replicate n p in
    rw (e, length-take-le n ps h) (sym (sets-eq (replicate n p) ps 0 (omega arith) ∙ rest l))
  where
    rest : length (replicate n p) ≡ n → replicate n p ++ drop (0 + length (replicate n p)) ps ≡ replicate n p ++ drop n ps
    rest l = let z : 0 + length (replicate n p) ≡ n = omega arith in rw z

-- ---- counted
lines_in : (room total n : ℕ) → sum_of room total ≡ Lines n → (n ≡ total) × (leb total room ≡ true)
unfolding sum_of
lines_in room total n e = go (leb total room) refl e
  where
    go : (b : Bool) → leb total room ≡ b → cond b (Lines total) Over ≡ Lines n → (n ≡ total) × (leb total room ≡ true)
    go true f e = let k : n ≡ total = cc in (k, f)
    go false f e = let z : ◌≡◌ {A = ℕ} 0 1 = cc in absurd (omega arith)

over_in : (room total : ℕ) → sum_of room total ≡ Over → leb total room ≡ false
unfolding sum_of
over_in room total e = go (leb total room) refl e
  where
    go : (b : Bool) → leb total room ≡ b → cond b (Lines total) Over ≡ Over → leb total room ≡ false
    go true f e = let z : ◌≡◌ {A = ℕ} 0 1 = cc in absurd (omega arith)
    go false f e = f

module _ (text : List ℕ) (d path : ℕ) (ps : List ℕ) (cs : List Float) (x : Sum) (e : x ≡ sum_of (length ps) (text_count d text)) where
  pub over_drawn : x ≡ Over → refused no_room_word 0 ps cs ≡ drawn_of text d path ps cs
  unfolding drawn_of
  over_drawn o = rw (over_in (length ps) (text_count d text) (sym e ∙ o))

  module _ (n : ℕ) (l : x ≡ Lines n) where
    pub count_is : (n ≡ text_count d text) × (n ≤ length ps)
    count_is =
        let p = lines_in (length ps) (text_count d text) n (sym e ∙ l) in
        (p.0, subst (λ (k : ℕ). k ≤ length ps) (sym p.0) (leb-true (text_count d text) (length ps) p.1))

    pub lines_fit : length cs ≡ line_floats * length ps → length (text_lines d text) ≤ length cs
    lines_fit w =
        let q = count_is in
        room (length (text_lines d text)) (text_count d text) n (length cs) (length ps) (text_count_lem d text) q.0 q.1 w
      where
        room : (a t n c p : ℕ) → a ≡ line_floats * t → n ≡ t → n ≤ p → c ≡ line_floats * p → a ≤ c
        room a t n c p e f g h = omega arith

    pub lines_drawn : (ps' : List ℕ) (cs' : List Float) → ps' ≡ sets ps 0 (replicate n path) → cs' ≡ sets cs 0 (text_lines d text)
        → record { answer = paper_of (Done n); paths = ps'; coords = cs' } ≡ drawn_of text d path ps cs
    unfolding drawn_of
    lines_drawn ps' cs' f g =
        let p = lines_in (length ps) (text_count d text) n (sym e ∙ l) in
        rw (p.1, f, g, p.0)

-- ---- the call
module _ (text : List ℕ) (d path : ℕ) (ps : List ℕ) (cs : List Float) where
  pub too_deep_lem : depth_most < d → refused too_deep 0 ps cs ≡ lines_of text d path ps cs
  unfolding lines_of
  too_deep_lem h = rw (lt-leb d depth_most h)

  module _ (h : d ≤ depth_most) (b : Bool) (e : b ≡ paired_of (length ps) (length cs)) where
    pub not_paired : b ≡ false → refused not_whole 0 ps cs ≡ lines_of text d path ps cs
    unfolding lines_of
    not_paired f = rw (le-leb d depth_most h, sym e ∙ f)

    module _ (t : b ≡ true) (v : Verdict) (q : v ≡ verdict_of Start 0 text) where
      by_verdict : lines_of text d path ps cs ≡ on_verdict v text d path ps cs
      unfolding lines_of
      by_verdict = rw (le-leb d depth_most h, sym e ∙ t, ← q)

      pub outside : (at : ℕ) → v ≡ Against at → refused bad_text at ps cs ≡ lines_of text d path ps cs
      outside at w = sym (by_verdict ∙ ap (λ (y : Verdict). on_verdict y text d path ps cs) w)

      pub inside : (l : Left) → v ≡ Fine → l ≡ drawn_of text d path ps cs → l ≡ lines_of text d path ps cs
      inside l w f = f ∙ sym (by_verdict ∙ ap (λ (y : Verdict). on_verdict y text d path ps cs) w)
