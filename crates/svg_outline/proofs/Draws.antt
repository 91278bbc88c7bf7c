-- What a group of numbers draws, over plain variables. Assumes nothing.
use mathlib.Core.Path.{◌≡◌, refl, sym, ap, ◌∙◌, subst}
use mathlib.Core.Bool.{Bool, true, false}
use mathlib.Core.List.{List}
use Prim.Native.Nat.{ℕ, ◌+◌, ◌*◌, ◌^◌, ◌≤◌}
use native.Mathlib.Nat.{add-zero}
use lib.ListN.{length}
use lib.Seq.{sets}
use lib.Ieee.{Float}
use Rattle.panel.specs.Widths.{line_floats}
use Rattle.curve.specs.declared.Curve.{Curve}
use Rattle.curve.specs.Halves.{line_of, lines_of as halved}
use Rattle.curve.proofs.Sets.{lines_length}
use Rattle.svg_tokens.specs.declared.Token.{Token}
use Rattle.svg_tokens.specs.declared.Token.TheVariants.{End, Letter, Value}
use Rattle.svg_outline.specs.declared.steps.Kind.{Kind}
use Rattle.svg_outline.specs.declared.steps.Kind.TheVariants.{Rest, Move, Line, Across, Upright, Curved, Close}
use Rattle.svg_outline.specs.declared.steps.Gait.{Gait}
use Rattle.svg_outline.specs.declared.strokes.Hand.{Hand}
use Rattle.svg_outline.specs.Outline.{placed, relative_of}
use Rattle.svg_outline.specs.Tokens.{act_of}
use Rattle.svg_outline.specs.Strokes.{held_of, hand_to, lines_at, stroke_of, shut_lines, turn_lines, turn_hand}

pub line_length : (a b c d : Float) → length (line_of a b c d) ≡ line_floats
unfolding line_of
line_length a b c d = refl

-- ---- the line back
back : Hand → List Float
back h = line_of h.x h.y h.x0 h.y0

pub shut_room : (h : Hand) (drawn : Bool) (n : ℕ) → drawn ≡ true → h.at + length (shut_lines drawn h) ≤ n → h.at + line_floats ≤ n
shut_room h drawn n e p = rw (e, line_length h.x h.y h.x0 h.y0) at p

pub shut_drawn : (h : Hand) (drawn : Bool) (r : ℕ) (out was : List Float) → drawn ≡ true
    → (r ≡ h.at + line_floats) × (out ≡ sets was h.at (line_of h.x h.y h.x0 h.y0))
    → (r ≡ h.at + length (shut_lines drawn h)) × (out ≡ sets was h.at (shut_lines drawn h))
shut_drawn h drawn r out was e p = rw (e, line_length h.x h.y h.x0 h.y0) p

pub shut_none : (h : Hand) (drawn : Bool) (out : List Float) → drawn ≡ false
    → (h.at ≡ h.at + length (shut_lines drawn h)) × (out ≡ sets out h.at (shut_lines drawn h))
shut_none h drawn out e = rw e (sym (add-zero h.at), refl)

-- ---- a line, a move, a curve
pub to_line : (h : Hand) (x y : Float) (at : ℕ) (r : Hand) → r ≡ hand_to h x y h.x0 h.y0 at → at ≡ h.at + line_floats
    → r ≡ hand_to h x y h.x0 h.y0 (h.at + line_floats)
to_line h x y at r e f = e ∙ ap (λ (n : ℕ). hand_to h x y h.x0 h.y0 n) f

pub moved_to : (h : Hand) (rel drawn : Bool) (at : ℕ) (x y : Float) (r : Hand) → at ≡ h.at + length (shut_lines drawn h) → x ≡ placed rel h.x h.c → y ≡ placed rel h.y h.e
    → r ≡ hand_to h x y x y at → r ≡ stroke_of Move rel drawn 0 h
moved_to h rel drawn at x y r e f g k = rw (e, f, g) at k

pub curve_room : (d at n : ℕ) (q : Curve) → at + length (halved d q) ≤ n → at + line_floats * 2 ^ d ≤ n
curve_room d at n q p = subst (λ (k : ℕ). at + k ≤ n) (lines_length d q) p

module _ (h : Hand) (rel : Bool) (d : ℕ) where
  curve_of : Curve
  curve_of =
      record {
        x0 = h.x;
        y0 = h.y;
        x1 = placed rel h.x h.a;
        y1 = placed rel h.y h.b;
        x2 = placed rel h.x h.c;
        y2 = placed rel h.y h.e;
      }

  pub curved_hand : (at : ℕ) (x2 y2 : Float) (r : Hand) → x2 ≡ placed rel h.x h.c → y2 ≡ placed rel h.y h.e
      → at ≡ h.at + line_floats * 2 ^ d → r ≡ hand_to h x2 y2 h.x0 h.y0 at → r ≡ stroke_of Curved rel false d h
  unfolding curve_of
  curved_hand at x2 y2 r f g e k =
      k
      ∙ ap (λ (n : ℕ). hand_to h x2 y2 h.x0 h.y0 n) (e ∙ ap (λ (n : ℕ). h.at + n) (sym (lines_length d curve_of)))
      ∙ ap (λ (z : Float). hand_to h z y2 h.x0 h.y0 (h.at + length (halved d curve_of))) f
      ∙ ap (λ (z : Float). hand_to h (placed rel h.x h.c) z h.x0 h.y0 (h.at + length (halved d curve_of))) g

  pub curved_lines : (x1 y1 x2 y2 : Float) (out was : List Float) → x1 ≡ placed rel h.x h.a → y1 ≡ placed rel h.y h.b → x2 ≡ placed rel h.x h.c → y2 ≡ placed rel h.y h.e
      → out ≡ sets was h.at (halved d (record { x0 = h.x; y0 = h.y; x1 = x1; y1 = y1; x2 = x2; y2 = y2 }))
      → out ≡ sets was h.at (lines_at Curved rel false d h)
  curved_lines x1 y1 x2 y2 out was a b f g k = rw (a, b, f, g) at k

-- ---- by the kind
module _ (k : Kind) (rel drawn : Bool) (d : ℕ) (h : Hand) where
  Drew : Hand → List Float → List Float → Type 0
  Drew r out was = (r ≡ stroke_of k rel drawn d h) × (out ≡ sets was h.at (lines_at k rel drawn d h))

  pub rest_drew : (out : List Float) → k ≡ Rest → (h ≡ stroke_of k rel drawn d h) × (out ≡ sets out h.at (lines_at k rel drawn d h))
  rest_drew out e = rw e (ap (λ (n : ℕ). hand_to h h.x h.y h.x0 h.y0 n) (sym (add-zero h.at)), refl)

  pub move_room : (n : ℕ) → k ≡ Move → h.at + length (lines_at k rel drawn d h) ≤ n → h.at + length (shut_lines drawn h) ≤ n
  move_room n e p = rw e at p

  pub move_drew : (r : Hand) (out was : List Float) → k ≡ Move → (r ≡ stroke_of Move rel drawn 0 h) × (out ≡ sets was h.at (lines_at Move rel drawn 0 h))
      → (r ≡ stroke_of k rel drawn d h) × (out ≡ sets was h.at (lines_at k rel drawn d h))
  move_drew r out was e p = rw e p

  pub curve_room_at : (n : ℕ) → k ≡ Curved → h.at + length (lines_at k rel drawn d h) ≤ n → h.at + length (lines_at Curved rel false d h) ≤ n
  curve_room_at n e p = rw e at p

  pub curve_drew : (r : Hand) (out was : List Float) → k ≡ Curved → (r ≡ stroke_of Curved rel false d h) × (out ≡ sets was h.at (lines_at Curved rel false d h))
      → (r ≡ stroke_of k rel drawn d h) × (out ≡ sets was h.at (lines_at k rel drawn d h))
  curve_drew r out was e p = rw e p

  pub line_room : (n : ℕ) → k ≡ Line → h.at + length (lines_at k rel drawn d h) ≤ n → h.at + line_floats ≤ n
  line_room n e p = rw (e, line_length h.x h.y (placed rel h.x h.c) (placed rel h.y h.e)) at p

  pub line_drew : (x y : Float) (r : Hand) (out was : List Float) → k ≡ Line → x ≡ placed rel h.x h.c → y ≡ placed rel h.y h.e
      → (r ≡ hand_to h x y h.x0 h.y0 (h.at + line_floats)) × (out ≡ sets was h.at (line_of h.x h.y x y))
      → (r ≡ stroke_of k rel drawn d h) × (out ≡ sets was h.at (lines_at k rel drawn d h))
  line_drew x y r out was e f g p = rw (e, line_length h.x h.y (placed rel h.x h.c) (placed rel h.y h.e), ← f, ← g) p

  pub across_room : (n : ℕ) → k ≡ Across → h.at + length (lines_at k rel drawn d h) ≤ n → h.at + line_floats ≤ n
  across_room n e p = rw (e, line_length h.x h.y (placed rel h.x h.e) h.y) at p

  pub across_drew : (x : Float) (r : Hand) (out was : List Float) → k ≡ Across → x ≡ placed rel h.x h.e
      → (r ≡ hand_to h x h.y h.x0 h.y0 (h.at + line_floats)) × (out ≡ sets was h.at (line_of h.x h.y x h.y))
      → (r ≡ stroke_of k rel drawn d h) × (out ≡ sets was h.at (lines_at k rel drawn d h))
  across_drew x r out was e f p = rw (e, line_length h.x h.y (placed rel h.x h.e) h.y, ← f) p

  pub upright_room : (n : ℕ) → k ≡ Upright → h.at + length (lines_at k rel drawn d h) ≤ n → h.at + line_floats ≤ n
  upright_room n e p = rw (e, line_length h.x h.y h.x (placed rel h.y h.e)) at p

  pub upright_drew : (y : Float) (r : Hand) (out was : List Float) → k ≡ Upright → y ≡ placed rel h.y h.e
      → (r ≡ hand_to h h.x y h.x0 h.y0 (h.at + line_floats)) × (out ≡ sets was h.at (line_of h.x h.y h.x y))
      → (r ≡ stroke_of k rel drawn d h) × (out ≡ sets was h.at (lines_at k rel drawn d h))
  upright_drew y r out was e f p = rw (e, line_length h.x h.y h.x (placed rel h.y h.e), ← f) p

  pub close_room : (n : ℕ) → k ≡ Close → h.at + length (lines_at k rel drawn d h) ≤ n → h.at + line_floats ≤ n
  close_room n e p = rw (e, line_length h.x h.y h.x0 h.y0) at p

  pub close_drew : (r : Hand) (out was : List Float) → k ≡ Close
      → (r ≡ hand_to h h.x0 h.y0 h.x0 h.y0 (h.at + line_floats)) × (out ≡ sets was h.at (line_of h.x h.y h.x0 h.y0))
      → (r ≡ stroke_of k rel drawn d h) × (out ≡ sets was h.at (lines_at k rel drawn d h))
  close_drew r out was e p = rw (e, line_length h.x h.y h.x0 h.y0) p

-- ---- a token
pub held_at : (h : Hand) (t : Token) → (held_of h t).at ≡ h.at
unfolding held_of
held_at h (End i) = refl
held_at h (Letter c i) = refl
held_at h (Value m n i) = refl

module _ (d : ℕ) (g : Gait) (h : Hand) (t : Token) (k : Kind) (next : Hand) (rel : Bool) where
  pub turn_room : (n : ℕ) → k ≡ act_of g t → next ≡ held_of h t → rel ≡ relative_of g.letter → h.at + length (turn_lines d g h t) ≤ n
      → next.at + length (lines_at k rel g.drawn d next) ≤ n
  unfolding turn_lines held_of
  turn_room n e f r p = rw (e, f, r, held_at h t) p

  pub turn_drew : (v : Hand) (out was : List Float) → k ≡ act_of g t → next ≡ held_of h t → rel ≡ relative_of g.letter
      → (v ≡ stroke_of k rel g.drawn d next) × (out ≡ sets was next.at (lines_at k rel g.drawn d next))
      → (v ≡ turn_hand d g h t) × (out ≡ sets was h.at (turn_lines d g h t))
  unfolding turn_lines turn_hand held_of
  turn_drew v out was e f r p = (rw (e, f, r) at p.0, rw (e, f, r, held_at h t) at p.1)
