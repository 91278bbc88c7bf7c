-- The lines of a text in the grammar are those of its reading: what the tokens draw one by one is what the commands draw. Assumes nothing.
use mathlib.Core.Path.{◌≡◌, refl, sym, ap, ◌∙◌}
use mathlib.Core.Bool.{Bool, true, false, ◌&&◌, ◌||◌}
use mathlib.Core.List.{List, [], ◌∷◌, ◌++◌, map, append_assoc, append-nil}
use Prim.Native.Nat.{ℕ, suc}
use native.Mathlib.Omega.{arith}
use lib.ListN.{length}
use lib.Ieee.{Float}
use lib.Dec.{eqb}
use Rattle.curve.specs.Halves.{line_of}
use Rattle.svg_path.specs.Chars.{is_move, is_pair, is_axis, is_quad, is_close}
use Rattle.svg_path.specs.Grammar.{Num, num, Cmd, cmd, PathData}
use Rattle.svg_tokens.specs.Tokens.{Tok, letter}
use Rattle.svg_outline.specs.declared.steps.Kind.TheVariants.{Rest, Close}
use Rattle.svg_outline.specs.declared.steps.Gait.{Gait}
use Rattle.svg_outline.specs.declared.strokes.Hand.{Hand}
use Rattle.svg_outline.specs.Outline.{Pen, Drawn, float_of, group, groups, after, kind_of, relative_of, command, drawn_of, outline_of}
use Rattle.svg_outline.specs.Tokens.{size_of, later_of, act_of, gait_of, start_of}
use Rattle.svg_outline.specs.Strokes.{held_of, pen_of, stroke_of, turn_lines, turn_hand, lines_from, origin_of, text_lines}
use Rattle.svg.proofs.Tokens.{tok_of, flat, Sized, toks_of, all_toks, AllFit, Fit, closes, pairs, axes, quads, either, only, path_tokens}

abbrev at : ℕ → ℕ → Bool → Gait
at c n b = record { letter = c; need = n; drawn = b }

-- from here to there, with what is drawn on the way
record Goes (d : ℕ) (g : Gait) (h : Hand) (ts rest : List Tok) (x : Drawn) : Type 0 where
  pub gait : Gait
  pub hand : Hand
  pub lines : lines_from d g h ts ≡ x.lines ++ lines_from d gait hand rest
  pub pen : pen_of hand gait.drawn ≡ x.pen

-- one group of a letter's numbers, of which there are z
record One (d c z : ℕ) (b : Bool) (h : Hand) (vs : List Num) (ts : List Tok) : Type 0 where
  pub drawn : Bool
  pub hand : Hand
  pub lines : lines_from d (at c z b) h (map tok_of vs ++ ts) ≡ (group (kind_of c) (relative_of c) d (pen_of h b) (map float_of vs)).lines ++ lines_from d (at (later_of c) z drawn) hand ts
  pub pen : pen_of hand drawn ≡ (group (kind_of c) (relative_of c) d (pen_of h b) (map float_of vs)).pen

-- a letter whose groups have z numbers
record Sort (c z : ℕ) : Type 0 where
  pub open_ended : is_close c ≡ false
  pub size : size_of c ≡ z
  pub kind : kind_of (later_of c) ≡ after (kind_of c)
  pub relative : relative_of (later_of c) ≡ relative_of c

module _ (z : ℕ) (class : ℕ → Bool) (sort : (c : ℕ) → class c ≡ true → Sort c z) (later : (c : ℕ) → class c ≡ true → class (later_of c) ≡ true) (d : ℕ)
    (one : (c : ℕ) → class c ≡ true → (b : Bool) (h : Hand) (vs : List Num) (ts : List Tok) → length vs ≡ z → One d c z b h vs ts) where
  groups_go : (c : ℕ) → class c ≡ true → (b : Bool) (h : Hand) (gs : List (List Num)) (ts : List Tok) → Sized z gs
      → Goes d (at c z b) h (flat gs ++ ts) ts (groups (kind_of c) (relative_of c) d (pen_of h b) gs)
  unfolding flat Sized groups
  groups_go c e b h [] ts s = record { gait = at c z b; hand = h; lines = refl; pen = refl }
  groups_go c e b h (vs ∷ gs) ts s =
      let o = one c e b h vs (flat gs ++ ts) s.0 in
      let g = groups_go (later_of c) (later c e) o.drawn o.hand gs ts s.1 in
      let q = sort c e in
      let x = group (kind_of c) (relative_of c) d (pen_of h b) (map float_of vs) in
      let y : groups (kind_of (later_of c)) (relative_of (later_of c)) d (pen_of o.hand o.drawn) gs ≡ groups (after (kind_of c)) (relative_of c) d x.pen gs =
      rw (q.kind, q.relative, o.pen) in
      record {
        gait = g.gait;
        hand = g.hand;
        lines =
            ap (lines_from d (at c z b) h) (append_assoc (map tok_of vs) (flat gs) ts)
            ∙ o.lines
            ∙ ap (λ (l : List Float). x.lines ++ l) (g.lines ∙ ap (λ (w : Drawn). w.lines ++ lines_from d g.gait g.hand ts) y)
            ∙ sym (append_assoc x.lines (groups (after (kind_of c)) (relative_of c) d x.pen gs).lines (lines_from d g.gait g.hand ts));
        pen = g.pen ∙ ap (λ (w : Drawn). w.pen) y;
      }

  letter_goes : (c : ℕ) → class c ≡ true → (g : Gait) (h : Hand) (gs : List (List Num)) (ts : List Tok) → Sized z gs
      → Goes d g h (letter c ∷ flat gs ++ ts) ts (command c d (pen_of h g.drawn) gs)
  unfolding lines_from turn_lines turn_hand act_of gait_of held_of
  letter_goes c e g h gs ts s =
      let q = sort c e in
      let k = stroke_of Rest (relative_of g.letter) g.drawn d h in
      let w = groups_go c e g.drawn k gs ts s in
      record {
        gait = w.gait;
        hand = w.hand;
        lines = rw (q.open_ended, q.size, and-true g.drawn) w.lines;
        pen = rw q.open_ended w.pen;
      }
    where
      and-true : (b : Bool) → (b && true) ≡ b
      and-true true = refl
      and-true false = refl

-- ---- M m L l
two_long : (P : List Num → Type 0) (vs : List Num) → length vs ≡ 2 → ((m : Bool) (n : ℕ) (m' : Bool) (n' : ℕ) → P (num m n ∷ num m' n' ∷ [])) → P vs
two_long P [] e p = let z : ◌≡◌ {A = ℕ} 0 2 = e in absurd (omega arith)
two_long P (v ∷ []) e p = let z : ◌≡◌ {A = ℕ} 1 2 = e in absurd (omega arith)
two_long P (num m n ∷ num m' n' ∷ []) e p = p m n m' n'
two_long P (v ∷ w ∷ x ∷ vs) e p = absurd (long (length vs) e)
  where
    long : (n : ℕ) → suc (suc (suc n)) ≡ 2 → ⊥
    long n e = omega arith

Pair : ℕ → Type 0
Pair c =
    Sort c 2 × (is_pair (later_of c) ≡ true)
    × ((d : ℕ) (b : Bool) (h : Hand) (m : Bool) (n : ℕ) (m' : Bool) (n' : ℕ) (ts : List Tok) → One d c 2 b h (num m n ∷ num m' n' ∷ []) ts)

pair_is : (c : ℕ) → is_pair c ≡ true → Pair c
unfolding is_pair Pair is_move is_axis is_quad is_close size_of later_of kind_of relative_of lines_from turn_lines turn_hand act_of gait_of held_of tok_of
pair_is c h =
    either Pair c 108 (eqb c 77 || eqb c 109 || eqb c 76) h (
      record { open_ended = refl; size = refl; kind = refl; relative = refl },
      refl,
      λ d b h m n m' n'
          ts. record { drawn = true; hand = _; lines = refl; pen = refl },
    ) (λ h2. either Pair c 76 (eqb c 77 || eqb c 109) h2 (
      record {
        open_ended = refl;
        size =
            refl;
        kind = refl;
        relative = refl;
      },
      refl,
      λ d b h m n m' n' ts. record { drawn = true; hand = _; lines = refl; pen = refl },
    ) (λ h1. either Pair c 109 (eqb
    c 77) h1 (
      record { open_ended = refl; size = refl; kind = refl; relative = refl },
      refl,
      λ d b h m n m' n' ts. record {
        drawn = false;
        hand = _;
        lines =
            refl;
        pen = refl;
      },
    ) (λ e. only Pair c 77 e (
      record { open_ended = refl; size = refl; kind = refl; relative = refl },
      refl,
      λ d b h m n m' n' ts. record {
        drawn = false;
        hand = _;
        lines = refl;
        pen = refl;
      },
    ))))

-- ---- H h V v
one_long : (P : List Num → Type 0) (vs : List Num) → length vs ≡ 1 → ((m : Bool) (n : ℕ) → P (num m n ∷ [])) → P vs
one_long P [] e p = let z : ◌≡◌ {A = ℕ} 0 1 = e in absurd (omega arith)
one_long P (num m n ∷ []) e p = p m n
one_long P (v ∷ w ∷ vs) e p = absurd (long (length vs) e)
  where
    long : (n : ℕ) → suc (suc n) ≡ 1 → ⊥
    long n e = omega arith

Axis : ℕ → Type 0
Axis c =
    Sort c 1 × (is_axis (later_of c) ≡ true)
    × ((d : ℕ) (b : Bool) (h : Hand) (m : Bool) (n : ℕ) (ts : List Tok) → One d c 1 b h (num m n ∷ []) ts)

axis_is : (c : ℕ) → is_axis c ≡ true → Axis c
unfolding is_pair Axis is_move is_axis is_quad is_close size_of later_of kind_of relative_of lines_from turn_lines turn_hand act_of gait_of held_of tok_of
axis_is c h =
    either Axis c 118 (eqb c 72 || eqb c 104 || eqb c 86) h (
      record { open_ended = refl; size = refl; kind = refl; relative = refl },
      refl,
      λ d b h m n ts.
          record { drawn = true; hand = _; lines = refl; pen = refl },
    ) (λ h2. either Axis c 86 (eqb c 72 || eqb c 104) h2 (
      record {
        open_ended = refl;
        size = refl;
        kind = refl;
        relative = refl;
      },
      refl,
      λ d b h m n ts. record { drawn = true; hand = _; lines = refl; pen = refl },
    ) (λ h1. either Axis c 104 (eqb c 72) h1
    (record { open_ended = refl; size = refl; kind = refl; relative = refl }, refl, λ d b h m n ts. record { drawn = true; hand = _; lines = refl; pen = refl })
    (λ e. only Axis c 72 e (
      record { open_ended = refl; size = refl; kind = refl; relative = refl },
      refl,
      λ d b h m n ts. record {
        drawn = true;
        hand = _;
        lines = refl;
        pen = refl;
      },
    ))))

-- ---- Q q
four_long : (P : List Num → Type 0) (vs : List Num) → length vs ≡ 4
    → ((m : Bool) (n : ℕ) (m' : Bool) (n' : ℕ) (o : Bool) (p : ℕ) (o' : Bool) (p' : ℕ) → P (num m n ∷ num m' n' ∷ num o p ∷ num o' p' ∷ [])) → P vs
four_long P [] e p = let z : ◌≡◌ {A = ℕ} 0 4 = e in absurd (omega arith)
four_long P (u ∷ []) e p = let z : ◌≡◌ {A = ℕ} 1 4 = e in absurd (omega arith)
four_long P (u ∷ v ∷ []) e p = let z : ◌≡◌ {A = ℕ} 2 4 = e in absurd (omega arith)
four_long P (u ∷ v ∷ w ∷ []) e p = let z : ◌≡◌ {A = ℕ} 3 4 = e in absurd (omega arith)
four_long P (num m n ∷ num m' n' ∷ num o q ∷ num o' q' ∷ []) e p = p m n m' n' o q o' q'
four_long P (u ∷ v ∷ w ∷ x ∷ y ∷ vs) e p = absurd (long (length vs) e)
  where
    long : (n : ℕ) → suc (suc (suc (suc (suc n)))) ≡ 4 → ⊥
    long n e = omega arith

Quad : ℕ → Type 0
Quad c =
    Sort c 4 × (is_quad (later_of c) ≡ true)
    × ((d : ℕ) (b : Bool) (h : Hand) (m : Bool) (n : ℕ) (m' : Bool) (n' : ℕ) (o : Bool) (p : ℕ) (o' : Bool) (p' : ℕ) (ts : List Tok)
    → One d c 4 b h (num m n ∷ num m' n' ∷ num o p ∷ num o' p' ∷ []) ts)

quad_is : (c : ℕ) → is_quad c ≡ true → Quad c
unfolding is_pair Quad is_move is_axis is_quad is_close size_of later_of kind_of relative_of lines_from turn_lines turn_hand act_of gait_of held_of tok_of
quad_is c h =
    either Quad c 113 (eqb c 81) h (
      record { open_ended = refl; size = refl; kind = refl; relative = refl },
      refl,
      λ d b h m n m' n' o p o' p' ts. record {
        drawn = true;
        hand = _;
        lines = refl;
        pen = refl;
      },
    ) (λ e. only Quad c 81 e (
      record { open_ended = refl; size = refl; kind = refl; relative = refl },
      refl,
      λ
          d b h m n m' n' o p o' p' ts. record { drawn = true; hand = _; lines = refl; pen = refl },
    ))

-- ---- Z z
Shut : ℕ → Type 0
Shut c = (d : ℕ) (g : Gait) (h : Hand) (ts : List Tok) → Goes d g h (letter c ∷ ts) ts (command c d (pen_of h g.drawn) [])

shut_is : (c : ℕ) → is_close c ≡ true → Shut c
unfolding is_pair Shut is_move is_axis is_quad is_close size_of later_of kind_of relative_of lines_from turn_lines turn_hand act_of gait_of held_of groups
shut_is c h =
    either Shut c 122 (eqb c 90) h
    (λ d g h ts.
    let g' : Gait = record { letter = 122; need = 0; drawn = g.drawn && false } in
    let h' : Hand = stroke_of Close (relative_of g.letter) g.drawn d h in
    record {
      gait = g';
      hand = h';
      lines = ap (λ (l : List Float). l ++ lines_from d g' h' ts) (sym (append-nil (line_of h.x h.y h.x0 h.y0)));
      pen = ends g.drawn;
    })
    (λ e. only Shut c 90 e
    (λ d g h ts.
    let g' : Gait = record { letter = 90; need = 0; drawn = g.drawn && false } in
    let h' : Hand = stroke_of Close (relative_of g.letter) g.drawn d h in
    record {
      gait = g';
      hand = h';
      lines = ap (λ (l : List Float). l ++ lines_from d g' h' ts) (sym (append-nil (line_of h.x h.y h.x0 h.y0)));
      pen = ends g.drawn;
    }))
  where
    ends : {x y : Float} (b : Bool) → ◌≡◌ {A = Pen} (record { x = x; y = y; x0 = x; y0 = y; drawing = b && false }) (record { x = x; y = y; x0 = x; y0 = y; drawing = false })
    ends true = refl
    ends false = refl

-- ---- commands
command_goes : (d : ℕ) (g : Gait) (h : Hand) {c : ℕ} {gs : List (List Num)} (ts : List Tok) → Fit (cmd c gs) → Goes d g h (toks_of (cmd c gs) ++ ts) ts (command c d (pen_of h g.drawn) gs)
unfolding toks_of flat Pair Axis Quad Shut
command_goes d g h ts (closes {c = c} e) = shut_is c e d g h ts
command_goes d g h ts (pairs {c = c} {gs = gs} e s) =
    letter_goes 2 is_pair (λ c e. (pair_is c e).0) (λ c e. (pair_is c e).1) d (λ c e b h vs ts l. two_long (λ (vs : List Num). One d c 2 b h vs ts) vs l (λ m n m'
    n'. (pair_is c e).2 d b h m n m' n' ts)) c e g h gs ts s
command_goes d g h ts (axes {c = c} {gs = gs} e s) =
    letter_goes 1 is_axis (λ c e. (axis_is c e).0) (λ c e. (axis_is c e).1) d (λ c e b h vs ts l. one_long (λ (vs : List Num). One d c 1 b h vs ts) vs l (λ m n.
    (axis_is c e).2 d b h m n ts)) c e g h gs ts s
command_goes d g h ts (quads {c = c} {gs = gs} e s) =
    letter_goes 4 is_quad (λ c e. (quad_is c e).0) (λ c e. (quad_is c e).1) d
    (λ c e b h vs ts l. four_long (λ (vs : List Num). One d c 4 b h vs ts) vs l (λ m n m' n' o p o' p'. (quad_is c e).2 d b h m n m' n' o p o' p' ts)) c e g h gs ts s

all_go : (d : ℕ) (g : Gait) (h : Hand) (ks : List Cmd) → AllFit ks → lines_from d g h (all_toks ks) ≡ drawn_of d (pen_of h g.drawn) ks
unfolding all_toks AllFit drawn_of lines_from
all_go d g h [] f = refl
all_go d g h (cmd c gs ∷ ks) f =
    let w = command_goes d g h (all_toks ks) f.0 in
    let x = command c d (pen_of h g.drawn) gs in
    w.lines ∙ ap (λ (l : List Float). x.lines ++ l) (all_go d w.gait w.hand ks f.1 ∙ ap (λ (p : Pen). drawn_of d p ks) w.pen)

-- a text's lines are those of its reading
pub text_lines_lem : (d : ℕ) {s : List ℕ} {ks : List Cmd} → PathData s ks → text_lines d s ≡ outline_of d ks
text_lines_lem d {s} {ks} p = let q = path_tokens p in ap (lines_from d start_of origin_of) q.0 ∙ all_go d start_of origin_of ks q.1
