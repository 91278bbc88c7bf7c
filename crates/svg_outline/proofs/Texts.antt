-- A turn of the loops over a text's tokens, over plain variables. Assumes nothing.
use mathlib.Core.Path.{◌≡◌, refl, sym, ap, ◌∙◌, subst}
use mathlib.Core.Bool.{Bool, true, false, cond}
use mathlib.Core.List.{List, [], ◌∷◌, ◌++◌}
use Prim.Native.Nat.{ℕ, zero, suc, ◌+◌, ◌*◌, ◌^◌, ◌≤◌, ◌<◌}
use native.Mathlib.Nat.{zero-add}
use native.Mathlib.Omega.{arith}
use lib.ListN.{length, drop, length-append, drop_of_length-le}
use lib.Seq.{sets, length-sets}
use lib.Ieee.{Float}
use borrow.Author.Tests.{le-leb, lt-leb}
use Rattle.lists.specs.Cells.{sets_append}
use Rattle.panel.specs.Widths.{line_floats}
use Rattle.curve.proofs.Sets.{lines_length}
use Rattle.svg_tokens.specs.declared.Token.{Token}
use Rattle.svg_tokens.specs.declared.Token.TheVariants.{End, Letter, Value}
use Rattle.svg_tokens.specs.Tokens.{Tok, tokens_of, rest_of, place_of, Within}
use Rattle.svg_outline.specs.declared.steps.Kind.{Kind}
use Rattle.svg_outline.specs.declared.steps.Kind.TheVariants.{Rest, Move, Line, Across, Upright, Curved, Close}
use Rattle.svg_outline.specs.declared.steps.Gait.{Gait}
use Rattle.svg_outline.specs.declared.strokes.Hand.{Hand}
use Rattle.svg_outline.specs.Sum.{Lines, Over}
use Rattle.svg_outline.specs.Outline.{depth_most, relative_of}
use Rattle.svg_outline.specs.Tokens.{act_of, gait_of, start_of, many_of, token_of, count_of}
use Rattle.svg_outline.specs.Strokes.{held_of, origin_of, lines_at, shut_lines, turn_lines, turn_hand, lines_from, text_lines}
use Rattle.svg_outline.specs.Counts.{text_count, sum_of, room_most}
use Rattle.svg_outline.proofs.Draws.{held_at, line_length}

-- ---- the place after a token
pub place_past : (i n : ℕ) (t : Token) → Within i n t → i < n → (i < place_of t) × (place_of t ≤ n)
place_past i n (End j) w h = (omega (arith, w), omega (arith, w))
place_past i n (Letter c j) w h = w
place_past i n (Value m v j) w h = w

no_tokens : (s : List ℕ) (i : ℕ) → length s ≤ i → tokens_of 0 (drop i s) ≡ []
unfolding tokens_of
no_tokens s i h = ap (tokens_of 0) (drop_of_length-le s h)

at_most : (i n : ℕ) → i ≡ n → n ≤ i
at_most i n e = omega arith

-- ---- lines
step_lines : (s : List ℕ) (d : ℕ) (g : Gait) (h : Hand) (t : Token) (i : ℕ) → Within i (length s) t
    → lines_from d g h (rest_of s t) ≡ turn_lines d g h t ++ lines_from d (gait_of g t) (turn_hand d g h t) (tokens_of 0 (drop (place_of t) s))
unfolding lines_from turn_lines turn_hand gait_of act_of held_of
step_lines s d g h (End j) i w = rw (no_tokens s j (at_most j (length s) w))
step_lines s d g h (Letter c j) i w = refl
step_lines s d g h (Value m n j) i w = refl

turn_at : (d : ℕ) (g : Gait) (h : Hand) (t : Token) → (turn_hand d g h t).at ≡ h.at + length (turn_lines d g h t)
unfolding turn_hand turn_lines
turn_at d g h t = ap (λ (n : ℕ). n + length (lines_at (act_of g t) (relative_of g.letter) g.drawn d (held_of h t))) (held_at h t)

module _ (s : List ℕ) (d : ℕ) where
  -- what holds at each turn of the write: the lines to come fit, and bring what the whole brings
  abbrev pub Going : List Float → List Float → Gait → Hand → ℕ → Type 0
  Going out₀ out g h i =
      (i ≤ length s) × (length out ≡ length out₀) × (h.at + length (lines_from d g h (tokens_of 0 (drop i s))) ≤ length out)
      × (sets out h.at (lines_from d g h (tokens_of 0 (drop i s))) ≡ sets out₀ 0 (text_lines d s))

  pub begins : (out : List Float) (g : Gait) (h : Hand) → g ≡ start_of → h ≡ origin_of → length (text_lines d s) ≤ length out → Going out out g h 0
  begins out g h e f p = rw (e, f) (zero_least (length s), refl, rw (zero-add (length (text_lines d s))) p, refl)
    where
      zero_least : (n : ℕ) → 0 ≤ n
      zero_least n = omega arith

  pub fits : (out₀ out : List Float) (g : Gait) (h : Hand) (t : Token) (i : ℕ) → Going out₀ out g h i → rest_of s t ≡ tokens_of 0 (drop i s) → Within i (length s) t
      → h.at + length (turn_lines d g h t) ≤ length out
  fits out₀ out g h t i v r w =
      let a = turn_lines d g h t in
      let b = lines_from d (gait_of g t) (turn_hand d g h t) (tokens_of 0 (drop (place_of t) s)) in
      let e : length (lines_from d g h (tokens_of 0 (drop i s))) ≡ length a + length b =
      ap length (ap (lines_from d g h) (sym r) ∙ step_lines s d g h t i w) ∙ length-append a b in
      part h.at (length (lines_from d g h (tokens_of 0 (drop i s)))) (length a) (length b) (length out) e v.2
    where
      part : (x l a b n : ℕ) → l ≡ a + b → x + l ≤ n → x + a ≤ n
      part x l a b n e p = omega arith

  pub again : (out₀ out out' : List Float) (g g' : Gait) (h h' : Hand) (t : Token) (i i' : ℕ) → i < length s → Going out₀ out g h i → rest_of s t ≡ tokens_of 0 (drop i s)
      → Within i (length s) t → h' ≡ turn_hand d g h t → out' ≡ sets out h.at (turn_lines d g h t) → g' ≡ gait_of g t → i' ≡ place_of t → Going out₀ out' g' h' i'
  again out₀ out out' g g' h h' t i i' l v r w eh eo eg ei =
      let a = turn_lines d g h t in
      let b = lines_from d (gait_of g t) (turn_hand d g h t) (tokens_of 0 (drop (place_of t) s)) in
      let q : lines_from d g h (tokens_of 0 (drop i s)) ≡ a ++ b = ap (lines_from d g h) (sym r) ∙ step_lines s d g h t i w in
      let e : length (lines_from d g h (tokens_of 0 (drop i s))) ≡ length a + length b = ap length q ∙ length-append a b in
      let z = turn_at d g h t in
      rw (eh, eo, eg, ei) (
        (place_past i (length s) t w l).1,
        length-sets out h.at a ∙ v.1,
        whole (turn_hand d g h t).at h.at (length (lines_from d g h (tokens_of 0 (drop i s)))) (length a) (length b) (length out) (length (sets out h.at a)) z e v.2
            (length-sets out h.at a),
        ap (λ (k : ℕ). sets (sets out h.at a) k b) z ∙ sym (sets_append a b out h.at) ∙ ap (sets out h.at) (sym q) ∙ v.3,
      )
    where
      whole : (z x l a b n m : ℕ) → z ≡ x + a → l ≡ a + b → x + l ≤ n → m ≡ n → z + b ≤ m
      whole z x l a b n m f e p g = omega arith

  last_lines : (g : Gait) (h : Hand) (i : ℕ) → length s ≤ i → lines_from d g h (tokens_of 0 (drop i s)) ≡ shut_lines g.drawn h
  unfolding lines_from
  last_lines g h i l = ap (lines_from d g h) (no_tokens s i l)

  pub last_fits : (out₀ out : List Float) (g : Gait) (h : Hand) (i : ℕ) → length s ≤ i → Going out₀ out g h i → h.at + length (shut_lines g.drawn h) ≤ length out
  last_fits out₀ out g h i l v = subst (λ (x : List Float). h.at + length x ≤ length out) (last_lines g h i l) v.2

  pub ended : (out₀ out out' : List Float) (g : Gait) (h : Hand) (i : ℕ) → length s ≤ i → Going out₀ out g h i → out' ≡ sets out h.at (shut_lines g.drawn h)
      → out' ≡ sets out₀ 0 (text_lines d s)
  ended out₀ out out' g h i l v e = e ∙ ap (sets out h.at) (sym (last_lines g h i l)) ∙ v.3

  pub end_length : (out₀ out out' : List Float) (g : Gait) (h : Hand) (i : ℕ) → Going out₀ out g h i → length out' ≡ length out → length out' ≡ length out₀
  end_length out₀ out out' g h i v e = e ∙ v.1

-- ---- their number
step_count : (s : List ℕ) (d : ℕ) (g : Gait) (t : Token) (i : ℕ) → Within i (length s) t
    → count_of d g (rest_of s t) ≡ many_of (act_of g t) g.drawn d + count_of d (gait_of g t) (tokens_of 0 (drop (place_of t) s))
unfolding count_of gait_of act_of
step_count s d g (End j) i w = rw (no_tokens s j (at_most j (length s) w)) (sym (zero-add (cond g.drawn 1 0)))
step_count s d g (Letter c j) i w = refl
step_count s d g (Value m n j) i w = refl

powers : (d : ℕ) → d ≤ depth_most → 2 ^ d ≤ 64
powers zero h = omega arith
powers (suc zero) h = omega arith
powers (suc (suc zero)) h = omega arith
powers (suc (suc (suc zero))) h = omega arith
powers (suc (suc (suc (suc zero)))) h = omega arith
powers (suc (suc (suc (suc (suc zero))))) h = omega arith
powers (suc (suc (suc (suc (suc (suc zero)))))) h = omega arith
powers (suc (suc (suc (suc (suc (suc (suc k))))))) h = absurd (over k h)
  where
    over : (k : ℕ) → suc (suc (suc (suc (suc (suc (suc k)))))) ≤ depth_most → ⊥
    over k h = omega arith

few : (b : Bool) → cond b 1 0 ≤ 64
few true = omega arith
few false = omega arith

many_few : (k : Kind) (b : Bool) (d : ℕ) → d ≤ depth_most → many_of k b d ≤ 64
many_few Rest b d h = omega arith
many_few Move b d h = few b
many_few Line b d h = omega arith
many_few Across b d h = omega arith
many_few Upright b d h = omega arith
many_few Curved b d h = powers d h
many_few Close b d h = omega arith

pub sum_fits : (k : Kind) (b : Bool) (d n m room : ℕ) → d ≤ depth_most → n ≤ room → room ≤ room_most → m ≡ many_of k b d → n + m < 2 ^ 64
sum_fits k b d n m room h p q e = let f = many_few k b d h in let g : m ≤ 64 = subst (λ (x : ℕ). x ≤ 64) (sym e) f in omega arith

over_room : (room total : ℕ) → room < total → Over ≡ sum_of room total
unfolding sum_of
over_room room total h = rw (lt-leb total room h)

in_room : (room total : ℕ) → total ≤ room → Lines total ≡ sum_of room total
unfolding sum_of
in_room room total h = rw (le-leb total room h)

module _ (s : List ℕ) (d room : ℕ) where
  abbrev pub Counting : Gait → ℕ → ℕ → Type 0
  Counting g n i = (i ≤ length s) × (n ≤ room) × (n + count_of d g (tokens_of 0 (drop i s)) ≡ text_count d s)

  pub from_none : (g : Gait) → g ≡ start_of → Counting g 0 0
  from_none g e = rw e (least (length s), least room, zero-add (text_count d s))
    where
      least : (n : ℕ) → 0 ≤ n
      least n = omega arith

  module _ (g : Gait) (t : Token) (n i m : ℕ) (k : Kind) (v : Counting g n i) (r : rest_of s t ≡ tokens_of 0 (drop i s)) (w : Within i (length s) t)
      (ek : k ≡ act_of g t) (em : m ≡ many_of k g.drawn d) where
    rest : ℕ
    rest = count_of d (gait_of g t) (tokens_of 0 (drop (place_of t) s))

    split : n + m + count_of d (gait_of g t) (tokens_of 0 (drop (place_of t) s)) ≡ text_count d s
    split =
        let e : m ≡ many_of (act_of g t) g.drawn d = em ∙ ap (λ (x : Kind). many_of x g.drawn d) ek in
        let q : count_of d g (tokens_of 0 (drop i s)) ≡ many_of (act_of g t) g.drawn d + count_of d (gait_of g t) (tokens_of 0 (drop (place_of t) s)) = ap (count_of d g) (sym r) ∙ step_count s d g t i w in
        sum n m (many_of (act_of g t) g.drawn d) (count_of d g (tokens_of 0 (drop i s))) (count_of d (gait_of g t) (tokens_of 0 (drop (place_of t) s))) (text_count d s) e q v.2
      where
        sum : (n m x c r t : ℕ) → m ≡ x → c ≡ x + r → n + c ≡ t → n + m + r ≡ t
        sum n m x c r t e q p = omega arith

    pub counted_over : room < n + m → Over ≡ sum_of room (text_count d s)
    counted_over h = over_room room (text_count d s) (more (n + m) _ (text_count d s) room split h)
      where
        more : (a b t r : ℕ) → a + b ≡ t → r < a → r < t
        more a b t r e h = omega arith

    pub counted : (g' : Gait) (i' : ℕ) → i < length s → n + m ≤ room → g' ≡ gait_of g t → i' ≡ place_of t → Counting g' (n + m) i'
    counted g' i' l h eg ei = rw (eg, ei) ((place_past i (length s) t w l).1, h, split)

  module _ (g : Gait) (n i m : ℕ) (l : length s ≤ i) (v : Counting g n i) (em : m ≡ many_of Move g.drawn d) where
    total : n + m ≡ text_count d s
    unfolding count_of
    total = ap (λ (x : ℕ). n + x) (em ∙ sym (ap (count_of d g) (no_tokens s i l))) ∙ v.2

    pub end_over : room < n + m → Over ≡ sum_of room (text_count d s)
    end_over h = over_room room (text_count d s) (subst (λ (x : ℕ). room < x) total h)

    pub end_in : n + m ≤ room → Lines (n + m) ≡ sum_of room (text_count d s)
    end_in h = subst (λ (x : ℕ). Lines x ≡ sum_of room (text_count d s)) (sym total) (in_room room (text_count d s) (subst (λ (x : ℕ). x ≤ room) total h))

-- ---- four floats to each line counted
kind_length : (k : Kind) (rel b : Bool) (d : ℕ) (h : Hand) → length (lines_at k rel b d h) ≡ line_floats * many_of k b d
kind_length Rest rel b d h = refl
kind_length Move rel true d h = line_length h.x h.y h.x0 h.y0
kind_length Move rel false d h = refl
kind_length Line rel b d h = line_length _ _ _ _
kind_length Across rel b d h = line_length _ _ _ _
kind_length Upright rel b d h = line_length _ _ _ _
kind_length Curved rel b d h = lines_length d _
kind_length Close rel b d h = line_length _ _ _ _

shut_length : (b : Bool) (h : Hand) → length (shut_lines b h) ≡ line_floats * cond b 1 0
shut_length true h = line_length h.x h.y h.x0 h.y0
shut_length false h = refl

turned : (d : ℕ) (g : Gait) (h : Hand) (t : Token) → length (turn_lines d g h t) ≡ line_floats * many_of (act_of g t) g.drawn d
unfolding turn_lines
turned d g h t = kind_length (act_of g t) (relative_of g.letter) g.drawn d (held_of h t)

pub lines_count : (d : ℕ) (g : Gait) (h : Hand) (ts : List Tok) → length (lines_from d g h ts) ≡ line_floats * count_of d g ts
unfolding lines_from count_of
lines_count d g h [] = shut_length g.drawn h
lines_count d g h (t ∷ ts) =
    let a = turn_lines d g h (token_of t) in
    let b = lines_from d (gait_of g (token_of t)) (turn_hand d g h (token_of t)) ts in
    let m = many_of (act_of g (token_of t)) g.drawn d in
    let c = count_of d (gait_of g (token_of t)) ts in
    length-append a b ∙ sum (length a) (length b) m c (turned d g h (token_of t)) (lines_count d (gait_of g (token_of t)) (turn_hand d g h (token_of t)) ts)
  where
    sum : (a b m c : ℕ) → a ≡ line_floats * m → b ≡ line_floats * c → a + b ≡ line_floats * (m + c)
    sum a b m c e f = omega arith

pub text_count_lem : (d : ℕ) (s : List ℕ) → length (text_lines d s) ≡ line_floats * text_count d s
text_count_lem d s = lines_count d start_of origin_of (tokens_of 0 s)
