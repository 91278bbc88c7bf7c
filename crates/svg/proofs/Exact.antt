-- The call's promise leaves one answer only, and is met where one of the call's ways holds, and nowhere else. Assumes nothing.
use mathlib.Core.Path.{◌≡◌, refl, sym, ap, ◌∙◌, subst}
use mathlib.Core.Logic.{◌↔◌}
use mathlib.Core.Bool.{Bool, true, false}
use mathlib.Core.List.{List, [], ◌∷◌, ◌++◌, append_assoc}
use Prim.Native.Nat.{ℕ, ◌*◌, ◌/◌, ◌%◌, ◌≤◌, ◌<◌}
use native.Mathlib.Decide.{dec_lt, ℕ_discrete}
use native.Mathlib.Nat.{zero-add}
use native.Mathlib.Omega.{arith}
use lib.ListN.{length, replicate}
use lib.Seq.{sets}
use lib.Ieee.{Float}
use borrow.Author.Tests.{le-leb, lt-leb, eq-eqb}
use Rattle.panel.specs.Refusals.{not_whole, no_room_word, bad_text, too_deep}
use Rattle.panel.specs.Widths.{line_floats}
use Rattle.svg_path.specs.declared.State.TheVariants.{Start}
use Rattle.svg_path.specs.Verdict.{Verdict}
use Rattle.svg_path.specs.Verdict.{Fine, Refused as Against}
use Rattle.svg_path.specs.Machine.{verdict_of}
use Rattle.svg_path.specs.Grammar.{Cmd, PathData}
use Rattle.svg_path.proofs.Theorems.{fine_is, refused_is}
use Rattle.svg_outline.specs.Outline.{depth_most, outline_of}
use Rattle.svg_outline.specs.Strokes.{text_lines}
use Rattle.svg_outline.specs.Counts.{text_count}
use Rattle.svg_outline.proofs.Texts.{text_count_lem}
use Rattle.svg.specs.Answer.{Answer}
use Rattle.svg.specs.Answer.{Done, Refused}
use Rattle.svg.specs.Lines.{paper_of, Left, refused, paired_of, wrote, drawn_of, lines_of, LinesMet}
use Rattle.svg.specs.Ways.{Language, FaultAt, Paired, LinesWay, too_deep_lem, unpaired, at_fault, no_place, all_drawn}
use Rattle.svg.proofs.Answers as A
use Rattle.svg.proofs.Readings.{text_lines_lem}

-- ---- one answer only
drawn_once : (a b : Answer) → paper_of a ≡ paper_of b → a ≡ b
drawn_once (Done n) (Done m) e = let k : n ≡ m = cc in ap Done k
drawn_once (Done n) (Refused m at) e = let z : ◌≡◌ {A = ℕ} 2 3 = ap length e in absurd (omega arith)
drawn_once (Refused m at) (Done n) e = let z : ◌≡◌ {A = ℕ} 3 2 = ap length e in absurd (omega arith)
drawn_once (Refused n at) (Refused m to) e = let k : n ≡ m = cc in let l : at ≡ to = cc in rw (k, l)

pub one_lines : (text : List ℕ) (d path : ℕ) (ps : List ℕ) (cs : List Float) (a b : Answer) (ps₁ ps₂ : List ℕ) (cs₁ cs₂ : List Float)
    → LinesMet text d path ps cs a ps₁ cs₁ → LinesMet text d path ps cs b ps₂ cs₂ → (a ≡ b) × (ps₁ ≡ ps₂) × (cs₁ ≡ cs₂)
one_lines text d path ps cs a b ps₁ ps₂ cs₁ cs₂ p q =
    let e = p ∙ sym q in
    (drawn_once a b (ap (λ (l : Left). l.answer) e), ap (λ (l : Left). l.paths) e, ap (λ (l : Left). l.coords) e)

-- ---- two beginnings of one text: they are the same, or one goes on with the character that follows the other
data Split (p r p' r' : List ℕ) : Type 0 where
  same : p ≡ p' → Split p r p' r'
  longer : (c : ℕ) (q m : List ℕ) → p' ≡ p ++ c ∷ q → r ≡ c ∷ m → Split p r p' r'
  shorter : (c : ℕ) (q m : List ℕ) → p ≡ p' ++ c ∷ q → r' ≡ c ∷ m → Split p r p' r'

split : (p r p' r' : List ℕ) → p ++ r ≡ p' ++ r' → Split p r p' r'
split [] r [] r' e = same refl
split [] r (c ∷ q) r' e = longer c q (q ++ r') refl e
split (c ∷ q) r [] r' e = shorter c q (q ++ r) refl (sym e)
split (c ∷ p) r (d ∷ p') r' e = go (let k : c ≡ d = cc in k) (split p r p' r' (let k : p ++ r ≡ p' ++ r' = cc in k))
  where
    go : c ≡ d → Split p r p' r' → Split (c ∷ p) r (d ∷ p') r'
    go k (same f) = same (rw (k, f))
    go k (longer x q m f g) = longer x q m (rw (k, f)) g
    go k (shorter x q m f g) = shorter x q m (rw (k, f)) g

-- so a text has one place of its fault at the most
pub one_fault : (s : List ℕ) (n m : ℕ) → FaultAt s n → FaultAt s m → n ≡ m
one_fault s n m x y = go (split x.before x.rest y.before y.rest (sym x.text ∙ y.text))
  where
    onward : (p q t : List ℕ) (c : ℕ) → Language ((p ++ c ∷ q) ++ t) → Language (p ++ c ∷ (q ++ t))
    onward p q t c l = subst Language (append_assoc p (c ∷ q) t) l

    go : Split x.before x.rest y.before y.rest → n ≡ m
    go (same f) = x.place ∙ ap length f ∙ sym y.place
    go (longer c q k f g) =
        let (t, l) = y.begun in
        absurd (x.stuck c k (q ++ t) g (onward x.before q t c (subst (λ (p : List ℕ). Language (p ++ t)) f l)))
    go (shorter c q k f g) =
        let (t, l) = x.begun in
        absurd (y.stuck c k (q ++ t) g (onward y.before q t c (subst (λ (p : List ℕ). Language (p ++ t)) f l)))

-- ---- the verdict's words
fault_at : (s : List ℕ) (n : ℕ) → verdict_of Start 0 s ≡ Against n → FaultAt s n
fault_at s n e =
    let (p, r, f, l, b, x, y) = refused_is s n e in
    record { before = p; rest = r; text = f; place = l ∙ zero-add (length p); begun = b; stuck = λ c m t g w. y c m t g w; none = λ w. x w }

at_verdict : (s : List ℕ) (n : ℕ) → FaultAt s n → verdict_of Start 0 s ≡ Against n
at_verdict s n x = go (verdict_of Start 0 s) refl
  where
    go : (v : Verdict) → verdict_of Start 0 s ≡ v → verdict_of Start 0 s ≡ Against n
    go Fine e = absurd (x.none ((fine_is s).0 e))
    go (Against m) e = e ∙ ap Against (one_fault s m n (fault_at s m e) x)

-- ---- four to each
is_paired : (n f : ℕ) → f ≡ line_floats * n → paired_of n f ≡ true
unfolding paired_of
is_paired n f e =
    let a : f % line_floats ≡ 0 = omega arith in
    let b : f / line_floats ≡ n = omega arith in
    rw (eq-eqb (f % line_floats) 0 a, eq-eqb (f / line_floats) n b)

not_four : (n f : ℕ) → (f ≡ line_floats * n → ⊥) → paired_of n f ≡ false
not_four n f w = go (paired_of n f) refl
  where
    go : (b : Bool) → b ≡ paired_of n f → paired_of n f ≡ false
    go true e = absurd (w (A.paired_is n f true e refl))
    go false e = sym e

module _ (text : List ℕ) (d path : ℕ) (ps : List ℕ) (cs : List Float) where
  abbrev many : ℕ
  many = text_count d text

  met_deep : depth_most < d → LinesMet text d path ps cs (Refused too_deep 0) ps cs
  met_deep h = A.too_deep_lem text d path ps cs h

  met_unpaired : d ≤ depth_most → (Paired ps cs → ⊥) → LinesMet text d path ps cs (Refused not_whole 0) ps cs
  met_unpaired h w = A.not_paired text d path ps cs h (paired_of (length ps) (length cs)) refl (not_four (length ps) (length cs) w)

  over : length ps < many → refused no_room_word 0 ps cs ≡ drawn_of text d path ps cs
  unfolding drawn_of
  over o = rw (lt-leb many (length ps) o)

  fits : many ≤ length ps → wrote text d path ps cs ≡ drawn_of text d path ps cs
  unfolding drawn_of
  fits o = rw (le-leb many (length ps) o)

  module _ (h : d ≤ depth_most) (w : Paired ps cs) where
    met_fault : (n : ℕ) → verdict_of Start 0 text ≡ Against n → LinesMet text d path ps cs (Refused bad_text n) ps cs
    met_fault n v =
        A.outside text d path ps cs h (paired_of (length ps) (length cs)) refl (is_paired (length ps) (length cs) w) (verdict_of Start 0 text) refl n v

    in_language : (l : Left) → verdict_of Start 0 text ≡ Fine → l ≡ drawn_of text d path ps cs → l ≡ lines_of text d path ps cs
    in_language l v e =
        A.inside text d path ps cs h (paired_of (length ps) (length cs)) refl (is_paired (length ps) (length cs) w) (verdict_of Start 0 text) refl l v e

    met_full : verdict_of Start 0 text ≡ Fine → length ps < many → LinesMet text d path ps cs (Refused no_room_word 0) ps cs
    met_full v o = in_language (refused no_room_word 0 ps cs) v (over o)

    met_drawn : verdict_of Start 0 text ≡ Fine → many ≤ length ps → LinesMet text d path ps cs (Done many) (sets ps 0 (replicate many path)) (sets cs 0 (text_lines d text))
    met_drawn v o = in_language (wrote text d path ps cs) v (fits o)

  -- how many lines a reading has, by its coordinates
  drawn_length : (ks : List Cmd) → PathData text ks → length (outline_of d ks) ≡ line_floats * many
  drawn_length ks p = sym (ap length (text_lines_lem d p)) ∙ text_count_lem d text

  over_four : (a n p c : ℕ) → a ≡ line_floats * n → c ≡ line_floats * p → p < n → c < a
  over_four a n p c e f g = omega arith

  in_four : (a n p c : ℕ) → a ≡ line_floats * n → c ≡ line_floats * p → n ≤ p → a ≤ c
  in_four a n p c e f g = omega arith

  of_four : (a n p c : ℕ) → a ≡ line_floats * n → c ≡ line_floats * p → c < a → p < n
  of_four a n p c e f g = omega arith

  to_four : (a n p c : ℕ) → a ≡ line_floats * n → c ≡ line_floats * p → a ≤ c → n ≤ p
  to_four a n p c e f g = omega arith

  one_four : (a n m : ℕ) → a ≡ line_floats * n → a ≡ line_floats * m → n ≡ m
  one_four a n m e f = omega arith

  module _ (x : Answer) (ps' : List ℕ) (cs' : List Float) where
    lines_why : LinesMet text d path ps cs x ps' cs' → LinesWay text d path ps cs x ps' cs'
    lines_why p = deep (dec_lt depth_most d)
      where
        room : (h : d ≤ depth_most) (w : Paired ps cs) (ks : List Cmd) → PathData text ks → verdict_of Start 0 text ≡ Fine → Dec (length ps < many) → LinesWay text d path ps cs x ps' cs'
        room h w ks r v (yes o) =
            let e = one_lines text d path ps cs x (Refused no_room_word 0) ps' ps cs' cs p (met_full h w v o) in
            no_place ks e.0 h w r (over_four _ many (length ps) (length cs) (drawn_length ks r) w o) e.1 e.2
        room h w ks r v (no o) =
            let k : many ≤ length ps = omega arith in
            let e = one_lines text d path ps cs x (Done many) ps' (sets ps 0 (replicate many path)) cs' (sets cs 0 (text_lines d text)) p (met_drawn h w v k) in
            all_drawn ks many e.0 h w r (drawn_length ks r) (in_four _ many (length ps) (length cs) (drawn_length ks r) w k) e.1
            (e.2 ∙ ap (sets cs 0) (text_lines_lem d r))

        read : (h : d ≤ depth_most) (w : Paired ps cs) (v : Verdict) → verdict_of Start 0 text ≡ v → LinesWay text d path ps cs x ps' cs'
        read h w Fine e = let (ks, r) = (fine_is text).0 e in room h w ks r e (dec_lt (length ps) many)
        read h w (Against n) e =
            let o = one_lines text d path ps cs x (Refused bad_text n) ps' ps cs' cs p (met_fault h w n e) in
            at_fault n o.0 h w (fault_at text n e) o.1 o.2

        pair : d ≤ depth_most → Dec (Paired ps cs) → LinesWay text d path ps cs x ps' cs'
        pair h (no w) = let e = one_lines text d path ps cs x (Refused not_whole 0) ps' ps cs' cs p (met_unpaired h w) in unpaired e.0 h w e.1 e.2
        pair h (yes w) = read h w (verdict_of Start 0 text) refl

        deep : Dec (depth_most < d) → LinesWay text d path ps cs x ps' cs'
        deep (yes h) = let e = one_lines text d path ps cs x (Refused too_deep 0) ps' ps cs' cs p (met_deep h) in too_deep_lem e.0 h e.1 e.2
        deep (no h) = pair (omega arith) (ℕ_discrete (length cs) (line_floats * length ps))

    lines_back : LinesWay text d path ps cs x ps' cs' → LinesMet text d path ps cs x ps' cs'
    lines_back (too_deep_lem ex h ep ec) = rw (ex, ep, ec) (met_deep h)
    lines_back (unpaired ex h w ep ec) = rw (ex, ep, ec) (met_unpaired h w)
    lines_back (at_fault n ex h w f ep ec) = rw (ex, ep, ec) (met_fault h w n (at_verdict text n f))
    lines_back (no_place ks ex h w r o ep ec) =
        rw (ex, ep, ec) (met_full h w ((fine_is text).1 (ks, r)) (of_four _ many (length ps) (length cs) (drawn_length ks r) w o))
    lines_back (all_drawn ks n ex h w r l o ep ec) =
        let k : n ≡ many = one_four _ n many l (drawn_length ks r) in
        rw (ex, ep, ec, k, ← text_lines_lem d r) (met_drawn h w ((fine_is text).1 (ks, r)) (to_four _ many (length ps) (length cs) (drawn_length ks r) w o))

    -- The call is exact
    pub lines_exact : LinesMet text d path ps cs x ps' cs' ↔ LinesWay text d path ps cs x ps' cs'
    lines_exact = (lines_why, lines_back)
