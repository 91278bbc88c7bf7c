-- The tokens of a text in the grammar: a letter, then its groups' numbers, command by command. Assumes nothing.
use mathlib.Core.Path.{◌≡◌, refl, sym, ap, ◌∙◌, subst}
use mathlib.Core.Bool.{Bool, true, false, not, ◌||◌, false≢true}
use mathlib.Core.List.{List, [], ◌∷◌, ◌++◌, map, append_assoc, append-nil}
use Prim.Native.Nat.{ℕ, zero, suc, ◌+◌, ◌-◌, ◌*◌, ◌^◌, ◌≤◌, ◌<◌}
use native.Mathlib.Nat.{add-zero, zero-add}
use native.Mathlib.Omega.{arith}
use lib.Dec.{eqb, leb}
use lib.ListN.{length, drop, length-append}
use lib.Seq.{drop-append_seam, drop-drop}
use borrow.Author.Tests.{eqb-true, lt-leb, leb-true, ne_eqb}
use Rattle.svg_path.specs.Chars.{whole_most, part_most, is_space, is_digit, is_sign, is_pair, is_axis, is_quad, is_close}
use Rattle.svg_path.specs.Grammar as G
use Rattle.svg_path.specs.Grammar.{Num, num, Cmd, cmd, Space, Gap, Digits, no_digit, no_more, all_digits, value_of, thousandths, Sign, Body, Number, Args, Groups, Command, Rest, PathData}
use Rattle.svg_path.proofs.Sound.{and_both}
use Rattle.svg_tokens.specs.declared.Run.{Run}
use Rattle.svg_tokens.specs.declared.Number.{Number as Read}
use Rattle.svg_tokens.specs.Run.{run_of}
use Rattle.svg_tokens.specs.Tokens.{Tok, letter, value, begins_of, signs_of, point_at, head_of, part_of, number_of, tokens_of}
use Rattle.svg_tokens.proofs.Finds.{skipped, number_some, at_letter, at_value, at_none}

unfoldable pub tok_of : Num → Tok
tok_of (num m n) = value m n

-- ---- one of some characters
pub either : (P : ℕ → Type 0) (c n : ℕ) (r : Bool) → (r || eqb c n) ≡ true → P n → (r ≡ true → P c) → P c
either P c n true h p q = q refl
either P c n false h p q = subst P (sym (eqb-true c n h)) p

pub only : (P : ℕ → Type 0) (c n : ℕ) → eqb c n ≡ true → P n → P c
only P c n e p = subst P (sym (eqb-true c n e)) p

-- ---- white space and commas
Off : ℕ → Type 0
Off c = (leb 65 c ≡ false) × (begins_of c ≡ false)

space_off : (c : ℕ) → is_space c ≡ true → Off c
unfolding is_space Off begins_of is_digit is_sign
space_off c h =
    either Off c 13 (eqb c 32 || eqb c 9 || eqb c 10) h (refl, refl)
    (λ h1. either Off c 10 (eqb c 32 || eqb c 9) h1 (refl, refl) (λ h2. either Off c 9 (eqb c 32) h2 (refl, refl) (λ e. only Off c 32 e (refl, refl))))

pub space_tokens : {s r : List ℕ} → Space s r → tokens_of 0 s ≡ tokens_of 0 r
unfolding Off
space_tokens G.Space.none = refl
space_tokens (G.Space.more {c = c} {s = s} e g) = let p = space_off c e in at_none c s p.0 p.1 ∙ space_tokens g

comma_off : (t : List ℕ) → tokens_of 0 (44 ∷ t) ≡ tokens_of 0 t
unfolding begins_of is_digit is_sign
comma_off t = at_none 44 t refl refl

pub gap_tokens : {s r : List ℕ} → Gap s r → tokens_of 0 s ≡ tokens_of 0 r
gap_tokens (G.Gap.plain g) = space_tokens g
gap_tokens (G.Gap.comma {t = t} g h) = space_tokens g ∙ comma_off t ∙ space_tokens h

-- ---- a run of digits
not-true : (b : Bool) → not b ≡ true → b ≡ false
not-true true h = absurd (false≢true h)
not-true false h = refl

run_none : (l n k : ℕ) (r : List ℕ) → no_digit r ≡ true → run_of l n k r ≡ record { n = n; taken = k }
unfolding run_of no_digit
run_none zero n k r h = refl
run_none (suc l) n k [] h = refl
run_none (suc l) n k (c ∷ r) h = rw (not-true (is_digit c) h)

run_is : (l n k : ℕ) (ds r : List ℕ) → all_digits ds ≡ true → length ds ≤ l → no_digit r ≡ true → run_of l n k (ds ++ r) ≡ record { n = value_of n ds; taken = k + length ds }
unfolding run_of all_digits value_of
run_is l n k [] r a h e = run_none l n k r e ∙ ap (λ (j : ℕ). record { n = n; taken = j }) (sym (add-zero k))
run_is zero n k (d ∷ ds) r a h e = absurd (none (length ds) h)
  where
    none : (n : ℕ) → suc n ≤ 0 → ⊥
    none n h = omega arith
run_is (suc l) n k (d ∷ ds) r a h e =
    let p = and_both (is_digit d) (all_digits ds) a in
    rw p.0 (run_is l (n * 10 + (d - 48)) (suc k) ds r p.1 (down (length ds) l h) e ∙ ap (λ (j : ℕ). record { n = value_of (n * 10 + (d - 48)) ds; taken = j }) (shift k (length ds)))
  where
    down : (n l : ℕ) → suc n ≤ suc l → n ≤ l
    down n l h = omega arith

    shift : (k n : ℕ) → suc k + n ≡ k + suc n
    shift k n = omega arith

-- ---- a number
value_of_lem : (c : ℕ) (s xs r : List ℕ) (m : Bool) (n : ℕ) → c ∷ s ≡ xs ++ r → leb 65 c ≡ false → begins_of c ≡ true
    → number_of (c ∷ s) ≡ record { minus = m; n = n; taken = length xs } → tokens_of 0 (c ∷ s) ≡ value m n ∷ tokens_of 0 r
value_of_lem c s [] r m n e l b v = absurd (none (subst (λ (y : Read). 1 ≤ y.taken) v (number_some c s b)))
  where
    none : 1 ≤ 0 → ⊥
    none h = omega arith
value_of_lem c s (x ∷ xs) r m n e l b v =
    let f : s ≡ xs ++ r = cc in
    at_value c s l b
    ∙ ap (λ (y : Read). value y.minus y.n ∷ tokens_of (y.taken - 1) s) v
    ∙ ap (λ (k : ℕ). value m n ∷ tokens_of k s) (back (length xs))
    ∙ ap (λ (z : List ℕ). value m n ∷ tokens_of (length xs) z) f
    ∙ ap (λ (z : List Tok). value m n ∷ z) (skipped (length xs) (xs ++ r))
    ∙ ap (λ (z : List ℕ). value m n ∷ tokens_of 0 z) (drop-append_seam xs r)
  where
    back : (k : ℕ) → suc k - 1 ≡ k
    back k = omega arith

no_point : (r : List ℕ) → no_more r ≡ true → (no_digit r ≡ true) × (point_at r ≡ false)
unfolding no_more no_digit point_at
no_point [] h = (refl, refl)
no_point (c ∷ r) h = let p = and_both (not (is_digit c)) (not (eqb c 46)) h in (p.0, not-true (eqb c 46) p.1)

-- what the digits of a body make, and the bytes that it takes
pub record Ends (t ds fs r : List ℕ) : Type 0 where
  pub bytes : List ℕ
  pub text : t ≡ bytes ++ r
  pub run : run_of whole_most 0 0 t ≡ record { n = value_of 0 ds; taken = 0 + length ds }
  pub part : (m : Bool) (k : ℕ) → part_of m (value_of 0 ds) (k + length ds) (drop (length ds) t) ≡ record { minus = m; n = thousandths ds fs; taken = k + length bytes }

whole_part : (m : Bool) (v k : ℕ) (r : List ℕ) → point_at r ≡ false → part_of m v k r ≡ record { minus = m; n = v * 1000 + 0 * 10 ^ (part_most - 0); taken = k }
unfolding part_of
whole_part m v k r e = rw (e) (ap (λ (n : ℕ). record { minus = m; n = n; taken = k }) (plain v))
  where
    plain : (v : ℕ) → v * 1000 ≡ v * 1000 + 0 * 1000
    plain v = omega arith

point_part : (m : Bool) (v k : ℕ) (u : List ℕ) (f : Run) → run_of part_most 0 0 u ≡ f
    → part_of m v k (46 ∷ u) ≡ record { minus = m; n = v * 1000 + f.n * 10 ^ (part_most - f.taken); taken = k + 1 + f.taken }
unfolding part_of point_at
point_part m v k u f e = rw e

point_ends : (u : List ℕ) → no_digit (46 ∷ u) ≡ true
unfolding no_digit is_digit
point_ends u = refl

body_ends : {t ds fs r : List ℕ} → Body t ds fs r → Ends t ds fs r
unfolding value_of
body_ends {r = r} (G.Body.whole {ds = ds} g some e) =
    let p = no_point r e in
    record {
      bytes = ds;
      text = g.text;
      run = ap (run_of whole_most 0 0) g.text ∙ run_is whole_most 0 0 ds r g.are g.few p.0;
      part = λ m k.
          ap (λ (z : List ℕ). part_of m (value_of 0 ds) (k + length ds) (drop (length ds) z)) g.text
          ∙ ap (part_of m (value_of 0 ds) (k + length ds)) (drop-append_seam ds r)
          ∙ whole_part m (value_of 0 ds) (k + length ds) r p.1;
    }
body_ends {r = r} (G.Body.pointed {ds = ds} {t = u} {fs = fs} g h some e) =
    record {
      bytes = ds ++ 46 ∷ fs;
      text = g.text ∙ ap (λ (z : List ℕ). ds ++ 46 ∷ z) h.text ∙ sym (append_assoc ds (46 ∷ fs) r);
      run = ap (run_of whole_most 0 0) g.text ∙ run_is whole_most 0 0 ds (46 ∷ u) g.are g.few (point_ends u);
      part = λ m k.
          ap (λ (z : List ℕ). part_of m (value_of 0 ds) (k + length ds) (drop (length ds) z)) g.text
          ∙ ap (part_of m (value_of 0 ds) (k + length ds)) (drop-append_seam ds (46 ∷ u))
          ∙ point_part m (value_of 0 ds) (k + length ds) u (record { n = value_of 0 fs; taken = 0 + length fs })
          (ap (run_of part_most 0 0) h.text ∙ run_is part_most 0 0 fs r h.are h.few e)
          ∙ ap (λ (j : ℕ). record { minus = m; n = value_of 0 ds * 1000 + value_of 0 fs * 10 ^ (part_most - j); taken = k + length ds + 1 + j }) (zero-add (length fs))
          ∙ ap (λ (j : ℕ). record { minus = m; n = thousandths ds fs; taken = j }) (sum k (length ds) (length fs) (length (ds ++ 46 ∷ fs)) (length-append ds (46 ∷ fs)));
    }
  where
    sum : (k d f l : ℕ) → l ≡ d + suc f → k + d + 1 + f ≡ k + l
    sum k d f l e = omega arith

-- a body begins with a digit or a point
Begun : List ℕ → Type 0
Begun t = (c : ℕ) × (u : List ℕ) × (t ≡ c ∷ u) × (leb 65 c ≡ false) × (begins_of c ≡ true) × (signs_of c ≡ 0) × (eqb c 45 ≡ false)

digit_begins : (c : ℕ) → is_digit c ≡ true → (leb 65 c ≡ false) × (begins_of c ≡ true) × (signs_of c ≡ 0) × (eqb c 45 ≡ false)
unfolding is_digit begins_of signs_of is_sign
digit_begins c h =
    let p = and_both (leb 48 c) (leb c 57) h in
    let lo : 48 ≤ c = leb-true 48 c p.0 in
    let hi : c ≤ 57 = leb-true c 57 p.1 in
    let a : eqb c 43 ≡ false = ne_eqb c 43 (λ (e : c ≡ 43). apart c 43 lo e (omega arith)) in
    let b : eqb c 45 ≡ false = ne_eqb c 45 (λ (e : c ≡ 45). apart c 45 lo e (omega arith)) in (
      lt-leb 65 c (omega arith),
      rw (p.0, p.1),
      rw (a, b),
      b,
    )
  where
    apart : (c n : ℕ) → 48 ≤ c → c ≡ n → n < 48 → ⊥
    apart c n h e l = omega arith

digits_begun : (ds r : List ℕ) → all_digits ds ≡ true → 1 ≤ length ds → Begun (ds ++ r)
unfolding all_digits Begun
digits_begun [] r a h = absurd (none h)
  where
    none : 1 ≤ 0 → ⊥
    none h = omega arith
digits_begun (d ∷ ds) r a h = let q = digit_begins d (and_both (is_digit d) (all_digits ds) a).0 in (d, ds ++ r, refl, q.0, q.1, q.2, q.3)

point_begun : (ds u : List ℕ) → all_digits ds ≡ true → Begun (ds ++ 46 ∷ u)
unfolding Begun begins_of signs_of is_sign is_digit all_digits
point_begun [] u a = (46, u, refl, refl, refl, refl, refl)
point_begun (d ∷ ds) u a = let q = digit_begins d (and_both (is_digit d) (all_digits ds) a).0 in (d, ds ++ 46 ∷ u, refl, q.0, q.1, q.2, q.3)

body_begun : {t ds fs r : List ℕ} → Body t ds fs r → Begun t
body_begun {r = r} (G.Body.whole {ds = ds} g some e) = subst Begun (sym g.text) (digits_begun ds r g.are some)
body_begun (G.Body.pointed {ds = ds} {t = u} g h some e) = subst Begun (sym g.text) (point_begun ds u g.are)

-- the number of a body after a sign of k bytes
read_of : (s t ds fs r : List ℕ) (k : ℕ) (m : Bool) (x : Ends t ds fs r) → signs_of (head_of s) ≡ k → eqb (head_of s) 45 ≡ m → drop k s ≡ t
    → number_of s ≡ record { minus = m; n = thousandths ds fs; taken = k + length x.bytes }
unfolding number_of
read_of s t ds fs r k m x e f g =
    let w : run_of whole_most 0 0 t ≡ record { n = value_of 0 ds; taken = length ds } =
    x.run ∙ ap (λ (j : ℕ). record { n = value_of 0 ds; taken = j }) (zero-add (length ds)) in
    rw (e, f, g, w) (ap (part_of m (value_of 0 ds) (k + length ds)) (sym (drop-drop (length ds) k s) ∙ ap (drop (length ds)) g) ∙ x.part m k)

bare_tokens : (t ds fs r : List ℕ) → Ends t ds fs r → Begun t → tokens_of 0 t ≡ value false (thousandths ds fs) ∷ tokens_of 0 r
unfolding Begun
bare_tokens t ds fs r x (c, u, e, l, b, sn, mn) =
    ap (tokens_of 0) e
    ∙ value_of_lem c u x.bytes r false (thousandths ds fs) (sym e ∙ x.text) l b
    (
    ap number_of (sym e)
    ∙ read_of t t ds fs r 0 false x (ap (λ (z : List ℕ). signs_of (head_of z)) e ∙ sn) (ap (λ (z : List ℕ). eqb (head_of z) 45) e ∙ mn) refl
    ∙ ap (λ (j : ℕ). record { minus = false; n = thousandths ds fs; taken = j }) (zero-add (length x.bytes))
    )

one_more : (n : ℕ) → 1 + n ≡ suc n
one_more n = omega arith

plus_tokens : (t ds fs r : List ℕ) → Ends t ds fs r → tokens_of 0 (43 ∷ t) ≡ value false (thousandths ds fs) ∷ tokens_of 0 r
unfolding begins_of signs_of is_sign is_digit
plus_tokens t ds fs r x =
    value_of_lem 43 t (43 ∷ x.bytes) r false (thousandths ds fs) (ap (λ (z : List ℕ). 43 ∷ z) x.text) refl refl
    (read_of (43 ∷ t) t ds fs r 1 false x refl refl refl ∙ ap (λ (j : ℕ). record { minus = false; n = thousandths ds fs; taken = j }) (one_more (length x.bytes)))

minus_tokens : (t ds fs r : List ℕ) → Ends t ds fs r → tokens_of 0 (45 ∷ t) ≡ value true (thousandths ds fs) ∷ tokens_of 0 r
unfolding begins_of signs_of is_sign is_digit
minus_tokens t ds fs r x =
    value_of_lem 45 t (45 ∷ x.bytes) r true (thousandths ds fs) (ap (λ (z : List ℕ). 45 ∷ z) x.text) refl refl
    (read_of (45 ∷ t) t ds fs r 1 true x refl refl refl ∙ ap (λ (j : ℕ). record { minus = true; n = thousandths ds fs; taken = j }) (one_more (length x.bytes)))

pub number_tokens : {s r : List ℕ} {v : Num} → Number s v r → tokens_of 0 s ≡ tok_of v ∷ tokens_of 0 r
unfolding tok_of
number_tokens (G.Number.number {ds = ds} {fs = fs} {r = r} (G.Sign.bare {s = t}) b) = bare_tokens t ds fs r (body_ends b) (body_begun b)
number_tokens (G.Number.number {ds = ds} {fs = fs} {r = r} (G.Sign.plus {s = t}) b) = plus_tokens t ds fs r (body_ends b)
number_tokens (G.Number.number {ds = ds} {fs = fs} {r = r} (G.Sign.minus {s = t}) b) = minus_tokens t ds fs r (body_ends b)

-- ---- groups of numbers
pub args_tokens : {n : ℕ} {s r : List ℕ} {vs : List Num} → Args n s vs r → (tokens_of 0 s ≡ map tok_of vs ++ tokens_of 0 r) × (length vs ≡ n)
args_tokens (G.Args.one v) = (number_tokens v, refl)
args_tokens (G.Args.more {v = v} x g others) =
    let p = args_tokens others in (number_tokens x ∙ ap (λ (z : List Tok). tok_of v ∷ z) (gap_tokens g ∙ p.0), ap suc p.1)

unfoldable pub flat : List (List Num) → List Tok
flat [] = []
flat (vs ∷ gs) = map tok_of vs ++ flat gs

unfoldable pub Sized : ℕ → List (List Num) → Type 0
Sized n [] = Unit {0}
Sized n (vs ∷ gs) = (length vs ≡ n) × Sized n gs

pub groups_tokens : {n : ℕ} {s r : List ℕ} {gs : List (List Num)} → Groups n s gs r → (tokens_of 0 s ≡ flat gs ++ tokens_of 0 r) × Sized n gs
unfolding flat Sized
groups_tokens {r = r} (G.Groups.last {vs = vs} a) =
    let p = args_tokens a in (p.0 ∙ ap (λ (z : List Tok). z ++ tokens_of 0 r) (sym (append-nil (map tok_of vs))), (p.1, tt))
groups_tokens {r = r} (G.Groups.more {vs = vs} {gs = gs} a g others) =
    let p = args_tokens a in
    let q = groups_tokens others in (
      p.0 ∙ ap (λ (z : List Tok). map tok_of vs ++ z) (gap_tokens g ∙ q.0) ∙ sym (append_assoc (map tok_of vs) (flat gs) (tokens_of 0 r)),
      (p.1, q.1),
    )

-- ---- commands
pub data Fit : Cmd → Type 0 where
  closes : {c : ℕ} → is_close c ≡ true → Fit (cmd c [])
  pairs : {c : ℕ} {gs : List (List Num)} → is_pair c ≡ true → Sized 2 gs → Fit (cmd c gs)
  axes : {c : ℕ} {gs : List (List Num)} → is_axis c ≡ true → Sized 1 gs → Fit (cmd c gs)
  quads : {c : ℕ} {gs : List (List Num)} → is_quad c ≡ true → Sized 4 gs → Fit (cmd c gs)

unfoldable pub toks_of : Cmd → List Tok
toks_of (cmd c gs) = letter c ∷ flat gs

unfoldable pub all_toks : List Cmd → List Tok
all_toks [] = []
all_toks (k ∷ ks) = toks_of k ++ all_toks ks

unfoldable pub AllFit : List Cmd → Type 0
AllFit [] = Unit {0}
AllFit (k ∷ ks) = Fit k × AllFit ks

Big : ℕ → Type 0
Big c = leb 65 c ≡ true

close_big : (c : ℕ) → is_close c ≡ true → Big c
unfolding is_close Big
close_big c h = either Big c 122 (eqb c 90) h refl (λ e. only Big c 90 e refl)

quad_big : (c : ℕ) → is_quad c ≡ true → Big c
unfolding is_quad Big
quad_big c h = either Big c 113 (eqb c 81) h refl (λ e. only Big c 81 e refl)

pair_big : (c : ℕ) → is_pair c ≡ true → Big c
unfolding is_pair Big
pair_big c h =
    either Big c 108 (eqb c 77 || eqb c 109 || eqb c 76) h refl
    (λ h1. either Big c 76 (eqb c 77 || eqb c 109) h1 refl (λ h2. either Big c 109 (eqb c 77) h2 refl (λ e. only Big c 77 e refl)))

axis_big : (c : ℕ) → is_axis c ≡ true → Big c
unfolding is_axis Big
axis_big c h =
    either Big c 118 (eqb c 72 || eqb c 104 || eqb c 86) h refl
    (λ h1. either Big c 86 (eqb c 72 || eqb c 104) h1 refl (λ h2. either Big c 104 (eqb c 72) h2 refl (λ e. only Big c 72 e refl)))

with_letter : (c : ℕ) (s t r : List ℕ) (gs : List (List Num)) → Big c → Space s t → tokens_of 0 t ≡ flat gs ++ tokens_of 0 r → tokens_of 0 (c ∷ s) ≡ toks_of (cmd c gs) ++ tokens_of 0 r
unfolding Big toks_of
with_letter c s t r gs b g e = at_letter c s b ∙ ap (λ (z : List Tok). letter c ∷ z) (space_tokens g ∙ e)

pub command_tokens : {s r : List ℕ} {k : Cmd} → Command s k r → (tokens_of 0 s ≡ toks_of k ++ tokens_of 0 r) × Fit k
unfolding toks_of flat Big
command_tokens (G.Command.close {c = c} {s = s} e) = (at_letter c s (close_big c e), closes e)
command_tokens {r = r} (G.Command.pairs {c = c} {s = s} {t = t} {gs = gs} e g m) = let q = groups_tokens m in (with_letter c s t r gs (pair_big c e) g q.0, pairs e q.1)
command_tokens {r = r} (G.Command.axes {c = c} {s = s} {t = t} {gs = gs} e g m) = let q = groups_tokens m in (with_letter c s t r gs (axis_big c e) g q.0, axes e q.1)
command_tokens {r = r} (G.Command.quads {c = c} {s = s} {t = t} {gs = gs} e g m) = let q = groups_tokens m in (with_letter c s t r gs (quad_big c e) g q.0, quads e q.1)

none_left : {s : List ℕ} → Space s [] → tokens_of 0 s ≡ []
unfolding tokens_of
none_left g = space_tokens g

pub rest_tokens : {s : List ℕ} {ks : List Cmd} → Rest s ks → (tokens_of 0 s ≡ all_toks ks) × AllFit ks
unfolding all_toks AllFit
rest_tokens (G.Rest.end g) = (none_left g, tt)
rest_tokens (G.Rest.next {k = k} g m more) =
    let p = command_tokens m in
    let q = rest_tokens more in
    (space_tokens g ∙ p.0 ∙ ap (λ (z : List Tok). toks_of k ++ z) q.0, (p.1, q.1))

pub path_tokens : {s : List ℕ} {ks : List Cmd} → PathData s ks → (tokens_of 0 s ≡ all_toks ks) × AllFit ks
unfolding all_toks AllFit
path_tokens (G.PathData.empty g) = (none_left g, tt)
path_tokens (G.PathData.begun {k = k} g e m more) =
    let p = command_tokens m in
    let q = rest_tokens more in
    (space_tokens g ∙ p.0 ∙ ap (λ (z : List Tok). toks_of k ++ z) q.0, (p.1, q.1))
