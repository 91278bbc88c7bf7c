-- The first token of a text, over plain variables. Assumes nothing.
use mathlib.Core.Path.{◌≡◌, refl, sym, ap, ◌∙◌, subst}
use mathlib.Core.Bool.{Bool, true, false, cond, ◌||◌}
use mathlib.Core.List.{List, [], ◌∷◌}
use Prim.Native.Nat.{ℕ, zero, suc, ◌+◌, ◌-◌, ◌*◌, ◌^◌, ◌≤◌, ◌<◌}
use native.Mathlib.Numerals.{add-one}
use native.Mathlib.Omega.{arith}
use lib.Dec.{eqb, leb}
use lib.ListN.{length, drop, get_or, drop_of_length-le, length-drop}
use lib.Seq.{drop-cons, drop-drop}
use borrow.Author.Tests.{le-leb, lt-leb}
use Rattle.svg_path.specs.Chars.{whole_most, part_most, is_digit, is_sign}
use Rattle.svg_tokens.specs.declared.Number.{Number}
use Rattle.svg_tokens.specs.Run.{run_of}
use Rattle.svg_tokens.specs.Tokens.{Tok, letter, value, begins_of, signs_of, point_at, part_of, number_of, tokens_of}
use Rattle.svg_tokens.proofs.Turn.{run_within, run_more}

-- ---- the bytes that a token takes are gone over
pub skipped : (k : ℕ) (s : List ℕ) → tokens_of k s ≡ tokens_of 0 (drop k s)
unfolding tokens_of
skipped zero s = refl
skipped (suc k) [] = refl
skipped (suc k) (c ∷ s) = skipped k s

-- ---- how many bytes a number takes: one at least, and none past the text
part_more : (m : Bool) (n k : ℕ) (s : List ℕ) → k ≤ (part_of m n k s).taken
unfolding part_of
part_more m n k s = go (point_at s)
  where
    go : (b : Bool) → k ≤ (cond {A = Number} b (record {
      minus = m;
      n = n * 1000 + (run_of part_most 0 0 (drop 1 s)).n * 10 ^ (part_most - (run_of part_most 0 0 (drop 1
          s)).taken);
      taken = k + 1 + (run_of part_most 0 0 (drop 1 s)).taken;
    }) (record { minus = m; n = n * 1000; taken = k })).taken
    go true = omega arith
    go false = omega arith

part_within : (m : Bool) (n k : ℕ) (s : List ℕ) → (part_of m n k s).taken ≤ k + length s
unfolding part_of point_at
part_within m n k [] = omega arith
part_within m n k (c ∷ s) = go (eqb c 46) (run_within part_most 0 0 s)
  where
    go : (b : Bool) → (run_of part_most 0 0 s).taken ≤ 0 + length s
        → (cond {A = Number} b (record {
          minus = m;
          n = n * 1000 + (run_of part_most 0 0 s).n * 10 ^ (part_most - (run_of part_most 0 0 s).taken);
          taken = k + 1 + (run_of
              part_most 0 0 s).taken;
        }) (record { minus = m; n = n * 1000; taken = k })).taken ≤ k + suc (length s)
    go true h = omega arith
    go false h = omega arith

part_point : (m : Bool) (n c : ℕ) (s : List ℕ) → eqb c 46 ≡ true → 1 ≤ (part_of m n 0 (c ∷ s)).taken
unfolding part_of point_at
part_point m n c s e = rw e (some (run_of part_most 0 0 s).taken)
  where
    some : (k : ℕ) → 1 ≤ 0 + 1 + k
    some k = omega arith

unsigned : (c : ℕ) → is_sign c ≡ false → signs_of c ≡ 0
unfolding signs_of
unsigned c e = rw e

signed : (c : ℕ) → is_sign c ≡ true → signs_of c ≡ 1
unfolding signs_of
signed c e = rw e

sign_few : (c : ℕ) → signs_of c ≤ 1
sign_few c = go (is_sign c) refl
  where
    go : (b : Bool) → is_sign c ≡ b → signs_of c ≤ 1
    go true e = rw (signed c e) (omega arith)
    go false e = rw (unsigned c e) (omega arith)

pub number_within : (c : ℕ) (s : List ℕ) → (number_of (c ∷ s)).taken ≤ length (c ∷ s)
unfolding number_of
number_within c s =
    let k = signs_of c in
    let w = run_of whole_most 0 0 (drop k (c ∷ s)) in
    let f = sign_few c in
    let g : w.taken ≤ 0 + length (drop k (c ∷ s)) = run_within whole_most 0 0 (drop k (c ∷ s)) in
    let l : length (drop k (c ∷ s)) ≡ suc (length s) - k = length-drop k (c ∷ s) in
    let m : length (drop (k + w.taken) (c ∷ s)) ≡ suc (length s) - (k + w.taken) = length-drop (k + w.taken) (c ∷ s) in
    let h = part_within (eqb c 45) w.n (k + w.taken) (drop (k + w.taken) (c ∷ s)) in
    last (part_of (eqb c 45) w.n (k + w.taken) (drop (k + w.taken) (c ∷ s))).taken w.taken k (length s) (length (drop k (c ∷ s))) (length (drop (k + w.taken) (c ∷ s))) f g l m h
  where
    last : (p w k n a b : ℕ) → k ≤ 1 → w ≤ 0 + a → a ≡ suc n - k → b ≡ suc n - (k + w) → p ≤ k + w + b → p ≤ suc n
    last p w k n a b f g l m h = omega arith

digit_taken : (c : ℕ) (s : List ℕ) → is_digit c ≡ true → 1 ≤ (run_of whole_most 0 0 (c ∷ s)).taken
unfolding run_of
digit_taken c s e = rw e (run_more 5 (0 * 10 + (c - 48)) 1 s)

none_taken : (c : ℕ) (s : List ℕ) → is_digit c ≡ false → run_of whole_most 0 0 (c ∷ s) ≡ record { n = 0; taken = 0 }
unfolding run_of
none_taken c s e = rw e

pub number_some : (c : ℕ) (s : List ℕ) → begins_of c ≡ true → 1 ≤ (number_of (c ∷ s)).taken
unfolding number_of begins_of
number_some c s h = go (is_sign c) (is_digit c) refl refl
  where
    more : (a b c : ℕ) → 1 ≤ a + b → a + b ≤ c → 1 ≤ c
    more a b c h k = omega arith

    one : (b : ℕ) → 1 ≤ 1 + b
    one b = omega arith

    point : (a b d : Bool) → a ≡ false → b ≡ false → (b || a || d) ≡ true → d ≡ true
    point a b d e f h = rw (e, f) at h

    go : (a b : Bool) → is_sign c ≡ a → is_digit c ≡ b
        → 1 ≤ (part_of (eqb c 45) (run_of whole_most 0 0 (drop (signs_of c) (c ∷ s))).n (signs_of c + (run_of whole_most 0 0 (drop (signs_of c) (c ∷ s))).taken) (drop
        (signs_of c + (run_of whole_most 0 0 (drop (signs_of c) (c ∷ s))).taken) (c ∷ s))).taken
    go true b e f =
        rw (signed c e)
        (more 1 (run_of whole_most 0 0 s).taken _ (one _) (part_more (eqb c 45) (run_of whole_most 0 0 s).n (1 + (run_of whole_most 0 0 s).taken) (drop (1 + (run_of whole_most 0 0 s).taken) (c ∷ s))))
    go false true e f =
        let r = run_of whole_most 0 0 (c ∷ s) in
        rw (unsigned c e) (more 0 r.taken _ (zero_on r.taken (digit_taken c s f)) (part_more (eqb c 45) r.n (0 + r.taken) (drop (0 + r.taken) (c ∷ s))))
      where
        zero_on : (n : ℕ) → 1 ≤ n → 1 ≤ 0 + n
        zero_on n h = omega arith
    go false false e f = rw (unsigned c e, none_taken c s f) (part_point (eqb c 45) 0 c s (point (is_sign c) (is_digit c) (eqb c 46) e f h))

-- ---- the first token
opened : (s : List ℕ) (i : ℕ) → i < length s → tokens_of 0 (drop i s) ≡ tokens_of 0 (get_or s i 0 ∷ drop (suc i) s)
opened s i h = ap (tokens_of 0) (drop-cons s i 0 h)

pub at_letter : (c : ℕ) (s : List ℕ) → leb 65 c ≡ true → tokens_of 0 (c ∷ s) ≡ letter c ∷ tokens_of 0 s
unfolding tokens_of
at_letter c s e = rw e

pub at_value : (c : ℕ) (s : List ℕ) → leb 65 c ≡ false → begins_of c ≡ true
    → tokens_of 0 (c ∷ s) ≡ value (number_of (c ∷ s)).minus (number_of (c ∷ s)).n ∷ tokens_of ((number_of (c ∷ s)).taken - 1) s
unfolding tokens_of
at_value c s e f = rw (e, f)

pub at_none : (c : ℕ) (s : List ℕ) → leb 65 c ≡ false → begins_of c ≡ false → tokens_of 0 (c ∷ s) ≡ tokens_of 0 s
unfolding tokens_of
at_none c s e f = rw (e, f)

pub letter_found : (s : List ℕ) (i : ℕ) (ts : List Tok) → i < length s → 65 ≤ get_or s i 0 → tokens_of 0 (drop i s) ≡ ts → letter (get_or s i 0) ∷ tokens_of 0 (drop (i + 1) s) ≡ ts
letter_found s i ts h l e =
    ap (λ (k : ℕ). letter (get_or s i 0) ∷ tokens_of 0 (drop k s)) (add-one i) ∙ sym (at_letter (get_or s i 0) (drop (suc i) s) (le-leb 65 (get_or s i 0) l)) ∙ sym (opened s i h) ∙ e

pub none_found : (s : List ℕ) (i : ℕ) (b : Bool) (ts : List Tok) → i < length s → get_or s i 0 < 65 → b ≡ begins_of (get_or s i 0) → b ≡ false → tokens_of 0 (drop i
    s) ≡ ts → tokens_of 0 (drop (i + 1) s) ≡ ts
none_found s i b ts h l e f g =
    ap (λ (k : ℕ). tokens_of 0 (drop k s)) (add-one i) ∙ sym (at_none (get_or s i 0) (drop (suc i) s) (lt-leb 65 (get_or s i 0) l) (sym e ∙ f)) ∙ sym (opened s i h) ∙ g

pub value_found : (s : List ℕ) (i : ℕ) (b : Bool) (v : Number) (ts : List Tok) → i < length s → get_or s i 0 < 65 → b ≡ begins_of (get_or s i 0) → b ≡ true → v ≡ number_of (drop i s)
    → tokens_of 0 (drop i s) ≡ ts → value v.minus v.n ∷ tokens_of 0 (drop (i + v.taken) s) ≡ ts
value_found s i b v ts h l e f g x =
    let c = get_or s i 0 in
    let r = drop (suc i) s in
    let q : v ≡ number_of (c ∷ r) = g ∙ ap number_of (drop-cons s i 0 h) in
    let some : 1 ≤ v.taken = subst (λ (y : Number). 1 ≤ y.taken) (sym q) (number_some c r (sym e ∙ f)) in
    let shift : tokens_of (v.taken - 1) r ≡ tokens_of 0 (drop (i + v.taken) s) =
    skipped (v.taken - 1) r ∙ ap (tokens_of 0) (drop-drop (v.taken - 1) (suc i) s ∙ ap (λ (k : ℕ). drop k s) (past i v.taken some)) in
    ap (λ (z : List Tok). value v.minus v.n ∷ z) (sym shift)
    ∙ ap (λ (y : Number). value y.minus y.n ∷ tokens_of (y.taken - 1) r) q
    ∙ sym (at_value c r (lt-leb 65 c l) (sym e ∙ f))
    ∙ sym (opened s i h)
    ∙ x
  where
    past : (i t : ℕ) → 1 ≤ t → suc i + (t - 1) ≡ i + t
    past i t h = omega arith

pub value_past : (s : List ℕ) (i : ℕ) (b : Bool) (v : Number) → i < length s → b ≡ begins_of (get_or s i 0) → b ≡ true → v ≡ number_of (drop i s) → (1 ≤ v.taken) × (i + v.taken ≤ length s)
value_past s i b v h e f g =
    let c = get_or s i 0 in
    let r = drop (suc i) s in
    let q : v ≡ number_of (c ∷ r) = g ∙ ap number_of (drop-cons s i 0 h) in
    let l : length r ≡ length s - suc i = length-drop (suc i) s in (
      subst (λ (y : Number). 1 ≤ y.taken) (sym q) (number_some c r (sym e ∙ f)),
      in_text i v.taken (length s) (length r) h l (subst (λ (y : Number). y.taken ≤ suc (length r)) (sym q) (number_within c r)),
    )
  where
    in_text : (i t n m : ℕ) → i < n → m ≡ n - suc i → t ≤ suc m → i + t ≤ n
    in_text i t n m h l k = omega arith

pub end_found : (s : List ℕ) (i : ℕ) (ts : List Tok) → length s ≤ i → tokens_of 0 (drop i s) ≡ ts → [] ≡ ts
unfolding tokens_of
end_found s i ts h e = sym (ap (tokens_of 0) (drop_of_length-le s h)) ∙ e
