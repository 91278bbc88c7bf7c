-- A turn of `digits`, over plain variables. Assumes nothing.
use mathlib.Core.Path.{◌≡◌, refl, sym, ap, ◌∙◌, subst}
use mathlib.Core.Bool.{Bool, true, false, cond, ◌&&◌, false≢true}
use mathlib.Core.List.{List, [], ◌∷◌}
use Prim.Native.Nat.{ℕ, zero, suc, ◌+◌, ◌-◌, ◌*◌, ◌^◌, ◌≤◌, ◌<◌}
use native.Mathlib.Nat.{le_trans, mul-le-mul_right, mul_assoc, pow-succ', add-zero}
use native.Mathlib.Numerals.{add-one}
use native.Mathlib.Omega.{arith}
use lib.Dec.{leb, lit≤}
use lib.ListN.{length, drop, get_or, drop_of_length-le}
use lib.Seq.{drop-cons}
use borrow.Author.Tests.{leb-true}
use Rattle.svg_tokens.specs.declared.Run.{Run}
use Rattle.svg_path.specs.Chars.{is_digit}
use Rattle.svg_tokens.specs.Run.{run_of}

and_both : (a b : Bool) → (a && b) ≡ true → (a ≡ true) × (b ≡ true)
and_both true true h = (refl, refl)
and_both true false h = absurd (false≢true h)
and_both false b h = absurd (false≢true h)

pub low : (c : ℕ) (t : Bool) → t ≡ is_digit c → t ≡ true → (48 ≤ c) × (c ≤ 57)
unfolding is_digit
low c t e f = let p = and_both (leb 48 c) (leb c 57) (sym e ∙ f) in (leb-true 48 c p.0, leb-true c 57 p.1)

-- n has the digits that were taken: with `left` to come it stays below a million
pub room : (n left d : ℕ) → 0 < left → d ≤ 9 → (n + 1) * 10 ^ left ≤ 1000000 → (n * 10 + d + 1) * 10 ^ (left - 1) ≤ 1000000
room n zero d p l h = absurd (omega arith)
room n (suc k) d p l h =
    subst (λ (j : ℕ). (n * 10 + d + 1) * 10 ^ j ≤ 1000000) (back k)
    (le_trans (mul-le-mul_right (10 ^ k) (under n d l)) (subst (λ (x : ℕ). x ≤ 1000000) (same n k) h))
  where
    back : (k : ℕ) → k ≡ suc k - 1
    back k = omega arith

    under : (n d : ℕ) → d ≤ 9 → n * 10 + d + 1 ≤ (n + 1) * 10
    under n d h = omega arith

    same : (n k : ℕ) → (n + 1) * 10 ^ suc k ≡ (n + 1) * 10 * 10 ^ k
    same n k = ap (λ (x : ℕ). (n + 1) * x) (pow-succ' 10 k) ∙ sym (mul_assoc (n + 1) 10 (10 ^ k))

ten_pos : (k : ℕ) → 0 < 10 ^ k
ten_pos zero = omega arith
ten_pos (suc k) = let h = ten_pos k in let e : 10 ^ suc k ≡ 10 * 10 ^ k = pow-succ' 10 k in omega arith

pub small : (n left : ℕ) → (n + 1) * 10 ^ left ≤ 1000000 → n < 1000000
small n left h = go (le_trans (subst (λ (x : ℕ). x ≤ (n + 1) * 10 ^ left) (native.Mathlib.Nat.mul-one (n + 1)) (native.Mathlib.Nat.mul-le-mul_left (n + 1) (ten_pos left))) h)
  where
    go : n + 1 ≤ 1000000 → n < 1000000
    go h = omega arith

-- no digit is to come, or the text ends
pub done : (n k j left : ℕ) (s : List ℕ) (v : Run) → j ≡ k → (0 < left → length s ≤ k) → run_of left n k (drop k s) ≡ v → record { n = n; taken = j } ≡ v
unfolding run_of
done n k j zero s v e h g = rw e g
done n k j (suc l) s v e h g = rw e (sym (ap (run_of (suc l) n k) (drop_of_length-le s (h (omega arith)))) ∙ g)

opened : (n k i l : ℕ) (s : List ℕ) → i < length s
    → run_of (suc l) n k (drop i s) ≡ cond (is_digit (get_or s i 0)) (run_of l (n * 10 + (get_or s i 0 - 48)) (suc k) (drop (suc i) s)) (record { n = n; taken = k })
unfolding run_of
opened n k i l s h = ap (run_of (suc l) n k) (drop-cons s i 0 h)

pub no_digit : (n k i left : ℕ) (s : List ℕ) (v : Run) (t : Bool) → i < length s → t ≡ is_digit (get_or s i 0) → t ≡ false → run_of left n k (drop i s) ≡ v → record { n = n; taken = k } ≡ v
unfolding run_of
no_digit n k i zero s v t h e f g = g
no_digit n k i (suc l) s v t h e f g =
    sym (ap (λ (b : Bool). cond b (run_of l (n * 10 + (get_or s i 0 - 48)) (suc k) (drop (suc i) s)) (record { n = n; taken = k })) (sym e ∙ f)) ∙ sym (opened n k i l s h) ∙ g

pub one_digit : (n k left d : ℕ) (s : List ℕ) (v : Run) (t : Bool) → 0 < left → k < length s → t ≡ is_digit (get_or s k 0) → t ≡ true → d ≡ get_or s k 0 - 48
    → run_of left n k (drop k s) ≡ v → run_of (left - 1) (n * 10 + d) (k + 1) (drop (k + 1) s) ≡ v
one_digit n k zero d s v t p h e f x g = absurd (omega arith)
one_digit n k (suc l) d s v t p h e f x g =
    ap (λ (j : ℕ). run_of j (n * 10 + d) (k + 1) (drop (k + 1) s)) (back l)
    ∙ ap (λ (j : ℕ). run_of l (n * 10 + d) j (drop j s)) (add-one k)
    ∙ ap (λ (y : ℕ). run_of l (n * 10 + y) (suc k) (drop (suc k) s)) x
    ∙ sym (ap (λ (b : Bool). cond b (run_of l (n * 10 + (get_or s k 0 - 48)) (suc k) (drop (suc k) s)) (record { n = n; taken = k })) (sym e ∙ f))
    ∙ sym (opened n k k l s h)
    ∙ g
  where
    back : (k : ℕ) → suc k - 1 ≡ k
    back k = omega arith

pub start : (k : ℕ) → k ≤ 6 → (0 + 1) * 10 ^ k ≤ 1000000
start zero h = lit≤ tt
start (suc zero) h = lit≤ tt
start (suc (suc zero)) h = lit≤ tt
start (suc (suc (suc zero))) h = lit≤ tt
start (suc (suc (suc (suc zero)))) h = lit≤ tt
start (suc (suc (suc (suc (suc zero))))) h = lit≤ tt
start (suc (suc (suc (suc (suc (suc zero)))))) h = lit≤ tt
start (suc (suc (suc (suc (suc (suc (suc k))))))) h = absurd (over k h)
  where
    over : (k : ℕ) → suc (suc (suc (suc (suc (suc (suc k)))))) ≤ 6 → ⊥
    over k h = omega arith

-- ---- bounds of what the digits make
nine : (c : ℕ) → is_digit c ≡ true → c - 48 ≤ 9
nine c h = let p = low c true (sym h) refl in omega (arith, p.0, p.1)

pub run_small : (l n k : ℕ) (s : List ℕ) → (n + 1) * 10 ^ l ≤ 1000000 → (run_of l n k s).n < 1000000
unfolding run_of
run_small zero n k s h = small n 0 h
run_small (suc l) n k [] h = small n (suc l) h
run_small (suc l) n k (c ∷ s) h = go (is_digit c) refl (λ d. run_small l (n * 10 + (c - 48)) (suc k) s d)
  where
    down : (l : ℕ) → suc l - 1 ≡ l
    down l = omega arith

    go : (b : Bool) → is_digit c ≡ b → ((n * 10 + (c - 48) + 1) * 10 ^ l ≤ 1000000 → (run_of l (n * 10 + (c - 48)) (suc k) s).n < 1000000)
        → (cond b (run_of l (n * 10 + (c - 48)) (suc k) s) (record { n = n; taken = k })).n < 1000000
    go false e ih = small n (suc l) h
    go true e ih =
        ih (subst (λ (j : ℕ). (n * 10 + (c - 48) + 1) * 10 ^ j ≤ 1000000) (down l) (room n (suc l) (c - 48) (pos l) (nine c e) h))
      where
        pos : (l : ℕ) → 0 < suc l
        pos l = omega arith

pub run_few : (l n k : ℕ) (s : List ℕ) → (run_of l n k s).taken ≤ k + l
unfolding run_of
run_few zero n k s = omega arith
run_few (suc l) n k [] = omega arith
run_few (suc l) n k (c ∷ s) = go (is_digit c) (run_few l (n * 10 + (c - 48)) (suc k) s)
  where
    go : (b : Bool) → (run_of l (n * 10 + (c - 48)) (suc k) s).taken ≤ suc k + l → (cond b (run_of l (n * 10 + (c - 48)) (suc k) s) (record { n = n; taken = k })).taken ≤ k + suc l
    go true h = omega arith
    go false h = omega arith

pub run_within : (l n k : ℕ) (s : List ℕ) → (run_of l n k s).taken ≤ k + length s
unfolding run_of
run_within zero n k s = omega arith
run_within (suc l) n k [] = omega arith
run_within (suc l) n k (c ∷ s) = go (is_digit c) (run_within l (n * 10 + (c - 48)) (suc k) s)
  where
    go : (b : Bool) → (run_of l (n * 10 + (c - 48)) (suc k) s).taken ≤ suc k + length s
        → (cond b (run_of l (n * 10 + (c - 48)) (suc k) s) (record { n = n; taken = k })).taken ≤ k + suc (length s)
    go true h = omega arith
    go false h = omega arith

pub run_more : (l n k : ℕ) (s : List ℕ) → k ≤ (run_of l n k s).taken
unfolding run_of
run_more zero n k s = omega arith
run_more (suc l) n k [] = omega arith
run_more (suc l) n k (c ∷ s) = go (is_digit c) (run_more l (n * 10 + (c - 48)) (suc k) s)
  where
    go : (b : Bool) → suc k ≤ (run_of l (n * 10 + (c - 48)) (suc k) s).taken → k ≤ (cond b (run_of l (n * 10 + (c - 48)) (suc k) s) (record { n = n; taken = k })).taken
    go true h = omega arith
    go false h = omega arith
