-- How far one float is from another: the larger less the smaller, each picked by one comparison, is the size of their difference. Assumes nothing.
--     abs_round    the size of what is rounded
--     apart_is     the difference by the picks
use Prim.Native.Nat.{ℕ, ◌+◌, ◌-◌, ◌*◌, ◌≤◌}
use native.Mathlib.Nat.{mul_comm, mul-pos}
use native.Mathlib.Omega.{arith}
use mathlib.Core.Path.{◌≡◌, refl, sym, ap, ◌∙◌}
use mathlib.Core.Bool.{Bool, true, false, not, cond, beq, false≢true, true≢false}
use lib.Dec.{T, ltb}
use lib.Ieee.{Float, nan, inf, fin, binary32, up, down, round, sum, sub, below, lt}
use lib.Ieee.Fits.{down_pos}
use lib.Ieee.Scale.{finite, round_same}
use borrow.Author.Tests.{ltb-true, ltb-false, le-ltb}
use Rattle.float32.specs.Meaning.{abs_of, signed}
use Rattle.exact.proofs.Exact.{round_signed}
use Rattle.walk.specs.Around.{least_of, last_of}

pub abs_round : (s : Bool) (a c : ℕ) → abs_of (round binary32 s a c) ≡ round binary32 false a c
abs_round s a c = ap abs_of (round_signed s a c) ∙ same s (round binary32 false a c) ∙ sym (round_signed false a c)
  where
    same : (s : Bool) (y : Float) → abs_of (signed s y) ≡ signed false y
    same s nan = unfold abs_of signed in refl
    same s (inf t) = unfold abs_of signed in refl
    same s (fin t m e) = unfold abs_of signed in refl

-- from ±A / c to ±B / c
abbrev gap : (s : Bool) (A : ℕ) (t : Bool) (B c : ℕ) → Float
gap s A t B c = cond (beq s t) (cond (ltb B A) (round binary32 false (A - B) c) (round binary32 false (B - A) c)) (round binary32 false (A + B) c)

turned_sum : (A B : ℕ) → B + A ≡ A + B
turned_sum A B = omega arith

-- the size of the second less the first
abs_two : (x : Bool) (s t : Bool) (m n c : ℕ) → abs_of (cond x (round binary32 s m c) (round binary32 t n c)) ≡ cond x (round binary32 false m c) (round binary32 false n c)
abs_two true s t m n c = abs_round s m c
abs_two false s t m n c = abs_round t n c

size_is : (s : Bool) (A : ℕ) (t : Bool) (B c : ℕ) → abs_of (sum binary32 t B (not s) A c) ≡ gap s A t B c
unfolding sum
size_is false A false B c = abs_two (ltb B A) true _ (A - B) (B - A) c
size_is true A true B c = abs_two (ltb B A) false _ (A - B) (B - A) c
size_is false A true B c = abs_round true (B + A) c ∙ ap (λ (z : ℕ). round binary32 false z c) (turned_sum A B)
size_is true A false B c = abs_round false (B + A) c ∙ ap (λ (z : ℕ). round binary32 false z c) (turned_sum A B)

-- where the first is below, that is the second less the first as it is
rest_over : (A B : ℕ) → ltb A B ≡ true → ltb B A ≡ false
rest_over A B h = le-ltb B A (let l = ltb-true A B h in omega arith)

up_is : (s : Bool) (A : ℕ) (t : Bool) (B c : ℕ) → below s A t B ≡ true → sum binary32 t B (not s) A c ≡ gap s A t B c
unfolding sum
up_is false A false B c h = rw (rest_over A B h) refl
up_is true A true B c h = rw h refl
up_is false A true B c h = absurd (false≢true h)
up_is true A false B c h = ap (λ (z : ℕ). round binary32 false z c) (turned_sum A B)

once : (s : Bool) (A : ℕ) (t : Bool) (B : ℕ) → below s A t B ≡ true → below t B s A ≡ false
once false A false B h = rest_over A B h
once true A true B h = rest_over B A h
once false A true B h = absurd (false≢true h)
once true A false B h = refl

-- where it is above, the first less the second
down_is : (s : Bool) (A : ℕ) (t : Bool) (B c : ℕ) → below t B s A ≡ true → sum binary32 s A (not t) B c ≡ gap s A t B c
unfolding sum
down_is false A false B c h = rw (rest_over B A h, h) refl
down_is true A true B c h = rw (h, rest_over A B h) refl
down_is false A true B c h = refl
down_is true A false B c h = absurd (false≢true h)

-- where it is neither, nothing
less_none : (A B : ℕ) → A ≤ B → A - B ≡ 0
less_none A B h = omega arith

same_is : (s : Bool) (A : ℕ) (t : Bool) (B c : ℕ) → below s A t B ≡ false → below t B s A ≡ false → gap s A t B c ≡ round binary32 false 0 c
same_is false A false B c h g = rw (g, less_none B A (ltb-false A B h)) refl
same_is true A true B c h g = rw (h, less_none B A (ltb-false A B g)) refl
same_is false A true B c h g = ap (λ (z : ℕ). round binary32 false z c) (let l = ltb-false 0 (B + A) g in none A B l)
  where
    none : (A B : ℕ) → B + A ≤ 0 → A + B ≡ 0
    none A B l = omega arith
same_is true A false B c h g = ap (λ (z : ℕ). round binary32 false z c) (none A B (ltb-false 0 (A + B) h))
  where
    none : (A B : ℕ) → A + B ≤ 0 → A + B ≡ 0
    none A B l = omega arith

-- a number less itself
no_rest : (A : ℕ) → A - A ≡ 0
no_rest A = omega arith

self_is : (s : Bool) (A c : ℕ) → sum binary32 s A (not s) A c ≡ round binary32 false 0 c
unfolding sum
self_is false A c = rw (le-ltb A A (omega arith), no_rest A) refl
self_is true A c = rw (le-ltb A A (omega arith), no_rest A) refl

pub apart_is : (a b : Float) → T (finite a) → T (finite b) → sub binary32 (last_of a b) (least_of a b) ≡ abs_of (sub binary32 b a)
unfolding sub lt
apart_is nan b f g = absurd f
apart_is (inf s) b f g = absurd f
apart_is (fin s m e) nan f g = absurd g
apart_is (fin s m e) (inf t) f g = absurd g
apart_is (fin s m e) (fin t n d) f g = go (below s A t B) (below t B s A) refl refl
  where
    A : ℕ
    A = m * up e * down d

    B : ℕ
    B = n * up d * down e

    x : Float
    x = fin s m e

    y : Float
    y = fin t n d

    gap_is : abs_of (sub binary32 y x) ≡ gap s A t B (down d * down e)
    gap_is = size_is s A t B (down d * down e)

    none : round binary32 false 0 (down e * down e) ≡ round binary32 false 0 (down d * down e)
    none = round_same binary32 false 0 (down e * down e) 0 (down d * down e) (mul-pos (down_pos e) (down_pos e)) (mul-pos (down_pos d) (down_pos e)) (omega arith)

    go : (p q : Bool) → below s A t B ≡ p → below t B s A ≡ q → sub binary32 (cond p y x) (cond q y x) ≡ abs_of (sub binary32 y x)
    go true true h k = absurd (true≢false (sym k ∙ once s A t B h))
    go true false h k = up_is s A t B (down d * down e) h ∙ sym gap_is
    go false true h k = ap (sum binary32 s A (not t) B) (mul_comm (down e) (down d)) ∙ down_is s A t B (down d * down e) k ∙ sym gap_is
    go false false h k = self_is s (m * up e * down e) (down e * down e) ∙ none ∙ sym (gap_is ∙ same_is s A t B (down d * down e) h k)
