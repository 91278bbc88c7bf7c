-- Laws of `held`: what the code has of a number decides all that is asked of it. Assumes nothing.
use mathlib.Core.Path.{◌≡◌, refl, sym, ap, ◌∙◌}
use mathlib.Core.Bool.{Bool, true, false}
use mathlib.Core.Logic.{◌⊎◌, inl, inr, ⊎_elim}
use Prim.Native.Nat.{ℕ, ◌+◌, ◌*◌, ◌≤◌, ◌<◌}
use native.Mathlib.Omega.{arith}
use lib.Dec.{leb, eqb}
use borrow.Author.Tests.{le-leb, lt-leb, leb-true, leb-false, ne_eqb}
use Rattle.panel.specs.Limits.{side_most}
use Rattle.ppm_write.specs.Bytes.{ten, largest}
use Rattle.ppm_write.specs.Write.{side_ok}
use Rattle.ppm_write.proofs.Answers.{side_most_lem}
use Rattle.ppm_read.specs.Held.{held}

pub held_small : (n : ℕ) → n ≤ side_most → held n ≡ n
unfolding held
held_small n h = rw (le-leb n side_most h)

pub held_big : (n : ℕ) → side_most < n → held n ≡ side_most + 1
unfolding held
held_big n h = rw (lt-leb n side_most h)

-- what `held n` says of n
pub held_cases : (n : ℕ) → ((n ≤ side_most) × (held n ≡ n)) ⊎ ((side_most < n) × (held n ≡ side_most + 1))
held_cases n = go (leb n side_most) refl
  where
    go : (t : Bool) → leb n side_most ≡ t → ((n ≤ side_most) × (held n ≡ n)) ⊎ ((side_most < n) × (held n ≡ side_most + 1))
    go true e = let h = leb-true n side_most e in inl (h, held_small n h)
    go false e = let h = leb-false n side_most e in inr (h, held_big n h)

pub held_held : (n : ℕ) → held (held n) ≡ held n
held_held n =
    ⊎_elim
    (λ w. ap held w.1)
    (λ w. ap held w.1 ∙ held_big (side_most + 1) (omega arith) ∙ sym w.1)
    (held_cases n)

-- a number over the limit stays over it with a digit more
pub held_more : (n d : ℕ) → side_most < n → held n ≡ held (n * ten + d)
held_more n d h = held_big n h ∙ sym (held_big (n * ten + d) (omega arith))

pub held_digit : (n d : ℕ) → held (held n * ten + d) ≡ held (n * ten + d)
held_digit n d =
    ⊎_elim
    (λ w. ap (λ (k : ℕ). held (k * ten + d)) w.1)
    (λ w.
    ap (λ (k : ℕ). held (k * ten + d)) w.1
    ∙ held_big ((side_most + 1) * ten + d) (omega arith)
    ∙ sym (held_big (n * ten + d) (omega (arith, w.0))))
    (held_cases n)

-- numbers that the limit tells apart
pub held_side : (n : ℕ) → side_ok (held n) ≡ side_ok n
held_side n =
    ⊎_elim
    (λ w. ap side_ok w.1)
    (λ w. ap side_ok w.1 ∙ sym (over n w.0))
    (held_cases n)
  where
    over : (m : ℕ) → side_most < m → side_ok m ≡ side_ok (side_most + 1)
    over m h = rw (lt-leb m side_most h, le-leb 1 m (omega arith))

pub held_eq : (m n : ℕ) → held m ≡ held n → side_ok m ≡ true → m ≡ n
held_eq m n e ok =
    let small = side_most_lem m ok in
    ⊎_elim
    (λ w. sym (held_small m small) ∙ e ∙ w.1)
    (λ w. absurd (omega (arith, held_small m small, w.1, e)))
    (held_cases n)

pub held_largest : (n : ℕ) → eqb (held n) largest ≡ eqb n largest
held_largest n =
    ⊎_elim
    (λ w. ap (λ (k : ℕ). eqb k largest) w.1)
    (λ w. ap (λ (k : ℕ). eqb k largest) w.1 ∙ sym (ne_eqb n largest (λ e. omega (arith, e, w.0))))
    (held_cases n)
