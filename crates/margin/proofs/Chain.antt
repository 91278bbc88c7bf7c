-- The walk's a and b beside the exact ones, in whole numbers: x / (x + y), and (y c + x t) / (x + y), each by the roundings on its way. Assumes nothing.
-- X, Y, C and T are the exact numbers, in parts of H; L is what a float's parts are of 1; the others are the floats' parts.
use mathlib.Core.Path.{◌≡◌, refl, sym, ap, ◌∙◌}
use Prim.Native.Nat.{ℕ, ◌+◌, ◌*◌, ◌<◌}
use native.Mathlib.Nat.{add-mul, mul_assoc, mul_comm, mul_left_comm}
use lib.Dec.{lit≤}
use Rattle.errors.proofs.Near.{Near, near_trans, near_turned, near_mul, near_cancel, near_sum, near_as}

module _ (L H : ℕ) (l : 0 < L) (X Y D1 D2 R Q : ℕ) (n1 : Near 2 (D1 * H) (X * L)) (n2 : Near 2 (D2 * H) (Y * L)) (n3 : Near 2 R (D1 + D2)) (n4 : Near 2 (Q * R) (L * L)) where
  both : Near 2 ((D1 + D2) * H) ((X + Y) * L)
  both = near_as 2 (D1 * H + D2 * H) (X * L + Y * L) ((D1 + D2) * H) ((X + Y) * L) (sym (add-mul D1 D2 H)) (sym (add-mul X Y L)) (near_sum 2 (D1 * H) (X * L) (D2 * H) (Y * L) n1 n2)

  total : Near 5 (R * H) ((X + Y) * L)
  total = near_trans 2 2 (R * H) ((D1 + D2) * H) ((X + Y) * L) (lit≤ tt) (near_mul 2 R (D1 + D2) H n3) both

  -- a number G that is near S times the reciprocal: G R is near S L
  by_reciprocal : (G S : ℕ) → Near 2 (G * L) (S * Q) → Near 5 (G * R) (S * L)
  by_reciprocal G S n =
      let a : Near 2 (G * L * R) (Q * R * S) = near_as 2 (G * L * R) (S * Q * R) (G * L * R) (Q * R * S) refl (mul_assoc S Q R ∙ mul_comm S (Q * R)) (near_mul 2 (G * L) (S * Q) R n) in
      let b : Near 5 (G * L * R) (L * L * S) = near_trans 2 2 (G * L * R) (Q * R * S) (L * L * S) (lit≤ tt) a (near_mul 2 (Q * R) (L * L) S n4) in
      near_cancel 5 (G * R) (S * L) L l
      (near_as 5 (G * L * R) (L * L * S) (G * R * L) (S * L * L) (simp (mul_assoc, mul_comm, mul_left_comm)) (simp (mul_assoc, mul_comm, mul_left_comm)) b)

  pub rise_near : (A : ℕ) → Near 2 (A * L) (D1 * Q) → Near 14 (A * (X + Y)) (X * L)
  rise_near A n5 =
      let a : Near 5 (A * R * H) (D1 * H * L) =
      near_as 5 (A * R * H) (D1 * L * H) (A * R * H) (D1 * H * L) refl (simp (mul_assoc, mul_comm, mul_left_comm)) (near_mul 5 (A * R) (D1 * L) H (by_reciprocal A D1 n5)) in
      let b : Near 8 (A * R * H) (X * L * L) = near_trans 5 2 (A * R * H) (D1 * H * L) (X * L * L) (lit≤ tt) a (near_mul 2 (D1 * H) (X * L) L n1) in
      let c : Near 5 ((X + Y) * L * A) (A * R * H) =
      near_as 5 ((X + Y) * L * A) (R * H * A) ((X + Y) * L * A) (A * R * H) refl (simp (mul_assoc, mul_comm, mul_left_comm))
      (near_turned 5 (R * H * A) ((X + Y) * L * A) (near_mul 5 (R * H) ((X + Y) * L) A total)) in
      near_cancel 14 (A * (X + Y)) (X * L) L l
      (near_as 14 ((X + Y) * L * A) (X * L * L) (A * (X + Y) * L) (X * L * L) (mul_comm ((X + Y) * L) A ∙ sym (mul_assoc A (X + Y) L)) refl
      (near_trans 5 8 ((X + Y) * L * A) (A * R * H) (X * L * L) (lit≤ tt) c b))

  pub start_near : (C T Cp Tp P1 P2 S J : ℕ) → Cp * H ≡ C * L → Tp * H ≡ T * L → Near 2 (P1 * L) (D2 * Cp) → Near 2 (P2 * L) (D1 * Tp) → Near 2 S (P1 + P2) → Near 2 (J * L) (S * Q)
      → Near 20 (J * (H * (X + Y))) ((Y * C + X * T) * L)
  start_near C T Cp Tp P1 P2 S J ec et n6 n7 n8 n9 =
      let a : Near 2 ((P1 + P2) * L) (D2 * Cp + D1 * Tp) =
      near_as 2 (P1 * L + P2 * L) (D2 * Cp + D1 * Tp) ((P1 + P2) * L) (D2 * Cp + D1 * Tp) (sym (add-mul P1 P2 L)) refl (near_sum 2 (P1 * L) (D2 * Cp) (P2 * L) (D1 * Tp) n6 n7) in
      let b : Near 5 (S * L) (D2 * Cp + D1 * Tp) = near_trans 2 2 (S * L) ((P1 + P2) * L) (D2 * Cp + D1 * Tp) (lit≤ tt) (near_mul 2 S (P1 + P2) L n8) a in
      let c : Near 2 (D2 * Cp * (H * H)) (Y * C * (L * L)) = exact D2 Y Cp C n2 ec in
      let d : Near 2 (D1 * Tp * (H * H)) (X * T * (L * L)) = exact D1 X Tp T n1 et in
      let e : Near 2 ((D2 * Cp + D1 * Tp) * (H * H)) ((Y * C + X * T) * (L * L)) =
      near_as 2 (D2 * Cp * (H * H) + D1 * Tp * (H * H)) (Y * C * (L * L) + X * T * (L * L)) ((D2 * Cp + D1 * Tp) * (H * H)) ((Y * C + X * T) * (L * L)) (sym (add-mul (D2 * Cp) (D1 * Tp) (H * H)))
      (sym (add-mul (Y * C) (X * T) (L * L))) (near_sum 2 (D2 * Cp * (H * H)) (Y * C * (L * L)) (D1 * Tp * (H * H)) (X * T * (L * L)) c d) in
      let f : Near 8 (S * L * (H * H)) ((Y * C + X * T) * (L * L)) =
      near_trans 5 2 (S * L * (H * H)) ((D2 * Cp + D1 * Tp) * (H * H)) ((Y * C + X * T) * (L * L)) (lit≤ tt) (near_mul 5 (S * L) (D2 * Cp + D1 * Tp) (H * H) b) e in
      let g : Near 14 (J * R * (H * H)) ((Y * C + X * T) * (L * L)) =
      near_trans 5 8 (J * R * (H * H)) (S * L * (H * H)) ((Y * C + X * T) * (L * L)) (lit≤ tt) (near_mul 5 (J * R) (S * L) (H * H) (by_reciprocal J S n9)) f in
      let h : Near 5 ((X + Y) * L * (J * H)) (J * R * (H * H)) =
      near_as 5 ((X + Y) * L * (J * H)) (R * H * (J * H)) ((X + Y) * L * (J * H)) (J * R * (H * H)) refl (simp (mul_assoc, mul_comm, mul_left_comm))
      (near_turned 5 (R * H * (J * H)) ((X + Y) * L * (J * H)) (near_mul 5 (R * H) ((X + Y) * L) (J * H) total)) in
      near_cancel 20 (J * (H * (X + Y))) ((Y * C + X * T) * L) L l
      (near_as 20 ((X + Y) * L * (J * H)) ((Y * C + X * T) * (L * L)) (J * (H * (X + Y)) * L) ((Y * C + X * T) * L * L) (simp (mul_assoc, mul_comm, mul_left_comm))
      (sym (mul_assoc (Y * C + X * T) L L))
      (near_trans 5 14 ((X + Y) * L * (J * H)) (J * R * (H * H)) ((Y * C + X * T) * (L * L)) (lit≤ tt) h g))
    where
      exact : (D Z Ep E : ℕ) → Near 2 (D * H) (Z * L) → Ep * H ≡ E * L → Near 2 (D * Ep * (H * H)) (Z * E * (L * L))
      exact D Z Ep E n e =
          near_as 2 (D * H * (Ep * H)) (Z * L * (Ep * H)) (D * Ep * (H * H)) (Z * E * (L * L)) (simp (mul_assoc, mul_comm, mul_left_comm))
          (ap (λ (z : ℕ). Z * L * z) e ∙ simp (mul_assoc, mul_comm, mul_left_comm))
          (near_mul 2 (D * H) (Z * L) (Ep * H) n)
