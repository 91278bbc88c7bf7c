-- So every step's z stays within one column and one row of the line's own tiles: in whole numbers, from what is near what. Assumes nothing.
-- L is 1 in parts, K the size of a, B of b, A of a before its correction, M = X + Y, Z / (H M) the exact b.
--     last_least, last_most     a n + b beside cx and cx + 1, for an a that isn't negative
--     low_least                 the same for one that is
--     held, held_low, held_below   z of step i
use mathlib.Core.Path.{◌≡◌, sym, ap, ◌∙◌, subst}
use Prim.Native.Nat.{ℕ, ◌+◌, ◌-◌, ◌*◌, ◌≤◌, ◌<◌}
use native.Mathlib.Nat.{le_trans, le_of_eq, mul_assoc, mul_comm, mul_left_comm, mul_right_comm, mul-add, add-mul, mul-le-mul_left, mul-le-mul_right, le_of_mul-le-mul_right, lt_of_mul-lt-mul_right}
use native.Mathlib.Omega.{arith}
use Rattle.errors.proofs.Near.{Near}

-- ---- a beside the exact a: 2 ^ -18 at most
rise_high : (KM AM XL LM : ℕ) → KM * 2097152 ≤ AM * 2097152 + LM → AM * 16777216 ≤ XL * 16777230 → XL ≤ LM → KM * 262144 ≤ XL * 262144 + LM
rise_high KM AM XL LM a b c = omega arith

rise_low : (KM AM XL LM : ℕ) → AM * 2097152 ≤ KM * 2097152 + LM → AM * 16777216 ≤ XL * 16777230 → XL * 16777216 ≤ AM * 16777230 → XL ≤ LM → XL * 262144 ≤ KM * 262144 + LM
rise_low KM AM XL LM a b d c = omega arith

-- b beside the exact b
start_high : (BM ZL LM : ℕ) → BM * 16777216 ≤ ZL * 16777236 → ZL ≤ LM → BM * 262144 ≤ ZL * 262144 + LM
start_high BM ZL LM a b = omega arith

start_low : (BM ZL LM : ℕ) → BM * 16777216 ≤ ZL * 16777236 → ZL * 16777216 ≤ BM * 16777236 → ZL ≤ LM → ZL * 262144 ≤ BM * 262144 + LM
start_low BM ZL LM a d b = omega arith

-- times n, of which there are 2 ^ 14 at most
by_steps : (KM XL LM n : ℕ) → n ≤ 16384 → KM * 262144 ≤ XL * 262144 + LM → KM * n * 16 ≤ XL * n * 16 + LM
by_steps KM XL LM n h a =
    let b : KM * n * 262144 ≤ XL * n * 262144 + LM * n =
    le_trans (le_of_eq (mul_right_comm KM n 262144)) (le_trans (mul-le-mul_right n a) (le_of_eq (add-mul (XL * 262144) LM n ∙ ap (λ (z : ℕ). z + LM * n) (mul_right_comm XL 262144 n)))) in
    omega (arith, mul-le-mul_left LM h)

module _ (L M H X Z n cx : ℕ) (p : 0 < M * H) (few : n ≤ 16384) (x_in : X ≤ M) (z_in : Z ≤ M * H)
    (least : cx * (M * H) ≤ X * (n * H) + Z) (most : X * (n * H) + Z ≤ cx * (M * H) + M * H) where
  -- the exact numbers times L
  rows : X * (n * H) * L ≡ X * L * n * H
  rows = simp (mul_assoc, mul_comm, mul_left_comm)

  least_by : cx * L * (M * H) ≤ X * L * n * H + Z * L
  least_by =
      le_trans (le_of_eq (simp (mul_assoc, mul_comm, mul_left_comm)))
      (le_trans (mul-le-mul_right L least) (le_of_eq (add-mul (X * (n * H)) Z L ∙ ap (λ (z : ℕ). z + Z * L) rows)))

  most_by : X * L * n * H + Z * L ≤ (cx * L + L) * (M * H)
  most_by =
      le_trans (le_of_eq (sym (add-mul (X * (n * H)) Z L ∙ ap (λ (z : ℕ). z + Z * L) rows)))
      (le_trans (mul-le-mul_right L most)
      (le_of_eq (add-mul (cx * (M * H)) (M * H) L
      ∙ sym (add-mul (cx * L) L (M * H) ∙ ap (λ (z : ℕ). z + L * (M * H)) (mul_right_comm cx L (M * H)) ∙ ap (λ (z : ℕ). cx * (M * H) * L + z) (mul_comm L (M * H))))))

  x_by : X * L ≤ L * M
  x_by = le_trans (mul-le-mul_right L x_in) (le_of_eq (mul_comm M L))

  z_by : Z * L ≤ L * (M * H)
  z_by = le_trans (mul-le-mul_right L z_in) (le_of_eq (mul_comm (M * H) L))

  -- K n + B over M H
  spread : (K B : ℕ) → (K * n + B) * (M * H) ≡ K * M * n * H + B * (H * M)
  spread K B =
      add-mul (K * n) B (M * H) ∙ ap (λ (z : ℕ). z + B * (M * H)) (simp (mul_assoc, mul_comm, mul_left_comm)) ∙ ap (λ (z : ℕ). K * M * n * H + B * z) (mul_comm M H)

  module _ (A B : ℕ) (a_near : Near 14 (A * M) (X * L)) (b_near : Near 20 (B * (H * M)) (Z * L)) where
    times : (K : ℕ) → K * 2097152 ≤ A * 2097152 + L → K * M * 2097152 ≤ A * M * 2097152 + L * M
    times K h = omega (arith, mul-le-mul_right M h, add-mul (A * 2097152) L M, mul_right_comm K 2097152 M, mul_right_comm A 2097152 M)

    times_back : (K : ℕ) → A * 2097152 ≤ K * 2097152 + L → A * M * 2097152 ≤ K * M * 2097152 + L * M
    times_back K h = omega (arith, mul-le-mul_right M h, add-mul (K * 2097152) L M, mul_right_comm K 2097152 M, mul_right_comm A 2097152 M)

    over : (x y z : ℕ) → x * (M * H) * 8 ≤ y * (M * H) * 8 + z * (M * H) → x * 8 * (M * H) ≤ (y * 8 + z) * (M * H)
    over x y z h = omega (arith, mul_right_comm x 8 (M * H), mul_right_comm y 8 (M * H), add-mul (y * 8) z (M * H))

    core_high : (W E F G KN BM XN ZL : ℕ) → W ≡ KN + BM → KN * 16 ≤ XN * 16 + G → BM * 262144 ≤ ZL * 262144 + F → XN + ZL ≤ E → G ≡ F → W * 8 ≤ E * 8 + F
    core_high W E F G KN BM XN ZL a b c d e = omega arith

    core_low : (W E F G KN BM XN ZL : ℕ) → W ≡ KN + BM → XN * 16 ≤ KN * 16 + G → ZL * 262144 ≤ BM * 262144 + F → E ≤ XN + ZL → G ≡ F → E * 8 ≤ W * 8 + F
    core_low W E F G KN BM XN ZL a b c d e = omega arith

    over_h : (x y z : ℕ) → x * 16 ≤ y * 16 + z → x * H * 16 ≤ y * H * 16 + z * H
    over_h x y z h = omega (arith, mul-le-mul_right H h, add-mul (y * 16) z H, mul_right_comm x 16 H, mul_right_comm y 16 H)

    pub last_most : (K : ℕ) → K * 2097152 ≤ A * 2097152 + L → (K * n + B) * 8 ≤ (cx * L + L) * 8 + L
    last_most K h =
        let a = over_h (K * M * n) (X * L * n) (L * M) (by_steps (K * M) (X * L) (L * M) n few (rise_high (K * M) (A * M) (X * L) (L * M) (times K h) a_near.high x_by)) in
        let b = start_high (B * (H * M)) (Z * L) (L * (M * H)) b_near.high z_by in
        let w = core_high ((K * n + B) * (M * H)) ((cx * L + L) * (M * H)) (L * (M * H)) (L * M * H) (K * M * n * H) (B * (H * M)) (X * L * n * H) (Z * L)
        (spread K B) a b most_by (mul_assoc L M H) in
        le_of_mul-le-mul_right {k = M * H} (over (K * n + B) (cx * L + L) L w) p

    pub last_least : (K : ℕ) → A * 2097152 ≤ K * 2097152 + L → cx * L * 8 ≤ (K * n + B) * 8 + L
    last_least K h =
        let a = over_h (X * L * n) (K * M * n) (L * M) (by_steps (X * L) (K * M) (L * M) n few (rise_low (K * M) (A * M) (X * L) (L * M) (times_back K h) a_near.high a_near.low x_by)) in
        let b = start_low (B * (H * M)) (Z * L) (L * (M * H)) b_near.high b_near.low z_by in
        let w = core_low ((K * n + B) * (M * H)) (cx * L * (M * H)) (L * (M * H)) (L * M * H) (K * M * n * H) (B * (H * M)) (X * L * n * H) (Z * L) (spread K B) a b least_by (mul_assoc L M H) in
        le_of_mul-le-mul_right {k = M * H} (over (cx * L) (K * n + B) L w) p

    -- for an a that is negative
    pub low_least : (K : ℕ) → A * 4194304 ≤ L → K * 4194304 ≤ L → (cx * L + K * n) * 8 ≤ B * 8 + L
    low_least K h k =
        let x : X * L * 2097152 ≤ L * M = little (A * M) (X * L) (L * M) (le_trans (le_of_eq (mul_right_comm A M 4194304)) (mul-le-mul_right M h)) a_near.low in
        let y : X * L * n * H * 128 ≤ L * (M * H) =
        le_trans (le_of_eq (mul_right_comm (X * L * n) H 128)) (le_trans (mul-le-mul_right H (few_times (X * L) (L * M) x)) (le_of_eq (mul_assoc L M H))) in
        let b = start_low (B * (H * M)) (Z * L) (L * (M * H)) b_near.high b_near.low z_by in
        let c : K * n * (M * H) * 256 ≤ L * (M * H) = le_trans (le_of_eq (mul_right_comm (K * n) (M * H) 256)) (mul-le-mul_right (M * H) (few_more K L k)) in
        let e : B * (H * M) ≡ B * (M * H) = ap (λ (z : ℕ). B * z) (mul_comm H M) in
        let w : (cx * L + K * n) * (M * H) * 8 ≤ B * (M * H) * 8 + L * (M * H) =
        core_none ((cx * L + K * n) * (M * H)) (cx * L * (M * H)) (K * n * (M * H)) (L * (M * H)) (B * (M * H)) (B * (H * M)) (X * L * n * H) (Z * L)
        (add-mul (cx * L) (K * n) (M * H)) e y b c least_by in
        le_of_mul-le-mul_right {k = M * H} (over (cx * L + K * n) B L w) p
      where
        little : (AM XL LM : ℕ) → AM * 4194304 ≤ LM → XL * 16777216 ≤ AM * 16777230 → XL * 2097152 ≤ LM
        little AM XL LM a b = omega arith

        few_times : (x y : ℕ) → x * 2097152 ≤ y → x * n * 128 ≤ y
        few_times x y h =
            let g : x * n * 2097152 ≤ y * n = le_trans (le_of_eq (mul_right_comm x n 2097152)) (mul-le-mul_right n h) in
            omega (arith, mul-le-mul_left y few)

        few_more : (x y : ℕ) → x * 4194304 ≤ y → x * n * 256 ≤ y
        few_more x y h =
            let g : x * n * 4194304 ≤ y * n = le_trans (le_of_eq (mul_right_comm x n 4194304)) (mul-le-mul_right n h) in
            omega (arith, mul-le-mul_left y few)

        core_none : (W E N F BM BM' XN ZL : ℕ) → W ≡ E + N → BM' ≡ BM → XN * 128 ≤ F → ZL * 262144 ≤ BM' * 262144 + F → N * 256 ≤ F → E ≤ XN + ZL → W * 8 ≤ BM * 8 + F
        core_none W E N F BM BM' XN ZL a b c d e f = omega arith

-- ---- what is rounded on the way to z: a / 64 at most. KI is a times i, P that rounded, W the sum with b, rounded
pub sum_high : (KI P B W L : ℕ) → P * 16777216 ≤ KI * 16777217 + 16777216 → W * 16777216 ≤ (P + B) * 16777217 + 16777216 → KI ≤ 32768 * L → B ≤ L → 1099511627776 ≤ L → W * 64 ≤ (KI + B) * 64 + L
sum_high KI P B W L p w k b l = omega arith

pub sum_low : (KI P B W L : ℕ) → KI * 16777216 ≤ P * 16777218 + 16777216 → (P + B) * 16777216 ≤ W * 16777218 + 16777216 → W ≤ 32772 * L → P ≤ 32772 * L →
    1099511627776 ≤ L → (KI + B) * 64 ≤ W * 64 + L
sum_low KI P B W L p w k b l = omega arith

-- ---- z of step i: the numbers of whole parts in W
pub record Held (z i cx cy : ℕ) : Type 0 where
  pub cols : z ≤ cx + 1
  pub up : z ≤ i + 1
  pub down : i ≤ z + cy

less : (x y c L : ℕ) → x * L < y * L + c * L → x < y + c
less x y c L h = lt_of_mul-lt-mul_right L (subst (λ (q : ℕ). x * L < q) (sym (add-mul y c L)) h)

module _ (L n cx cy i z W : ℕ) (l : 0 < L) (few : n ≤ 16384) (i_in : i ≤ n) (count : n + 1 ≡ cx + cy) (zl : z * L ≤ W) (zu : W < z * L + L) where
  pub few_steps : (K : ℕ) → K * 4194304 ≤ L → K * i * 256 ≤ L
  few_steps K h =
      let g : K * i * 4194304 ≤ L * i = le_trans (le_of_eq (mul_right_comm K i 4194304)) (mul-le-mul_right i h) in
      omega (arith, mul-le-mul_left L i_in, mul-le-mul_left L few)

  -- a from 0 to 1 + 2 ^ -18
  pub held : (K B : ℕ) → K * 2097152 ≤ 2097160 * L → B ≤ L → (K * n + B) * 8 ≤ (cx * L + L) * 8 + L → cx * L * 8 ≤ (K * n + B) * 8 + L
      → W * 64 ≤ (K * i + B) * 64 + L → (K * i + B) * 64 ≤ W * 64 + L → Held z i cx cy
  held K B k b hi lo wh wl =
      let d = n - i in
      let split : n ≡ i + d = omega arith in
      let whole : K * n ≡ K * i + K * d = ap (λ (q : ℕ). K * q) split ∙ mul-add K i d in
      let ki = steps i (le_trans i_in few) in
      let kd = steps d (omega arith) in
      let c1 : z < cx + 2 = less z cx 2 L (omega arith) in
      let c2 : z < i + 2 = less z i 2 L (omega arith) in
      let c3 : cx < z + d + 2 = less cx (z + d) 2 L (omega (arith, add-mul z d L)) in
      record { cols = omega arith; up = omega arith; down = omega arith }
    where
      steps : (j : ℕ) → j ≤ 16384 → K * j * 16 ≤ j * L * 16 + L
      steps j h =
          let g : K * j * 2097152 ≤ 2097160 * (j * L) =
          le_trans (le_of_eq (mul_right_comm K j 2097152)) (le_trans (mul-le-mul_right j k) (le_of_eq (mul_assoc 2097160 L j ∙ ap (λ (q : ℕ). 2097160 * q) (mul_comm L j)))) in
          omega (arith, mul-le-mul_right L h)

  -- a from -2 ^ -22 to 0, where a i + b isn't negative; P is the size of a i
  pub held_low : (K B P : ℕ) → K * 4194304 ≤ L → B ≤ L → P ≤ B → (cx * L + K * n) * 8 ≤ B * 8 + L → P * 16777216 ≤ K * i * 16777217 + 16777216
      → W * 16777216 ≤ (B - P) * 16777217 + 16777216 → (B - P) * 16777216 ≤ W * 16777218 + 16777216 → 1099511627776 ≤ L → Held z i cx cy
  held_low K B P k b q lo ph wh wl big =
      let ki : K * i * 256 ≤ L = few_steps K k in
      let c1 : z < 0 + 2 = less z 0 2 L (omega arith) in
      let c2 : cx < z + 2 = less cx z 2 L (omega arith) in
      record { cols = omega arith; up = omega arith; down = omega arith }

  -- where it is: cx is 0, and -1 is a row below no last one
  pub held_below : (K B P : ℕ) → K * 4194304 ≤ L → B ≤ P → (cx * L + K * n) * 8 ≤ B * 8 + L → P * 16777216 ≤ K * i * 16777217 + 16777216 → 1099511627776 ≤ L → i + 1 ≤ cy
  held_below K B P k q lo ph big =
      let ki : K * i * 256 ≤ L = few_steps K k in
      let c : cx < 0 + 1 = less cx 0 1 L (omega arith) in
      omega arith
