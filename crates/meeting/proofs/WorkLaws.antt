-- How much is looked at in a search for a meeting, where the windows are wide enough: no input makes it quadratic. A search over n ranges makes p passes, each
-- over a window of w keys; v is what it looked at. Assumes nothing.
use Prim.Native.Nat.{ℕ, zero, suc, ◌+◌, ◌*◌, ◌/◌, ◌≤◌, ◌<◌}
use native.Mathlib.Nat.{add-mul, mul-add, mul-le-mul_left}
use native.Mathlib.Omega.{arith}
use Rattle.meeting.specs.Found.{FewPasses}

-- a pass before the last: so many keys lie between its window's start and the next one's
before_last : (start : ℕ → ℕ) (n w q k : ℕ) → FewPasses start n w (suc q) → ((i : ℕ) → i < n → start i < k) → q * w < k
before_last start n w q k f h = omega (arith, f k (omega arith) h, add-mul 1 q w)

-- keys below m, and a window of twice as many keys as there are ranges: at most m / 2 ranges are looked at, and each one once more
pub visits_few : (start : ℕ → ℕ) (n w p v m r : ℕ) → FewPasses start n w p → v ≤ p * n → ((i : ℕ) → i < n → start i < m) → n ≤ r → r + r ≤ w → v ≤ m / 2 + r
visits_few start n w zero v m r f e h l g = omega arith
visits_few start n w (suc q) v m r f e h l g =
    let twice : n + n ≤ w = omega arith in
    omega (arith, before_last start n w q m f h, add-mul 1 q n, mul-le-mul_left q twice, mul-add q n n)

-- keys up to k, and a window of as many keys as there are ranges: at most k ranges, and each one once more
pub visits_all : (start : ℕ → ℕ) (n w p v k t : ℕ) → FewPasses start n w p → v ≤ p * n → ((i : ℕ) → i < n → start i ≤ k) → n ≤ t → t ≤ w → v ≤ k + t
visits_all start n w zero v k t f e h l g = omega arith
visits_all start n w (suc q) v k t f e h l g =
    let wide : n ≤ w = omega arith in
    omega (arith, before_last start n w q (k + 1) f (λ i b. omega (arith, h i b)), add-mul 1 q n, mul-le-mul_left q wide)

-- words looked at for a flag: two for each key at most, the words of one window, and one
pub words_few : (start : ℕ → ℕ) (n w p v k : ℕ) → FewPasses start n w p → v ≤ p * (w + 1) → ((i : ℕ) → i < n → start i ≤ k) → n ≤ w → v ≤ k + k + w + 1
words_few start n w zero v k f e h l = omega arith
words_few start n zero (suc q) v k f e h l = absurd (omega (arith, before_last start n 0 q 0 f (λ i b. absurd (omega arith))))
words_few start n (suc w) (suc q) v k f e h l =
    omega (
      arith,
      before_last start n (suc w) q (k + 1) f (λ i b. omega (arith, h i b)),
      add-mul 1 q (suc w + 1),
      mul-add q (suc w) 1,
      mul-add q 1 w,
    )

-- both at once
pub search_few : (start : ℕ → ℕ) (n r w p v u m : ℕ) → FewPasses start n w p → v ≤ p * n → u ≤ p * (w + 1) → ((i : ℕ) → i < n → start i < m) → n ≤ r → r + r ≤ w
    → (v ≤ m / 2 + r) × (u ≤ m + m + w + 1)
search_few start n r w p v u m f e g h l k = (
  visits_few start n w p v m r f e h l k,
  words_few start n w p u m f g (λ i b. omega (arith, h i b)) (omega arith),
)
