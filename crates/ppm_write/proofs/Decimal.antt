-- Laws of `decimal`: one digit below ten, else those of a tenth and one more; never more than n + 1.
-- Assumes nothing.
use mathlib.Core.Path.{◌≡◌, refl, ap, ◌∙◌}
use mathlib.Core.List.{List, [], ◌∷◌, ◌++◌}
use mathlib.Core.Bool.{Bool, true, false, cond}
use Prim.Native.Nat.{ℕ, zero, suc, ◌+◌, ◌/◌, ◌%◌, ◌≤◌, ◌<◌}
use native.Mathlib.Omega.{arith}
use lib.Dec.{ltb}
use lib.ListN.{length, length-append}
use borrow.Author.Tests.{lt-ltb, le-ltb, ltb-false}
use Rattle.ppm_write.specs.Bytes.{ten}
use Rattle.ppm_write.specs.File.{digit, digits_of, decimal}

-- the limit on the digits doesn't matter above n
digits_limit : (k j n : ℕ) → n < k → n < j → digits_of k n ≡ digits_of j n
unfolding digits_of
digits_limit zero j n a b = absurd (omega arith)
digits_limit (suc k) zero n a b = absurd (omega arith)
digits_limit (suc k) (suc j) n a b = go (ltb n ten) refl (digits_limit k j (n / ten))
  where
    go :
        (t : Bool) →
        ltb n ten ≡ t →
        (n / ten < k → n / ten < j → digits_of k (n / ten) ≡ digits_of j (n / ten)) →
        cond (ltb n ten) (digit n ∷ []) (digits_of k (n / ten) ++ (digit (n % ten) ∷ [])) ≡ cond (ltb n ten) (digit n ∷ []) (digits_of j (n / ten) ++ (digit (n % ten) ∷ []))
    go true e same = rw e
    go false e same =
        let big : ten ≤ n = ltb-false n ten e in
        let s : digits_of k (n / ten) ≡ digits_of j (n / ten) = same (omega arith) (omega arith) in
        rw s

pub decimal_one : (n : ℕ) → n < ten → decimal n ≡ digit n ∷ []
unfolding decimal digits_of
decimal_one n h = rw (lt-ltb n ten h)

pub decimal_more : (n : ℕ) → ten ≤ n → decimal n ≡ decimal (n / ten) ++ (digit (n % ten) ∷ [])
unfolding decimal digits_of
decimal_more n h =
    let e : digits_of n (n / ten) ≡ digits_of (suc (n / ten)) (n / ten) =
    digits_limit n (suc (n / ten)) (n / ten) (omega arith) (omega arith) in
    rw (le-ltb n ten h) (ap (λ (ds : List ℕ). ds ++ (digit (n % ten) ∷ [])) e)

digits_short : (k n : ℕ) → length (digits_of k n) ≤ k
unfolding digits_of
digits_short zero n = omega arith
digits_short (suc k) n = go (ltb n ten) (digits_short k (n / ten))
  where
    go :
        (t : Bool) →
        length (digits_of k (n / ten)) ≤ k →
        length (cond t (digit n ∷ []) (digits_of k (n / ten) ++ (digit (n % ten) ∷ []))) ≤ suc k
    go true h = omega arith
    go false h = omega (arith, length-append (digits_of k (n / ten)) (digit (n % ten) ∷ []))

pub decimal_short : (n : ℕ) → length (decimal n) ≤ suc n
unfolding decimal
decimal_short n = digits_short (suc n) n

pub length_one : (n : ℕ) → n < ten → length (decimal n) ≡ 1
length_one n h = rw (decimal_one n h)

pub length_more : (n : ℕ) → ten ≤ n → length (decimal n) ≡ length (decimal (n / ten)) + 1
length_more n h = ap length (decimal_more n h) ∙ length-append (decimal (n / ten)) (digit (n % ten) ∷ [])
