-- Which sums and differences of floats are numbers, and which floats are finite. Assumes nothing.
--     add-number, sub_number, less_number     a number and a finite float have a number for a sum and for either difference
--     finite_term, number_sum, number_less    what a sum or a difference says of its terms
--     int_finite                              a whole number up to 2 ^ 24 as a float is finite
--     between, both_finite                    a number between two finite floats is finite
use mathlib.Core.Path.{◌≡◌}
use mathlib.Core.Bool.{Bool, true, false, not, cond, ◌&&◌, beq, true≢false, false≢true}
use Prim.Native.Nat.{ℕ, ◌+◌, ◌-◌, ◌*◌, ◌^◌, ◌≤◌}
use lib.Dec.{T, ltb}
use lib.IntN.{pos}
use lib.Ieee.{Float, nan, inf, fin, binary32, up, down, round, sum, add, sub, neg, lt, eq, le, of_bits, of_int, is_nan}
use lib.Ieee.Back.{round_whole}
use lib.Ieee.Scale.{finite}
use Rattle.util.specs.Constants as Number
use Rattle.float32.proofs.Laws.{whole_finite}
use Rattle.float32.proofs.Whole.{round_no_nan}

pub zero_number : T (not (is_nan Number.zero))
unfolding of_bits is_nan
zero_number = tt

pub one_number : T (not (is_nan Number.one))
unfolding of_bits is_nan
one_number = tt

-- a sum with a finite number is a number
pub add-number : (x c : Float) → T (not (is_nan x)) → T (finite c) → T (not (is_nan (add binary32 x c)))
unfolding add sum is_nan
add-number nan c n f = absurd n
add-number (inf s) nan n f = absurd f
add-number (inf s) (inf t) n f = absurd f
add-number (inf s) (fin t m e) n f = tt
add-number (fin s m e) nan n f = absurd f
add-number (fin s m e) (inf t) n f = absurd f
add-number (fin s m e) (fin t k d) n f = go (beq s t) (ltb A B)
  where
    A : ℕ
    A = m * up e * down d

    B : ℕ
    B = k * up d * down e

    c : ℕ
    c = down e * down d

    go : (u v : Bool) → T (not (is_nan (cond u (round binary32 s (A + B) c) (cond v (round binary32 t (B - A) c) (round binary32 (s && ltb B A) (A - B) c)))))
    go true v = round_no_nan s (A + B) c
    go false true = round_no_nan t (B - A) c
    go false false = round_no_nan (s && ltb B A) (A - B) c

-- a finite number less a number is a number
pub sub_number : (c x : Float) → T (finite c) → T (not (is_nan x)) → T (not (is_nan (sub binary32 c x)))
unfolding sub neg is_nan
sub_number nan x f n = absurd f
sub_number (inf s) x f n = absurd f
sub_number (fin s m e) nan f n = absurd n
sub_number (fin s m e) (inf t) f n = unfold add in tt
sub_number (fin s m e) (fin t k d) f n = add-number (fin s m e) (fin (not t) k d) tt tt

pub neg_finite : (x : Float) → T (finite x) → T (finite (neg x))
unfolding neg
neg_finite nan f = f
neg_finite (inf s) f = f
neg_finite (fin s m e) f = tt

-- a number less a finite one is a number too
pub less_number : (x c : Float) → T (not (is_nan x)) → T (finite c) → T (not (is_nan (sub binary32 x c)))
unfolding sub
less_number x c n f = add-number x (neg c) n (neg_finite c f)

-- a term of a sum that is finite, of a sum that is a number, and of a difference that is one
pub finite_term : (x c : Float) → T (finite (add binary32 x c)) → T (finite c)
unfolding add
finite_term nan c f = absurd f
finite_term (inf s) nan f = absurd f
finite_term (inf true) (inf true) f = absurd f
finite_term (inf true) (inf false) f = absurd f
finite_term (inf false) (inf true) f = absurd f
finite_term (inf false) (inf false) f = absurd f
finite_term (inf s) (fin t n d) f = tt
finite_term (fin s m e) nan f = absurd f
finite_term (fin s m e) (inf t) f = absurd f
finite_term (fin s m e) (fin t n d) f = tt

pub number_sum : (x c : Float) → T (not (is_nan (add binary32 x c))) → T (not (is_nan x))
unfolding add is_nan
number_sum nan c n = absurd n
number_sum (inf s) c n = tt
number_sum (fin s m e) c n = tt

pub number_less : (x c : Float) → T (not (is_nan (sub binary32 x c))) → T (not (is_nan x))
unfolding sub
number_less x c n = number_sum x (neg c) n

pub int_finite : (n : ℕ) → n ≤ 2 ^ 24 → T (finite (of_int binary32 (pos n)))
unfolding of_int
int_finite n h = whole_finite (round binary32 false n 1) (false, n, round_whole binary32 false n h)

-- ---- between finite floats
pub between : (lo hi x : Float) → T (finite lo) → T (finite hi) → T (not (is_nan x)) → lt x lo ≡ false → lt hi x ≡ false → T (finite x)
unfolding lt is_nan
between lo hi nan a b n h k = absurd n
between nan hi (inf s) a b n h k = absurd a
between (inf t) hi (inf s) a b n h k = absurd a
between (fin t m e) nan (inf s) a b n h k = absurd b
between (fin t m e) (inf u) (inf s) a b n h k = absurd b
between (fin t m e) (fin u l d) (inf true) a b n h k = absurd (true≢false h)
between (fin t m e) (fin u l d) (inf false) a b n h k = absurd (true≢false k)
between lo hi (fin s m e) a b n h k = tt

-- a start y and an end e, the lower of which is 0 or more and the higher 16 or less
pub both_finite : (y e : Float) → le Number.zero (cond (lt e y) e y) ≡ true → le (cond (lt e y) y e) Number.tile_side ≡ true → T (finite y) × T (finite e)
unfolding lt le eq of_bits
both_finite nan nan p q = absurd (false≢true p)
both_finite nan (inf t) p q = absurd (false≢true p)
both_finite nan (fin t n d) p q = absurd (false≢true p)
both_finite (inf true) nan p q = absurd (false≢true p)
both_finite (inf false) nan p q = absurd (false≢true q)
both_finite (inf true) (inf true) p q = absurd (false≢true p)
both_finite (inf true) (inf false) p q = absurd (false≢true p)
both_finite (inf false) (inf true) p q = absurd (false≢true p)
both_finite (inf false) (inf false) p q = absurd (false≢true q)
both_finite (inf true) (fin t n d) p q = absurd (false≢true p)
both_finite (inf false) (fin t n d) p q = absurd (false≢true q)
both_finite (fin s m e) nan p q = absurd (false≢true q)
both_finite (fin s m e) (inf true) p q = absurd (false≢true p)
both_finite (fin s m e) (inf false) p q = absurd (false≢true q)
both_finite (fin s m e) (fin t n d) p q = (tt, tt)
