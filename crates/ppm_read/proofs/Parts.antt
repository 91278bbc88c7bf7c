-- The test for "P6", and a copy. Assumes nothing.
use mathlib.Core.Path.{◌≡◌, refl, sym, ap, ◌∙◌}
use mathlib.Core.List.{List, [], ◌∷◌}
use mathlib.Core.Bool.{Bool, false, ◌&&◌}
use Prim.Native.Nat.{ℕ, ◌+◌, ◌-◌, ◌≤◌, ◌<◌}
use native.Mathlib.Numerals.{add-one}
use native.Mathlib.Omega.{arith}
use lib.Dec.{eqb}
use lib.ListN.{length, get_or, set, drop, drop_of_length-le}
use lib.Seq.{drop-cons, sets}
use Rattle.ppm_write.specs.Bytes.{magic}
use Rattle.std.proofs.lemmas.Bool.Decides.{nat_tests}
use Rattle.std.specs.List.{starts_with as starts}
use Rattle.ppm_read.specs.Header.{starts_with}

eqb_sym : (a b : ℕ) → eqb a b ≡ eqb b a
eqb_sym a b = grind (arith, nat_tests)

-- the library's test, which looks at the needle's byte first
pub magic_is : (bs : List ℕ) → starts eqb bs magic ≡ starts_with magic bs
magic_is [] = refl
magic_is (a ∷ []) = go (eqb 80 a) (eqb a 80) (eqb_sym 80 a)
  where
    go : (t u : Bool) → t ≡ u → t && false ≡ u && false
    go t u e = rw e
magic_is (a ∷ b ∷ bs) = rw (eqb_sym 80 a, eqb_sym 54 b)

next_place : (from at : ℕ) → from ≤ at → at + 1 - from ≡ (at - from) + 1
next_place from at k = omega arith

-- a turn of the loop that copies: what is left to store is that of the next place on
pub copy_turn : (file out end : List ℕ) (i at : ℕ) → at < length file
    → sets out i (drop at file) ≡ end
    → sets (set out i (get_or file at 0)) (i + 1) (drop (at + 1) file) ≡ end
copy_turn file out end i at h e =
    rw (add-one i, add-one at) (sym (ap (sets out i) (drop-cons file at 0 h)) ∙ e)

-- the same where the place is told by the reader's
pub copy_turn_from : (file out end : List ℕ) (from at : ℕ) → from ≤ at → at < length file
    → sets out (at - from) (drop at file) ≡ end
    → sets (set out (at - from) (get_or file at 0)) (at + 1 - from) (drop (at + 1) file) ≡ end
copy_turn_from file out end from at k h e = rw (next_place from at k) (copy_turn file out end (at - from) at h e)

pub copy_done : (file out end : List ℕ) (i at : ℕ) → length file ≤ at → sets out i (drop at file) ≡ end → out ≡ end
copy_done file out end i at h e = sym (ap (sets out i) (drop_of_length-le file h)) ∙ e
