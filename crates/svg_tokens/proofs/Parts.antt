-- A number's parts, over plain variables. Assumes nothing.
use mathlib.Core.Path.{◌≡◌, refl, sym, ◌∙◌, subst}
use mathlib.Core.Bool.{Bool, true, false, cond, false≢true}
use mathlib.Core.List.{List, [], ◌∷◌}
use Prim.Native.Nat.{ℕ, zero, suc, ◌+◌, ◌-◌, ◌*◌, ◌^◌, ◌≤◌, ◌<◌}
use native.Mathlib.Omega.{arith}
use lib.Dec.{eqb}
use lib.ListN.{length, drop, get_or}
use Rattle.svg_path.specs.Chars.{whole_most, part_most, is_sign}
use Rattle.svg_tokens.specs.declared.Run.{Run}
use Rattle.svg_tokens.specs.declared.Number.{Number}
use Rattle.svg_tokens.specs.Run.{run_of}
use Rattle.svg_tokens.specs.Tokens.{signs_of, point_at, head_of, part_of, number_of}
use Rattle.svg_tokens.proofs.Turn.{run_small, run_few, run_within, start}

-- ---- a point
pub point_in : (s : List ℕ) (b : Bool) → b ≡ point_at s → b ≡ true → 0 < length s
unfolding point_at
point_in [] b e t = absurd (false≢true (sym e ∙ t))
point_in (c ∷ s) b e t = omega arith

pub sign_few : (c k : ℕ) → k ≡ signs_of c → k ≤ 1
unfolding signs_of
sign_few c k e = subst (λ (x : ℕ). x ≤ 1) (sym e) (go (is_sign c))
  where
    go : (b : Bool) → cond b 1 0 ≤ 1
    go true = omega arith
    go false = omega arith

-- ---- what the digits make
pub run_bounds : (l : ℕ) (s : List ℕ) (r : Run) → l ≤ whole_most → r ≡ run_of l 0 0 s → (r.n < 1000000) × (r.taken ≤ l) × (r.taken ≤ length s)
run_bounds l s r h e = rw e (run_small l 0 0 s (start l h), few (run_few l 0 0 s), few (run_within l 0 0 s))
  where
    few : {x y : ℕ} → x ≤ 0 + y → x ≤ y
    few h = omega arith

-- ---- after the digits before the point
pub pointed : (s t : List ℕ) (n k p : ℕ) (m b : Bool) (r : Run) → b ≡ point_at s → b ≡ true → t ≡ drop 1 s → r ≡ run_of part_most 0 0 t → p ≡ r.n * 10 ^ (part_most - r.taken)
    → record { minus = m; n = n * 1000 + p; taken = k + 1 + r.taken } ≡ part_of m n k s
unfolding part_of
pointed s t n k p m b r e u i f g = rw (sym e ∙ u, ← i, ← f, ← g)

pub plain : (s : List ℕ) (n k : ℕ) (m b : Bool) → b ≡ point_at s → b ≡ false → record { minus = m; n = n * 1000; taken = k } ≡ part_of m n k s
unfolding part_of
plain s n k m b e t = rw (sym e ∙ t)

-- ---- the whole number
head_is : (s : List ℕ) → head_of s ≡ get_or s 0 0
head_is [] = refl
head_is (c ∷ s) = refl

pub read_is : (s t u : List ℕ) (k : ℕ) (w : Run) (r : Number) → k ≡ signs_of (get_or s 0 0) → t ≡ drop k s → w ≡ run_of whole_most 0 0 t → u ≡ drop (k + w.taken) s
    → r ≡ part_of (eqb (get_or s 0 0) 45) w.n (k + w.taken) u → r ≡ number_of s
unfolding number_of
read_is s t u k w r e i f j g = rw (head_is s, ← e, ← i, ← f, ← j) g

-- ---- digits after a point, as thousandths, leave room for those before it
pub padded_few : (t n p : ℕ) → n < 1000000 → p ≡ n * 10 ^ (part_most - t) → p < 1000000000
padded_few zero n p h e = omega arith
padded_few (suc zero) n p h e = omega arith
padded_few (suc (suc zero)) n p h e = omega arith
padded_few (suc (suc (suc t))) n p h e = let z : part_most - suc (suc (suc t)) ≡ 0 = omega arith in let q : p ≡ n * 1 = rw z at e in omega arith
