-- Not so: that nothing leaks from closed outlines in a box with a margin. By computation.
--     leaks    a triangle whose marks in tile row 2 don't add up to 0, over all columns of its box
use mathlib.Core.Path.{◌≡◌, refl, sym, ap, ◌∙◌}
use mathlib.Core.List.{List, [], ◌∷◌, map}
use Prim.Native.Nat.{ℕ, zero, suc, ◌<◌}
use native.Mathlib.Nat.{not-suc-le-zero, le_of_suc-le-suc}
use native.Mathlib.Omega.{arith}
use lib.Dec.{T}
use lib.IntN.{pos, nat_abs}
use lib.ListN.{length, get_or}
use lib.Ieee.{Float, nan, binary32, fits, of_bits, to_bits}
use lib.Ieee.Bits.{of_bits-fits}
use borrow.Author.Tests.{leb-true}
use Rattle.panel.specs.Paths.{boxed, path_at}
use Rattle.margin.specs.Room.{Inside}
use Rattle.meeting.specs.First.{first_from}
use Rattle.theorems.specs.Drawn.{drawn, walk_of}
use Rattle.theorems.proofs.StarredTable.{computing}
use Rattle.picture.specs.Picture.{step_marks, winding_of}
use Rattle.outlines.specs.Outlines.{same_bits, same_point, meets, last_of, back_from, left_open, first_open}
use Rattle.outline_theorems.specs.Closed.{Closed}
use Rattle.outline_theorems.specs.Crossings.{start_of, end_of}

-- each end of each line a tile inside its path's box, or more
abbrev AllInside : (nos : List ℕ) (fs : List Float) (paths : List ℕ) (p : ℕ) → Type 0
AllInside nos fs paths p = (l : ℕ) → l < length nos → Inside (path_at paths p) (start_of fs l) × Inside (path_at paths p) (end_of fs l)

abbrev NothingLeaks : Type 0
NothingLeaks =
    (nos : List ℕ) (fs : List Float) (paths : List ℕ) (p y : ℕ) → Closed nos fs → AllInside nos fs paths p
    → winding_of paths p (path_at paths p).x1 y (drawn nos fs (length nos)) ≡ pos 0

-- (16, 32), (24, 32.000008), (96.000015, 31.999998)
abbrev bits : List ℕ
bits =
    0x4180_0000 ∷ 0x4200_0000 ∷ 0x41c0_0000 ∷ 0x4200_0002 ∷ 0x41c0_0000 ∷ 0x4200_0002 ∷ 0x42c0_0002 ∷ 0x41ff_ffff ∷ 0x42c0_0002 ∷ 0x41ff_ffff ∷ 0x4180_0000 ∷ 0x4200_0000 ∷ []

abbrev triangle : List Float
triangle = map (of_bits binary32) bits

abbrev three : List ℕ
three = 0 ∷ 0 ∷ 0 ∷ []

abbrev paths : List ℕ
paths = boxed 0 0 8 4 0

all_fit : (bs : List ℕ) (k : ℕ) → k < length (map (of_bits binary32) bs) → T (fits binary32 (get_or (map (of_bits binary32) bs) k nan))
all_fit [] k h = absurd (not-suc-le-zero h)
all_fit (b ∷ bs) zero h = of_bits-fits binary32 b
all_fit (b ∷ bs) (suc k) h = all_fit bs k (le_of_suc-le-suc h)

none_open : first_open three triangle ≡ 3
unfolding computing first_open first_from left_open back_from last_of meets same_point same_bits to_bits
none_open = refl

closed : Closed three triangle
closed = record { lent = leb-true 12 12 refl; floats = all_fit bits; none_open = none_open }

inside : AllInside three triangle paths 0
unfolding computing
inside zero h = (
  record { left = leb-true 1 _ refl; right = leb-true _ 8 refl; top = leb-true 1 _ refl; bottom = leb-true _ 4 refl },
  record { left = leb-true 1 _ refl; right = leb-true _ 8 refl; top = leb-true 1 _ refl; bottom = leb-true _ 4 refl },
)
inside (suc zero) h = (
  record { left = leb-true 1 _ refl; right = leb-true _ 8 refl; top = leb-true 1 _ refl; bottom = leb-true _ 4 refl },
  record { left = leb-true 1 _ refl; right = leb-true _ 8 refl; top = leb-true 1 _ refl; bottom = leb-true _ 4 refl },
)
inside (suc (suc zero)) h = (
  record { left = leb-true 1 _ refl; right = leb-true _ 8 refl; top = leb-true 1 _ refl; bottom = leb-true _ 4 refl },
  record { left = leb-true 1 _ refl; right = leb-true _ 8 refl; top = leb-true 1 _ refl; bottom = leb-true _ 4 refl },
)
inside (suc (suc (suc l))) h = absurd (not-suc-le-zero (le_of_suc-le-suc (le_of_suc-le-suc (le_of_suc-le-suc h))))

leak : nat_abs (winding_of paths 0 8 2 (drawn three triangle 3)) ≡ 1
unfolding computing walk_of step_marks winding_of
leak = refl

pub leaks : NothingLeaks → ⊥
unfolding computing
leaks f = let z : ◌≡◌ {A = ℕ} 1 0 = sym leak ∙ ap nat_abs (f three triangle paths 0 2 closed inside) in absurd (omega arith)
