-- `acts::marks::mark_if` meets its contract.
-- Assumes nothing.
use mathlib.Core.Path.{◌≡◌, refl, ap}
use mathlib.Core.Bool.{Bool, true, false, cond}
use mathlib.Core.List.{List}
use borrow.Author.Tests.{lt-ltb}
use Prim.Native.Nat.{ℕ, suc, ◌+◌, ◌<◌, ◌^◌}
use native.Mathlib.Omega.{arith}
use lib.ListN.{length, get_or, set}
use lib.Seq.{set-get_or}
use lib.IntN.{ℤ, pos, negsuc, ◌+ℤ◌}
use lib.Signed.{mag}
use mir.Syntax.{w32}
use mir.Val.{SFits, to_z, of_z}
use mir.Facts.{to_z-of_z}
use Rattle.panel.specs.Signed.{in_i32}
use Rattle.acts.specs.Acts.{delta_of}
use Rattle.panel.proofs.SignLaws.{in_fits}
use borrow.Author.Rules.{rules}
use Rattle.acts.proofs.marks.mark_if.Goals as goal

below : (m : Bool) (t n k : ℕ) → cond m (t + 1) t < n → n < k → t + 1 < k
below true t n k h l = omega arith
below false t n k h l = omega arith

plus_zero : (z : ℤ) → z +ℤ pos 0 ≡ z
plus_zero (pos n) = ap pos (omega arith)
plus_zero (negsuc n) = simp (lt-ltb 0 (suc n) (omega arith)) (ap negsuc (omega arith))

-- the place q and what is added there, d
module _ (bs : List ℤ) (t q : ℕ) (m up : Bool) (d : ℤ) (eq : q ≡ cond m (t + 1) t) (ed : d ≡ cond m (delta_of up) (pos 0))
    (h : mag (get_or bs q (pos 0)) < 2 ^ 31) (ok : m ≡ true → in_i32 (get_or bs (t + 1) (pos 0) +ℤ delta_of up) ≡ true) where
  inside : SFits w32 (get_or bs q (pos 0) +ℤ d)
  inside = go m refl
    where
      go : (x : Bool) → m ≡ x → SFits w32 (get_or bs q (pos 0) +ℤ d)
      go true e = rw (ed, eq, e) (in_fits (get_or bs (t + 1) (pos 0) +ℤ delta_of up) (ok e))
      go false e = rw (ed, e, plus_zero (get_or bs q (pos 0))) (record { sfits = h })

  module _ (g : SFits w32 d) where
    fits : SFits w32 (to_z w32 (of_z w32 (get_or bs q (pos 0))) +ℤ to_z w32 (of_z w32 d))
    fits = rw (to_z-of_z {w = w32} {z = get_or bs q (pos 0)} (record { sfits = h }), to_z-of_z g) inside

    stored : set bs q (to_z w32 (of_z w32 (to_z w32 (of_z w32 (get_or bs q (pos 0))) +ℤ to_z w32 (of_z w32 d)))) ≡ cond m (set bs (t + 1) (get_or bs (t + 1) (pos 0) +ℤ delta_of up)) bs
    stored = rw (to_z-of_z {w = w32} {z = get_or bs q (pos 0)} (record { sfits = h }), to_z-of_z g, to_z-of_z inside) (go m refl)
      where
        go : (x : Bool) → m ≡ x → set bs q (get_or bs q (pos 0) +ℤ d) ≡ cond m (set bs (t + 1) (get_or bs (t + 1) (pos 0) +ℤ delta_of up)) bs
        go true e = rw (ed, eq, e)
        go false e = rw (ed, e, plus_zero (get_or bs q (pos 0))) (set-get_or bs q (pos 0))

pub next_if-q-requires : goal.next_if-q-requires
next_if-q-requires c = below c.args.marks c.args.t (length c.args.backs.now) (2 ^ 64) c.requires.0 (search rules)

pub overflow_add-v : goal.overflow_add-v
overflow_add-v c =
    fits c.args.backs.now c.args.t c.next_if-q.result c.args.marks c.args.up c.delta_if-d.result
    c.next_if-q.ensures c.delta_if-d.ensures c.b-1.given c.requires.1 (record { sfits = c.delta_if-d.type_inv })

pub returns : goal.returns
returns c =
    stored c.args.backs.now c.args.t c.next_if-q.result c.args.marks c.args.up c.delta_if-d.result
    c.next_if-q.ensures c.delta_if-d.ensures c.b-1.given c.requires.1 (record { sfits = c.delta_if-d.type_inv })
