-- What is carried from a step is the next step's: its z is the z before, and its z after is the z. Assumes nothing.
--     next_float     a step number as a float, with 1 added
--     carried_on     so the z's of the step after
--     worked_out     and those of any step
--     none_carried, own_carried     what may be carried
use mathlib.Core.Path.{◌≡◌, refl, sym, ap, ◌∙◌}
use mathlib.Core.Bool.{false}
use Prim.Native.Nat.{ℕ, ◌+◌, ◌≤◌, ◌<◌, ◌^◌}
use native.Mathlib.Nat.{le_refl, le_of_lt}
use native.Mathlib.Omega.{arith}
use lib.Ieee.{Float, binary32, add, of_int, of_bits}
use Rattle.float32.specs.Meaning.{whole}
use Rattle.float32.proofs.Whole.{whole_value}
use Rattle.float32.proofs.Floors.{one_more}
use Rattle.util.specs.Constants.{one}
use Rattle.panel.specs.Widths.{step_range}
use Rattle.exact.proofs.Limits.{far}
use Rattle.walk.specs.Num.{float}
use Rattle.walk.specs.Step.{z_at, last_z_word}
use Rattle.walk.specs.declared.kinds.Pace.{Pace}
use Rattle.walk.proofs.Walks.{last_z}
use Rattle.carry.specs.Carry.{zs_of, no_zs, Carried}
use Rattle.carry.specs.declared.Zs.{Zs}

next_float : (i : ℕ) → i ≤ 2 ^ 24 → add binary32 (float i) one ≡ float (i + 1)
unfolding of_int of_bits
next_float i h = one_more false (whole false i) i (whole_value false i h)

module _ (p : Pace) (s : Zs) (c : Carried p s) (i : ℕ) (h : i < step_range) (e : s.at + 1 ≡ i) where
  before_at : s.at < step_range
  before_at = omega arith

  before_on : s.z ≡ last_z_word p i
  before_on = ap (λ (v : Zs). v.z) (c.own before_at) ∙ sym (last_z p s.at before_at) ∙ ap (last_z_word p) e

  z_on : s.after ≡ z_at p.a p.b (float i)
  z_on =
      ap (λ (v : Zs). v.after) (c.own before_at)
      ∙ ap (λ (f : Float). z_at p.a p.b f) (next_float s.at (omega (arith, far.steps)) ∙ ap float e)

  -- so the step's own are these
  pub carried_on : (f : Float) → f ≡ z_at p.a p.b (add binary32 (float i) one)
      → ◌≡◌ {A = Zs} (record { at = i; before = s.z; z = s.after; after = f }) (zs_of p i)
  carried_on f q = rw (before_on, z_on, q)

-- worked out
pub worked_out : (p : Pace) (i : ℕ) (b f a : Float) → b ≡ last_z_word p i → f ≡ z_at p.a p.b (float i) → a ≡ z_at p.a p.b (add binary32 (float i) one)
    → ◌≡◌ {A = Zs} (record { at = i; before = b; z = f; after = a }) (zs_of p i)
worked_out p i b f a x y z = rw (x, y, z)

pub none_carried : (p : Pace) → Carried p no_zs
none_carried p = record { most = le_refl _; own = λ h. absurd (omega arith) }

pub own_carried : (p : Pace) (i : ℕ) → i < step_range → Carried p (zs_of p i)
own_carried p i h = record { most = le_of_lt h; own = λ g. refl }
