-- `float32::max` meets its contract. Each arm returns what the definition's choice picks where the tests are as the arm found them. Assumes nothing.
use mathlib.Core.Path.{sym, ◌∙◌}
use lib.Dec.{T}
use lib.Ieee.{binary32, fits, to_bits}
use borrow.Author.Tests.{lt-leb, le-leb}
use Rattle.float32.proofs.Tests.{yes, nan_test}
use Rattle.float32.proofs.Fields.{sign_bit}
use Rattle.float32.proofs.MinMax.{eq_left, max_of_nan, max_apart, max_plus, max_minus}
use Rattle.float32.proofs.max.Goals as goal
use Rattle.float32.proofs.max.Goals.{Start}

held_a : (c : Start) → T (fits binary32 c.args.a)
held_a c = yes c.well_formed.0.1

held_b : (c : Start) → T (fits binary32 c.args.b)
held_b c = yes c.well_formed.1.0.1

-- of two that are equal: by the sign's bit of a
pub float_to_bits-a : goal.float_to_bits-a
float_to_bits-a c = let s = c.args in eq_left s.a s.b c.if-a-b.true

pub returns-then-a-lt2147483648 : goal.returns-then-a-lt2147483648
returns-then-a-lt2147483648 c =
    let e = c.if-a-b.true in
    sym (max_plus c.args.a c.args.b e (sign_bit c.args.a (held_a (goal.at.returns-then-a-lt2147483648 c).Start) (eq_left c.args.a c.args.b e) ∙ lt-leb 2147483648 (to_bits binary32 c.args.a) c.if-a-lt2147483648.true))

pub returns-else-a-lt2147483648 : goal.returns-else-a-lt2147483648
returns-else-a-lt2147483648 c =
    let e = c.if-a-b.true in
    sym
    (max_minus c.args.a c.args.b (held_a (goal.at.returns-else-a-lt2147483648 c).Start) (held_b (goal.at.returns-else-a-lt2147483648 c).Start) e
    (sign_bit c.args.a (held_a (goal.at.returns-else-a-lt2147483648 c).Start) (eq_left c.args.a c.args.b e) ∙ le-leb 2147483648 (to_bits binary32 c.args.a) c.if-a-lt2147483648.false))

pub returns-then-a : goal.returns-then-a
returns-then-a c = let s = c.args in sym (max_of_nan s.a s.b (sym (nan_test s.a) ∙ c.if-a.true))

pub returns-else-a : goal.returns-else-a
returns-else-a c =
    let s = c.args in
    c.pick.ensures ∙ sym (max_apart s.a s.b c.if-a.false c.if-a-b.false)
