-- `write_lists::check_lent` meets its contract: a product of two words fits 64 bits. Assumes nothing.
use native.Mathlib.Omega.{arith}
use borrow.Author.Rules.{rules}
use Rattle.panel.proofs.PathLaws.{wide}
use Rattle.write_lists.proofs.check_lent.Goals as goal

pub overflow_mul-cols : goal.overflow_mul-cols
overflow_mul-cols c = record { fits = omega (arith, wide c.args.cols c.args.rows (search rules) (search rules)) }
