-- What the checks of the call leave, and its answers. Assumes nothing.
use mathlib.Core.Path.{◌≡◌, sym, ◌∙◌}
use mathlib.Core.List.{List}
use Prim.Native.Nat.{ℕ, ◌*◌, ◌/◌, ◌≤◌}
use native.Mathlib.Omega.{arith}
use lib.ListN.{length}
use lib.Ieee.{Float}
use borrow.Author.Tests.{leb-true, eqb-true}
use Rattle.panel.specs.Limits.{most_tiles}
use Rattle.panel.specs.Widths.{line_floats}
use Rattle.panel.specs.Checks.{first_no}
use Rattle.panel.specs.Paths.{paths_answer}
use Rattle.panel.specs.Answer.{Answer}
use Rattle.panel.proofs.CheckLaws.{all_ok, unless_done}
use Rattle.sizes.specs.Refs.{refs_of}
use Rattle.sizes.specs.Words.{tiles_of, words_of}
use Rattle.sizes.specs.Sizes.{lent_checks, call_answer, measured, sizes_of}
use Rattle.sizes.specs.RefsMade.{Refs}
use Rattle.sizes.specs.Measured.{Measured, Refused}

pub record Passed (nn nc : ℕ) (paths : List ℕ) (cols rows : ℕ) : Type 0 where
  pub whole : nn * line_floats ≤ nc
  pub screen : cols * rows ≤ most_tiles
  pub paths_pass : paths_answer paths most_tiles ≡ Answer.Done

pub passed : (nn nc : ℕ) (paths : List ℕ) (cols rows : ℕ) → call_answer nn nc paths cols rows ≡ Answer.Done → Passed nn nc paths cols rows
unfolding call_answer
passed nn nc paths cols rows e =
    let u = unless_done (first_no (lent_checks nn nc (length paths) cols rows)) 0 (paths_answer paths most_tiles) e in
    let k = all_ok (lent_checks nn nc (length paths) cols rows) u.0 in
    let n : nn ≡ nc / line_floats = eqb-true nn (nc / line_floats) k.1.0 in
    record { whole = omega arith; screen = leb-true (cols * rows) most_tiles k.1.1.1.0; paths_pass = u.1 }

module _ (nos : List ℕ) (coords : List Float) (paths : List ℕ) (cols rows : ℕ) (a : Answer) (e : a ≡ call_answer (length nos) (length coords) paths cols rows) where
  pub sizes_refused : (n item : ℕ) → a ≡ Answer.Refused n item → Refused n item ≡ sizes_of nos coords paths cols rows
  unfolding sizes_of
  sizes_refused n item h = rw (sym e ∙ h)

  pub sizes_measured : a ≡ Answer.Done → (r : Refs) (tiles words : ℕ) → r ≡ refs_of nos coords paths → tiles ≡ tiles_of paths → words ≡ words_of paths cols rows
      → (m : Measured) → m ≡ measured r tiles words → m ≡ sizes_of nos coords paths cols rows
  unfolding sizes_of
  sizes_measured h r tiles words f g k m q = rw (sym e ∙ h, ← f, ← g, ← k) q
