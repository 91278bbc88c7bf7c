-- A call, by what it checks first. Assumes nothing.
--     not_whole_lem, bad_paths   a check that fails: nothing is written
--     ready, called          all checks pass: what is known then, and the range is tiled
use Prim.Native.Nat.{ℕ, ◌-◌, ◌/◌, ◌%◌}
use native.Mathlib.Omega.{arith}
use mathlib.Core.Path.{◌≡◌}
use mathlib.Core.Bool.{Bool, true, false, ◌&&◌}
use lib.Dec.{leb, eqb}
use lib.ListN.{length}
use borrow.Author.Tests.{leb-true, eqb-true}
use Rattle.panel.specs.Refusals.{not_whole}
use Rattle.panel.specs.Widths.{path_words, line_floats, ref_words, segment_floats}
use Rattle.panel.specs.Paths.{paths_answer}
use Rattle.panel.specs.Pieces.{Pieces}
use Rattle.panel.specs.Answer.{Done, Refused}
use Rattle.panel.proofs.BoolLaws.{both}
use Rattle.looks.specs.Look.{Lent}
use Rattle.path_tiling.specs.Tiling.{tiled, range_tiled, range_of, slots_of, whole_of, checks_of, call_of, tiled_of, Ready}

-- the lengths lent are whole records, and the range is one
abbrev pub Whole : ℕ → ℕ → Lent → Pieces → Bool
Whole from to L p =
    whole_of from to (length L.path_nos) (length L.coords) (length L.paths) (length L.refs) (length p.segments) (length p.tags)

-- of eight tests that all hold, the four that tell of the lines, of the tags and of the range
eight : (a b c d e f g h : Bool) → a && b && c && d && e && f && g && h ≡ true → (b ≡ true) × (f ≡ true) × (g ≡ true) × (h ≡ true)
eight a b c d e f g h q =
    let i = both (a && b && c && d && e && f && g) h q in
    let j = both (a && b && c && d && e && f) g i.0 in
    let k = both (a && b && c && d && e) f j.0 in
    let l = both (a && b && c && d) e k.0 in
    let m = both (a && b && c) d l.0 in
    let n = both (a && b) c m.0 in
    ((both a b n.0).1, k.1, j.1, i.1)

module _ (from to : ℕ) (L : Lent) (p : Pieces) where
  pub not_whole_lem : Whole from to L p ≡ false → tiled (Refused not_whole 0) p ≡ tiled_of from to L p
  unfolding checks_of call_of
  not_whole_lem e = rw e

  pub bad_paths : (why item : ℕ) → Whole from to L p ≡ true → paths_answer L.paths (length L.stored) ≡ Refused why item
      → tiled (Refused why item) p ≡ tiled_of from to L p
  unfolding checks_of call_of
  bad_paths why item e q = rw (e, q)

  pub called : Whole from to L p ≡ true → paths_answer L.paths (length L.stored) ≡ Done
      → range_tiled (range_of L (slots_of (length p.segments)) (to - from) from) p ≡ tiled_of from to L p
  unfolding checks_of call_of
  called e q = rw (e, q)

  pub ready : Whole from to L p ≡ true → paths_answer L.paths (length L.stored) ≡ Done → Ready from to L p
  unfolding whole_of
  ready e q =
      let t =
      eight (eqb (length L.coords % line_floats) 0) (eqb (length L.path_nos) (length L.coords / line_floats))
      (eqb (length L.paths % path_words) 0)
      (eqb (length L.refs % ref_words) 0)
      (eqb (length p.segments % segment_floats) 0)
      (eqb (length p.tags) (length p.segments / segment_floats))
      (leb from to)
      (leb to (length L.refs / ref_words))
      e in
      let paired : length L.path_nos ≡ length L.coords / line_floats = eqb-true _ _ t.0 in
      record {
        forward = leb-true from to t.2;
        there = leb-true to (length L.refs / ref_words) t.3;
        lines = omega arith;
        tagged = eqb-true _ _ t.1;
        paths = q;
      }
