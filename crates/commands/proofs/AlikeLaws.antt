-- Pixels that are alike at first, and where no command is left. Assumes nothing.
use mathlib.Core.Path.{◌≡◌, refl, sym, ap}
use mathlib.Core.Bool.{true}
use mathlib.Core.List.{List, []}
use Prim.Native.Nat.{ℕ}
use native.Mathlib.Omega.{arith}
use borrow.Author.Tests.{eqb-true}
use lib.Ieee.{Float}
use Rattle.util.specs.Constants.{zero}
use Rattle.panel.specs.Limits.{most_commands}
use Rattle.panel.specs.Verdict.{Verdict}
use Rattle.panel.specs.Verdict.{Fine}
use Rattle.reader.specs.Look.{look_at}
use Rattle.reader.specs.Looked.{Look}
use Rattle.reader.specs.Looked.{Word, Past}
use Rattle.commands.specs.Moves.{ends, trace_of}
use Rattle.commands.specs.Pixel.{point_of, ran, run_of}
use Rattle.commands.specs.Alike.{run_from, is_end, ends_here}
use Rattle.commands.proofs.Acts.{unchanged}
use Rattle.commands.proofs.Traced.{trace_end}

-- from no area on
pub run_is : (ws : List ℕ) (segs : List Float) (start : ℕ) (rgba : List (List Float)) → run_from segs (trace_of most_commands ws segs start) zero rgba ≡ run_of ws segs start rgba
unfolding run_from run_of
run_is ws segs start rgba = refl

module _ (segs : List Float) where
  pub run_ends : (v : Verdict) (a : Float) (rgba : List (List Float)) → run_from segs (ends v) a rgba ≡ ran v rgba
  unfolding run_from point_of
  run_ends v a rgba = ap (ran v) (sym (unchanged [] rgba))

-- where END stands
pub end_here : (ws : List ℕ) (segs : List Float) (at n : ℕ) → ends_here ws at ≡ true → trace_of n ws segs at ≡ ends Fine
end_here ws segs at n h = go (look_at ws at) refl h
  where
    go : (l : Look) → look_at ws at ≡ l → is_end l ≡ true → trace_of n ws segs at ≡ ends Fine
    go (Word w) e f = trace_end ws segs at w e n (eqb-true w _ f)
    go Past e f = let z : ◌≡◌ {A = ℕ} 0 1 = cc in absurd (omega arith)
