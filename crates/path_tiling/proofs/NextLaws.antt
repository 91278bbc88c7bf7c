-- What is taken of a range at once, of what the code has at hand. Assumes nothing.
--     took_next    the first reference, where its line lies within one tile
--     ran_next     else those that name its line, on segments and tags where nothing was written yet
use Prim.Native.Nat.{ℕ, ◌+◌, ◌<◌}
use mathlib.Core.Path.{◌≡◌}
use mathlib.Core.Bool.{Bool, true, false}
use Rattle.panel.specs.Pieces.{Pieces}
use Rattle.panel.specs.Answer.{Done}
use Rattle.looks.specs.Look.{Lent, line_at, packed_at}
use Rattle.line_runs.specs.Runs.{Run, run, line_run}
use Rattle.path_tiling.specs.Runs.{NextMet}
use Rattle.short_lines.specs.Short.{TookMet}
use Rattle.looks.proofs.FoundLaws.{look_is}
use Rattle.short_lines.proofs.ShortLaws.{took_yes, took_no}
use Rattle.path_tiling.proofs.RunLaws.{next_one, next_run}

module _ (to : ℕ) (L : Lent) (slots : ℕ) (p : Pieces) (k line packed : ℕ) (v : Bool) (p' : Pieces) (h : k < to) (e : line ≡ line_at L.refs k)
    (t : TookMet L.path_nos L.coords L.paths L.stored slots line packed p v p') where
  pub took_next : packed ≡ packed_at L.refs k → v ≡ true → NextMet k to L slots p (run Done (k + 1) p')
  took_next f y =
      let here = took_yes L.path_nos L.coords L.paths L.stored slots line packed p v p' y t in
      next_one to L slots p k p' h (rw (look_is L slots k) (rw (e, f) at here))

  pub ran_next : v ≡ false → (r : Run) → r ≡ line_run L slots line to k p' → NextMet k to L slots p r
  ran_next n r g =
      let same = took_no L.path_nos L.coords L.paths L.stored slots line packed p v p' n t in
      next_run to L slots p k r h (rw (e, same) at g)
