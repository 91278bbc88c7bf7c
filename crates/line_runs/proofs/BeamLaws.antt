-- Past a list's end the definitions read 0: a line that isn't there has path 0, and a path that isn't there beam number 0. Assumes nothing.
use mathlib.Core.Path.{◌≡◌, sym}
use mathlib.Core.List.{List}
use Prim.Native.Nat.{ℕ, ◌+◌, ◌*◌, ◌≤◌}
use native.Mathlib.Omega.{arith}
use lib.ListN.{length, get_or, get_or-eq_default}
use Rattle.panel.specs.Widths.{path_words, place_beam}
use Rattle.panel.specs.Paths.{beam_at, path_count}

pub no_line : (ns : List ℕ) (l : ℕ) → length ns ≤ l → 0 ≡ get_or ns l 0
no_line ns l h = sym (get_or-eq_default ns 0 h)

pub no_path : (ws : List ℕ) (p : ℕ) → path_count ws ≤ p → 0 ≡ beam_at ws p
no_path ws p h =
    let past : length ws ≤ p * path_words + place_beam = omega arith in
    sym (get_or-eq_default ws 0 past)
