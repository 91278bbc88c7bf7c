-- The range of a path that is counted again: kept and zeroed, and given back where a line is refused. docs/RULES.md, "A recount". Definitions only.
use Rattle.std.specs.Prelude.{List, [], ◌∷◌, ℕ, ◌*◌, ◌/◌, length, get_or, ℤ, pos, Float}
use Rattle.lists.specs.Run.{Ran, done, refused}
use Rattle.ranges.specs.Ranges.{cleared_of, copied_of}
use Rattle.panel.specs.Refusals.{done_no}
use Rattle.panel.specs.Widths.{ref_words}
use Rattle.panel.specs.Paths.{path_at, width_of, height_of}
use Rattle.panel.specs.declared.kinds.Path.{Path}
use Rattle.acts.specs.Acts.{St, st_of}
use Rattle.acts.specs.Line.{Refusal}
use Rattle.new_lines.specs.Own.{lines_ran, paper_of}
use Rattle.new_lines.specs.Recounted.{Recounted}

-- ---- the answer on paper

-- with all that was lent to be changed, as it is afterwards
pub record Out : Type 0 where
  pub paper : List ℕ
  pub backs : List ℤ
  pub counts : List ℕ
  pub refs : List ℕ
  pub kept_backs : List ℤ
  pub kept_counts : List ℕ

abbrev pub out_of : Recounted → List ℤ → List ℕ → List ℕ → List ℤ → List ℕ → Out
out_of r bs cs rs kb kc = record { paper = paper_of r; backs = bs; counts = cs; refs = rs; kept_backs = kb; kept_counts = kc }

-- ---- the range of a path, kept and zeroed

-- how many tiles a path has
abbrev pub tiles_in : Path → ℕ
tiles_in b = width_of b * height_of b

-- the tiles of path b are 0, and no reference is made
abbrev pub cleared_for : Path → List ℤ → List ℕ → List ℕ → St
cleared_for b bs cs rs = st_of (cleared_of (pos 0) b.first (tiles_in b) bs) (cleared_of 0 b.first (tiles_in b) cs) rs 0

-- what path b's tiles held, in a kept slice
abbrev pub kept_from : {A : Type 0} → A → Path → List A → List A → List A
kept_from d b xs kept = copied_of d xs b.first 0 (tiles_in b) kept

-- and back again
abbrev pub given_back : {A : Type 0} → A → Path → List A → List A → List A
given_back d b kept xs = copied_of d kept 0 b.first (tiles_in b) xs

-- after the lines: where one was refused, the whole range gets back what it held
abbrev pub ran_out : List ℕ → Path → List ℤ → List ℕ → Ran St Refusal → Out
ran_out line_nos b kb kc (done s) =
    record { paper = done_no ∷ s.made ∷ []; backs = s.backs; counts = s.counts; refs = s.refs; kept_backs = kb; kept_counts = kc }
ran_out line_nos b kb kc (refused s why) =
    record {
      paper = why.no ∷ get_or line_nos why.line 0 ∷ s.made ∷ [];
      backs = given_back (pos 0) b kb s.backs;
      counts = given_back 0 b kc s.counts;
      refs = s.refs;
      kept_backs = kb;
      kept_counts = kc;
    }

-- path p of those lent counted again, once all is checked
unfoldable pub redrawn_of : (p : ℕ) (line_nos nos : List ℕ) (coords : List Float) (paths : List ℕ) (bs : List ℤ) (cs rs : List ℕ) (kb : List ℤ) (kc : List ℕ) → Out
redrawn_of p line_nos nos coords paths bs cs rs kb kc =
    let b = path_at paths p in
    ran_out line_nos b (kept_from (pos 0) b bs kb) (kept_from 0 b cs kc) (lines_ran p line_nos nos coords paths (length rs / ref_words) (cleared_for b bs cs rs))
