-- The paths lent: how one reads, its tiles, and what is checked of all of them, path by path. docs/RULES.md, "How the records are lent" and
-- refusals 1 to 4. Definitions only.
use Rattle.std.specs.Prelude.{Bool, ◌&&◌, List, [], ◌∷◌, ℕ, zero, suc, ◌+◌, ◌-◌, ◌*◌, ◌/◌, ◌%◌, leb, eqb, length, get_or}
use Rattle.std.proofs.lemmas.List.Edits.{sets}
use Rattle.panel.specs.Limits.{most_paths, most_tiles, edge_most}
use Rattle.panel.specs.Refusals.{not_whole, too_many, bad_box, bad_range}
use Rattle.panel.specs.Widths.{path_words, place_x0, place_y0, place_x1, place_y1, place_first, place_beam}
use Rattle.panel.specs.Checks.{Check, check, first_no, unless}
use Rattle.panel.specs.declared.kinds.Path.{Path}
use Rattle.panel.specs.Answer.{Answer}
use Rattle.panel.specs.Answer.{Done}

-- path p's record
unfoldable pub path_at : List ℕ → ℕ → Path
path_at ws p =
    record {
      x0 = get_or ws (p * path_words + place_x0) 0;
      y0 = get_or ws (p * path_words + place_y0) 0;
      x1 = get_or ws (p * path_words + place_x1) 0;
      y1 = get_or ws (p * path_words + place_y1) 0;
      first = get_or ws (p * path_words + place_first) 0;
    }

-- its beam number: any word, and two paths may carry one
abbrev pub beam_at : List ℕ → ℕ → ℕ
beam_at ws p = get_or ws (p * path_words + place_beam) 0

-- a path's words, in the order of their places
abbrev pub path_record : Path → ℕ → List ℕ
path_record p beam = p.x0 ∷ p.y0 ∷ p.x1 ∷ p.y1 ∷ p.first ∷ beam ∷ []

-- path p into its place, with its beam number
abbrev pub put_path : ℕ → Path → ℕ → List ℕ → List ℕ
put_path k p beam ws = sets ws (k * path_words) (path_record p beam)

-- a path by its numbers, and the words of one that is lent: with a beam number, and with none stamped
abbrev pub path_of : (x0 y0 x1 y1 first : ℕ) → Path
path_of x0 y0 x1 y1 first = record { x0 = x0; y0 = y0; x1 = x1; y1 = y1; first = first }

abbrev pub stamped : (x0 y0 x1 y1 first beam : ℕ) → List ℕ
stamped x0 y0 x1 y1 first beam = path_record (path_of x0 y0 x1 y1 first) beam

abbrev pub boxed : (x0 y0 x1 y1 first : ℕ) → List ℕ
boxed x0 y0 x1 y1 first = stamped x0 y0 x1 y1 first 0

-- how many paths are lent
abbrev pub path_count : List ℕ → ℕ
path_count ws = length ws / path_words

-- the right and bottom edges are outside
abbrev pub width_of : Path → ℕ
width_of p = p.x1 - p.x0

abbrev pub height_of : Path → ℕ
height_of p = p.y1 - p.y0

-- the first number past a path's tiles
abbrev pub end_of : Path → ℕ
end_of p = p.first + width_of p * height_of p

-- the number of the tile in column x and row y of a path's box
abbrev pub tile_of : Path → ℕ → ℕ → ℕ
tile_of p x y = p.first + (y - p.y0) * width_of p + (x - p.x0)

abbrev pub box_fits : Path → Bool
box_fits p =
    leb p.x0 edge_most && leb p.y0 edge_most && leb p.x1 edge_most && leb p.y1 edge_most && leb p.x0 p.x1 && leb p.y0 p.y1

-- one path, where the path before it ends at `end`
abbrev pub path_checks : Path → ℕ → ℕ → List Check
path_checks p end tiles =
    check (box_fits p) bad_box
    ∷ check (leb end p.first) bad_range
    ∷ check (leb (end_of p) tiles) bad_range
    ∷ []

-- n paths from path k on, where the path before ends at `end`
unfoldable pub paths_from : List ℕ → ℕ → ℕ → ℕ → ℕ → Answer
paths_from ws tiles zero k end = Done
paths_from ws tiles (suc n) k end =
    unless (first_no (path_checks (path_at ws k) end tiles)) k (paths_from ws tiles n (suc k) (end_of (path_at ws k)))

-- so many words of paths as a whole, and the number of tiles they stand in
abbrev pub lent_checks : ℕ → ℕ → List Check
lent_checks words tiles =
    check (eqb (words % path_words) 0) not_whole
    ∷ check (leb (words / path_words) most_paths) too_many
    ∷ check (leb tiles most_tiles) too_many
    ∷ []

-- all that is checked of the paths lent with so many tiles; no path stands before path 0
unfoldable pub paths_answer : List ℕ → ℕ → Answer
paths_answer ws tiles = unless (first_no (lent_checks (length ws) tiles)) 0 (paths_from ws tiles (path_count ws) 0 0)
