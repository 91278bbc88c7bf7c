-- What a call answers, and what the path numbers and coordinates lent hold after it. Definitions only.
use Rattle.std.specs.Prelude.{◌≡◌, Bool, cond, ◌&&◌, List, [], ◌∷◌, ℕ, ◌/◌, ◌%◌, eqb, leb, length, replicate, Float}
use Rattle.std.proofs.lemmas.List.Edits.{sets}
use Rattle.panel.specs.Refusals.{done_no, not_whole, no_room_word, bad_text, too_deep}
use Rattle.panel.specs.Widths.{line_floats}
use Rattle.svg_path.specs.declared.State.TheVariants.{Start}
use Rattle.svg_path.specs.Verdict.{Verdict}
use Rattle.svg_path.specs.Verdict.{Fine, Refused as Against}
use Rattle.svg_path.specs.Machine.{verdict_of}
use Rattle.svg_outline.specs.Outline.{depth_most}
use Rattle.svg_outline.specs.Strokes.{text_lines}
use Rattle.svg_outline.specs.Counts.{text_count}
use Rattle.svg.specs.Answer.{Answer}
use Rattle.svg.specs.Answer.{Done, Refused}

-- an answer's number, and after it how many lines were written; a refusal wrote none, and has the text's place last
abbrev pub paper_of : Answer → List ℕ
paper_of (Done n) = done_no ∷ n ∷ []
paper_of (Refused n at) = n ∷ 0 ∷ at ∷ []

-- an answer on paper, and what was lent
pub record Left : Type 0 where
  pub answer : List ℕ
  pub paths : List ℕ
  pub coords : List Float

abbrev pub refused : ℕ → ℕ → List ℕ → List Float → Left
refused n at ps cs = record { answer = n ∷ 0 ∷ at ∷ []; paths = ps; coords = cs }

-- four coordinates to each path number
unfoldable pub paired_of : ℕ → ℕ → Bool
paired_of n f = eqb (f % line_floats) 0 && eqb (f / line_floats) n

-- the lines stand at the front, each with the path's number; what is past them stays
abbrev pub wrote : List ℕ → ℕ → ℕ → List ℕ → List Float → Left
wrote text d path ps cs =
    record {
      answer = done_no ∷ text_count d text ∷ [];
      paths = sets ps 0 (replicate (text_count d text) path);
      coords = sets cs 0 (text_lines d text);
    }

unfoldable pub drawn_of : List ℕ → ℕ → ℕ → List ℕ → List Float → Left
drawn_of text d path ps cs = cond (leb (text_count d text) (length ps)) (wrote text d path ps cs) (refused no_room_word 0 ps cs)

-- by the language
abbrev pub on_verdict : Verdict → List ℕ → ℕ → ℕ → List ℕ → List Float → Left
on_verdict Fine text d path ps cs = drawn_of text d path ps cs
on_verdict (Against at) text d path ps cs = refused bad_text at ps cs

-- 22, then 1, then 21 with its place, then 9
unfoldable pub lines_of : List ℕ → ℕ → ℕ → List ℕ → List Float → Left
lines_of text d path ps cs =
    cond (leb d depth_most)
    (cond (paired_of (length ps) (length cs)) (on_verdict (verdict_of Start 0 text) text d path ps cs) (refused not_whole 0 ps cs))
    (refused too_deep 0 ps cs)

-- the call's promise: the answer r, and all that was lent as it is afterwards, are these
abbrev pub LinesMet : List ℕ → ℕ → ℕ → List ℕ → List Float → Answer → (ps' : List ℕ) (cs' : List Float) → Type 0
LinesMet text d path ps cs r ps' cs' = record { answer = paper_of r; paths = ps'; coords = cs' } ≡ lines_of text d path ps cs
