-- Exact at the call: the ways in which it ends. Each has its answer, its ground in the words of docs/RULES.md, and what is left in all that was lent. Definitions only.
use Rattle.std.specs.Prelude.{◌≡◌, List, ◌∷◌, ◌++◌, ℕ, ◌*◌, ◌≤◌, ◌<◌, length, replicate, Float}
use Rattle.std.proofs.lemmas.List.Edits.{sets}
use Rattle.panel.specs.Refusals.{not_whole, no_room_word, bad_text, too_deep}
use Rattle.panel.specs.Widths.{line_floats}
use Rattle.svg_path.specs.Grammar.{Cmd, PathData}
use Rattle.svg_outline.specs.Outline.{depth_most, outline_of}
use Rattle.svg.specs.Answer.{Answer}
use Rattle.svg.specs.Answer.{Done, Refused}

-- the language: the texts that the grammar has a reading of
abbrev pub Language : List ℕ → Type 0
Language s = (ks : List Cmd) × PathData s ks

-- where a text outside it is at fault: the first character that no continuation allows, or the text's end where that comes too soon
pub record FaultAt (s : List ℕ) (n : ℕ) : Type 0 where
  pub before : List ℕ
  pub rest : List ℕ
  pub text : s ≡ before ++ rest
  pub place : n ≡ length before
  -- what stands before it can be gone on with to a text of the language
  pub begun : (t : List ℕ) × Language (before ++ t)
  -- with the character there, it can't
  pub stuck : (c : ℕ) (m t : List ℕ) → rest ≡ c ∷ m → Language (before ++ c ∷ t) → ⊥
  pub none : Language s → ⊥

-- four coordinates to each path number
abbrev pub Paired : List ℕ → List Float → Type 0
Paired ps cs = length cs ≡ line_floats * length ps

pub data LinesWay (text : List ℕ) (d path : ℕ) (ps : List ℕ) (cs : List Float) (x : Answer) (ps' : List ℕ) (cs' : List Float) : Type 0 where
  -- 22: too deep. 1: the coordinates aren't four to each path number. Nothing changes, here and below
  too_deep_lem : x ≡ Refused too_deep 0 → depth_most < d → ps' ≡ ps → cs' ≡ cs → LinesWay text d path ps cs x ps' cs'
  unpaired : x ≡ Refused not_whole 0 → d ≤ depth_most → (Paired ps cs → ⊥) → ps' ≡ ps → cs' ≡ cs → LinesWay text d path ps cs x ps' cs'
  -- 21: a text outside the language, with its place
  at_fault : (n : ℕ) → x ≡ Refused bad_text n → d ≤ depth_most → Paired ps cs → FaultAt text n → ps' ≡ ps → cs' ≡ cs → LinesWay text d path ps cs x ps' cs'
  -- 9: the lines of its reading are more than there is room for
  no_place : (ks : List Cmd) → x ≡ Refused no_room_word 0 → d ≤ depth_most → Paired ps cs → PathData text ks → length cs < length (outline_of d ks) → ps' ≡ ps → cs' ≡ cs
      → LinesWay text d path ps cs x ps' cs'
  -- the n lines of its reading stand at the front, each with the path's number
  all_drawn : (ks : List Cmd) (n : ℕ) → x ≡ Done n → d ≤ depth_most → Paired ps cs → PathData text ks → length (outline_of d ks) ≡ line_floats * n
      → length (outline_of d ks) ≤ length cs → ps' ≡ sets ps 0 (replicate n path) → cs' ≡ sets cs 0 (outline_of d ks) → LinesWay text d path ps cs x ps' cs'
