-- A paint's words among those lent, one paint for each path. docs/RULES.md, "How the records are lent". Definitions only.
use Rattle.std.specs.Prelude.{List, [], ◌∷◌, ℕ, ◌+◌, ◌*◌, get_or}
use Rattle.std.proofs.lemmas.List.Edits.{sets}
use Rattle.panel.specs.Widths.{paint_words, place_colour, place_rule}
use Rattle.panel.specs.declared.paints.Paint.{Paint}

-- path p's colour, and its fill rule: even-odd where the lowest bit is set, as in a FILL
abbrev pub colour_at : List ℕ → ℕ → ℕ
colour_at paints p = get_or paints (p * paint_words + place_colour) 0

abbrev pub rule_at : List ℕ → ℕ → ℕ
rule_at paints p = get_or paints (p * paint_words + place_rule) 0

abbrev pub paint_of : ℕ → ℕ → Paint
paint_of c r = record { colour = c; rule = r }

abbrev pub paint_at : List ℕ → ℕ → Paint
paint_at paints p = paint_of (colour_at paints p) (rule_at paints p)

-- a paint's words, in the order of their places; and paint p into its place
abbrev pub paint_record : Paint → List ℕ
paint_record q = q.colour ∷ q.rule ∷ []

abbrev pub put_paint : ℕ → Paint → List ℕ → List ℕ
put_paint p q paints = sets paints (p * paint_words) (paint_record q)
