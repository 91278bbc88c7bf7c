-- Whole calls, and what they answer: the order of the refusals. Assumes nothing.
use mathlib.Core.Path.{refl}
use mathlib.Core.List.{[], ◌∷◌}
use Prim.Native.Nat.{ℕ}
use Rattle.panel.specs.Refusals.{not_whole, no_room_word, bad_text, too_deep}
use Rattle.svg_path.specs.Chars.{is_space, is_digit, is_sign, is_move, is_pair, is_axis, is_quad, is_close}
use Rattle.svg_path.specs.Machine.{letter_of, begin_of, after_of, between_of, step_of, final_of, verdict_of}
use Rattle.svg_tokens.specs.Run.{run_of}
use Rattle.svg_tokens.specs.Tokens.{begins_of, signs_of, point_at, part_of, number_of, tokens_of}
use Rattle.curve.specs.Halves.{line_of}
use Rattle.svg_outline.specs.Outline.{placed, kind_of, relative_of}
use Rattle.svg_outline.specs.Tokens.{size_of, later_of, act_of, gait_of, count_of}
use Rattle.svg_outline.specs.Strokes.{held_of, turn_lines, turn_hand, lines_from}
use Rattle.svg.specs.Answer.{Refused}
use Rattle.svg.specs.Lines.{paired_of, drawn_of, lines_of, LinesMet}

-- each names what a call computes with: up to its check, its count, its lines
unfoldable pub checking : ℕ
unfolding lines_of paired_of verdict_of step_of between_of letter_of begin_of after_of final_of is_space is_digit is_sign is_move is_pair is_axis is_quad is_close
checking = 0

unfoldable pub counting : ℕ
unfolding checking drawn_of run_of begins_of signs_of point_at part_of number_of tokens_of kind_of size_of later_of act_of gait_of count_of
counting = 0

unfoldable pub drawing : ℕ
unfolding counting placed relative_of held_of turn_lines turn_hand lines_from line_of
drawing = 0

-- 'M', too deep, with unpaired slices: 22
deep_first : LinesMet (77 ∷ []) 7 0 (9 ∷ []) [] (Refused too_deep 0) (9 ∷ []) []
unfolding checking
deep_first = refl

-- not too deep: 1
paired_next : LinesMet (77 ∷ []) 6 0 (9 ∷ []) [] (Refused not_whole 0) (9 ∷ []) []
unfolding checking
paired_next = refl

-- paired, with no room at all: 21 before 9, at the text's end
text_next : LinesMet (77 ∷ []) 6 0 [] [] (Refused bad_text 1) [] []
unfolding checking
text_next = refl

-- 'M1 2Z' draws one line: 9
room_last : LinesMet (77 ∷ 49 ∷ 32 ∷ 50 ∷ 90 ∷ []) 6 0 [] [] (Refused no_room_word 0) [] []
unfolding counting
room_last = refl
