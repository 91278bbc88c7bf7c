-- The starred table holds, by computation. Assumes nothing.
use mathlib.Core.Path.{refl}
use Prim.Native.Nat.{ℕ}
use lib.Ieee.{add, sub, mul, div, neg, le, lt, eq, ne, of_int, of_bits, to_signed, to_unsigned, is_nan, round}
use Rattle.float32.specs.Meaning.{floor_of, ceil_of, round_of, abs_of, min_of, max_of, clamp_of, signed, sign_of}
use Rattle.util.specs.Span.{span_of}
use Rattle.lists.specs.Grid.{map_from}
use Rattle.panel.specs.Limits.{edge_most, most_steps, coord_most}
use Rattle.panel.specs.Widths.{step_range}
use Rattle.panel.specs.Paths.{path_at, paths_from, paths_answer}
use Rattle.walk.specs.Num.{cut_of, inside_of, row_of}
use Rattle.walk.specs.Setup.{ends_of}
use Rattle.walk.specs.Page.{line_of}
use Rattle.walk.specs.Skip.{flat_of, past_of}
use Rattle.walk.specs.Step.{z_at, tile_in, step_of}
use Rattle.walk.specs.Lent.{line_at, walked_of, walk_at}
use Rattle.clip.specs.Page.{clipped_of}
use Rattle.acts.specs.Acts.{row_acts, steps_acts, run_acts}
use Rattle.acts.specs.Line.{plan_step, batch_of}
use Rattle.hits.specs.Steps.{hit_at}
use Rattle.walked_lines.specs.Line.{plan_of, line_step}
use Rattle.path_count.specs.Count.{call_answer, counted}
use Rattle.hand_out.specs.HandOut.{hand_out_of}
use Rattle.segment.specs.Clips.{corner_of, far_of, at_row_of, at_col_of, clip_of, make_of, edge_of, off_of, turn_of, first_of, last_of, segment_of, piece_of}
use Rattle.panel.specs.Segments.{held_of}
use Rattle.looks.specs.Look.{found_of, piece_to, word_to, step_to, found_to, look_of}
use Rattle.path_tiling.specs.Tiling.{range_of, whole_of, checks_of, call_of}
use Rattle.coverage.specs.Coverage.{area_after, finish_of, sum_of, pixel_of}
use Rattle.colours.specs.Colour.{channel_of, colour_of, over_of, byte_of, pack_of}
use Rattle.commands.specs.Moves.{op_of, move_of, whole_move, trace_of}
use Rattle.commands.specs.Pixel.{cover, paint, point_of}
use Rattle.screen_rows.specs.Rows.{put_tile}
use Rattle.screen_tile.specs.Tile.{tile_trace, colour_at, tile_pixels}
use Rattle.fine.specs.Fine.{tile_step, tiles_of, fine_of}
use Rattle.theorems.specs.Starred.{table, Holding}

-- names all that a row computes with
unfoldable pub computing : ℕ
unfolding add sub mul div neg le lt eq ne of_int of_bits to_signed to_unsigned is_nan round floor_of ceil_of round_of abs_of min_of max_of clamp_of signed sign_of span_of
    edge_most most_steps coord_most step_range path_at paths_from paths_answer cut_of inside_of row_of ends_of line_of flat_of past_of z_at tile_in step_of line_at walked_of
    walk_at clipped_of row_acts steps_acts run_acts plan_step batch_of hit_at plan_of line_step call_answer counted hand_out_of corner_of far_of at_row_of at_col_of clip_of make_of
    edge_of off_of turn_of held_of first_of last_of segment_of piece_of found_of piece_to word_to step_to found_to look_of range_of whole_of checks_of call_of area_after finish_of
    sum_of pixel_of channel_of colour_of over_of byte_of pack_of op_of move_of whole_move trace_of cover paint point_of put_tile tile_trace colour_at tile_pixels tile_step
    tiles_of fine_of map_from
computing = 0

pub starred : Holding table
unfolding computing
starred =
    (refl, (refl, (refl, (refl, (refl, (refl, (refl, (refl, (refl, (refl, ((λ k. refl), ((λ k. refl), ((λ k. refl), ((λ k. refl), (refl, (refl, (refl, tt)))))))))))))))))
