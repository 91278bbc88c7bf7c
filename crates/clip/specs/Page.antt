-- The clipping on one page, in the order of path_count.rs, lines 68 to 126. `by_parts` says that the stages of `Clip.antt` make the same.
use Rattle.std.specs.Prelude.{min, max, ◌≡◌, refl, cond, ltb}
use Rattle.std.specs.Bool.{beq}
use Rattle.std.specs.Float.{binary32}
use Rattle.std.specs.Float.Ieee.{add, sub, mul, div, lt, eq, to_unsigned}
use Rattle.float32.specs.Meaning.{ceil_of, floor_of, round_of, min_of, max_of}
use Rattle.util.specs.Constants.{zero, one}
use Rattle.panel.specs.declared.kinds.Path.{Path}
use Rattle.walk.specs.Num.{float, row_of}
use Rattle.walk.specs.Step.{z_at}
use Rattle.walk.specs.declared.kinds.Walk.{Walk}
use Rattle.clip.specs.Clip.{row_step_by, col_step_of, first_step_of, last_step_of, rows_of, left_of, enter_of, leave_of, by_left_of, by_right_of, cols_of, clip_of}
use Rattle.clip.specs.declared.Clip.{Clip}

unfoldable pub clipped_of : Walk → Path → Clip
clipped_of w box =
    let a = w.pace.a in
    let b = w.pace.b in
    let y0 = w.pace.y0 in
    let x0 = w.pace.x0 in
    let sign = w.pace.sign in
    let is_pos = w.is_positive_slope in
    let s0x = w.e.s0.x in
    let s0y = w.e.s0.y in
    let s1x = w.e.s1.x in
    let s1y = w.e.s1.y in
    let left = float box.x0 in
    let top = float box.y0 in
    let right = float box.x1 in
    let bottom = float box.y1 in
    let xmin = min_of s0x s1x in
    let xmax = max_of s0x s1x in
    let iminf = sub binary32 (round_of (div binary32 (sub binary32 (add binary32 (sub binary32 top y0) b) a) (sub binary32 one a))) one in
    let iminf' =
    cond (lt (sub binary32 (add binary32 y0 iminf) (floor_of (add binary32 (mul binary32 a iminf) b))) top) (add binary32 iminf one) iminf in
    let imin = cond (lt s0y top) (to_unsigned 32 iminf') 0 in
    let imaxf = sub binary32 (round_of (div binary32 (sub binary32 (add binary32 (sub binary32 bottom y0) b) a) (sub binary32 one a))) one in
    let imaxf' =
    cond (lt (sub binary32 (add binary32 y0 imaxf) (floor_of (add binary32 (mul binary32 a imaxf) b))) bottom) (add binary32 imaxf one)
    imaxf in
    let imax = cond (lt bottom s1y) (to_unsigned 32 imaxf') w.k.count in
    let c : Clip = record { imin = imin; imax = imax; ymin = 0; ymax = 0 } in
    let fudge = cond is_pos zero one in
    let fl = round_of (div binary32 (add binary32 (sub binary32 (mul binary32 sign (sub binary32 left x0)) b) fudge) a) in
    let fl' =
    cond (beq (lt (add binary32 x0 (mul binary32 sign (floor_of (add binary32 (mul binary32 a fl) b)))) left) is_pos)
    (add binary32 fl one)
    fl in
    let ynext = row_of (add binary32 (sub binary32 (add binary32 y0 fl') (floor_of (add binary32 (mul binary32 a fl') b))) one) in
    let rising : Clip =
    record { imin = to_unsigned 32 fl'; imax = imax; ymin = row_of (add binary32 y0 (cond (eq y0 s0y) zero one)); ymax = ynext } in
    let falling : Clip = record { imin = imin; imax = to_unsigned 32 fl'; ymin = ynext; ymax = row_of (ceil_of s1y) } in
    let d : Clip =
    cond (lt xmin left) (cond is_pos (cond (ltb imin (to_unsigned 32 fl')) rising c) (cond (ltb (to_unsigned 32 fl') imax) falling c)) c in
    let fr = round_of (div binary32 (add binary32 (sub binary32 (mul binary32 sign (sub binary32 right x0)) b) fudge) a) in
    let fr' =
    cond (beq (lt (add binary32 x0 (mul binary32 sign (floor_of (add binary32 (mul binary32 a fr) b)))) right) is_pos)
    (add binary32 fr one)
    fr in
    let g : Clip =
    cond (lt right xmax)
    (cond is_pos
    (record { imin = d.imin; imax = min d.imax (to_unsigned 32 fr'); ymin = d.ymin; ymax = d.ymax })
    (record { imin = max d.imin (to_unsigned 32 fr'); imax = d.imax; ymin = d.ymin; ymax = d.ymax }))
    d in
    let h : Clip = cond (lt xmax left) (record { imin = imin; imax = imin; ymin = row_of (ceil_of s0y); ymax = row_of (ceil_of s1y) }) g in
    record { imin = h.imin; imax = max h.imin h.imax; ymin = max h.ymin box.y0; ymax = min h.ymax box.y1 }

pub by_parts : (w : Walk) (b : Path) → clip_of w b ≡ clipped_of w b
unfolding z_at row_step_by col_step_of first_step_of last_step_of rows_of left_of enter_of leave_of by_left_of by_right_of cols_of clip_of clipped_of
by_parts w b = refl
