-- The clipping of the walk to a box in step numbers, a stage each, for the functions' own contracts. Only proofs lean on this: what is promised
-- is `Page.antt`, in one piece and beside the Rust, and `by_parts` there says that the stages make the same. Definitions only.
use Rattle.std.specs.Prelude.{ℕ, min, max, cond, ltb, Float}
use Rattle.std.specs.Bool.{beq}
use Rattle.std.specs.Float.{binary32}
use Rattle.std.specs.Float.Ieee.{add, sub, mul, div, lt, eq, to_unsigned}
use Rattle.float32.specs.Meaning.{ceil_of, round_of, min_of, max_of}
use Rattle.util.specs.Constants.{zero, one}
use Rattle.panel.specs.declared.kinds.Path.{Path}
use Rattle.walk.specs.Num.{float, row_of}
use Rattle.walk.specs.Step.{z_at}
use Rattle.walk.specs.declared.kinds.Walk.{Walk}
use Rattle.clip.specs.declared.Clip.{Clip}

-- the step at which the walk comes to the row `edge`: iminf and imaxf
unfoldable pub row_step_by : (a b y0 edge : Float) → ℕ
row_step_by a b y0 edge =
    let f = sub binary32 (round_of (div binary32 (sub binary32 (add binary32 (sub binary32 edge y0) b) a) (sub binary32 one a))) one in
    to_unsigned 32 (cond (lt (sub binary32 (add binary32 y0 f) (z_at a b f)) edge) (add binary32 f one) f)

abbrev pub row_step_of : Walk → Float → ℕ
row_step_of w edge = row_step_by w.pace.a w.pace.b w.pace.y0 edge

-- the step at which it comes to the column `edge`: f
unfoldable pub col_step_of : Walk → Float → Float
col_step_of w edge =
    let a = w.pace.a in
    let b = w.pace.b in
    let x0 = w.pace.x0 in
    let sign = w.pace.sign in
    let is_pos = w.is_positive_slope in
    let fudge = cond is_pos zero one in
    let f = round_of (div binary32 (add binary32 (sub binary32 (mul binary32 sign (sub binary32 edge x0)) b) fudge) a) in
    cond (beq (lt (add binary32 x0 (mul binary32 sign (z_at a b f))) edge) is_pos) (add binary32 f one) f

-- imin and imax by the box's top and bottom
unfoldable pub first_step_of : Walk → Float → ℕ
first_step_of w top = cond (lt w.e.s0.y top) (row_step_of w top) 0

unfoldable pub last_step_of : Walk → Float → ℕ
last_step_of w bottom = cond (lt bottom w.e.s1.y) (row_step_of w bottom) w.k.count

unfoldable pub rows_of : Walk → Path → Clip
rows_of w b = record { imin = first_step_of w (float b.y0); imax = last_step_of w (float b.y1); ymin = 0; ymax = 0 }

-- all of the line lies left of the box
unfoldable pub left_of : Walk → Clip → Clip
left_of w c =
    record { imin = c.imin; imax = c.imin; ymin = row_of (ceil_of w.e.s0.y); ymax = row_of (ceil_of w.e.s1.y) }

-- part of it does: a rising x comes in at step f, a falling one goes out there
unfoldable pub enter_of : Walk → Float → Clip → Clip
enter_of w f c =
    let y0 = w.pace.y0 in
    let ynext = row_of (add binary32 (sub binary32 (add binary32 y0 f) (z_at w.pace.a w.pace.b f)) one) in
    let i = to_unsigned 32 f in
    cond w.is_positive_slope
    (cond (ltb c.imin i)
    (record { imin = i; imax = c.imax; ymin = row_of (add binary32 y0 (cond (eq y0 w.e.s0.y) zero one)); ymax = ynext })
    c)
    (cond (ltb i c.imax) (record { imin = c.imin; imax = i; ymin = ynext; ymax = row_of (ceil_of w.e.s1.y) }) c)

-- part of it lies right of the box
unfoldable pub leave_of : Walk → Float → Clip → Clip
leave_of w f c =
    let i = to_unsigned 32 f in
    cond w.is_positive_slope
    (record { imin = c.imin; imax = min c.imax i; ymin = c.ymin; ymax = c.ymax })
    (record { imin = max c.imin i; imax = c.imax; ymin = c.ymin; ymax = c.ymax })

unfoldable pub by_left_of : Walk → Float → Clip → Clip
by_left_of w edge c = cond (lt (min_of w.e.s0.x w.e.s1.x) edge) (enter_of w (col_step_of w edge) c) c

unfoldable pub by_right_of : Walk → Float → Clip → Clip
by_right_of w edge c = cond (lt edge (max_of w.e.s0.x w.e.s1.x)) (leave_of w (col_step_of w edge) c) c

-- by the box's left and right
unfoldable pub cols_of : Walk → Path → Clip → Clip
cols_of w b c =
    let left = float b.x0 in
    cond (lt (max_of w.e.s0.x w.e.s1.x) left) (left_of w c) (by_right_of w (float b.x1) (by_left_of w left c))

unfoldable pub clip_of : Walk → Path → Clip
clip_of w b =
    let c = cols_of w b (rows_of w b) in
    record { imin = c.imin; imax = max c.imin c.imax; ymin = max c.ymin b.y0; ymax = min c.ymax b.y1 }
