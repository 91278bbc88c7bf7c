-- Why step numbers stay exact in a float, for the limits in force. docs/THEOREMS.md, 13. Definitions only.
use Rattle.std.specs.Prelude.{◌≡◌, true, false, ℕ, ◌+◌, ◌^◌, ◌≤◌, ◌<◌, T, ℤ, pos, negsuc, ◌+ℤ◌, ◌-ℤ◌, nat_abs, Float}
use Rattle.std.specs.Int.Signed.{le_z}
use Rattle.std.specs.Float.{binary32}
use Rattle.std.specs.Float.Ieee.{add, sub, mul}
use Rattle.std.specs.Float.Ieee.Scale.{finite}
use Rattle.panel.specs.Widths.{step_range}
use Rattle.panel.specs.declared.kinds.Path.{Path}
use Rattle.panel.specs.declared.kinds.TileNo.{TileNo}
use Rattle.exact.specs.Whole.{IsWhole, turn}
use Rattle.exact.specs.Reach.{Starts}
use Rattle.walk.specs.Num.{float}
use Rattle.walk.specs.Step.{Boxed, z_at, step_of}
use Rattle.walk.specs.declared.kinds.Pace.{Pace}
use Rattle.walk.specs.declared.kinds.Walk.{Walk}
use Rattle.walk.specs.Stepped.{Tile, Refused}

-- what the walk's numbers are below: far under 2 ^ 24, up to which an `f32` holds every whole number
abbrev pub few : ℕ
few = 2 ^ 15

-- z of step i is the whole number n; the column and the row that are made of it are what whole numbers make, wherever that is at most 2 ^ 24
pub record ExactAt (p : Pace) (l : Starts p.sign p.x0 p.y0) (i : ℕ) (z : Float) : Type 0 where
  pub n : ℤ
  pub z_is : IsWhole z n
  pub col_is : nat_abs (l.x0n +ℤ turn l.turned n) ≤ 2 ^ 24 → IsWhole (add binary32 p.x0 (mul binary32 p.sign z)) (l.x0n +ℤ turn l.turned n)
  pub row_is : nat_abs (l.y0n +ℤ pos i -ℤ n) ≤ 2 ^ 24 → IsWhole (sub binary32 (add binary32 p.y0 (float i)) z) (l.y0n +ℤ pos i -ℤ n)

-- a step that lies in its path's box: z, its column and its row are whole, small, and nothing was rounded on the way
pub record ExactTile (p : Pace) (l : Starts p.sign p.x0 p.y0) (i x y : ℕ) (z : Float) : Type 0 where
  pub n : ℤ
  pub z_is : IsWhole z n
  pub z_few : nat_abs n < few
  pub col_few : x < few
  pub row_few : y < few
  pub col : IsWhole (add binary32 p.x0 (mul binary32 p.sign z)) (pos x)
  pub row : IsWhole (sub binary32 (add binary32 p.y0 (float i)) z) (pos y)
  pub col_by : pos x ≡ l.x0n +ℤ turn l.turned n
  pub row_by : pos y ≡ l.y0n +ℤ pos i -ℤ n

-- a step in the box or out of it, whose z is finite: z is whole, from -1 to two more than the step's number; its column and its row are whole, small, and nothing was rounded on the way
pub record FewAt (p : Pace) (l : Starts p.sign p.x0 p.y0) (i : ℕ) (z : Float) : Type 0 where
  pub n : ℤ
  pub z_is : IsWhole z n
  pub z_least : le_z (negsuc 0) n ≡ true
  pub z_most : le_z n (pos (i + 2)) ≡ true
  pub z_few : nat_abs n < few
  pub col_few : nat_abs (l.x0n +ℤ turn l.turned n) < few
  pub row_few : nat_abs (l.y0n +ℤ pos i -ℤ n) < few
  pub col : IsWhole (add binary32 p.x0 (mul binary32 p.sign z)) (l.x0n +ℤ turn l.turned n)
  pub row : IsWhole (sub binary32 (add binary32 p.y0 (float i)) z) (l.y0n +ℤ pos i -ℤ n)

-- a checked line
pub record ExactLine (w : Walk) : Type 0 where
  pub starts : Starts w.pace.sign w.pace.x0 w.pace.y0
  pub some : 1 ≤ w.k.count
  pub count_few : w.k.count < few
  pub count_is : IsWhole (float w.k.count) (pos w.k.count)
  pub x0_few : nat_abs starts.x0n < few
  pub y0_few : nat_abs starts.y0n < few
  pub number : (i : ℕ) → i < step_range → IsWhole (float i) (pos i)
  pub row_sum : (i : ℕ) → i < step_range → IsWhole (add binary32 w.pace.y0 (float i)) (starts.y0n +ℤ pos i)
  pub step : (i : ℕ) → i < step_range → T (finite (z_at w.pace.a w.pace.b (float i))) → ExactAt w.pace starts i (z_at w.pace.a w.pace.b (float i))
  pub tile : (b : Path) → Boxed b → (i : ℕ) → i < step_range → (t : TileNo) (x y : ℕ) (z : Float) → step_of w.pace b i ≡ Tile t x y z → ExactTile w.pace starts i x y z
  pub every : (i : ℕ) → i < w.k.count → T (finite (z_at w.pace.a w.pace.b (float i))) → FewAt w.pace starts i (z_at w.pace.a w.pace.b (float i))
  pub lost : (b : Path) (i : ℕ) → finite (z_at w.pace.a w.pace.b (float i)) ≡ false → step_of w.pace b i ≡ Refused
