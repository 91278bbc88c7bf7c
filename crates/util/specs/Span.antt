-- `span` of util.rs: (max(a, b).ceil() - min(a, b).floor()).max(1.0) as u32. Definition only.
use Rattle.std.specs.Prelude.{ℕ, Float}
use Rattle.std.specs.Float.{binary32}
use Rattle.std.specs.Float.Ieee.{sub, to_unsigned}
use Rattle.float32.specs.Meaning.{floor_of, ceil_of, min_of, max_of}
use Rattle.util.specs.Constants.{one}

unfoldable pub span_of : Float → Float → ℕ
span_of a b = to_unsigned 32 (max_of (sub binary32 (ceil_of (max_of a b)) (floor_of (min_of a b))) one)
