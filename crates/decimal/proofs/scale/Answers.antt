use mathlib.Core.Path.{refl}
use native.Mathlib.Omega.{arith}
use lib.Dec.{lit≤}
use Rattle.decimal.proofs.scale.Goals as goal

pub returns-then-n-lt32768000 : goal.returns-then-n-lt32768000
returns-then-n-lt32768000 c = record { digits = 9; power = refl; least = lit≤ tt; most = lit≤ tt; low = omega arith; high = omega arith }

pub returns-then-n-lt65536000 : goal.returns-then-n-lt65536000
returns-then-n-lt65536000 c = record { digits = 8; power = refl; least = lit≤ tt; most = lit≤ tt; low = omega arith; high = omega arith }

pub returns-then-n-lt131072000 : goal.returns-then-n-lt131072000
returns-then-n-lt131072000 c = record { digits = 7; power = refl; least = lit≤ tt; most = lit≤ tt; low = omega arith; high = omega arith }

pub returns-then-n-lt262144000 : goal.returns-then-n-lt262144000
returns-then-n-lt262144000 c = record { digits = 6; power = refl; least = lit≤ tt; most = lit≤ tt; low = omega arith; high = omega arith }

pub returns-then-n-lt524288000 : goal.returns-then-n-lt524288000
returns-then-n-lt524288000 c = record { digits = 5; power = refl; least = lit≤ tt; most = lit≤ tt; low = omega arith; high = omega arith }

pub returns-then-n-lt1048576000 : goal.returns-then-n-lt1048576000
returns-then-n-lt1048576000 c = record { digits = 4; power = refl; least = lit≤ tt; most = lit≤ tt; low = omega arith; high = omega arith }

pub returns-then-n-lt2097152000 : goal.returns-then-n-lt2097152000
returns-then-n-lt2097152000 c = record { digits = 3; power = refl; least = lit≤ tt; most = lit≤ tt; low = omega arith; high = omega arith }

pub returns-then-n-lt4194304000 : goal.returns-then-n-lt4194304000
returns-then-n-lt4194304000 c = record { digits = 2; power = refl; least = lit≤ tt; most = lit≤ tt; low = omega arith; high = omega arith }

pub returns-else-n-lt4194304000 : goal.returns-else-n-lt4194304000
returns-else-n-lt4194304000 c = record { digits = 1; power = refl; least = lit≤ tt; most = lit≤ tt; low = omega arith; high = omega arith }
