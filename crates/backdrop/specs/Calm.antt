-- A quick test that the code makes before it looks at running sums one by one. Only proofs lean on this: no promise of a public call does.
-- Definitions only.
use Rattle.std.specs.Prelude.{Bool, true, ◌&&◌, List, ℕ, zero, suc, ℤ, pos, negsuc}
use Rattle.std.specs.Int.Signed.{le_z}
use Rattle.backdrop.specs.Backdrop.{backdrop_at}

-- at most 262,144 from 0
abbrev pub calm_one : ℤ → Bool
calm_one b = le_z (negsuc 262143) b && le_z b (pos 262144)

-- n backdrops from tile `at` on
unfoldable pub calm_from : ℕ → ℕ → List ℤ → Bool
calm_from zero at bs = true
calm_from (suc n) at bs = calm_one (backdrop_at bs at) && calm_from n (suc at) bs
