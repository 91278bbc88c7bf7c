-- What is held to a tile between its near edge with 0.001 added and its far one: the two are in order wherever the tile is, as a sum doesn't fall where a
-- term rises. Assumes nothing.
--     edges_ordered    of any float
--     held_is          so what is brought within them needs no look at their order
use mathlib.Core.Path.{◌≡◌, refl, sym, subst}
use mathlib.Core.Bool.{Bool, true, false, cond, not, false≢true}
use lib.Dec.{T}
use lib.Ieee.{Float, nan, inf, fin, binary32, add, lt, le, eq, is_nan, of_bits}
use Rattle.float32.specs.Meaning.{clamp_of}
use Rattle.float32.proofs.Order.{not_lt_of_le, le_of_not_lt}
use Rattle.util.specs.Constants.{nudge, tile_side}
use Rattle.rounded.proofs.Numbers.{add-number}
use Rattle.rounded.proofs.Rises.{add_rises'}

pub edges_ordered : (t : Float) → lt (add binary32 t tile_side) (add binary32 t nudge) ≡ false
edges_ordered t = add_rises' nudge tile_side t nudge_less
  where
    nudge_less : lt tile_side nudge ≡ false
    nudge_less = unfold of_bits lt in refl

-- a tile that is somewhere has its edges in order
in_order : (t : Float) → T (not (is_nan t)) → le (add binary32 t nudge) (add binary32 t tile_side) ≡ true
unfolding of_bits
in_order t h = le_of_not_lt (add binary32 t nudge) (add binary32 t tile_side) (add-number t nudge h tt) (add-number t tile_side h tt) (edges_ordered t)

picked : (v lo hi : Float) → le lo hi ≡ true → (u : Bool) → cond (lt hi (cond u lo v)) hi (cond u lo v) ≡ cond u lo (cond (lt hi v) hi v)
picked v lo hi e true = rw (not_lt_of_le lo hi e) refl
picked v lo hi e false = refl

-- no number has no edges
nowhere : (v t : Float) → is_nan t ≡ true → let lo = add binary32 t nudge in
    let hi = add binary32 t tile_side in
    let y = cond (lt v lo) lo v in cond (lt hi y) hi y ≡ clamp_of v lo hi
unfolding clamp_of add lt le eq is_nan
nowhere nan nan e = refl
nowhere (inf s) nan e = refl
nowhere (fin s m d) nan e = refl
nowhere v (inf s) e = absurd (false≢true e)
nowhere v (fin s m d) e = absurd (false≢true e)

-- what is at least the near edge and then at most the far one is what lies between them; where the tile is nowhere, v stays
pub held_is : (v t : Float) → let lo = add binary32 t nudge in
    let hi = add binary32 t tile_side in
    let y = cond (lt v lo) lo v in cond (lt hi y) hi y ≡ clamp_of v lo hi
unfolding clamp_of
held_is v t = go (is_nan t) refl
  where
    go : (b : Bool) → is_nan t ≡ b → let lo = add binary32 t nudge in
        let hi = add binary32 t tile_side in
        let y = cond (lt v lo) lo v in cond (lt hi y) hi y ≡ clamp_of v lo hi
    go false e =
        let o = in_order t (subst (λ (b : Bool). T (not b)) (sym e) tt) in
        rw o (picked v (add binary32 t nudge) (add binary32 t tile_side) o (lt v (add binary32 t nudge)))
    go true e = nowhere v t e
