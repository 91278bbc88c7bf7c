-- No area has a minus sign: what a fill ends as is a size, and the others are 0 and 1. Assumes nothing.
use mathlib.Core.Path.{◌≡◌, refl, sym, ap, subst, ◌∙◌}
use mathlib.Core.Bool.{Bool, true, false}
use mathlib.Core.List.{List, [], ◌∷◌}
use mathlib.Core.Logic.{⊎_elim}
use Prim.Native.Nat.{ℕ, zero, suc}
use lib.Ieee.{Float, nan, inf, fin, of_bits}
use Rattle.float32.specs.Meaning.{sign_of, abs_of}
use Rattle.float32.proofs.MinMax.{min_picks}
use Rattle.util.specs.Constants as Number
use Rattle.lists.specs.Grid.{map_from}
use Rattle.coverage.specs.Coverage.{finish_of, pixel_of}
use Rattle.colours.specs.Layer.{NoMinus}
use Rattle.commands.specs.Moves.{Trace, does}
use Rattle.commands.specs.Pixel.{cover, cover_all}
use Rattle.commands.specs.declared.steps.Act.{Act}
use Rattle.commands.specs.declared.steps.Act.TheVariants.{Fill, Solid, Color, Jump}
use Rattle.on_pixels.specs.One.{cover_one}

pub zero_plus : sign_of Number.zero ≡ false
unfolding sign_of of_bits
zero_plus = refl

one_plus : sign_of Number.one ≡ false
unfolding sign_of of_bits
one_plus = refl

abs_plus : (x : Float) → sign_of (abs_of x) ≡ false
unfolding sign_of abs_of
abs_plus nan = refl
abs_plus (inf s) = refl
abs_plus (fin s m e) = refl

finish_plus : (eo : Bool) (a : Float) → sign_of (finish_of eo a) ≡ false
unfolding finish_of
finish_plus true a = abs_plus _
finish_plus false a =
    ⊎_elim (λ e. ap sign_of e ∙ abs_plus a) (λ e. ap sign_of e ∙ one_plus) (min_picks (abs_of a) Number.one)

-- ---- after a command: of one pixel, and of all
cover_plus : (act : Act) (segs : List Float) (k : ℕ) (a : Float) → sign_of a ≡ false → sign_of (cover act segs k a) ≡ false
unfolding cover pixel_of
cover_plus (Fill rule first backdrop) segs k a h = finish_plus _ _
cover_plus Solid segs k a h = one_plus
cover_plus (Color word) segs k a h = h
cover_plus Jump segs k a h = h

one_plain : (act : Act) (a : Float) → sign_of a ≡ false → sign_of (cover_one act a) ≡ false
one_plain (Fill rule first backdrop) a h = h
one_plain Solid a h = one_plus
one_plain (Color word) a h = h
one_plain Jump a h = h

-- of the command that comes first in a trace
pub one_covered : (act : Act) (t rest : Trace) (a b : Float) → t ≡ does act rest → b ≡ cover_one act a → sign_of a ≡ false → sign_of b ≡ false
one_covered act t rest a b first e h = ap sign_of e ∙ one_plain act a h

mapped : (j : ℕ) (f : ℕ → Float → Float) (l : List Float) → ((k : ℕ) (x : Float) → sign_of x ≡ false → sign_of (f k x) ≡ false) → NoMinus l → NoMinus (map_from j f l)
unfolding map_from
mapped j f [] h p k = p k
mapped j f (x ∷ l) h p zero = h j x (p zero)
mapped j f (x ∷ l) h p (suc k) = mapped (suc j) f l h (λ n. p (suc n)) k

pub all_covered : (act : Act) (segs area area' : List Float) → area' ≡ cover_all act segs area → NoMinus area → NoMinus area'
unfolding cover_all
all_covered act segs area area' e p = subst NoMinus (sym e) (mapped 0 (cover act segs) area (cover_plus act segs) p)
