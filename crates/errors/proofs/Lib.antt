-- Laws of rounding.
--     Relative   the error of `round`: a part in 2 ^ 24 at most
--     Sizes      bounds on the size of what is computed
--     Signs      what isn't negative
--     Parts      numbers from 0 up as whole numbers of parts: sums, products and quotients are rounded once
--     Near       numbers that are near each other, by parts in 2 ^ 24
--     Rounds     the error bound for sums, products and quotients
--     Floors     a floor isn't above its number, a ceiling not below
--     Slopes     the walk's a and b
--     ZBounds    the walk's z: from -1 to two more than the step's number
pub mod Relative
pub mod Sizes
pub mod Signs
pub mod Parts
pub mod Floors
pub mod Slopes
pub mod ZBounds
pub mod Near
pub mod Rounds
