-- Laws of rounded sums, products and quotients, of floats alone.
--     Shapes     what a rounded fraction can be
--     Rises      a sum does not fall where a term rises, and what is at most is carried on
--     Numbers    which sums and differences are numbers, and which floats finite
--     Cuts       the smaller and the larger of two, and what is cut to 0..1
--     Zeros      what zeros come to, and what isn't one
--     Larger     of a float and 0 less it the larger is its size
--     Epsilon    a float from -15 to 0 less epsilon lies below it
--     Beside     a column beside a part gets nothing of it, or all
--     Even       what is left of a finite area by the even-odd rule lies in 0..1
--     Nearest    what is cut to 0..1 and multiplied by 255 rounds and casts to below 256
--     BitOrder   the patterns of floats from +0 up are in the floats' order
--     TwoSums    a whole number nearest to a float up to 255, by the bits of two sums
--     ByShift    the same for what is cut to 0..1 and multiplied by 255
pub mod Shapes
pub mod Rises
pub mod Numbers
pub mod Cuts
pub mod Zeros
pub mod Larger
pub mod Epsilon
pub mod Beside
pub mod Even
pub mod Nearest
pub mod BitOrder
pub mod TwoSums
pub mod ByShift
