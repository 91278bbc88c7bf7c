-- Proofs of the theorems on summed areas.
--     Signed      floats of either sign as whole numbers of parts: sums and products are rounded once, and rounding keeps the order
--     Tame        what is a NaN or bounded, through sums, products and quotients
--     Shares      a segment's share of a pixel: a NaN or bounded
--     Rows        what a segment adds to a pixel in a row: a NaN or bounded
--     Clear       where the share is no NaN, by the segment's ends in the row
--     Turns       how far along a segment its row begins
--     High        a segment that is high enough adds no NaN
--     Sums        the summed area
--     EvenOdd     even-odd coverage
pub mod Signed
pub mod Tame
pub mod Shares
pub mod Rows
pub mod Clear
pub mod Turns
pub mod High
pub mod Sums
pub mod EvenOdd
