-- Laws of whole floats.
--     Signs     integers by two natural numbers, for `omega`
--     Exact     sums, products and casts of whole floats
--     Compare   their order
--     Limits    the limits stay far under 2 ^ 24: the one place where they come in
--     Bounds    from the check of a coordinate to a line's first numbers and its spans
--     Less      a whole number as a float, less one
--     Ordered   a coordinate in tiles keeps its order
--     Spans     a span by the ends' picks, cast without loss
--     Columns   the first column by the edges of a span
--     Reaches   a coordinate that is within the limit in tiles is within the limit
pub mod Signs
pub mod Exact
pub mod Compare
pub mod Limits
pub mod Bounds
pub mod Less
pub mod Ordered
pub mod Spans
pub mod Columns
pub mod Reaches
