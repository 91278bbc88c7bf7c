-- Laws of ranges. Assumes nothing.
--     Turn        a loop that changes a list in place, an element a turn
--     RangeLaws   what is in a range that is cleared or copied, and what is outside it
--     Pasted      a part of a list put over a part of another
pub mod Turn
pub mod RangeLaws
pub mod Pasted
