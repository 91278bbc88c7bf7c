-- That a line in a box with a margin is never refused with 10.
--     Chain     the walk's a and b beside the exact ones: whole numbers only
--     Between   the exact line lies between its last column and the next
--     Ends      a line's ends from 16 on, exactly
--     Shares    the walk's a and b in parts, near the exact ones
--     Rises     the correction of a, and z of a step, in parts
--     Lines     of a line's ends: z of each step
--     Stays     so every step's z stays within one column and one row: whole numbers only
--     Margin    the theorem
--     Clips     such a line isn't clipped
--     Steps     how many steps it has at most
--     Instances the premise met, and the margin below, or on the left, left out
pub mod Chain
pub mod Between
pub mod Stays
pub mod Ends
pub mod Shares
pub mod Rises
pub mod Lines
pub mod Margin
pub mod Clips
pub mod Steps
pub mod Instances
