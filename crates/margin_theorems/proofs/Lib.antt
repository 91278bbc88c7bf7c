-- Whole calls over lines in boxes with a margin. Assumes nothing.
--     Few         after b lines a tile's count is b at most, and there are no more references than steps
--     Counts      all lines are counted, or the room for references ends
--     Rooms       room that is enough, by what a caller can sum up
--     Frames      a frame of such lines: drawn, 9 for want of room, or 12
--     Tests       a test of the premise
--     Instances   the panel of the examples meets it
pub mod Few
pub mod Counts
pub mod Rooms
pub mod Frames
pub mod Tests
pub mod Instances
