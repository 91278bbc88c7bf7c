-- What holds of boxes made from lines. Assumes nothing.
--     Ways      the call's ways, one answer only
--     Around    the box around points: it fits, and holds them
--     Records   what a record that was made reads back as
--     Paths     the paths made pass the paths' checks
--     Ends      every end lies in its path's box; with a margin, lines well inside are fit
--     Counts    so a count over them is refused for want of room alone
pub mod Ways
pub mod Around
pub mod Records
pub mod Paths
pub mod Ends
pub mod Counts
