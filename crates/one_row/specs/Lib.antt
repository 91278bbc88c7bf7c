-- One segment in one row. Definitions only.
--     Row      what it does to one pixel
--     Column   the same by the pixel's left side, for the functions alone
pub mod Row
pub mod Column
