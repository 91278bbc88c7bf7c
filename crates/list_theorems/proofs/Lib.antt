-- Proofs of the theorems; docs/THEOREMS.md says which is which.
--     Writes      words that stand at a place stay where others are written apart from them
--     Regions     a list laid out in regions: its chunks stand once written, and its commands are its pairs'
--     Apart       the chunks of all lists lie in the regions that are theirs
--     Passed      what a call that is done has been checked for
--     Pixels      what a list's commands make of a pixel is what the paths make of it
--     Screens     tiles put on the screen one after another, pixel by pixel
--     Written     the theorems
--     Exact       refusals are exact
--     Handed      tables as hand-out leaves them
--     Tiled       and the theorems of these: only the slots handed out count
--     Crooked     lists over any segments: refused with 20 exactly where a FILL has a crooked one
--     Instance    the premises can be met
--     Refuted     statements near the theorems' that are false, refuted by instances
--     AtLimit     a list of as many commands as may be
pub mod Writes
pub mod Regions
pub mod Apart
pub mod Passed
pub mod Pixels
pub mod Screens
pub mod Written
pub mod Exact
pub mod Handed
pub mod Tiled
pub mod Crooked
pub mod Instance
pub mod Refuted
pub mod AtLimit
