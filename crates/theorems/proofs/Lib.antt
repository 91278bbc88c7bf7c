-- Proofs of the theorems; docs/THEOREMS.md says which is which.
--     Acts, Own, Counting   what a line and a batch that go through did, all of it on their own path's tiles
--     Slots                 the slot of each reference: one to each, and every slot below their number is one's
--     SumLaws               sums
--     StrayLaws             no stray piece
--     Taken                 what tiling leaves, a fill takes
--     Isolation             beam isolation; the order of lines
--     BatchLaws             lines and references cut into batches anywhere
--     FineBatches           screen tiles cut into batches anywhere
--     Calm                  the sums after a count from zeroed tiles are never refused
--     StarredTable          the starred cases, computed
--     OneAnswer             one answer only; the cheats
--     Grounds               the grounds of 6, 10 and 12 in the rules' words
--     Exact, ExactRuns, ExactLooks, ExactPaths, ExactStops, ExactCommands   refusals are exact
--     Together              these put together
--     Framing               the call for a frame: its ways, what it leaves, isolation between frames, one answer
--     Tags                  every slot carries its own path's beam number
--     FrameNumbers          which numbers each part of a frame refuses with
--     FrameTraces           frames of one line, computed
--     Refuted               statements near the theorems' that are false, refuted by instances
--     StepLaws              step numbers stay exact in a float
--     Margins               a line in a box with a margin isn't refused with 10
pub mod Acts
pub mod Own
pub mod Counting
pub mod Slots
pub mod SumLaws
pub mod StrayLaws
pub mod Taken
pub mod Isolation
pub mod BatchLaws
pub mod FineBatches
pub mod Calm
pub mod StarredTable
pub mod OneAnswer
pub mod Grounds
pub mod Exact
pub mod ExactRuns
pub mod ExactLooks
pub mod ExactPaths
pub mod ExactStops
pub mod ExactCommands
pub mod Together
pub mod Framing
pub mod Tags
pub mod FrameNumbers
pub mod FrameTraces
pub mod Refuted
pub mod StepLaws
pub mod Margins
