-- Proofs of the theorem on the picture; docs/THEOREMS.md says which is which.
--     AtSlots     a pixel's coverage by what stands at slots, as a fold over pieces
--     Gather      what stands at a tile's slots is the pieces of the references in it
--     OwnPieces   the references of lines in a path's tile have that path's own lines' pieces
--     AtTile      after counting, hand-out and tiling, what stands at a tile's slots
--     Windings    a tile's summed backdrop is its path's winding there
--     Drawing     so the colours that the tables paint are the picture's
--     Pictures    the theorem, of the calls and of a frame; isolation to the pixel; order
--     After       batches and ranges; which call can refuse after a done frame; where pieces come from
--     Instances   the premises can be met; two statements near the theorems' that are false
pub mod AtSlots
pub mod Gather
pub mod OwnPieces
pub mod AtTile
pub mod Windings
pub mod Drawing
pub mod Pictures
pub mod After
pub mod Instances
