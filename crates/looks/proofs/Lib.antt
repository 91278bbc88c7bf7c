-- Laws of what one reference comes to. Assumes nothing.
--     LookLaws    its line's path, its step's tile
--     CarryLaws   by the z's that are carried
--     PutLaws     what is put
--     FoundLaws   by its line as it was found
--     OneLaws     the segments and tags after it
pub mod LookLaws
pub mod CarryLaws
pub mod PutLaws
pub mod FoundLaws
pub mod OneLaws
