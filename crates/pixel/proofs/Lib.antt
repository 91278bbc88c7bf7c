-- Laws of one pixel.
--     Places    its column and row, found again from its number
--     Shares    segments' shares, found apart and summed in order
--     Left      what is left of a tile's commands, at one pixel
--     Like      it is what fill and fine leave there
--     Once      one answer only
--     ToldLaws  what code answers, in the words of the definitions
pub mod Places
pub mod Shares
pub mod Left
pub mod Like
pub mod Once
pub mod ToldLaws
