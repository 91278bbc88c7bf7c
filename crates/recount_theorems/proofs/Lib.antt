-- Theorems of a recount. Assumes nothing.
--     OwnLines    what a new line that is taken does
--     Elsewhere   no tile of another path changes; a refused recount changes no tile
--     Fresh       a recount that is done leaves the tiles of a fresh count
--     References  its references are those of the fresh count's lines
--     OneAnswer   one answer only
--     Exact       refusals are exact
--     ExactCall   the promise is met where one of the call's ways holds, and nowhere else
pub mod OwnLines
pub mod Elsewhere
pub mod Fresh
pub mod References
pub mod OneAnswer
pub mod Exact
pub mod ExactCall
