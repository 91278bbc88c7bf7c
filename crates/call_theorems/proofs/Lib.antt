-- Proofs of the theorems on whole calls; docs/THEOREMS.md says which is which.
--     OneAnswer    one answer only: of the picture's two calls, and of the exported ones
--     Cheats       no cheat meets a promise: one law, and an instance for each call
--     Drawn        from counting to the screen: no tile is refused, and the pixels are those of painting
--     FillTags     every slot of a written FILL carries the beam number of the path that it was written for
--     ExactCount, ExactStages, ExactTile, ExactLists, ExactFrame, ExactPpm, ExactPixel, ExactBands   exact at the call: a promise is met where one of the call's ways holds, and nowhere else
--     CheckAnswers   the same of a check of another's tables
--     BoxAnswers   of boxes made from lines: one answer only, and no cheat
--     PresentAnswers   of the shown part of a screen: one answer, and no cheat
--     SizesAnswers   of what lines and paths need: one answer, and no cheat
--     DrawAnswers    one answer of a drawing, and no cheat
--     Told           the words of an answer fix what code answers, so that one answer in words is one of code
pub mod OneAnswer
pub mod Cheats
pub mod ExactCount
pub mod ExactStages
pub mod ExactTile
pub mod ExactLists
pub mod ExactFrame
pub mod ExactPpm
pub mod ExactPixel
pub mod ExactBands
pub mod DrawAnswers
pub mod Drawn
pub mod FillTags
pub mod CheckAnswers
pub mod BoxAnswers
pub mod SizesAnswers
pub mod PresentAnswers
pub mod Told
