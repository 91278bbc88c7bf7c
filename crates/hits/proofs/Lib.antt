-- Laws of where a walk's steps fall. Assumes nothing.
--     StepLaws   where a step falls
--     NoteLaws   the words that note steps
pub mod StepLaws
pub mod NoteLaws
