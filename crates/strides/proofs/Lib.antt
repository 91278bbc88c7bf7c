-- Laws of a walk's steps in whole numbers.
--     WordLaws   a step's word
--     Laws       the steps of a line that was checked
--     Lays       a step in the form that is done four at a time
pub mod WordLaws
pub mod Laws
pub mod Lays
