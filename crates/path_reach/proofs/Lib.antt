-- Laws of how far a path's ends reach. Assumes nothing.
--     WordLaws    what the working room holds after a line, and after all
pub mod WordLaws
