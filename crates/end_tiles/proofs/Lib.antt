-- Laws of lines that boxes are made from. Assumes nothing.
--     LineLaws    what a line's checks tell, and all lines'
pub mod LineLaws
