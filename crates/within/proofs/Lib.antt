-- Laws of a line inside its path's box as it is lent. Assumes nothing.
--     Withins   what is said of it is said of those lent
pub mod Withins
