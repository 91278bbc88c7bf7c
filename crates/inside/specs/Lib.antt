-- A line inside its path's box. Definitions only.
--     Inside   what the function says
--     Stages   what it looks at, by its parts
pub mod Inside
pub mod Stages
pub mod Found
