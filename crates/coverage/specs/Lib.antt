-- Coverage, a pixel at a time. Definitions only.
--     Coverage   by parts; what one segment does is said by the crate one_row
--     Page       the same on one page, beside fine.rs
pub mod Coverage
pub mod Page
pub mod Ground
pub mod Fill
