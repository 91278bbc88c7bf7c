-- A picture as bytes for a frame buffer. Definitions only.
--     Pixels    the bytes of a pixel, of a row, and of rows a stride apart
--     Present   what the call answers, and what the bytes lent hold after it
pub mod Pixels
pub mod Present
