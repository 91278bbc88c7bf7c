-- What a caller in C or Rust sees of a call. Definitions only.
pub mod Seen
pub mod Calls
pub mod CallBoxes
pub mod CallCheck
pub mod CallFrame
pub mod CallDraw
pub mod CallLists
pub mod CallOutlines
pub mod CallPpm
pub mod CallPixel
pub mod CallRecount
pub mod CallSizes
pub mod CallSvg
pub mod Version
