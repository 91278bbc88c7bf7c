-- The words of the theorems on boxes made from lines. Definitions only.
pub mod Made
