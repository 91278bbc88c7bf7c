-- Whether our lines make a reference. Definitions only.
pub mod Made
pub mod MadeAt
