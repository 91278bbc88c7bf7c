-- The reader's laws.
pub mod Held
pub mod NumberLaws
pub mod Parts
pub mod Headers
pub mod Answers
pub mod RoundTrip
pub mod ByteKinds
pub mod Language
