-- What a column gets of a part. Definitions only.
pub mod Share
