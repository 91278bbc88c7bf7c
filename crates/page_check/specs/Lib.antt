-- What is checked before a drawing begins. Definitions only.
pub mod Page
