-- The screen: its checks, and a range of its tiles. Definitions only.
pub mod Fine
