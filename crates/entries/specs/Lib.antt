-- The tables of another's count: which entry of the counts and of the slots is at fault.
pub mod Entries
pub mod Noted
