-- A check of another's tables. Definitions only.
--     Faults   which references and backdrops are at fault
--     Tables   the first entry at fault, and the call
--     Keys     keys of references, and the working room; only proofs lean on it
pub mod Faults
pub mod Tables
pub mod Keys
pub mod Key
pub mod Checked
