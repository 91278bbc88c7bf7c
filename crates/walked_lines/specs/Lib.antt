-- What a line comes to in counting. Definitions only.
--     Line   a line's effect; what the checks of a call leave, at its end, is for proofs
pub mod Line
pub mod Tallied
