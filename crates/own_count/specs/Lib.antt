-- Our own count of all lines. Definitions only.
--     Own    the count, from zeroed tiles
--     View   how it stands in the working room; only proofs lean on it
pub mod Own
pub mod View
pub mod Counted
