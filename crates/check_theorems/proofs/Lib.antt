-- Proofs of the theorems on the check of another's tables.
--     Steps      the references of one line that is taken, beside what is made of its steps
--     Lines      the same of all lines
--     Ours       our own count, where it is done
--     Keys       as many keys as there are, no two the same, are all of them
--     Tables     the first entry at fault
--     Call       the ways in which the call ends; one answer only
--     Sound      a yes is as good as our own count
--     Alike      a count with more room for references
--     Complete   what our own calls leave is answered yes
--     Stray      no stray piece over another's tables
--     Tiled      the same of the call that tiles them
--     Examples   a check computed, yes and each kind of no
pub mod Steps
pub mod Lines
pub mod Ours
pub mod Keys
pub mod Tables
pub mod Call
pub mod Sound
pub mod Alike
pub mod Complete
pub mod Stray
pub mod Tiled
pub mod Examples
