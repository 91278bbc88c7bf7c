-- Proofs of the theorem on a drawing; docs/THEOREMS.md says which is which.
--     Said      what a frame answers stands on its paper
--     Pictures  a done drawing shows the picture of its lines, and no drawing is refused by fine
pub mod Said
pub mod Pictures
