-- The words of the theorems. Definitions only.
--     Painted    the paths painted one after another, with no list; and the screen's pixels by their tiles' colours
--     Traced     the commands of a list written, in order
--     Written    the premises, and what follows
--     Refusing   the grounds of 15 and 9, and of 20 in a list written
pub mod Painted
pub mod Traced
pub mod Written
pub mod Refusing
