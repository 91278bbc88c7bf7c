-- Laws of boxes. Assumes nothing.
--     WordLaws    what the working room holds after all lines; the box that it tells of
--     CallLaws    the call, by what its checks find
pub mod WordLaws
pub mod CallLaws
