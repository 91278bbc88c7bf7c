-- Laws of what commands do to pixels. Assumes nothing.
--     ActLaws   areas and colours after one command
--     OneLaws   pixels that are alike
--     Signs     no area has a minus sign
pub mod ActLaws
pub mod OneLaws
pub mod Signs
