-- How far a path's ends reach. Definitions only.
--     Room    what a reader must believe: the words of working room to a path
--     Words   what they hold meanwhile; no promise of a call cites it
pub mod Room
pub mod Words
