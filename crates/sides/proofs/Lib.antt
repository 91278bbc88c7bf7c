-- That a tile's rows and columns are floats exactly. Assumes nothing.
pub mod Small
