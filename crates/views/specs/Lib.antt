pub mod Lines
pub mod Carets
pub mod Holes
