pub mod Pieces
pub mod Back
pub mod Shown
pub mod Numbered
