pub mod Symbols
pub mod Front
pub mod Opened
pub mod Replacing
pub mod Fronts
