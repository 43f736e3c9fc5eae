pub mod Bytes
pub mod Operators
pub mod Letters
pub mod Openings
pub mod Expansions
pub mod Table
pub mod Keeping
