pub mod Spelling
pub mod Aliases
pub mod Rows
pub mod Tables
