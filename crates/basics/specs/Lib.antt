pub mod Bytes
pub mod Pages
pub mod Refusals
pub mod Searches
pub mod Checks
pub mod Stacks
