pub mod Noting
pub mod Writing
pub mod Masks
pub mod Laying
pub mod Listing
pub mod Checking
