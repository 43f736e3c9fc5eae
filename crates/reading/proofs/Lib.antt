pub mod Runs
pub mod Quoting
pub mod Apart
pub mod Filling
pub mod Laying
pub mod Plains
