pub mod Sheets
pub mod Held
pub mod Holding
pub mod Pens
pub mod Onto
pub mod Turns
pub mod Runs
