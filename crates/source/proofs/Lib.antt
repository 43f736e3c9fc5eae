pub mod Templates
pub mod Opened
pub mod Open
