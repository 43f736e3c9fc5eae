pub mod Newlines
pub mod Digits
