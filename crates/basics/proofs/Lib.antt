pub mod Answered
pub mod Over
pub mod Stacking
