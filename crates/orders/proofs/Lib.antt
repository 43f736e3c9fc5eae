pub mod Booking
pub mod Running
pub mod Soundness
