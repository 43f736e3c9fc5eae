pub mod Book
pub mod Holding
pub mod Making
pub mod Desk
pub mod Requests
pub mod Laws
