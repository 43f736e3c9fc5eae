pub mod Letters
pub mod Paging
mod Turning
mod Passing
mod Keeping
