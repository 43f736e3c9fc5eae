pub mod Apart
pub mod Found
pub mod Changes
pub mod Defined
