pub mod Linking
pub mod Keeping
pub mod Views
pub mod Sheeting
pub mod Lists
pub mod Fills
pub mod Masking
pub mod Meetings
