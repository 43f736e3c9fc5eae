pub mod Escapes
pub mod Numbers
pub mod Names
pub mod Styles
pub mod Calls
