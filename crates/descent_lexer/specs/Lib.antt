pub mod Bytes
pub mod Roles
pub mod Operators
pub mod Kinds
pub mod Letters
pub mod Text
