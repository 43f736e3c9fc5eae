pub mod Stages
pub mod Roles
pub mod Kinds
pub mod Bodies
pub mod Redirections
pub mod Lines
pub mod Queues
