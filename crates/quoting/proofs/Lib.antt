pub mod Judging
pub mod Delivering
pub mod Lawfully
pub mod Piecing
