pub mod Least
pub mod Ordered
