pub mod Rows
pub mod Drives
