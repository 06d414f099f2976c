pub mod Checks
pub mod Geometry
pub mod Transition
pub mod Zone
pub mod Writing
pub mod Sending
pub mod Stored
