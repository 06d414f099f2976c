pub mod Changes
pub mod Kept
pub mod Overlay
pub mod Pending
pub mod Stopping
