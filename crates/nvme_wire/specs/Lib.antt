pub mod Status
pub mod Completion
pub mod Entry
pub mod Descriptor
