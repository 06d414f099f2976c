pub mod FaultText
pub mod Image
pub mod Meaning
pub mod Reading
pub mod Steps
